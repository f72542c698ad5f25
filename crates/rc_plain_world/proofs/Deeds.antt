-- Deeds of parties, from what happened at the party that acts.
use Rattle.std.proofs.Common.{◌≡◌, ℕ, zero, suc, ◌<◌, ◌≤◌, Bool, true, false, List, [], ◌∷◌, ◌++◌, length, Option, None, Some, refl, sym, ◌∙◌, ap, subst, arith}
use Rattle.std.proofs.lemmas.Bool.Decides.{nat_tests}
use Rattle.std.proofs.lemmas.List.{append-nil, map-set}
use Rattle.std.proofs.lemmas.Option.{slice_get-map}
use Rattle.std.specs.Prelude.{slice_get, slice_set, Result, Ok, Err, IfOk, if◌then◌else◌}
use Rattle.std.specs.Option.{option_map}
use Rattle.rc_ids.specs.Tables.{Table, maybe}
use Rattle.rc_ids.specs.Cluster.{Layout, is_dc}
use Rattle.rc_report.specs.declared.fault.Which.TheVariants.{Ballots}
use Rattle.rc_ids.specs.declared.names.NodeId.{NodeId}
use Rattle.rc_ids.specs.declared.names.NodeId.TheVariants.{Coord}
use Rattle.rc_body.specs.declared.entry.Entry.{Entry}
use Rattle.rc_record.specs.declared.record.Record.{Record}
use Rattle.rc_report.specs.declared.line.Line.{Line}
use Rattle.rc_protocol.specs.Messages.{Posts}
use Rattle.rc_protocol.specs.Client.{Client}
use Rattle.rc_protocol.specs.Coordinator.{CoordAct, CoordVolatile, coord_stays}
use Rattle.rc_protocol.specs.Acts.{NodeCause, coord_act}
use Rattle.rc_protocol.specs.Nodes.{CoordNode, coord_index, logged}
use Rattle.rc_runs.specs.Votes.{ordered}
use Rattle.rc_runs.specs.World.{Parties, Deed, Idle, ByCoord, Course, Goes, Stops, along, parties_after, sends_of, lines_of, with_coord, coord_at, by_coord, coord_does}
use Rattle.rc_runs.specs.Refusals.{worn_out}
use Rattle.rc_runs.specs.Devices.{Device, record_length, appended}
use Rattle.rc_runs.specs.Session.{DiskChange, no_change, no_device, device_in, append_change}
use Rattle.rc_plain_world.specs.Hosts.{CoordSite, ShardSite, coord_nodes, coord_devices, coord_left, course_for, device_for, record_left, sends_left, lines_left}
use Rattle.rc_plain_world.specs.Acted.{Housed, housed, disk_at, with_disk, deed_work, disks_after, Acted, Refuses, CoordDone, CoordDid, CoordIdle, Lacking}
use Rattle.rc_plain_world.specs.declared.fault.ActFault.{ActFault}
use Rattle.rc_plain_world.specs.declared.fault.ActFault.TheVariants.{NoMemory, VersionSpent, BallotsSpent}
use Rattle.rc_plain_world.proofs.SiteEdits.{coord_is}

-- LISTS
pub within_some : {X : Type 0} (xs : List X) (i : ℕ) → i < length xs → slice_get xs i ≡ None → ⊥
within_some [] i h none = absurd (omega arith)
within_some (x ∷ xs) zero h none = cc
within_some (x ∷ xs) (suc i) h none = let h' : i < length xs = omega arith in within_some xs i h' none

pub set_same : {X : Type 0} (xs : List X) (i : ℕ) (x : X) → slice_get xs i ≡ Some x → slice_set xs i x ≡ xs
set_same [] i x at = refl
set_same (y ∷ xs) zero x at = let e : x ≡ y = (cc) in ap (λ (z : _). z ∷ xs) e
set_same (y ∷ xs) (suc i) x at = ap (λ (ys : List _). y ∷ ys) (set_same xs i x at)

pub set_past : {X : Type 0} (xs : List X) (i : ℕ) (x : X) → length xs ≤ i → slice_set xs i x ≡ xs
set_past [] i x past = refl
set_past (y ∷ xs) zero x past = absurd (omega arith)
set_past (y ∷ xs) (suc i) x past = let past' : length xs ≤ i = omega arith in ap (λ (ys : List _). y ∷ ys) (set_past xs i x past')

-- DISKS
abbrev pub append_at : NodeId → Option Record → Option (NodeId × ℕ)
append_at node logs = maybe logs None (λ r. Some (node, record_length r))

abbrev pub work_at : Housed → NodeId → Option Record → DiskChange
work_at h node logs = maybe (append_at node logs) no_change (λ a. append_change a.0 (appended (disk_at h a.0) a.1))

pub work_course : (h : Housed) (node : NodeId) (logs : Option Record) (x : Device) → disk_at h node ≡ x → (work_at h node logs).course ≡ course_for logs x
work_course h node None x at = refl
work_course h node (Some r) x at = rw at refl

pub work_disks : (h : Housed) (node : NodeId) (logs : Option Record) (x y : Device) → disk_at h node ≡ x → with_disk h node x ≡ (h.coords, h.shards) → device_for logs x ≡ Some y
    → disks_after h (work_at h node logs) ≡ Some (with_disk h node y)
work_disks h node None x y at same left = let e : x ≡ y = (cc) in ap Some (sym same ∙ ap (with_disk h node) e)
work_disks h node (Some r) x y at same left = rw at (rw left refl)

-- IDLE PARTIES
pub idle : (deed : Deed) → deed ≡ Idle → (h : Housed) (out : Posts) (lines printed : List Line) → out ≡ [] → printed ≡ lines → Acted deed (deed_work h deed) h h out lines printed
idle deed is h out lines printed none same =
    subst (λ (d : Deed). Acted d (deed_work h d) h h out lines printed) (sym is)
    (record { parties = refl; disks = refl; sends = none; prints = same ∙ sym (append-nil lines); whole = refl })

-- COORDINATORS
abbrev act_of : Option Record → CoordVolatile → Posts → Bool → CoordAct
act_of logs after sends spent = record { logs = logs; after = after; sends = sends; spent = spent }

along_parties : (p : Parties) (d : ℕ) (x : CoordNode) (k : Course) (logs : Option Record) (after : CoordVolatile) (sends : Posts) (spent : Bool)
    → parties_after p (along k (ByCoord d x (act_of logs after sends spent))) ≡ with_coord p d (coord_left k x (act_of logs after sends spent)) (record_left k logs)
along_parties p d x Goes logs after sends spent = refl
along_parties p d x (Stops kept) None after sends spent = refl
along_parties p d x (Stops kept) (Some r) after sends spent = refl

along_sends : (d : ℕ) (x : CoordNode) (k : Course) (logs : Option Record) (after : CoordVolatile) (sends : Posts) (spent : Bool)
    → sends_of (along k (ByCoord d x (act_of logs after sends spent))) ≡ sends_left k logs sends
along_sends d x Goes logs after sends spent = refl
along_sends d x (Stops kept) None after sends spent = refl
along_sends d x (Stops kept) (Some r) after sends spent = refl

along_lines : (d : ℕ) (x : CoordNode) (k : Course) (logs : Option Record) (after : CoordVolatile) (sends : Posts) (spent : Bool)
    → lines_of (along k (ByCoord d x (act_of logs after sends spent))) ≡ lines_left (Coord d) k logs
along_lines d x Goes logs after sends spent = refl
along_lines d x (Stops kept) None after sends spent = refl
along_lines d x (Stops kept) (Some r) after sends spent = refl

along_whole : (d : ℕ) (x : CoordNode) (k : Course) (logs : Option Record) (after : CoordVolatile) (sends : Posts) (spent : Bool) → spent ≡ false
    → worn_out (along k (ByCoord d x (act_of logs after sends spent))) ≡ None
along_whole d x Goes logs after sends spent is = rw is refl
along_whole d x (Stops kept) None after sends spent is = rw is refl
along_whole d x (Stops kept) (Some r) after sends spent is = refl

abbrev with_coords : Parties → List CoordNode → List (ℕ × List Entry) → Parties
with_coords p coords committed = record { layout = p.layout; start = p.start; coords = coords; shards = p.shards; clients = p.clients; committed = committed }

-- the coordinator of a datacentre of the world, and its disk
pub coord_here : (c : Layout) (cs : List CoordSite) (ss : List ShardSite) (clients : Table ℕ Client) (committed : List (ℕ × List Entry)) (d : ℕ) (h : CoordSite)
    → is_dc c d ≡ true → slice_get cs (coord_index d) ≡ Some h → coord_at (housed c cs ss clients committed).parties d ≡ Some h.node
coord_here c cs ss clients committed d h inside at =
    ap (λ (b : Bool). let o : Option CoordNode = if b then slice_get (coord_nodes cs) (coord_index d) else None in o) inside
    ∙ slice_get-map (λ (s : CoordSite). s.node) cs (coord_index d) ∙ ap (option_map (λ (s : CoordSite). s.node)) at

pub coord_disk : (c : Layout) (cs : List CoordSite) (ss : List ShardSite) (clients : Table ℕ Client) (committed : List (ℕ × List Entry)) (d : ℕ) (h : CoordSite)
    → is_dc c d ≡ true → slice_get cs (coord_index d) ≡ Some h → disk_at (housed c cs ss clients committed) (Coord d) ≡ h.device
coord_disk c cs ss clients committed d h inside at =
    ap (λ (b : Bool). if b then device_in (coord_devices cs) (coord_index d) else no_device) inside
    ∙ ap (λ (o : Option Device). maybe o no_device (λ x. x)) (slice_get-map (λ (s : CoordSite). s.device) cs (coord_index d) ∙ ap (option_map (λ (s : CoordSite). s.device)) at)

-- the disks with this one there
pub coord_disks : (h : Housed) (d : ℕ) (x : Device) → is_dc h.parties.layout d ≡ true → with_disk h (Coord d) x ≡ (slice_set h.coords (coord_index d) x, h.shards)
coord_disks h d x inside = ap (λ (b : Bool). if b then (slice_set h.coords (coord_index d) x, h.shards) else (h.coords, h.shards)) inside

coord_same_disk : (c : Layout) (cs : List CoordSite) (ss : List ShardSite) (clients : Table ℕ Client) (committed : List (ℕ × List Entry)) (d : ℕ) (h : CoordSite)
    → slice_get cs (coord_index d) ≡ Some h → slice_set (coord_devices cs) (coord_index d) h.device ≡ coord_devices cs
coord_same_disk c cs ss clients committed d h at =
    set_same (coord_devices cs) (coord_index d) h.device (slice_get-map (λ (s : CoordSite). s.device) cs (coord_index d) ∙ ap (option_map (λ (s : CoordSite). s.device)) at)

pub coord_did : (c : Layout) (cs cs' : List CoordSite) (ss : List ShardSite) (clients : Table ℕ Client) (committed committed' : List (ℕ × List Entry)) (d : ℕ) (a : CoordAct) (h : CoordSite)
    (out : Posts) (lines printed : List Line) → is_dc c d ≡ true → slice_get cs (coord_index d) ≡ Some h → CoordDid c d a h cs cs' committed committed' out lines printed
    → Acted (ByCoord d h.node a) (deed_work (housed c cs ss clients committed) (ByCoord d h.node a)) (housed c cs ss clients committed) (housed c cs' ss clients committed') out lines printed
coord_did c cs cs' ss clients committed committed' d a h out lines printed inside at did =
    let k : Course = course_for a.logs h.device in
    let old : Housed = housed c cs ss clients committed in
    let deed : Deed = ByCoord d h.node a in
    let disk : disk_at old (Coord d) ≡ h.device = coord_disk c cs ss clients committed d h inside at in
    let went : (work_at old (Coord d) a.logs).course ≡ k = work_course old (Coord d) a.logs h.device disk in
    let nodes : coord_nodes cs' ≡ slice_set (coord_nodes cs) (coord_index d) (coord_left k h.node a) =
    ap coord_nodes did.sites ∙ map-set (λ (s : CoordSite). s.node) cs (coord_index d) did.left ∙ ap (slice_set (coord_nodes cs) (coord_index d)) did.done.node in
    let devices : coord_devices cs' ≡ slice_set (coord_devices cs) (coord_index d) did.left.device =
    ap coord_devices did.sites ∙ map-set (λ (s : CoordSite). s.device) cs (coord_index d) did.left in
    let same : with_disk old (Coord d) h.device ≡ (old.coords, old.shards) = coord_disks old d h.device inside ∙ ap (λ (xs : List Device). (xs, old.shards)) (coord_same_disk c cs ss clients committed d h at) in
    let list : committed' ≡ ordered c (slice_set (coord_nodes cs) (coord_index d) (coord_left k h.node a)) [] committed (record_left k a.logs) =
    did.committed ∙ ap (λ (xs : List CoordNode). ordered c xs [] committed (record_left k a.logs)) nodes in
    record {
      parties = ap (λ (xs : List CoordNode). with_coords old.parties xs committed') nodes ∙ ap (with_coords old.parties (slice_set (coord_nodes cs) (coord_index d) (coord_left k h.node a))) list
          ∙ sym (along_parties old.parties d h.node k a.logs a.after a.sends a.spent) ∙ ap (λ (j : Course). parties_after old.parties (along j deed)) (sym went);
      disks = work_disks old (Coord d) a.logs h.device did.left.device disk same did.done.device ∙ ap Some (coord_disks old d did.left.device inside) ∙ ap (λ (xs : List Device). Some (xs, old.shards)) (sym devices);
      sends = did.done.sends ∙ sym (along_sends d h.node k a.logs a.after a.sends a.spent) ∙ ap (λ (j : Course). sends_of (along j deed)) (sym went);
      prints = did.done.prints ∙ ap (λ (ls : List Line). lines ++ ls) (sym (along_lines d h.node k a.logs a.after a.sends a.spent) ∙ ap (λ (j : Course). lines_of (along j deed)) (sym went));
      whole = ap (λ (j : Course). worn_out (along j deed)) went ∙ along_whole d h.node k a.logs a.after a.sends a.spent did.done.whole;
    }

-- A COORDINATOR AMONG ALL
left_log : (k : Course) (x : CoordNode) (logs : Option Record) (after : CoordVolatile) (sends : Posts) (spent : Bool)
    → (coord_left k x (act_of logs after sends spent)).log ≡ logged x.log (record_left k logs)
left_log Goes x logs after sends spent = refl
left_log (Stops kept) x None after sends spent = refl
left_log (Stops kept) x (Some r) after sends spent = refl

pub get_set : {X : Type 0} (xs : List X) (i : ℕ) (x : X) → i < length xs → slice_get (slice_set xs i x) i ≡ Some x
get_set [] i x h = absurd (omega arith)
get_set (y ∷ xs) zero x h = refl
get_set (y ∷ xs) (suc i) x h = let h' : i < length xs = omega arith in get_set xs i x h'

pub coord_collects : (c : Layout) (d : ℕ) (a : CoordAct) (h left : CoordSite) (cs cs' : List CoordSite) (committed committed' : List (ℕ × List Entry)) (out : Posts) (lines printed : List Line)
    → CoordDone c d a h left out lines printed → cs' ≡ slice_set cs (coord_index d) left → coord_index d < length cs
    → ((x : CoordNode) (log : List Record) (l : Option Record) → slice_get (coord_nodes cs') (coord_index d) ≡ Some x → x.log ≡ logged log l → length log ≡ length h.node.log
    → committed' ≡ ordered c (coord_nodes cs') [] committed l)
    → CoordDid c d a h cs cs' committed committed' out lines printed
coord_collects c d a h left cs cs' committed committed' out lines printed done sites within noted =
    let k : Course = course_for a.logs h.device in
    let at : slice_get (coord_nodes cs') (coord_index d) ≡ Some left.node =
    ap (λ (xs : List CoordSite). slice_get (coord_nodes xs) (coord_index d)) sites
    ∙ slice_get-map (λ (s : CoordSite). s.node) (slice_set cs (coord_index d) left) (coord_index d)
    ∙ ap (option_map (λ (s : CoordSite). s.node)) (get_set cs (coord_index d) left within) in
    let log : left.node.log ≡ logged h.node.log (record_left k a.logs) = ap (λ (x : CoordNode). x.log) done.node ∙ left_log k h.node a.logs a.after a.sends a.spent in
    record { left = left; done = done; sites = sites; committed = noted left.node h.node.log (record_left k a.logs) at log refl }

-- a coordinator that takes no part in the event is as it was
coord_rests : (c : Layout) (d : ℕ) (h : CoordSite) (cs cs' : List CoordSite) (committed committed' : List (ℕ × List Entry)) (out : Posts) (lines printed : List Line) → slice_get cs (coord_index d) ≡ Some h
    → CoordDid c d (coord_stays h.node.volatile) h cs cs' committed committed' out lines printed → CoordIdle cs cs' committed committed' out lines printed
coord_rests c d h cs cs' committed committed' out lines printed at did =
    let device : did.left.device ≡ h.device = let e : Some h.device ≡ Some did.left.device = did.done.device in cc in
    let left : did.left ≡ h = coord_is did.left h.node h.device did.done.node device in
    record {
      sites = did.sites ∙ ap (slice_set cs (coord_index d)) left ∙ set_same cs (coord_index d) h at;
      committed = did.committed;
      sends = did.done.sends;
      prints = did.done.prints ∙ append-nil lines;
    }

coord_idles : (c : Layout) (cs cs' : List CoordSite) (ss : List ShardSite) (clients : Table ℕ Client) (committed committed' : List (ℕ × List Entry)) (out : Posts) (lines printed : List Line)
    → CoordIdle cs cs' committed committed' out lines printed → Acted Idle no_change (housed c cs ss clients committed) (housed c cs' ss clients committed') out lines printed
coord_idles c cs cs' ss clients committed committed' out lines printed i =
    subst (λ (xs : List CoordSite). Acted Idle no_change (housed c cs ss clients committed) (housed c xs ss clients committed') out lines printed) (sym i.sites)
    (subst (λ (ts : List (ℕ × List Entry)). Acted Idle no_change (housed c cs ss clients committed) (housed c cs ss clients ts) out lines printed) (sym i.committed)
    (idle Idle refl (housed c cs ss clients committed) out lines printed i.sends i.prints))

-- what the cause makes a coordinator do
abbrev part_of : Layout → ℕ → Option NodeCause → CoordNode → CoordAct
part_of c d o x = maybe o (coord_stays x.volatile) (coord_act c d x.durable x.volatile)

coord_deed : (c : Layout) (cs cs' : List CoordSite) (ss : List ShardSite) (clients : Table ℕ Client) (committed committed' : List (ℕ × List Entry)) (d : ℕ) (o : Option NodeCause)
    (out : Posts) (lines printed : List Line) → is_dc c d ≡ true → coord_index d < length cs
    → ((h : CoordSite) → slice_get cs (coord_index d) ≡ Some h → h.node.up ≡ false → CoordIdle cs cs' committed committed' out lines printed)
    → ((h : CoordSite) → slice_get cs (coord_index d) ≡ Some h → h.node.up ≡ true → CoordDid c d (part_of c d o h.node) h cs cs' committed committed' out lines printed)
    → let deed = maybe o Idle (coord_does (housed c cs ss clients committed).parties d) in
    Acted deed (deed_work (housed c cs ss clients committed) deed) (housed c cs ss clients committed) (housed c cs' ss clients committed') out lines printed
coord_deed c cs cs' ss clients committed committed' d None out lines printed inside within idles dids = by_site (slice_get cs (coord_index d)) refl
  where
    by_up : (h : CoordSite) → slice_get cs (coord_index d) ≡ Some h → (up : Bool) → h.node.up ≡ up → CoordIdle cs cs' committed committed' out lines printed
    by_up h at true is = coord_rests c d h cs cs' committed committed' out lines printed at (dids h at is)
    by_up h at false is = idles h at is

    by_site : (o : Option CoordSite) → slice_get cs (coord_index d) ≡ o
        → Acted Idle no_change (housed c cs ss clients committed) (housed c cs' ss clients committed') out lines printed
    by_site None at = absurd (within_some cs (coord_index d) within at)
    by_site (Some h) at = coord_idles c cs cs' ss clients committed committed' out lines printed (by_up h at h.node.up refl)
coord_deed c cs cs' ss clients committed committed' d (Some cause) out lines printed inside within idles dids = by_site (slice_get cs (coord_index d)) refl
  where
    Goal : Deed → Type 0
    Goal deed = Acted deed (deed_work (housed c cs ss clients committed) deed) (housed c cs ss clients committed) (housed c cs' ss clients committed') out lines printed

    deed_at : (h : CoordSite) → slice_get cs (coord_index d) ≡ Some h → coord_does (housed c cs ss clients committed).parties d cause ≡ (if h.node.up then by_coord c d h.node cause else Idle)
    deed_at h at = ap (λ (o : Option CoordNode). maybe o Idle (λ x. if x.up then by_coord c d x cause else Idle)) (coord_here c cs ss clients committed d h inside at)

    by_up : (h : CoordSite) → slice_get cs (coord_index d) ≡ Some h → (up : Bool) → h.node.up ≡ up → Goal (if up then by_coord c d h.node cause else Idle)
    by_up h at true is = coord_did c cs cs' ss clients committed committed' d (part_of c d (Some cause) h.node) h out lines printed inside at (dids h at is)
    by_up h at false is = coord_idles c cs cs' ss clients committed committed' out lines printed (idles h at is)

    by_site : (o : Option CoordSite) → slice_get cs (coord_index d) ≡ o → Goal (coord_does (housed c cs ss clients committed).parties d cause)
    by_site None at = absurd (within_some cs (coord_index d) within at)
    by_site (Some h) at = subst Goal (sym (deed_at h at)) (by_up h at h.node.up refl)

pub coord_deed_at : (c : Layout) (cs cs' : List CoordSite) (ss : List ShardSite) (clients : Table ℕ Client) (committed committed' : List (ℕ × List Entry)) (q : Housed) (d : ℕ) (o : Option NodeCause)
    (out : Posts) (lines printed : List Line) → housed c cs ss clients committed ≡ q → is_dc c d ≡ true → coord_index d < length cs
    → ((h : CoordSite) → slice_get cs (coord_index d) ≡ Some h → h.node.up ≡ false → CoordIdle cs cs' committed committed' out lines printed)
    → ((h : CoordSite) → slice_get cs (coord_index d) ≡ Some h → h.node.up ≡ true → CoordDid c d (part_of c d o h.node) h cs cs' committed committed' out lines printed)
    → let deed = maybe o Idle (coord_does q.parties d) in Acted deed (deed_work q deed) q (housed c cs' ss clients committed') out lines printed
coord_deed_at c cs cs' ss clients committed committed' q d o out lines printed is inside within idles dids =
    subst (λ (r : Housed). let deed = maybe o Idle (coord_does r.parties d) in Acted deed (deed_work r deed) r (housed c cs' ss clients committed') out lines printed) is
    (coord_deed c cs cs' ss clients committed committed' d o out lines printed inside within idles dids)

-- nobody outside the world does anything
pub coord_outside : (c : Layout) (cs : List CoordSite) (ss : List ShardSite) (clients : Table ℕ Client) (committed : List (ℕ × List Entry)) (q : Housed) (d : ℕ) (o : Option NodeCause)
    (out : Posts) (lines : List Line) → housed c cs ss clients committed ≡ q → is_dc c d ≡ false → out ≡ []
    → let deed = maybe o Idle (coord_does q.parties d) in Acted deed (deed_work q deed) q q out lines lines
coord_outside c cs ss clients committed q d o out lines is outside none =
    subst (λ (r : Housed). let deed = maybe o Idle (coord_does r.parties d) in Acted deed (deed_work r deed) r r out lines lines) is
    (idle (maybe o Idle (coord_does (housed c cs ss clients committed).parties d)) (nobody o) (housed c cs ss clients committed) out lines lines none refl)
  where
    nobody : (o : Option NodeCause) → maybe o Idle (coord_does (housed c cs ss clients committed).parties d) ≡ Idle
    nobody None = refl
    nobody (Some cause) =
        ap (λ (b : Bool). let o : Option CoordNode = if b then slice_get (coord_nodes cs) (coord_index d) else None in maybe o Idle (λ x. if x.up then by_coord c d x cause else Idle)) outside

coord_lacks : (d : ℕ) (x : CoordNode) (k : Course) (logs : Option Record) (after : CoordVolatile) (sends : Posts) (spent : Bool) → spent ≡ true → logs ≡ None
    → worn_out (along k (ByCoord d x (act_of logs after sends spent))) ≡ Some Ballots
coord_lacks d x Goes logs after sends spent is none = rw is refl
coord_lacks d x (Stops kept) None after sends spent is none = rw is refl
coord_lacks d x (Stops kept) (Some r) after sends spent is none = absurd (cc)

pub coord_refused_at : (c : Layout) (cs : List CoordSite) (ss : List ShardSite) (clients : Table ℕ Client) (committed : List (ℕ × List Entry)) (q : Housed) (d : ℕ) (o : Option NodeCause) (e : ActFault)
    → housed c cs ss clients committed ≡ q → is_dc c d ≡ true → coord_index d < length cs
    → ((h : CoordSite) → slice_get cs (coord_index d) ≡ Some h → (h.node.up ≡ true) × Lacking e (part_of c d o h.node)) → Refuses e (maybe o Idle (coord_does q.parties d))
coord_refused_at c cs ss clients committed q d o e is inside within lacking =
    subst (λ (r : Housed). Refuses e (maybe o Idle (coord_does r.parties d))) is (by_site (slice_get cs (coord_index d)) refl)
  where
    by_fault : (x : CoordNode) (o : Option NodeCause) (f : ActFault) → Lacking f (part_of c d o x) → Refuses f (maybe o Idle (by_coord c d x))
    by_fault x o NoMemory lacks = tt
    by_fault x o VersionSpent lacks = absurd lacks
    by_fault x None BallotsSpent lacks = let spent : false ≡ true = lacks.0 in absurd (cc)
    by_fault x (Some cause) BallotsSpent lacks = λ k. let a : CoordAct = part_of c d (Some cause) x in coord_lacks d x k a.logs a.after a.sends a.spent lacks.0 lacks.1

    deed_at : (h : CoordSite) → slice_get cs (coord_index d) ≡ Some h → h.node.up ≡ true → (o : Option NodeCause)
        → maybe o Idle (coord_does (housed c cs ss clients committed).parties d) ≡ maybe o Idle (by_coord c d h.node)
    deed_at h at up None = refl
    deed_at h at up (Some cause) =
        ap (λ (o : Option CoordNode). maybe o Idle (λ x. if x.up then by_coord c d x cause else Idle)) (coord_here c cs ss clients committed d h inside at)
        ∙ ap (λ (up : Bool). if up then by_coord c d h.node cause else Idle) up

    by_site : (p : Option CoordSite) → slice_get cs (coord_index d) ≡ p → Refuses e (maybe o Idle (coord_does (housed c cs ss clients committed).parties d))
    by_site None at = absurd (within_some cs (coord_index d) within at)
    by_site (Some h) at = subst (Refuses e) (sym (deed_at h at (lacking h at).0 o)) (by_fault h.node o e (lacking h at).1)

-- WHO IS OF THE WORLD
pub dc_inside : (c : Layout) (d : ℕ) → 1 ≤ d → d ≤ c.dcs → is_dc c d ≡ true
dc_inside c d low high = grind (arith, nat_tests)

pub dc_outside : (c : Layout) (d : ℕ) → c.dcs < d → is_dc c d ≡ false
dc_outside c d past = grind (arith, nat_tests)

-- RESULTS
pub if_ok2 : {T E : Type 0} (r : Result T E) (P Q R : T → Type 0) → ((x : T) → P x → Q x → R x) → IfOk r P → IfOk r Q → IfOk r R
if_ok2 (Ok x) P Q R f a b = f x a b
if_ok2 (Err e) P Q R f a b = tt

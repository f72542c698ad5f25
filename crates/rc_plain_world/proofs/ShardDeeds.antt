-- Deeds of shard servers, from what happened at the one that acts.
use Rattle.std.proofs.Common.{◌≡◌, ℕ, ◌<◌, ◌≤◌, Bool, true, false, List, [], ◌++◌, length, Option, None, Some, refl, sym, ◌∙◌, ap, subst}
use Rattle.std.proofs.lemmas.List.{append-nil, map-set}
use Rattle.std.proofs.lemmas.Option.{slice_get_past, slice_get-map}
use Rattle.std.specs.Prelude.{slice_get, slice_set, if◌then◌else◌}
use Rattle.std.specs.Option.{option_map}
use Rattle.rc_ids.specs.Tables.{Table, maybe}
use Rattle.rc_ids.specs.Cluster.{Layout}
use Rattle.rc_ids.specs.declared.names.NodeId.TheVariants.{Shard as ShardServer}
use Rattle.rc_body.specs.declared.entry.Entry.{Entry}
use Rattle.rc_record.specs.declared.record.Record.{Record}
use Rattle.rc_report.specs.declared.line.Line.{Line}
use Rattle.rc_protocol.specs.Messages.{Posts}
use Rattle.rc_protocol.specs.Client.{Client}
use Rattle.rc_protocol.specs.Shard.{ShardAct, ShardVolatile, shard_stays}
use Rattle.rc_protocol.specs.Acts.{NodeCause, shard_act}
use Rattle.rc_protocol.specs.Nodes.{ShardNode, shard_index}
use Rattle.rc_runs.specs.World.{Parties, Deed, Idle, ByShard, Course, Goes, Stops, along, parties_after, sends_of, lines_of, with_shard, is_shard_of, shard_at, by_shard, shard_does}
use Rattle.rc_runs.specs.Refusals.{worn_out}
use Rattle.rc_runs.specs.Devices.{Device}
use Rattle.rc_runs.specs.Session.{no_change, no_device, device_in}
use Rattle.rc_plain_world.specs.Hosts.{CoordSite, ShardSite, shard_nodes, shard_devices, shard_left, course_for, sends_left, lines_left}
use Rattle.rc_plain_world.specs.Acted.{Housed, housed, disk_at, with_disk, deed_work, Acted, ShardDid, ShardIdle}
use Rattle.rc_plain_world.proofs.Deeds.{within_some, set_same, work_at, work_course, work_disks, idle}
use Rattle.rc_plain_world.proofs.SiteEdits.{shard_is}

abbrev act_of : Option Record → ShardVolatile → Posts → ShardAct
act_of logs after sends = record { logs = logs; after = after; sends = sends }

along_parties : (p : Parties) (d s : ℕ) (x : ShardNode) (k : Course) (logs : Option Record) (after : ShardVolatile) (sends : Posts)
    → parties_after p (along k (ByShard d s x (act_of logs after sends))) ≡ with_shard p d s (shard_left k x (act_of logs after sends))
along_parties p d s x Goes logs after sends = refl
along_parties p d s x (Stops kept) None after sends = refl
along_parties p d s x (Stops kept) (Some r) after sends = refl

along_sends : (d s : ℕ) (x : ShardNode) (k : Course) (logs : Option Record) (after : ShardVolatile) (sends : Posts) → sends_of (along k (ByShard d s x (act_of logs after sends))) ≡ sends_left k logs sends
along_sends d s x Goes logs after sends = refl
along_sends d s x (Stops kept) None after sends = refl
along_sends d s x (Stops kept) (Some r) after sends = refl

along_lines : (d s : ℕ) (x : ShardNode) (k : Course) (logs : Option Record) (after : ShardVolatile) (sends : Posts)
    → lines_of (along k (ByShard d s x (act_of logs after sends))) ≡ lines_left (ShardServer d s) k logs
along_lines d s x Goes logs after sends = refl
along_lines d s x (Stops kept) None after sends = refl
along_lines d s x (Stops kept) (Some r) after sends = refl

along_whole : (d s : ℕ) (x : ShardNode) (k : Course) (logs : Option Record) (after : ShardVolatile) (sends : Posts) → worn_out (along k (ByShard d s x (act_of logs after sends))) ≡ None
along_whole d s x Goes logs after sends = refl
along_whole d s x (Stops kept) None after sends = refl
along_whole d s x (Stops kept) (Some r) after sends = refl

abbrev with_shards : Parties → List ShardNode → Parties
with_shards p shards = record { layout = p.layout; start = p.start; coords = p.coords; shards = shards; clients = p.clients; committed = p.committed }

device_at : (ss : List ShardSite) (i : ℕ) (h : ShardSite) → slice_get ss i ≡ Some h → slice_get (shard_devices ss) i ≡ Some h.device
device_at ss i h at = slice_get-map (λ (s : ShardSite). s.device) ss i ∙ ap (option_map (λ (s : ShardSite). s.device)) at

-- the shard server of the world at its place, and its disk
pub shard_here : (c : Layout) (cs : List CoordSite) (ss : List ShardSite) (clients : Table ℕ Client) (committed : List (ℕ × List Entry)) (d s : ℕ)
    → is_shard_of c d s ≡ true → shard_at (housed c cs ss clients committed).parties d s ≡ slice_get (shard_nodes ss) (shard_index c d s)
shard_here c cs ss clients committed d s inside =
    ap (λ (b : Bool). let o : Option ShardNode = if b then slice_get (shard_nodes ss) (shard_index c d s) else None in o) inside

node_at : (ss : List ShardSite) (i : ℕ) (h : ShardSite) → slice_get ss i ≡ Some h → slice_get (shard_nodes ss) i ≡ Some h.node
node_at ss i h at = slice_get-map (λ (s : ShardSite). s.node) ss i ∙ ap (option_map (λ (s : ShardSite). s.node)) at

pub shard_disk : (c : Layout) (cs : List CoordSite) (ss : List ShardSite) (clients : Table ℕ Client) (committed : List (ℕ × List Entry)) (d s : ℕ) (h : ShardSite)
    → is_shard_of c d s ≡ true → slice_get ss (shard_index c d s) ≡ Some h → disk_at (housed c cs ss clients committed) (ShardServer d s) ≡ h.device
shard_disk c cs ss clients committed d s h inside at =
    ap (λ (b : Bool). if b then device_in (shard_devices ss) (shard_index c d s) else no_device) inside
    ∙ ap (λ (o : Option Device). maybe o no_device (λ x. x)) (device_at ss (shard_index c d s) h at)

-- the disks with this one there
pub shard_disks : (h : Housed) (d s : ℕ) (x : Device) → is_shard_of h.parties.layout d s ≡ true
    → with_disk h (ShardServer d s) x ≡ (h.coords, slice_set h.shards (shard_index h.parties.layout d s) x)
shard_disks h d s x inside = ap (λ (b : Bool). if b then (h.coords, slice_set h.shards (shard_index h.parties.layout d s) x) else (h.coords, h.shards)) inside

pub shard_did : (c : Layout) (cs : List CoordSite) (ss ss' : List ShardSite) (clients : Table ℕ Client) (committed : List (ℕ × List Entry)) (d s : ℕ) (a : ShardAct) (h : ShardSite)
    (out : Posts) (lines printed : List Line) → is_shard_of c d s ≡ true → slice_get ss (shard_index c d s) ≡ Some h → ShardDid d s (shard_index c d s) a h ss ss' out lines printed
    → Acted (ByShard d s h.node a) (deed_work (housed c cs ss clients committed) (ByShard d s h.node a)) (housed c cs ss clients committed) (housed c cs ss' clients committed) out lines printed
shard_did c cs ss ss' clients committed d s a h out lines printed inside at did =
    let k : Course = course_for a.logs h.device in
    let old : Housed = housed c cs ss clients committed in
    let deed : Deed = ByShard d s h.node a in
    let i : ℕ = shard_index c d s in
    let disk : disk_at old (ShardServer d s) ≡ h.device = shard_disk c cs ss clients committed d s h inside at in
    let went : (work_at old (ShardServer d s) a.logs).course ≡ k = work_course old (ShardServer d s) a.logs h.device disk in
    let nodes : shard_nodes ss' ≡ slice_set (shard_nodes ss) i (shard_left k h.node a) =
    ap shard_nodes did.sites ∙ map-set (λ (x : ShardSite). x.node) ss i did.left ∙ ap (slice_set (shard_nodes ss) i) did.done.node in
    let devices : shard_devices ss' ≡ slice_set (shard_devices ss) i did.left.device =
    ap shard_devices did.sites ∙ map-set (λ (x : ShardSite). x.device) ss i did.left in
    let same : with_disk old (ShardServer d s) h.device ≡ (old.coords, old.shards) = shard_disks old d s h.device inside ∙ ap (λ (xs : List Device). (old.coords, xs)) (set_same (shard_devices ss) i h.device (device_at ss i h at)) in
    record {
      parties = ap (λ (xs : List ShardNode). with_shards old.parties xs) nodes
          ∙ sym (along_parties old.parties d s h.node k a.logs a.after a.sends) ∙ ap (λ (j : Course). parties_after old.parties (along j deed)) (sym went);
      disks = work_disks old (ShardServer d s) a.logs h.device did.left.device disk same did.done.device ∙ ap Some (shard_disks old d s did.left.device inside) ∙ ap (λ (xs : List Device). Some (old.coords, xs)) (sym devices);
      sends = did.done.sends ∙ sym (along_sends d s h.node k a.logs a.after a.sends) ∙ ap (λ (j : Course). sends_of (along j deed)) (sym went);
      prints = did.done.prints ∙ ap (λ (ls : List Line). lines ++ ls) (sym (along_lines d s h.node k a.logs a.after a.sends) ∙ ap (λ (j : Course). lines_of (along j deed)) (sym went));
      whole = ap (λ (j : Course). worn_out (along j deed)) went ∙ along_whole d s h.node k a.logs a.after a.sends;
    }

-- a shard server that takes no part in the event is as it was
shard_rests : (d s i : ℕ) (h : ShardSite) (ss ss' : List ShardSite) (out : Posts) (lines printed : List Line) → slice_get ss i ≡ Some h
    → ShardDid d s i (shard_stays h.node.volatile) h ss ss' out lines printed → ShardIdle ss ss' out lines printed
shard_rests d s i h ss ss' out lines printed at did =
    let device : did.left.device ≡ h.device = let e : Some h.device ≡ Some did.left.device = did.done.device in cc in
    let left : did.left ≡ h = shard_is did.left h.node h.device did.done.node device in
    record { sites = did.sites ∙ ap (slice_set ss i) left ∙ set_same ss i h at; sends = did.done.sends; prints = did.done.prints ∙ append-nil lines }

shard_idles : (c : Layout) (cs : List CoordSite) (ss ss' : List ShardSite) (clients : Table ℕ Client) (committed : List (ℕ × List Entry)) (out : Posts) (lines printed : List Line)
    → ShardIdle ss ss' out lines printed → Acted Idle no_change (housed c cs ss clients committed) (housed c cs ss' clients committed) out lines printed
shard_idles c cs ss ss' clients committed out lines printed i =
    subst (λ (xs : List ShardSite). Acted Idle no_change (housed c cs ss clients committed) (housed c cs xs clients committed) out lines printed) (sym i.sites)
    (idle Idle refl (housed c cs ss clients committed) out lines printed i.sends i.prints)

-- what the cause makes a shard server do
abbrev part_of : Layout → ℕ → ℕ → Option NodeCause → ShardNode → ShardAct
part_of c d s o x = maybe o (shard_stays x.volatile) (shard_act c d s x.durable x.volatile)

shard_deed : (c : Layout) (cs : List CoordSite) (ss ss' : List ShardSite) (clients : Table ℕ Client) (committed : List (ℕ × List Entry)) (d s : ℕ) (o : Option NodeCause)
    (out : Posts) (lines printed : List Line) → is_shard_of c d s ≡ true → shard_index c d s < length ss
    → ((h : ShardSite) → slice_get ss (shard_index c d s) ≡ Some h → h.node.up ≡ false → ShardIdle ss ss' out lines printed)
    → ((h : ShardSite) → slice_get ss (shard_index c d s) ≡ Some h → h.node.up ≡ true → ShardDid d s (shard_index c d s) (part_of c d s o h.node) h ss ss' out lines printed)
    → let deed = maybe o Idle (shard_does (housed c cs ss clients committed).parties d s) in
    Acted deed (deed_work (housed c cs ss clients committed) deed) (housed c cs ss clients committed) (housed c cs ss' clients committed) out lines printed
shard_deed c cs ss ss' clients committed d s None out lines printed inside within idles dids = by_site (slice_get ss (shard_index c d s)) refl
  where
    by_up : (h : ShardSite) → slice_get ss (shard_index c d s) ≡ Some h → (up : Bool) → h.node.up ≡ up → ShardIdle ss ss' out lines printed
    by_up h at true is = shard_rests d s (shard_index c d s) h ss ss' out lines printed at (dids h at is)
    by_up h at false is = idles h at is

    by_site : (o : Option ShardSite) → slice_get ss (shard_index c d s) ≡ o → Acted Idle no_change (housed c cs ss clients committed) (housed c cs ss' clients committed) out lines printed
    by_site None at = absurd (within_some ss (shard_index c d s) within at)
    by_site (Some h) at = shard_idles c cs ss ss' clients committed out lines printed (by_up h at h.node.up refl)
shard_deed c cs ss ss' clients committed d s (Some cause) out lines printed inside within idles dids = by_site (slice_get ss (shard_index c d s)) refl
  where
    Goal : Deed → Type 0
    Goal deed = Acted deed (deed_work (housed c cs ss clients committed) deed) (housed c cs ss clients committed) (housed c cs ss' clients committed) out lines printed

    deed_at : (h : ShardSite) → slice_get ss (shard_index c d s) ≡ Some h → shard_does (housed c cs ss clients committed).parties d s cause ≡ (if h.node.up then by_shard c d s h.node cause else Idle)
    deed_at h at =
        ap (λ (o : Option ShardNode). maybe o Idle (λ x. if x.up then by_shard c d s x cause else Idle)) (shard_here c cs ss clients committed d s inside ∙ node_at ss (shard_index c d s) h at)

    by_up : (h : ShardSite) → slice_get ss (shard_index c d s) ≡ Some h → (up : Bool) → h.node.up ≡ up → Goal (if up then by_shard c d s h.node cause else Idle)
    by_up h at true is = shard_did c cs ss ss' clients committed d s (part_of c d s (Some cause) h.node) h out lines printed inside at (dids h at is)
    by_up h at false is = shard_idles c cs ss ss' clients committed out lines printed (idles h at is)

    by_site : (o : Option ShardSite) → slice_get ss (shard_index c d s) ≡ o → Goal (shard_does (housed c cs ss clients committed).parties d s cause)
    by_site None at = absurd (within_some ss (shard_index c d s) within at)
    by_site (Some h) at = subst Goal (sym (deed_at h at)) (by_up h at h.node.up refl)

pub shard_deed_at : (c : Layout) (cs : List CoordSite) (ss ss' : List ShardSite) (clients : Table ℕ Client) (committed : List (ℕ × List Entry)) (q : Housed) (d s : ℕ) (o : Option NodeCause)
    (out : Posts) (lines printed : List Line) → housed c cs ss clients committed ≡ q → is_shard_of c d s ≡ true → shard_index c d s < length ss
    → ((h : ShardSite) → slice_get ss (shard_index c d s) ≡ Some h → h.node.up ≡ false → ShardIdle ss ss' out lines printed)
    → ((h : ShardSite) → slice_get ss (shard_index c d s) ≡ Some h → h.node.up ≡ true → ShardDid d s (shard_index c d s) (part_of c d s o h.node) h ss ss' out lines printed)
    → let deed = maybe o Idle (shard_does q.parties d s) in Acted deed (deed_work q deed) q (housed c cs ss' clients committed) out lines printed
shard_deed_at c cs ss ss' clients committed q d s o out lines printed is inside within idles dids =
    subst (λ (r : Housed). let deed = maybe o Idle (shard_does r.parties d s) in Acted deed (deed_work r deed) r (housed c cs ss' clients committed) out lines printed) is
    (shard_deed c cs ss ss' clients committed d s o out lines printed inside within idles dids)

-- no shard server stands there
pub nobody_at : (c : Layout) (cs : List CoordSite) (ss : List ShardSite) (clients : Table ℕ Client) (committed : List (ℕ × List Entry)) (d s : ℕ)
    → (is_shard_of c d s ≡ true → length ss ≤ shard_index c d s) → shard_at (housed c cs ss clients committed).parties d s ≡ None
nobody_at c cs ss clients committed d s past = by_test (is_shard_of c d s) past
  where
    by_test : (b : Bool) → (b ≡ true → length ss ≤ shard_index c d s) → let o : Option ShardNode = if b then slice_get (shard_nodes ss) (shard_index c d s) else None in o ≡ None
    by_test true far =
        let past : length ss ≤ shard_index c d s = far refl in
        slice_get-map (λ (x : ShardSite). x.node) ss (shard_index c d s) ∙ ap (option_map (λ (x : ShardSite). x.node)) (slice_get_past ss (shard_index c d s) past)
    by_test false far = refl

pub shard_outside : (c : Layout) (cs : List CoordSite) (ss : List ShardSite) (clients : Table ℕ Client) (committed : List (ℕ × List Entry)) (q : Housed) (d s : ℕ) (o : Option NodeCause)
    (out : Posts) (lines : List Line) → housed c cs ss clients committed ≡ q → (is_shard_of c d s ≡ true → length ss ≤ shard_index c d s) → out ≡ []
    → let deed = maybe o Idle (shard_does q.parties d s) in Acted deed (deed_work q deed) q q out lines lines
shard_outside c cs ss clients committed q d s o out lines is past none =
    subst (λ (r : Housed). let deed = maybe o Idle (shard_does r.parties d s) in Acted deed (deed_work r deed) r r out lines lines) is
    (idle (maybe o Idle (shard_does (housed c cs ss clients committed).parties d s)) (nobody o) (housed c cs ss clients committed) out lines lines none refl)
  where
    nobody : (o : Option NodeCause) → maybe o Idle (shard_does (housed c cs ss clients committed).parties d s) ≡ Idle
    nobody None = refl
    nobody (Some cause) = ap (λ (p : Option ShardNode). maybe p Idle (λ x. if x.up then by_shard c d s x cause else Idle)) (nobody_at c cs ss clients committed d s past)

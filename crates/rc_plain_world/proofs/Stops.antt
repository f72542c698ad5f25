-- Stops, armed cuts and starts of coordinators, from what happened at the one that is named.
use Rattle.std.proofs.Common.{◌≡◌, ℕ, ◌<◌, Bool, true, false, List, [], ◌∷◌, ◌++◌, length, Option, None, Some, refl, sym, ◌∙◌, ap, subst}
use Rattle.std.proofs.lemmas.List.{append-nil, map-set}
use Rattle.std.proofs.lemmas.Option.{slice_get_within, slice_get-map}
use Rattle.std.specs.Prelude.{slice_get, slice_set, if◌then◌else◌}
use Rattle.std.specs.Option.{option_map}
use Rattle.rc_ids.specs.Tables.{Table, maybe}
use Rattle.rc_ids.specs.Cluster.{Layout, is_dc}
use Rattle.rc_ids.specs.declared.names.NodeId.{NodeId}
use Rattle.rc_ids.specs.declared.names.NodeId.TheVariants.{Coord}
use Rattle.rc_body.specs.declared.entry.Entry.{Entry}
use Rattle.rc_report.specs.declared.line.Line.{Line}
use Rattle.rc_report.specs.declared.line.Line.TheVariants.{Stopped}
use Rattle.rc_protocol.specs.Messages.{Posts}
use Rattle.rc_protocol.specs.Client.{Client}
use Rattle.rc_protocol.specs.Acts.{Catches}
use Rattle.rc_protocol.specs.Nodes.{CoordNode, coord_index, coord_started}
use Rattle.rc_runs.specs.World.{Parties, Deed, Idle, CoordStops, by_coord, is_up, stops, restarts}
use Rattle.rc_runs.specs.Devices.{Device, powered, armed, opened_once}
use Rattle.rc_runs.specs.Session.{no_device, device_in, change_on}
use Rattle.rc_plain_world.specs.Hosts.{CoordSite, ShardSite, coord_nodes, coord_devices}
use Rattle.rc_plain_world.specs.Acted.{Housed, housed, disk_at, with_disk, disks_after, Acted, stop_work, arm_work, start_work, stopped_coord, armed_coord, CoordStarts}
use Rattle.rc_plain_world.proofs.Deeds.{within_some, set_same, coord_here, coord_disk, coord_disks}

-- a disk with which work leaves this one
pub worked : (h : Housed) (node : NodeId) (o : Option Device) (y : Device) → o ≡ Some y → disks_after h (change_on node o) ≡ Some (with_disk h node y)
worked h node o y is = ap (λ (p : Option Device). disks_after h (change_on node p)) is

pub coord_there : (c : Layout) (cs : List CoordSite) (ss : List ShardSite) (clients : Table ℕ Client) (committed : List (ℕ × List Entry)) (q : Housed) (d : ℕ)
    → housed c cs ss clients committed ≡ q → is_up q.parties (Coord d) ≡ true → is_dc c d ≡ true
coord_there c cs ss clients committed q d is up = by_test (is_dc c d) refl
  where
    by_test : (b : Bool) → is_dc c d ≡ b → is_dc c d ≡ true
    by_test true is_there = is_there
    by_test false is_there =
        let here : is_up (housed c cs ss clients committed).parties (Coord d) ≡ true = ap (λ (r : Housed). is_up r.parties (Coord d)) is ∙ up in
        let down : false ≡ true = sym (ap (λ (b : Bool). let o : Option CoordNode = if b then slice_get (coord_nodes cs) (coord_index d) else None in maybe o false (λ (x : CoordNode). x.up)) is_there) ∙ here in
        cc

pub coord_up_at : (c : Layout) (cs : List CoordSite) (ss : List ShardSite) (clients : Table ℕ Client) (committed : List (ℕ × List Entry)) (q : Housed) (d : ℕ) (h : CoordSite)
    → housed c cs ss clients committed ≡ q → is_up q.parties (Coord d) ≡ true → slice_get cs (coord_index d) ≡ Some h → h.node.up ≡ true
coord_up_at c cs ss clients committed q d h is up at =
    let here : is_up (housed c cs ss clients committed).parties (Coord d) ≡ true = ap (λ (r : Housed). is_up r.parties (Coord d)) is ∙ up in
    sym (ap (λ (o : Option CoordNode). maybe o false (λ x. x.up)) (coord_here c cs ss clients committed d h (coord_there c cs ss clients committed q d is up) at)) ∙ here

pub coord_inside : (c : Layout) (cs : List CoordSite) (ss : List ShardSite) (clients : Table ℕ Client) (committed : List (ℕ × List Entry)) (q : Housed) (d : ℕ)
    → housed c cs ss clients committed ≡ q → is_up q.parties (Coord d) ≡ true → coord_index d < length cs
coord_inside c cs ss clients committed q d is up = by_site (slice_get cs (coord_index d)) refl
  where
    by_site : (o : Option CoordSite) → slice_get cs (coord_index d) ≡ o → coord_index d < length cs
    by_site None at =
        let here : is_up (housed c cs ss clients committed).parties (Coord d) ≡ true = ap (λ (r : Housed). is_up r.parties (Coord d)) is ∙ up in
        let none : slice_get (coord_nodes cs) (coord_index d) ≡ None = slice_get-map (λ (s : CoordSite). s.node) cs (coord_index d) ∙ ap (option_map (λ (s : CoordSite). s.node)) at in
        let inside : is_dc c d ≡ true = coord_there c cs ss clients committed q d is up in
        let down : false ≡ true =
        sym (ap (λ (b : Bool). let o : Option CoordNode = if b then slice_get (coord_nodes cs) (coord_index d) else None in maybe o false (λ (x : CoordNode). x.up)) inside
        ∙ ap (λ (o : Option CoordNode). maybe o false (λ x. x.up)) none) ∙ here in
        cc
    by_site (Some h) at = slice_get_within cs (coord_index d) h at

-- THE NODES AND DISKS after one of them was changed
node_at : (cs : List CoordSite) (d : ℕ) (h : CoordSite) → slice_get cs (coord_index d) ≡ Some h → slice_get (coord_nodes cs) (coord_index d) ≡ Some h.node
node_at cs d h at = slice_get-map (λ (s : CoordSite). s.node) cs (coord_index d) ∙ ap (option_map (λ (s : CoordSite). s.node)) at

nodes_set : (cs cs' : List CoordSite) (i : ℕ) (left : CoordSite) → cs' ≡ slice_set cs i left → coord_nodes cs' ≡ slice_set (coord_nodes cs) i left.node
nodes_set cs cs' i left is = ap coord_nodes is ∙ map-set (λ (s : CoordSite). s.node) cs i left

devices_set : (cs cs' : List CoordSite) (i : ℕ) (left : CoordSite) → cs' ≡ slice_set cs i left → coord_devices cs' ≡ slice_set (coord_devices cs) i left.device
devices_set cs cs' i left is = ap coord_devices is ∙ map-set (λ (s : CoordSite). s.device) cs i left

abbrev with_coords : Parties → List CoordNode → Parties
with_coords p coords = record { layout = p.layout; start = p.start; coords = coords; shards = p.shards; clients = p.clients; committed = p.committed }

-- A STOP
coord_stop : (c : Layout) (cs cs' : List CoordSite) (ss : List ShardSite) (clients : Table ℕ Client) (committed : List (ℕ × List Entry)) (d : ℕ) (h : CoordSite) (lines printed : List Line)
    → is_dc c d ≡ true → slice_get cs (coord_index d) ≡ Some h → cs' ≡ slice_set cs (coord_index d) (stopped_coord h) → printed ≡ lines ++ Stopped (Coord d) ∷ []
    → Acted (stops (housed c cs ss clients committed).parties (Coord d)) (stop_work (housed c cs ss clients committed) (Coord d)) (housed c cs ss clients committed) (housed c cs' ss clients committed) [] lines printed
coord_stop c cs cs' ss clients committed d h lines printed inside at sites prints =
    let old : Housed = housed c cs ss clients committed in
    let new : Housed = housed c cs' ss clients committed in
    let is : CoordStops d h.node None ≡ stops old.parties (Coord d) = sym (ap (λ (o : Option CoordNode). maybe o Idle (λ x. CoordStops d x None)) (coord_here c cs ss clients committed d h inside at)) in
    subst (λ (deed : Deed). Acted deed (stop_work old (Coord d)) old new [] lines printed) is
    (record {
      parties = ap (with_coords old.parties) (nodes_set cs cs' (coord_index d) (stopped_coord h) sites);
      disks = worked old (Coord d) (Some (powered (disk_at old (Coord d)))) (powered h.device) (ap (λ (x : Device). Some (powered x)) (coord_disk c cs ss clients committed d h inside at))
          ∙ ap Some (coord_disks old d (powered h.device) inside) ∙ ap (λ (xs : List Device). Some (xs, old.shards)) (sym (devices_set cs cs' (coord_index d) (stopped_coord h) sites));
      sends = refl;
      prints = prints;
      whole = refl;
    })

pub coord_stop_at : (c : Layout) (cs cs' : List CoordSite) (ss : List ShardSite) (clients : Table ℕ Client) (committed : List (ℕ × List Entry)) (q : Housed) (d : ℕ) (lines printed : List Line)
    → housed c cs ss clients committed ≡ q → is_dc c d ≡ true → coord_index d < length cs
    → ((h : CoordSite) → slice_get cs (coord_index d) ≡ Some h → cs' ≡ slice_set cs (coord_index d) (stopped_coord h)) → printed ≡ lines ++ Stopped (Coord d) ∷ []
    → Acted (stops q.parties (Coord d)) (stop_work q (Coord d)) q (housed c cs' ss clients committed) [] lines printed
coord_stop_at c cs cs' ss clients committed q d lines printed is inside within stopped prints =
    subst (λ (r : Housed). Acted (stops r.parties (Coord d)) (stop_work r (Coord d)) r (housed c cs' ss clients committed) [] lines printed) is (by_site (slice_get cs (coord_index d)) refl)
  where
    by_site : (o : Option CoordSite) → slice_get cs (coord_index d) ≡ o
        → Acted (stops (housed c cs ss clients committed).parties (Coord d)) (stop_work (housed c cs ss clients committed) (Coord d)) (housed c cs ss clients committed) (housed c cs' ss clients committed) [] lines printed
    by_site None at = absurd (within_some cs (coord_index d) within at)
    by_site (Some h) at = coord_stop c cs cs' ss clients committed d h lines printed inside at (stopped h at) prints

-- AN ARMED CUT
coord_arm : (c : Layout) (cs cs' : List CoordSite) (ss : List ShardSite) (clients : Table ℕ Client) (committed : List (ℕ × List Entry)) (d k pick : ℕ) (h : CoordSite) (lines : List Line)
    → is_dc c d ≡ true → slice_get cs (coord_index d) ≡ Some h → cs' ≡ slice_set cs (coord_index d) (armed_coord k pick h)
    → Acted Idle (arm_work (housed c cs ss clients committed) (Coord d) k pick) (housed c cs ss clients committed) (housed c cs' ss clients committed) [] lines lines
coord_arm c cs cs' ss clients committed d k pick h lines inside at sites =
    let old : Housed = housed c cs ss clients committed in
    record {
      parties = ap (with_coords old.parties) (nodes_set cs cs' (coord_index d) (armed_coord k pick h) sites ∙ set_same (coord_nodes cs) (coord_index d) h.node (node_at cs d h at));
      disks = worked old (Coord d) (Some (armed (disk_at old (Coord d)) k pick)) (armed h.device k pick) (ap (λ (x : Device). Some (armed x k pick)) (coord_disk c cs ss clients committed d h inside at))
          ∙ ap Some (coord_disks old d (armed h.device k pick) inside) ∙ ap (λ (xs : List Device). Some (xs, old.shards)) (sym (devices_set cs cs' (coord_index d) (armed_coord k pick h) sites));
      sends = refl;
      prints = sym (append-nil lines);
      whole = refl;
    }

pub coord_arm_at : (c : Layout) (cs cs' : List CoordSite) (ss : List ShardSite) (clients : Table ℕ Client) (committed : List (ℕ × List Entry)) (q : Housed) (d k pick : ℕ) (lines : List Line)
    → housed c cs ss clients committed ≡ q → is_dc c d ≡ true → coord_index d < length cs
    → ((h : CoordSite) → slice_get cs (coord_index d) ≡ Some h → cs' ≡ slice_set cs (coord_index d) (armed_coord k pick h))
    → Acted Idle (arm_work q (Coord d) k pick) q (housed c cs' ss clients committed) [] lines lines
coord_arm_at c cs cs' ss clients committed q d k pick lines is inside within cuts =
    subst (λ (r : Housed). Acted Idle (arm_work r (Coord d) k pick) r (housed c cs' ss clients committed) [] lines lines) is (by_site (slice_get cs (coord_index d)) refl)
  where
    by_site : (o : Option CoordSite) → slice_get cs (coord_index d) ≡ o
        → Acted Idle (arm_work (housed c cs ss clients committed) (Coord d) k pick) (housed c cs ss clients committed) (housed c cs' ss clients committed) [] lines lines
    by_site None at = absurd (within_some cs (coord_index d) within at)
    by_site (Some h) at = coord_arm c cs cs' ss clients committed d k pick h lines inside at (cuts h at)

-- A START
coord_start : (c : Layout) (cs cs' : List CoordSite) (ss : List ShardSite) (clients : Table ℕ Client) (committed : List (ℕ × List Entry)) (d : ℕ) (h : CoordSite) (out : Posts) (lines : List Line)
    → is_dc c d ≡ true → slice_get cs (coord_index d) ≡ Some h → CoordStarts c d h cs cs' out
    → Acted (restarts (housed c cs ss clients committed).parties (Coord d)) (start_work (housed c cs ss clients committed) (Coord d)) (housed c cs ss clients committed) (housed c cs' ss clients committed) out lines lines
coord_start c cs cs' ss clients committed d h out lines inside at starts =
    let old : Housed = housed c cs ss clients committed in
    let new : Housed = housed c cs' ss clients committed in
    let is : by_coord c d (coord_started h.node.log) Catches ≡ restarts old.parties (Coord d) =
    sym (ap (λ (o : Option CoordNode). maybe o Idle (λ x. by_coord c d (coord_started x.log) Catches)) (coord_here c cs ss clients committed d h inside at)) in
    subst (λ (deed : Deed). Acted deed (start_work old (Coord d)) old new out lines lines) is
    (record {
      parties = ap (with_coords old.parties) (nodes_set cs cs' (coord_index d) starts.left starts.sites ∙ ap (slice_set (coord_nodes cs) (coord_index d)) starts.node);
      disks = worked old (Coord d) (opened_once (disk_at old (Coord d))) starts.left.device (ap opened_once (coord_disk c cs ss clients committed d h inside at) ∙ starts.device)
          ∙ ap Some (coord_disks old d starts.left.device inside) ∙ ap (λ (xs : List Device). Some (xs, old.shards)) (sym (devices_set cs cs' (coord_index d) starts.left starts.sites));
      sends = starts.sends;
      prints = sym (append-nil lines);
      whole = refl;
    })

pub coord_start_at : (c : Layout) (cs cs' : List CoordSite) (ss : List ShardSite) (clients : Table ℕ Client) (committed : List (ℕ × List Entry)) (q : Housed) (d : ℕ) (out : Posts) (lines : List Line)
    → housed c cs ss clients committed ≡ q → is_dc c d ≡ true → coord_index d < length cs → ((h : CoordSite) → slice_get cs (coord_index d) ≡ Some h → CoordStarts c d h cs cs' out)
    → Acted (restarts q.parties (Coord d)) (start_work q (Coord d)) q (housed c cs' ss clients committed) out lines lines
coord_start_at c cs cs' ss clients committed q d out lines is inside within starts =
    subst (λ (r : Housed). Acted (restarts r.parties (Coord d)) (start_work r (Coord d)) r (housed c cs' ss clients committed) out lines lines) is (by_site (slice_get cs (coord_index d)) refl)
  where
    by_site : (o : Option CoordSite) → slice_get cs (coord_index d) ≡ o
        → Acted (restarts (housed c cs ss clients committed).parties (Coord d)) (start_work (housed c cs ss clients committed) (Coord d)) (housed c cs ss clients committed) (housed c cs' ss clients committed) out lines lines
    by_site None at = absurd (within_some cs (coord_index d) within at)
    by_site (Some h) at = coord_start c cs cs' ss clients committed d h out lines inside at (starts h at)

-- a coordinator outside the world: nobody starts, and no disk changes
pub coord_start_outside : (c : Layout) (cs : List CoordSite) (ss : List ShardSite) (clients : Table ℕ Client) (committed : List (ℕ × List Entry)) (q : Housed) (d : ℕ) (out : Posts) (lines : List Line)
    → housed c cs ss clients committed ≡ q → is_dc c d ≡ false → out ≡ [] → Acted (restarts q.parties (Coord d)) (start_work q (Coord d)) q q out lines lines
coord_start_outside c cs ss clients committed q d out lines is outside none =
    let old : Housed = housed c cs ss clients committed in
    let nobody : restarts old.parties (Coord d) ≡ Idle =
    ap (λ (b : Bool). let o : Option CoordNode = if b then slice_get (coord_nodes cs) (coord_index d) else None in maybe o Idle (λ (x : CoordNode). by_coord c d (coord_started x.log) Catches)) outside in
    let no_disk : disk_at old (Coord d) ≡ no_device = ap (λ (b : Bool). if b then device_in old.coords (coord_index d) else no_device) outside in
    let same : with_disk old (Coord d) no_device ≡ (old.coords, old.shards) =
    ap (λ (b : Bool). if b then (slice_set old.coords (coord_index d) no_device, old.shards) else (old.coords, old.shards)) outside in
    subst (λ (r : Housed). Acted (restarts r.parties (Coord d)) (start_work r (Coord d)) r r out lines lines) is
    (subst (λ (deed : Deed). Acted deed (start_work old (Coord d)) old old out lines lines) (sym nobody)
    (record {
      parties = refl;
      disks = worked old (Coord d) (opened_once (disk_at old (Coord d))) no_device (ap opened_once no_disk) ∙ ap Some same;
      sends = none;
      prints = sym (append-nil lines);
      whole = refl;
    }))

-- Stops, armed cuts and starts of shard servers, from what happened at the one that is named.
use Rattle.std.proofs.Common.{◌≡◌, ℕ, ◌<◌, ◌≤◌, Bool, true, false, List, [], ◌∷◌, ◌++◌, length, Option, None, Some, refl, sym, ◌∙◌, ap, subst}
use Rattle.std.proofs.lemmas.List.{append-nil, map-set}
use Rattle.std.proofs.lemmas.Option.{slice_get_past, slice_get_within, slice_get-map}
use Rattle.std.specs.Prelude.{slice_get, slice_set, if◌then◌else◌}
use Rattle.std.specs.Option.{option_map}
use Rattle.rc_ids.specs.Tables.{Table, maybe}
use Rattle.rc_ids.specs.Cluster.{Layout}
use Rattle.rc_ids.specs.declared.names.NodeId.TheVariants.{Shard as ShardServer}
use Rattle.rc_body.specs.declared.entry.Entry.{Entry}
use Rattle.rc_report.specs.declared.line.Line.{Line}
use Rattle.rc_report.specs.declared.line.Line.TheVariants.{Stopped}
use Rattle.rc_protocol.specs.Messages.{Posts}
use Rattle.rc_protocol.specs.Client.{Client}
use Rattle.rc_protocol.specs.Acts.{Catches}
use Rattle.rc_protocol.specs.Nodes.{ShardNode, shard_index, shard_started}
use Rattle.rc_runs.specs.World.{Parties, Deed, Idle, ShardStops, is_shard_of, by_shard, is_up, stops, restarts}
use Rattle.rc_runs.specs.Devices.{Device, powered, armed, opened_once}
use Rattle.rc_runs.specs.Session.{no_device, device_in}
use Rattle.rc_plain_world.specs.Hosts.{CoordSite, ShardSite, coord_devices, shard_nodes, shard_devices}
use Rattle.rc_plain_world.specs.Acted.{Housed, housed, disk_at, Acted, stop_work, arm_work, start_work, stopped_shard, armed_shard, ShardStarts}
use Rattle.rc_plain_world.proofs.Deeds.{within_some, set_same, set_past}
use Rattle.rc_plain_world.proofs.Stops.{worked}
use Rattle.rc_plain_world.proofs.ShardDeeds.{nobody_at, shard_disk, shard_disks}

-- THE NODES AND DISKS, and what one of them was changed to
node_in : (ss : List ShardSite) (i : ℕ) (h : ShardSite) → slice_get ss i ≡ Some h → slice_get (shard_nodes ss) i ≡ Some h.node
node_in ss i h at = slice_get-map (λ (s : ShardSite). s.node) ss i ∙ ap (option_map (λ (s : ShardSite). s.node)) at

nodes_set : (ss ss' : List ShardSite) (i : ℕ) (left : ShardSite) → ss' ≡ slice_set ss i left → shard_nodes ss' ≡ slice_set (shard_nodes ss) i left.node
nodes_set ss ss' i left is = ap shard_nodes is ∙ map-set (λ (s : ShardSite). s.node) ss i left

devices_set : (ss ss' : List ShardSite) (i : ℕ) (left : ShardSite) → ss' ≡ slice_set ss i left → shard_devices ss' ≡ slice_set (shard_devices ss) i left.device
devices_set ss ss' i left is = ap shard_devices is ∙ map-set (λ (s : ShardSite). s.device) ss i left

abbrev with_shards : Parties → List ShardNode → Parties
with_shards p shards = record { layout = p.layout; start = p.start; coords = p.coords; shards = shards; clients = p.clients; committed = p.committed }

-- WHO IS UP
up_here : (c : Layout) (cs : List CoordSite) (ss : List ShardSite) (clients : Table ℕ Client) (committed : List (ℕ × List Entry)) (q : Housed) (d s : ℕ)
    → housed c cs ss clients committed ≡ q → is_up q.parties (ShardServer d s) ≡ true → is_up (housed c cs ss clients committed).parties (ShardServer d s) ≡ true
up_here c cs ss clients committed q d s is up = ap (λ (r : Housed). is_up r.parties (ShardServer d s)) is ∙ up

there : (c : Layout) (cs : List CoordSite) (ss : List ShardSite) (clients : Table ℕ Client) (committed : List (ℕ × List Entry)) (d s : ℕ)
    → is_up (housed c cs ss clients committed).parties (ShardServer d s) ≡ true → is_shard_of c d s ≡ true
there c cs ss clients committed d s up = by_test (is_shard_of c d s) refl
  where
    by_test : (b : Bool) → is_shard_of c d s ≡ b → is_shard_of c d s ≡ true
    by_test true is = is
    by_test false is =
        let down : false ≡ true = sym (ap (λ (b : Bool). let o : Option ShardNode = if b then slice_get (shard_nodes ss) (shard_index c d s) else None in maybe o false (λ (x : ShardNode). x.up)) is) ∙ up in
        cc

up_by_place : (c : Layout) (cs : List CoordSite) (ss : List ShardSite) (clients : Table ℕ Client) (committed : List (ℕ × List Entry)) (d s : ℕ)
    → is_up (housed c cs ss clients committed).parties (ShardServer d s) ≡ true → maybe (slice_get (shard_nodes ss) (shard_index c d s)) false (λ (x : ShardNode). x.up) ≡ true
up_by_place c cs ss clients committed d s up =
    sym (ap (λ (b : Bool). let o : Option ShardNode = if b then slice_get (shard_nodes ss) (shard_index c d s) else None in maybe o false (λ (x : ShardNode). x.up)) (there c cs ss clients committed d s up)) ∙ up

pub shard_up_at : (c : Layout) (cs : List CoordSite) (ss : List ShardSite) (clients : Table ℕ Client) (committed : List (ℕ × List Entry)) (q : Housed) (d s : ℕ) (h : ShardSite)
    → housed c cs ss clients committed ≡ q → is_up q.parties (ShardServer d s) ≡ true → slice_get ss (shard_index c d s) ≡ Some h → h.node.up ≡ true
shard_up_at c cs ss clients committed q d s h is up at =
    sym (ap (λ (o : Option ShardNode). maybe o false (λ (x : ShardNode). x.up)) (node_in ss (shard_index c d s) h at))
    ∙ up_by_place c cs ss clients committed d s (up_here c cs ss clients committed q d s is up)

pub shard_inside : (c : Layout) (cs : List CoordSite) (ss : List ShardSite) (clients : Table ℕ Client) (committed : List (ℕ × List Entry)) (q : Housed) (d s : ℕ)
    → housed c cs ss clients committed ≡ q → is_up q.parties (ShardServer d s) ≡ true → shard_index c d s < length ss
shard_inside c cs ss clients committed q d s is up = by_site (slice_get ss (shard_index c d s)) refl
  where
    by_site : (o : Option ShardSite) → slice_get ss (shard_index c d s) ≡ o → shard_index c d s < length ss
    by_site None at =
        let none : slice_get (shard_nodes ss) (shard_index c d s) ≡ None = slice_get-map (λ (x : ShardSite). x.node) ss (shard_index c d s) ∙ ap (option_map (λ (x : ShardSite). x.node)) at in
        let down : false ≡ true = sym (ap (λ (o : Option ShardNode). maybe o false (λ (x : ShardNode). x.up)) none) ∙ up_by_place c cs ss clients committed d s (up_here c cs ss clients committed q d s is up) in
        cc
    by_site (Some h) at = slice_get_within ss (shard_index c d s) h at

pub shard_there : (c : Layout) (cs : List CoordSite) (ss : List ShardSite) (clients : Table ℕ Client) (committed : List (ℕ × List Entry)) (q : Housed) (d s : ℕ)
    → housed c cs ss clients committed ≡ q → is_up q.parties (ShardServer d s) ≡ true → is_shard_of c d s ≡ true
shard_there c cs ss clients committed q d s is up = there c cs ss clients committed d s (up_here c cs ss clients committed q d s is up)

-- A STOP
stops_at : (p : Parties) (d s : ℕ) → is_shard_of p.layout d s ≡ true → stops p (ShardServer d s) ≡ maybe (slice_get p.shards (shard_index p.layout d s)) Idle (λ (x : ShardNode). ShardStops d s x None)
stops_at p d s is = rw is refl

shard_stop : (c : Layout) (cs : List CoordSite) (ss ss' : List ShardSite) (clients : Table ℕ Client) (committed : List (ℕ × List Entry)) (d s : ℕ) (h : ShardSite) (lines printed : List Line)
    → is_shard_of c d s ≡ true → slice_get ss (shard_index c d s) ≡ Some h → ss' ≡ slice_set ss (shard_index c d s) (stopped_shard h) → printed ≡ lines ++ Stopped (ShardServer d s) ∷ []
    → Acted (stops (housed c cs ss clients committed).parties (ShardServer d s)) (stop_work (housed c cs ss clients committed) (ShardServer d s)) (housed c cs ss clients committed) (housed c cs ss' clients committed) [] lines printed
shard_stop c cs ss ss' clients committed d s h lines printed is_there at sites prints =
    let old : Housed = housed c cs ss clients committed in
    let new : Housed = housed c cs ss' clients committed in
    let i : ℕ = shard_index c d s in
    let is : stops old.parties (ShardServer d s) ≡ ShardStops d s h.node None =
    stops_at old.parties d s is_there ∙ ap (λ (o : Option ShardNode). maybe o Idle (λ (x : ShardNode). ShardStops d s x None)) (node_in ss i h at) in
    subst (λ (deed : Deed). Acted deed (stop_work old (ShardServer d s)) old new [] lines printed) (sym is)
    (record {
      parties = ap (with_shards old.parties) (nodes_set ss ss' i (stopped_shard h) sites);
      disks = worked old (ShardServer d s) (Some (powered (disk_at old (ShardServer d s)))) (powered h.device) (ap (λ (x : Device). Some (powered x)) (shard_disk c cs ss clients committed d s h is_there at))
          ∙ ap Some (shard_disks old d s (powered h.device) is_there) ∙ ap (λ (xs : List Device). Some (old.coords, xs)) (sym (devices_set ss ss' i (stopped_shard h) sites));
      sends = refl;
      prints = prints;
      whole = refl;
    })

pub shard_stop_at : (c : Layout) (cs : List CoordSite) (ss ss' : List ShardSite) (clients : Table ℕ Client) (committed : List (ℕ × List Entry)) (q : Housed) (d s : ℕ) (lines printed : List Line)
    → housed c cs ss clients committed ≡ q → is_shard_of c d s ≡ true → shard_index c d s < length ss
    → ((h : ShardSite) → slice_get ss (shard_index c d s) ≡ Some h → ss' ≡ slice_set ss (shard_index c d s) (stopped_shard h)) → printed ≡ lines ++ Stopped (ShardServer d s) ∷ []
    → Acted (stops q.parties (ShardServer d s)) (stop_work q (ShardServer d s)) q (housed c cs ss' clients committed) [] lines printed
shard_stop_at c cs ss ss' clients committed q d s lines printed is is_there within stopped prints =
    subst (λ (r : Housed). Acted (stops r.parties (ShardServer d s)) (stop_work r (ShardServer d s)) r (housed c cs ss' clients committed) [] lines printed) is (by_site (slice_get ss (shard_index c d s)) refl)
  where
    by_site : (o : Option ShardSite) → slice_get ss (shard_index c d s) ≡ o
        → Acted (stops (housed c cs ss clients committed).parties (ShardServer d s)) (stop_work (housed c cs ss clients committed) (ShardServer d s)) (housed c cs ss clients committed) (housed c cs ss' clients committed) [] lines printed
    by_site None at = absurd (within_some ss (shard_index c d s) within at)
    by_site (Some h) at = shard_stop c cs ss ss' clients committed d s h lines printed is_there at (stopped h at) prints

-- AN ARMED CUT
shard_arm : (c : Layout) (cs : List CoordSite) (ss ss' : List ShardSite) (clients : Table ℕ Client) (committed : List (ℕ × List Entry)) (d s k pick : ℕ) (h : ShardSite) (lines : List Line)
    → is_shard_of c d s ≡ true → slice_get ss (shard_index c d s) ≡ Some h → ss' ≡ slice_set ss (shard_index c d s) (armed_shard k pick h)
    → Acted Idle (arm_work (housed c cs ss clients committed) (ShardServer d s) k pick) (housed c cs ss clients committed) (housed c cs ss' clients committed) [] lines lines
shard_arm c cs ss ss' clients committed d s k pick h lines is_there at sites =
    let old : Housed = housed c cs ss clients committed in
    let i : ℕ = shard_index c d s in
    record {
      parties = ap (with_shards old.parties) (nodes_set ss ss' i (armed_shard k pick h) sites ∙ set_same (shard_nodes ss) i h.node (node_in ss i h at));
      disks = worked old (ShardServer d s) (Some (armed (disk_at old (ShardServer d s)) k pick)) (armed h.device k pick) (ap (λ (x : Device). Some (armed x k pick)) (shard_disk c cs ss clients committed d s h is_there at))
          ∙ ap Some (shard_disks old d s (armed h.device k pick) is_there) ∙ ap (λ (xs : List Device). Some (old.coords, xs)) (sym (devices_set ss ss' i (armed_shard k pick h) sites));
      sends = refl;
      prints = sym (append-nil lines);
      whole = refl;
    }

pub shard_arm_at : (c : Layout) (cs : List CoordSite) (ss ss' : List ShardSite) (clients : Table ℕ Client) (committed : List (ℕ × List Entry)) (q : Housed) (d s k pick : ℕ) (lines : List Line)
    → housed c cs ss clients committed ≡ q → is_shard_of c d s ≡ true → shard_index c d s < length ss
    → ((h : ShardSite) → slice_get ss (shard_index c d s) ≡ Some h → ss' ≡ slice_set ss (shard_index c d s) (armed_shard k pick h))
    → Acted Idle (arm_work q (ShardServer d s) k pick) q (housed c cs ss' clients committed) [] lines lines
shard_arm_at c cs ss ss' clients committed q d s k pick lines is is_there within cuts =
    subst (λ (r : Housed). Acted Idle (arm_work r (ShardServer d s) k pick) r (housed c cs ss' clients committed) [] lines lines) is (by_site (slice_get ss (shard_index c d s)) refl)
  where
    by_site : (o : Option ShardSite) → slice_get ss (shard_index c d s) ≡ o
        → Acted Idle (arm_work (housed c cs ss clients committed) (ShardServer d s) k pick) (housed c cs ss clients committed) (housed c cs ss' clients committed) [] lines lines
    by_site None at = absurd (within_some ss (shard_index c d s) within at)
    by_site (Some h) at = shard_arm c cs ss ss' clients committed d s k pick h lines is_there at (cuts h at)

-- A START
starts_at : (p : Parties) (d s : ℕ) → is_shard_of p.layout d s ≡ true
    → restarts p (ShardServer d s) ≡ maybe (slice_get p.shards (shard_index p.layout d s)) Idle (λ (x : ShardNode). by_shard p.layout d s (shard_started x.log) Catches)
starts_at p d s is = rw is refl

shard_start : (c : Layout) (cs : List CoordSite) (ss ss' : List ShardSite) (clients : Table ℕ Client) (committed : List (ℕ × List Entry)) (d s : ℕ) (h : ShardSite) (out : Posts) (lines : List Line)
    → is_shard_of c d s ≡ true → slice_get ss (shard_index c d s) ≡ Some h → ShardStarts d (shard_index c d s) h ss ss' out
    → Acted (restarts (housed c cs ss clients committed).parties (ShardServer d s)) (start_work (housed c cs ss clients committed) (ShardServer d s)) (housed c cs ss clients committed) (housed c cs ss' clients committed) out lines lines
shard_start c cs ss ss' clients committed d s h out lines is_there at starts =
    let old : Housed = housed c cs ss clients committed in
    let new : Housed = housed c cs ss' clients committed in
    let i : ℕ = shard_index c d s in
    let is : restarts old.parties (ShardServer d s) ≡ by_shard c d s (shard_started h.node.log) Catches =
    starts_at old.parties d s is_there ∙ ap (λ (o : Option ShardNode). maybe o Idle (λ (x : ShardNode). by_shard c d s (shard_started x.log) Catches)) (node_in ss i h at) in
    subst (λ (deed : Deed). Acted deed (start_work old (ShardServer d s)) old new out lines lines) (sym is)
    (record {
      parties = ap (with_shards old.parties) (nodes_set ss ss' i starts.left starts.sites ∙ ap (slice_set (shard_nodes ss) i) starts.node);
      disks = worked old (ShardServer d s) (opened_once (disk_at old (ShardServer d s))) starts.left.device (ap opened_once (shard_disk c cs ss clients committed d s h is_there at) ∙ starts.device)
          ∙ ap Some (shard_disks old d s starts.left.device is_there) ∙ ap (λ (xs : List Device). Some (old.coords, xs)) (sym (devices_set ss ss' i starts.left starts.sites));
      sends = starts.sends;
      prints = sym (append-nil lines);
      whole = refl;
    })

pub shard_start_at : (c : Layout) (cs : List CoordSite) (ss ss' : List ShardSite) (clients : Table ℕ Client) (committed : List (ℕ × List Entry)) (q : Housed) (d s : ℕ) (out : Posts) (lines : List Line)
    → housed c cs ss clients committed ≡ q → is_shard_of c d s ≡ true → shard_index c d s < length ss
    → ((h : ShardSite) → slice_get ss (shard_index c d s) ≡ Some h → ShardStarts d (shard_index c d s) h ss ss' out)
    → Acted (restarts q.parties (ShardServer d s)) (start_work q (ShardServer d s)) q (housed c cs ss' clients committed) out lines lines
shard_start_at c cs ss ss' clients committed q d s out lines is is_there within starts =
    subst (λ (r : Housed). Acted (restarts r.parties (ShardServer d s)) (start_work r (ShardServer d s)) r (housed c cs ss' clients committed) out lines lines) is (by_site (slice_get ss (shard_index c d s)) refl)
  where
    by_site : (o : Option ShardSite) → slice_get ss (shard_index c d s) ≡ o
        → Acted (restarts (housed c cs ss clients committed).parties (ShardServer d s)) (start_work (housed c cs ss clients committed) (ShardServer d s)) (housed c cs ss clients committed) (housed c cs ss' clients committed) out lines lines
    by_site None at = absurd (within_some ss (shard_index c d s) within at)
    by_site (Some h) at = shard_start c cs ss ss' clients committed d s h out lines is_there at (starts h at)

-- A SHARD SERVER OUTSIDE THE WORLD: nobody starts, and no disk changes
abbrev same_disks : List Device → List Device → ℕ → Bool → List Device × List Device
same_disks coords shards i b = if b then (coords, slice_set shards i no_device) else (coords, shards)

pub shard_start_outside : (c : Layout) (cs : List CoordSite) (ss : List ShardSite) (clients : Table ℕ Client) (committed : List (ℕ × List Entry)) (q : Housed) (d s : ℕ) (out : Posts) (lines : List Line)
    → housed c cs ss clients committed ≡ q → (is_shard_of c d s ≡ true → length ss ≤ shard_index c d s) → out ≡ []
    → Acted (restarts q.parties (ShardServer d s)) (start_work q (ShardServer d s)) q q out lines lines
shard_start_outside c cs ss clients committed q d s out lines is past none =
    let old : Housed = housed c cs ss clients committed in
    let nobody : restarts old.parties (ShardServer d s) ≡ Idle =
    ap (λ (o : Option ShardNode). maybe o Idle (λ (x : ShardNode). by_shard c d s (shard_started x.log) Catches)) (nobody_at c cs ss clients committed d s past) in
    subst (λ (r : Housed). Acted (restarts r.parties (ShardServer d s)) (start_work r (ShardServer d s)) r r out lines lines) is
    (subst (λ (deed : Deed). Acted deed (start_work old (ShardServer d s)) old old out lines lines) (sym nobody)
    (record {
      parties = refl;
      disks = worked old (ShardServer d s) (opened_once (disk_at old (ShardServer d s))) no_device (ap opened_once (no_disk (is_shard_of c d s) past)) ∙ ap Some (same (is_shard_of c d s) past);
      sends = none;
      prints = sym (append-nil lines);
      whole = refl;
    }))
  where
    no_disk : (b : Bool) → (b ≡ true → length ss ≤ shard_index c d s) → (if b then device_in (shard_devices ss) (shard_index c d s) else no_device) ≡ no_device
    no_disk true far =
        ap (λ (o : Option Device). maybe o no_device (λ x. x))
        (slice_get-map (λ (x : ShardSite). x.device) ss (shard_index c d s) ∙ ap (option_map (λ (x : ShardSite). x.device)) (slice_get_past ss (shard_index c d s) (far refl)))
    no_disk false far = refl

    same : (b : Bool) → (b ≡ true → length ss ≤ shard_index c d s) → same_disks (coord_devices cs) (shard_devices ss) (shard_index c d s) b ≡ (coord_devices cs, shard_devices ss)
    same true far =
        ap (λ (xs : List Device). (coord_devices cs, xs)) (sym (map-set (λ (x : ShardSite). x.device) ss (shard_index c d s) (record { node = shard_started []; device = no_device }))
        ∙ ap shard_devices (set_past ss (shard_index c d s) (record { node = shard_started []; device = no_device }) (far refl)))
    same false far = refl

-- One node with its disk among all, changed by a call at its place.
use Rattle.std.proofs.Common.{◌≡◌, ℕ, ◌++◌, List, [], Some, get_or, refl, sym, ◌∙◌, ap}
use Rattle.std.specs.Prelude.{slice_get, slice_set}
use Rattle.rc_ids.specs.Cluster.{Layout}
use Rattle.rc_protocol.specs.Messages.{Posts}
use Rattle.rc_protocol.specs.Coordinator.{do_catch as coord_catches, new_volatile as new_coord_volatile}
use Rattle.rc_protocol.specs.Shard.{do_catch as shard_catches, new_volatile as new_shard_volatile}
use Rattle.rc_protocol.specs.Nodes.{CoordNode, ShardNode, coord_index, coord_started, shard_started}
use Rattle.rc_runs.specs.Devices.{Device, opened_once}
use Rattle.rc_plain_world.specs.Hosts.{CoordSite, ShardSite}
use Rattle.rc_plain_world.specs.Acted.{CoordStarts, ShardStarts}
use Rattle.rc_plain_world.proofs.Sites.{taken}

pub coord_is : (x : CoordSite) (n : CoordNode) (d : Device) → x.node ≡ n → x.device ≡ d → let y : CoordSite = record { node = n; device = d } in x ≡ y
coord_is x n d node device =
    ap (λ (m : CoordNode). let y : CoordSite = record { node = m; device = x.device } in y) node ∙ ap (λ (e : Device). let y : CoordSite = record { node = n; device = e } in y) device

pub shard_is : (x : ShardSite) (n : ShardNode) (d : Device) → x.node ≡ n → x.device ≡ d → let y : ShardSite = record { node = n; device = d } in x ≡ y
shard_is x n d node device =
    ap (λ (m : ShardNode). let y : ShardSite = record { node = m; device = x.device } in y) node ∙ ap (λ (e : Device). let y : ShardSite = record { node = n; device = e } in y) device

-- the site read at place i, which is j, was changed to what f makes of it
pub coord_edit : (cs : List CoordSite) (i j : ℕ) (v left h : CoordSite) (f : CoordSite → CoordSite) → i ≡ j → v ≡ get_or cs i v → left.node ≡ (f v).node → left.device ≡ (f v).device
    → slice_get cs j ≡ Some h → slice_set cs i left ≡ slice_set cs j (f h)
coord_edit cs i j v left h f place read node device at =
    let same : v ≡ h = taken cs i v h read (ap (slice_get cs) place ∙ at) in
    ap (λ (k : ℕ). slice_set cs k left) place ∙ ap (slice_set cs j) (coord_is left (f v).node (f v).device node device ∙ ap f same)

pub shard_edit : (ss : List ShardSite) (i : ℕ) (v left h : ShardSite) (f : ShardSite → ShardSite) → v ≡ get_or ss i v → left.node ≡ (f v).node → left.device ≡ (f v).device
    → slice_get ss i ≡ Some h → slice_set ss i left ≡ slice_set ss i (f h)
shard_edit ss i v left h f read node device at =
    let same : v ≡ h = taken ss i v h read at in
    ap (slice_set ss i) (shard_is left (f v).node (f v).device node device ∙ ap f same)

pub coord_begins : (c : Layout) (d : ℕ) (cs : List CoordSite) (i : ℕ) (v left h : CoordSite) (none out : Posts) → i ≡ coord_index d → v ≡ get_or cs i v
    → left.node ≡ coord_started v.node.log → opened_once v.device ≡ Some left.device → none ≡ [] → out ≡ none ++ (coord_catches c d new_coord_volatile).sends
    → slice_get cs (coord_index d) ≡ Some h → CoordStarts c d h cs (slice_set cs i left) out
coord_begins c d cs i v left h none out place read node device empty sends at =
    let same : v ≡ h = taken cs i v h read (ap (slice_get cs) place ∙ at) in
    record {
      left = left;
      node = node ∙ ap (λ (x : CoordSite). coord_started x.node.log) same;
      device = ap (λ (x : CoordSite). opened_once x.device) (sym same) ∙ device;
      sites = ap (λ (k : ℕ). slice_set cs k left) place;
      sends = sends ∙ ap (λ (ms : Posts). ms ++ (coord_catches c d new_coord_volatile).sends) empty;
    }

pub shard_begins : (d : ℕ) (ss : List ShardSite) (i : ℕ) (v left h : ShardSite) (none out : Posts) → v ≡ get_or ss i v
    → left.node ≡ shard_started v.node.log → opened_once v.device ≡ Some left.device → none ≡ [] → out ≡ none ++ (shard_catches d new_shard_volatile).sends
    → slice_get ss i ≡ Some h → ShardStarts d i h ss (slice_set ss i left) out
shard_begins d ss i v left h none out read node device empty sends at =
    let same : v ≡ h = taken ss i v h read at in
    record {
      left = left;
      node = node ∙ ap (λ (x : ShardSite). shard_started x.node.log) same;
      device = ap (λ (x : ShardSite). opened_once x.device) (sym same) ∙ device;
      sites = refl;
      sends = sends ∙ ap (λ (ms : Posts). ms ++ (shard_catches d new_shard_volatile).sends) empty;
    }

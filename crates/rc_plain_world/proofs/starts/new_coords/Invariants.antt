use Rattle.std.proofs.Common.{◌≡◌, ◌≤◌, ℕ}
use Rattle.rc_ids.specs.declared.names.NodeId.TheVariants.{Coord}
use Rattle.rc_plain_world.specs.Starts.{coord_sites, Begins}
use Rattle.rc_plain_world.proofs.starts.new_coords.Given as goal

abbrev pub invariant-loop-count : goal.invariant-loop-count
invariant-loop-count l = record {
  sites : l.hosts.items ≡ coord_sites l.cluster l.count;
  begin : (d : ℕ) → 1 ≤ d → d ≤ l.count → Begins l.cluster (Coord d);
}

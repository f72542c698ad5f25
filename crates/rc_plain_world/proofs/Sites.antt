-- Lists of nodes with their disks.
use Rattle.std.proofs.Common.{◌≡◌, ℕ, zero, suc, get_or, List, [], ◌∷◌, Some}
use Rattle.std.specs.Prelude.{slice_get}
use Rattle.std.specs.Option.{option_map}
use Rattle.std.proofs.lemmas.Option.{slice_get-map}
use Rattle.rc_plain_world.specs.Hosts.{CoordSite, ShardSite, coord_nodes, shard_nodes}

pub node_at : (sites : List CoordSite) (i : ℕ) → slice_get (coord_nodes sites) i ≡ option_map (λ (s : CoordSite). s.node) (slice_get sites i)
node_at sites i = slice_get-map (λ (s : CoordSite). s.node) sites i

-- the element at a place, which an index read
pub taken : {X : Type 0} (xs : List X) (i : ℕ) (v h : X) → v ≡ get_or xs i v → slice_get xs i ≡ Some h → v ≡ h
taken [] i v h is at = cc
taken (x ∷ xs) zero v h is at = cc
taken (x ∷ xs) (suc i) v h is at = taken xs i v h is at

pub shard_node_at : (sites : List ShardSite) (i : ℕ) → slice_get (shard_nodes sites) i ≡ option_map (λ (s : ShardSite). s.node) (slice_get sites i)
shard_node_at sites i = slice_get-map (λ (s : ShardSite). s.node) sites i

-- What the next ballot of a datacentre is.
use Rattle.std.specs.Prelude.{◌≡◌, ◌≢◌, ℕ, ◌<◌}
use Rattle.rc_ids.specs.Cluster.{Layout, owner_of}

-- b is the least ballot of d above the given one
pub record IsLeastBallot (c : Layout) (d low b : ℕ) : Type 0 where
  pub above : low < b
  pub own : owner_of c b ≡ d
  pub least : (k : ℕ) → low < k → k < b → owner_of c k ≢ d

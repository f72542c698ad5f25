-- The three laws of quorums.
use Rattle.std.specs.Prelude.{ℕ, IsTrue, List}
use Rattle.rc_ids.specs.Tables.{In}
use Rattle.rc_ids.specs.Cluster.{Layout, is_quorum, is_dc, all_dcs}

pub record QuorumLaws (c : Layout) : Type 0 where
  -- two quorums share a datacentre
  pub share : (a b : List ℕ) → IsTrue (is_quorum c a) → IsTrue (is_quorum c b)
      → (d : ℕ) × In d a × In d b × IsTrue (is_dc c d)
  -- a set that holds a quorum is a quorum
  pub more : (a b : List ℕ) → ((d : ℕ) → In d a → In d b) → IsTrue (is_quorum c a) → IsTrue (is_quorum c b)
  -- all datacentres are a quorum
  pub all : IsTrue (is_quorum c (all_dcs c))

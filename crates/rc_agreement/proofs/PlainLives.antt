-- Plain lives: each begins with the very logs that the one before left. The laws are proved of these first.
use Rattle.std.specs.Prelude.{List, [], ◌∷◌, map}
use Rattle.rc_ids.specs.Cluster.{Layout}
use Rattle.rc_protocol.specs.Nodes.{CoordNode, ShardNode, coord_started, shard_started}
use Rattle.rc_runs.specs.World.{World, Start, started_world, new_world}
use Rattle.rc_runs.specs.Refusals.{Happening, run}
use Rattle.rc_claims.specs.Lives.{IsStartOf}

-- the nodes of v start again from their logs
abbrev pub reopened : World → Start → World
reopened v start =
    started_world v.parties.layout start (map (λ (x : CoordNode). coord_started x.log) v.parties.coords) (map (λ (x : ShardNode). shard_started x.log) v.parties.shards)

pub data IsPlainLife (c : Layout) : List World → World → Type 0 where
  First : (hs : List Happening) → IsPlainLife c [] (run (new_world c) hs)
  Next : (earlier : List World) (v : World) (start : Start) (hs : List Happening) → IsPlainLife c earlier v → IsStartOf v start → IsPlainLife c (v ∷ earlier) (run (reopened v start) hs)

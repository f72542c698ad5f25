-- After a run from a new world, nothing names a transaction that has not begun.
use Rattle.std.proofs.Common.{List, [], sym, subst}
use Rattle.rc_ids.specs.Cluster.{Layout}
use Rattle.rc_runs.specs.World.{new_world}
use Rattle.rc_runs.specs.Refusals.{Happening, run}
use Rattle.rc_quiet.proofs.CoordBlankRows.{CoordBlank}
use Rattle.rc_quiet.proofs.ShardBlankRows.{ShardBlank}
use Rattle.rc_quiet.proofs.BlankStarts.{coord_starts_blank, shard_starts_blank}
use Rattle.rc_quiet.proofs.UnknownRuns.{Unnamed, unnamed_over}
use Rattle.rc_quiet.proofs.FactsRuns.{facts_of, basics_at}
use Rattle.rc_quiet.proofs.FirstFacts.{new_coord, new_shard, new_basics}

new_unnamed : (c : Layout) → Unnamed (new_world c)
new_unnamed c =
    record {
      unknown = λ t new. record {
        sent_blank = λ e i. absurd i;
        coords = λ d x is. subst (CoordBlank t) (sym (new_coord c d x is)) (coord_starts_blank t [] (λ i. i));
        shards = λ d sh x is. subst (ShardBlank t) (sym (new_shard c d sh x is)) (shard_starts_blank t [] (λ i. i));
      };
      sent_before = λ n i. absurd i;
    }

pub first_unnamed : (c : Layout) (earlier : List Happening) → Unnamed (run (new_world c) earlier)
first_unnamed c earlier = unnamed_over c (new_world c) earlier (λ v i. facts_of c v.parties (basics_at c (new_world c) earlier (new_basics c) v i)) (new_unnamed c)

use Rattle.std.proofs.Common.{ℕ, List, sym, ap, ◌∙◌}
use Rattle.rc_vote.specs.Gathers.{shard_gather}
use Rattle.rc_coord_tables.specs.Gathers.{gather_of}
use Rattle.rc_coord.specs.Sites.{durable_of, volatile_of}
use Rattle.rc_coord.proofs.RowFacts.{none_copied, some_test}
use Rattle.rc_coord.proofs.GatherRows.{asks-there, waits-decided, waits-none, waits-there}
use Rattle.rc_coord.proofs.PreparedFacts.{waits-outside}
use Rattle.rc_coord.proofs.preparing.waiting.Goals as goal

pub returns-then-not-has_shard-clause-gather : goal.returns-then-not-has_shard-clause-gather
returns-then-not-has_shard-clause-gather c =
    waits-outside c.args.cluster.now (durable_of c.args.tables.now) (volatile_of c.args.tables.now) c.args.tx c.args.shard
    c.has_shard.ensures.layout (sym c.has_shard.ensures.test ∙ c.if-not-has_shard.true)

pub returns-then-is_some-clause-gather : goal.returns-then-is_some-clause-gather
returns-then-is_some-clause-gather c =
    waits-decided c.args.cluster.now 0 (durable_of c.args.tables.now) (volatile_of c.args.tables.now) c.args.tx c.args.shard
    (some_test c.get.result c.get.ensures (sym c.is_some.ensures ∙ c.if-is_some.true))

pub returns-in-None-clause-gather : goal.returns-in-None-clause-gather
returns-in-None-clause-gather c =
    waits-none c.args.cluster.now 0 (durable_of c.args.tables.now) (volatile_of c.args.tables.now) c.args.tx c.args.shard
    (none_copied c.get.result c.get.ensures (sym c.is_some.ensures ∙ c.if-is_some.false)) c.in-None.ensures.table

pub returns-in-Some-clause-gather : goal.returns-in-Some-clause-gather
returns-in-Some-clause-gather c =
    let asked = c.in-Some.asked.now in
    c.if_waiting.ensures
    ∙ waits-there c.args.cluster.now 0 (durable_of c.args.tables.now) (volatile_of c.args.tables.now) c.args.tx c.args.shard (gather_of asked) asked.gather
    (sym c.has_shard.ensures.test ∙ c.if-not-has_shard.false)
    (none_copied c.get.result c.get.ensures (sym c.is_some.ensures ∙ c.if-is_some.false)) c.in-Some.ensures.table
    (ap (λ (shards : List ℕ). shard_gather shards asked.gather.ballot asked.gather.yes)
    (asks-there c.args.cluster.now c.args.tables.now.gathers c.args.tx (gather_of asked) asked.gather.touched c.requires c.in-Some.ensures.table c.in-Some.ensures.asked))

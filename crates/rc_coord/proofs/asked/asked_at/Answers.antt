use Rattle.std.proofs.Common.{[], refl, sym, ap, ◌∙◌}
use Rattle.std.proofs.lemmas.Result.{IfOk-weaker}
use Rattle.rc_body.specs.Bodies.{touched}
use Rattle.rc_vote.specs.Gathers.{raised, shard_gather}
use Rattle.rc_coord_tables.specs.declared.gathers.Asked.{Asked}
use Rattle.rc_coord_tables.specs.Gathers.{gather_of, asked_of}
use Rattle.rc_coord.proofs.GatherRows.{first-is, again-is, asks-there}
use Rattle.rc_coord.proofs.asked.asked_at.Goals as goal

pub returns-in-None-clause-gather : goal.returns-in-None-clause-gather
returns-in-None-clause-gather c =
    IfOk-weaker c.first_asked.result _ _
    (λ (a : Asked) is. ap gather_of is
    ∙ first-is c.args.gathers.now.table c.args.tx c.args.ballot c.args.cluster.now c.args.body.now (raised (shard_gather (touched c.args.cluster.now c.args.body.now) 0 []) c.args.ballot) c.in-None.ensures.table refl)
    c.first_asked.ensures

pub returns-in-None-clause-asked : goal.returns-in-None-clause-asked
returns-in-None-clause-asked c =
    IfOk-weaker c.first_asked.result _ _ (λ (a : Asked) is. ap asked_of is ∙ sym (ap (λ (x : Asked). touched c.args.cluster.now (gather_of x).body) is)) c.first_asked.ensures

pub returns-in-Some-clause-gather : goal.returns-in-Some-clause-gather
returns-in-Some-clause-gather c =
    let old = c.in-Some.asked.now in
    IfOk-weaker c.asked_again.result _ _
    (λ (a : Asked) is. ap gather_of is ∙ again-is c.args.gathers.now.table c.args.tx c.args.ballot c.args.body.now (gather_of old) (raised old.gather c.args.ballot) old.gather c.in-Some.ensures.table refl refl)
    c.asked_again.ensures

pub returns-in-Some-clause-asked : goal.returns-in-Some-clause-asked
returns-in-Some-clause-asked c =
    let old = c.in-Some.asked.now in
    IfOk-weaker c.asked_again.result _ _
    (λ (a : Asked) is. ap asked_of is
    ∙ asks-there c.args.cluster.now c.args.gathers.now c.args.tx (gather_of old) old.gather.touched c.requires c.in-Some.ensures.table c.in-Some.ensures.asked
    ∙ sym (ap (λ (x : Asked). touched c.args.cluster.now (gather_of x).body) is))
    c.asked_again.ensures

use Rattle.std.proofs.Common.{sym, ◌∙◌}
use Rattle.std.proofs.lemmas.Result.{on_ok_weaker}
use Rattle.rc_plain_shard.proofs.Acted.{prepare_refused}
use Rattle.rc_plain_shard.proofs.shard.Shard.prepare.Goals as goal

pub returns-in-Some : goal.returns-in-Some
returns-in-Some c =
    on_ok_weaker c.answer-in-Some.result
    (prepare_refused c.args.dc c.args.shard c.args.tx c.args.self.now c.args.part.now c.in-Some.reason c.args.out.now c.answer-in-Some.new.out
    (sym c.is_finished.ensures ∙ c.if-is_finished.false) (sym c.is_prepared.ensures ∙ c.if-is_prepared.false)
    (sym c.in-Some.ensures))
    c.answer-in-Some.ensures

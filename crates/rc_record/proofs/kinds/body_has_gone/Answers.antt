use Rattle.std.proofs.Common.{sym, ◌∙◌}
use Rattle.rc_body.specs.Entries.{entry_seen}
use Rattle.rc_record.specs.Kinds.{writes_gone}
use Rattle.rc_record.proofs.Rest.{any_here, any_later}
use Rattle.rc_record.proofs.kinds.body_has_gone.Goals as goal

pub returns-then-some_gone : goal.returns-then-some_gone
returns-then-some_gone c =
    any_here writes_gone c.args.body.now c.loop-index.index (entry_seen c.entry-entry.result) c.entry-entry.ensures c.loop-index.invariant
    (sym c.some_gone.ensures ∙ c.if-some_gone.true)

pub loop-index-preserved : goal.loop-index-preserved
loop-index-preserved c =
    any_later writes_gone c.args.body.now c.loop-index.index (entry_seen c.entry-entry.result) c.entry-entry.ensures c.loop-index.invariant
    (sym c.some_gone.ensures ∙ c.if-some_gone.false)

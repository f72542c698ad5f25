use Rattle.std.proofs.Common.{sym, ◌∙◌}
use Rattle.rc_client.proofs.DropFacts.{dropped-written, dropped-unwritten}
use Rattle.rc_client.proofs.slots.Slots.drop_read.Goals as goal

pub returns-then-is_written : goal.returns-then-is_written
returns-then-is_written c =
    c.set_read.ensures
    ∙ dropped-written c.args.self.now c.args.key.now c.is_written.ensures.slots.apart (sym c.is_written.ensures.written ∙ c.if-is_written.true)

pub returns-else-is_written : goal.returns-else-is_written
returns-else-is_written c =
    c.remove.ensures
    ∙ dropped-unwritten c.args.self.now c.args.key.now c.is_written.ensures.slots.apart (sym c.is_written.ensures.written ∙ c.if-is_written.false)

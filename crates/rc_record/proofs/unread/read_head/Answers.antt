use Rattle.std.proofs.Common.{ℕ, List, Option, subst}
use Rattle.rc_fields.specs.Formats.{Tells}
use Rattle.rc_record.specs.Heads.{LogHead}
use Rattle.rc_record.proofs.HeadLaws.{head_at-front, head_at-none}
use Rattle.rc_record.proofs.unread.read_head.Goals as goal

pub returns-in-Some : goal.returns-in-Some
returns-in-Some c =
    subst (λ (read : Option (LogHead × List ℕ)). Tells c.read_behind.result c.read_behind.new.fields read)
    (head_at-front c.args.fields.now c.read_front.new.fields c.in-Some.front c.in-Some.ensures) c.read_behind.ensures

pub returns-in-None : goal.returns-in-None
returns-in-None c = head_at-none c.args.fields.now c.in-None.ensures

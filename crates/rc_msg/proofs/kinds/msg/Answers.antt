use Rattle.std.proofs.Common.{◌≡◌, ℕ, List, Option, Some, sym, subst}
use Rattle.std.specs.Prelude.{IfOk}
use Rattle.rc_fields.specs.Formats.{Gives, pick}
use Rattle.rc_fields.specs.Names.{byte_at}
use Rattle.rc_fields.proofs.Behind.{behind_byte, behind_none}
use Rattle.rc_msg.specs.declared.msg.Msg.{Msg}
use Rattle.rc_msg.specs.Reading.{kinds_at, msg_at}
use Rattle.rc_msg.proofs.kinds.msg.Goals as goal

-- what the kind chooses is the message
chosen : (bytes rest : List ℕ) (kind : ℕ) → byte_at bytes ≡ Some (kind, rest) → pick kinds_at kind rest ≡ msg_at bytes
unfolding msg_at
chosen bytes rest kind e = sym (behind_byte (pick kinds_at) bytes kind rest e)

pub returns-in-Some : goal.returns-in-Some
returns-in-Some c =
    subst (λ (read : Option (Msg × List ℕ)). IfOk c.of_kind.result (λ found. Gives found c.of_kind.new.fields read))
    (chosen c.args.fields.now c.byte.new.self c.in-Some.kind c.in-Some.ensures.gives) c.of_kind.ensures

pub returns-in-None : goal.returns-in-None
unfolding msg_at
returns-in-None c = behind_none (pick kinds_at) c.args.fields.now c.in-None.ensures.gives

use Rattle.std.proofs.Common.{◌≡◌, ℕ, List, Option, Some, None, sym, subst, ◌∙◌}
use Rattle.rc_fields.specs.Formats.{Tells, pick}
use Rattle.rc_fields.specs.Names.{byte_at}
use Rattle.rc_fields.proofs.Behind.{behind_byte, behind_none}
use Rattle.rc_record.specs.declared.record.Record.{Record}
use Rattle.rc_record.specs.Reading.{kinds_at, record_at}
use Rattle.rc_record.proofs.unread.read_record.Goals as goal

-- what the kind chooses is the record
chosen : (bytes rest : List ℕ) (kind : ℕ) → byte_at bytes ≡ Some (kind, rest) → pick kinds_at kind rest ≡ record_at bytes
unfolding record_at
chosen bytes rest kind e = sym (behind_byte (pick kinds_at) bytes kind rest e)

pub returns-in-Some : goal.returns-in-Some
returns-in-Some c =
    subst (λ (read : Option (Record × List ℕ)). Tells c.read_kind.result c.read_kind.new.fields read)
    (chosen c.args.fields.now c.byte.new.self c.in-Some.kind c.in-Some.ensures.gives) c.read_kind.ensures

pub returns-in-None : goal.returns-in-None
unfolding record_at
returns-in-None c = behind_none (pick kinds_at) c.args.fields.now c.in-None.ensures.gives

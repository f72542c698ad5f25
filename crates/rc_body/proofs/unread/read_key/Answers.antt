use Rattle.std.proofs.Common.{◌≡◌, ℕ, List, Some, None, Result, Ok, Err, refl}
use Rattle.std.specs.Prelude.{IfOk}
use Rattle.std.specs.Result.{result_ok}
use denote.Bor.{Bor}
use Rattle.rc_ids.specs.Texts.{key_fault}
use Rattle.rc_ids.specs.declared.fault.TextFault.{TextFault}
use Rattle.rc_fields.specs.declared.fault.FieldFault.{FieldFault}
use Rattle.rc_fields.specs.Reading.{counted_at}
use Rattle.rc_fields.specs.Formats.{tested_at}
use Rattle.rc_fields.specs.Names.{key_at, short_at}
use Rattle.rc_fields.proofs.NameLaws.{is_key-at_fault}
use Rattle.rc_body.proofs.unread.read_key.Goals as goal

refused : (r : Result (Bor (List ℕ)) FieldFault) (bytes : List ℕ) (text : Bor (List ℕ)) (after : List ℕ) (fault : TextFault)
    → IfOk r (λ v. counted_at 64 bytes ≡ Ok (v.now, after)) → Some text ≡ result_ok r → key_fault text.now ≡ Some fault → key_at bytes ≡ None
unfolding key_at short_at tested_at
refused (Ok v) bytes text after fault read same e =
    let one : v ≡ text = cc in
    rw (read, one, is_key-at_fault text.now fault e) refl
refused (Err f) bytes text after fault read same e = absurd cc

pub returns-in-Err : goal.returns-in-Err
returns-in-Err c =
    refused c.counted.result c.args.fields.now c.in_ok-bytes.bytes c.counted.new.self c.in-Err.field-0 c.counted.ensures.ok c.in_ok-bytes.ensures.value c.in-Err.ensures.err

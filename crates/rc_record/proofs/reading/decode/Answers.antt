use Rattle.std.proofs.Common.{◌≡◌, ◌≢◌, ℕ, List, Option, Some, None, Result, Ok, Err, sym, ap, ◌∙◌, arith}
use Rattle.std.specs.Prelude.{IfOk, IfSome}
use Rattle.rc_fields.specs.Formats.{IsBytes}
use Rattle.rc_ids.specs.declared.memory.NoMemory.{NoMemory}
use Rattle.rc_record.specs.declared.record.Record.{Record}
use Rattle.rc_record.specs.Spelling.{record_bytes, HasRecord}
use Rattle.rc_record.specs.Reading.{decoded}
use Rattle.rc_record.proofs.RecordLaws.{Reads-decoded}
use Rattle.rc_record.proofs.reading.decode.Goals as goal

found : (bytes : List ℕ) (r : Option Record) → IsBytes bytes → r ≡ decoded bytes → IfSome r (λ e. (bytes ≡ record_bytes e) × HasRecord e)
found bytes None is told = tt
found bytes (Some e) is told = let t = Reads-decoded.takes bytes e is (sym told) in (t.1, t.0)

none : (bytes : List ℕ) (r : Option Record) → r ≡ decoded bytes → r ≡ None → (e : Record) → HasRecord e → bytes ≢ record_bytes e
none bytes r told nothing e has same = let no : None ≡ Some e = sym nothing ∙ told ∙ ap decoded same ∙ Reads-decoded.again e has in cc

found_ok : (bytes : List ℕ) (r : Result (Option Record) NoMemory) → IsBytes bytes → IfOk r (λ r. r ≡ decoded bytes)
    → IfOk r (λ r. IfSome r (λ e. (bytes ≡ record_bytes e) × HasRecord e))
found_ok bytes (Ok r) is told = found bytes r is told
found_ok bytes (Err e) is told = tt

none_ok : (bytes : List ℕ) (r : Result (Option Record) NoMemory) → IfOk r (λ r. r ≡ decoded bytes)
    → IfOk r (λ r. r ≡ None → (e : Record) → HasRecord e → bytes ≢ record_bytes e)
none_ok bytes (Ok r) told = none bytes r told
none_ok bytes (Err e) told = tt

pub returns-clause-found : goal.returns-clause-found
returns-clause-found c = found_ok c.args.bytes.now c.all_of.result (λ i. omega (arith, c.type_inv.bytes i)) c.all_of.ensures

pub returns-clause-none : goal.returns-clause-none
returns-clause-none c = none_ok c.args.bytes.now c.all_of.result c.all_of.ensures

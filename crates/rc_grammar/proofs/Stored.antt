-- The records that are read from the bytes of a log have a spelling.
use Rattle.std.proofs.Common.{◌≡◌, ℕ, zero, suc, ◌+◌, ◌<◌, ◌==◌, List, [], ◌∷◌, length, refl, subst, arith, Result, Ok, Err, drop}
use Rattle.std.specs.Prelude.{IfOk}
use Rattle.std.specs.List.{AllByRecursion}
use Rattle.rc_ids.specs.Tables.{maybe}
use Rattle.rc_fields.specs.Formats.{IsBytes}
use Rattle.rc_fields.specs.declared.fault.FieldFault.{FieldFault}
use Rattle.rc_log.specs.Records.{frame_at, with_front, framed, records_from, records}
use Rattle.rc_log.proofs.Frames.{has_frame}
use Rattle.rc_record.specs.Reading.{decoded}
use Rattle.rc_record.specs.Spelling.{HasRecord}
use Rattle.rc_record.specs.declared.record.Record.{Record}
use Rattle.rc_record.specs.declared.record.Record.TheVariants.{Head, Prepared, Finished, Promised, Accepted, Decided}
use Rattle.rc_record.proofs.RecordLaws.{Reads-decoded}
use Rattle.rc_runs.specs.Stored.{without_head, records_of}
use Rattle.rc_grammar.specs.Acts.{HasLog}
use Rattle.rc_grammar.proofs.Lists.{on_cond, on_maybe, all_take, all_drop, all_flat}

abbrev IsByte : ℕ → Type 0
IsByte b = b < 256

bytes_each : (bytes : List ℕ) → IsBytes bytes → AllByRecursion IsByte bytes
bytes_each [] h = tt
bytes_each (b ∷ bytes) h = (h 0, bytes_each bytes (λ i. h (suc i)))

each_bytes : (bytes : List ℕ) → AllByRecursion IsByte bytes → IsBytes bytes
each_bytes [] h i = omega arith
each_bytes (b ∷ bytes) h zero = h.0
each_bytes (b ∷ bytes) h (suc i) = each_bytes bytes h.1 i

abbrev AreBytes : Result (List (List ℕ)) ℕ → Type 0
AreBytes found = IfOk found (λ rs. AllByRecursion IsBytes rs)

front_bytes : (r : List ℕ) (found : Result (List (List ℕ)) ℕ) → IsBytes r → AreBytes found → AreBytes (with_front r found)
front_bytes r (Ok rs) h own = (h, own)
front_bytes r (Err place) h own = tt

framed_bytes : (place : ℕ) (bytes : List ℕ) (next : List ℕ → Result (List (List ℕ)) ℕ) → AllByRecursion IsByte bytes → ((r : List ℕ) → AreBytes (next r)) → AreBytes (framed place (frame_at bytes) next)
framed_bytes place bytes next h later = go (frame_at bytes) refl
  where
    go : (found : Result (List ℕ × List ℕ) FieldFault) → frame_at bytes ≡ found → AreBytes (framed place found next)
    go (Err fault) at = tt
    go (Ok frame) at =
        let own : IsBytes frame.0 = each_bytes frame.0 (subst (AllByRecursion IsByte) (has_frame bytes frame at).text (all_take IsByte (length frame.0) (drop 4 bytes) (all_drop IsByte 4 bytes h))) in
        front_bytes frame.0 (next frame.0) own (later frame.0)

records_bytes : (place skip : ℕ) (bytes : List ℕ) → AllByRecursion IsByte bytes → AreBytes (records_from place skip bytes)
unfolding records_from
records_bytes place zero [] h = tt
records_bytes place (suc skip) [] h = tt
records_bytes place zero (gate ∷ bytes) h =
    on_cond AreBytes (gate == 1) _ (Ok [])
    (λ _. framed_bytes place bytes (λ r. records_from (place + 5 + length r) (4 + length r) bytes) h.1 (λ r. records_bytes (place + 5 + length r) (4 + length r) bytes h.1)) (λ _. tt)
records_bytes place (suc skip) (b ∷ bytes) h = records_bytes place skip bytes h.1

pub blobs_are_bytes : (bytes : List ℕ) → IsBytes bytes → AreBytes (records bytes)
blobs_are_bytes bytes h = records_bytes 0 0 bytes (bytes_each bytes h)

head_left : (r : Record) → HasRecord r → HasLog (without_head r)
head_left (Head h) own = tt
head_left (Prepared t part) own = (own, tt)
head_left (Finished page) own = (own, tt)
head_left (Promised t b) own = (own, tt)
head_left (Accepted t b o) own = (own, tt)
head_left (Decided page) own = (own, tt)

pub records_have : (blobs : List (List ℕ)) → AllByRecursion IsBytes blobs → HasLog (records_of blobs)
records_have blobs h =
    all_flat IsBytes HasRecord (λ (bytes : List ℕ). maybe (decoded bytes) [] without_head)
    (λ bytes own. on_maybe HasLog (decoded bytes) [] without_head (λ _. tt) (λ r is. head_left r (Reads-decoded.takes bytes r own is).0)) blobs h

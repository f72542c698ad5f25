-- The records of a log's bytes.
use Rattle.std.specs.Prelude.{ℕ, zero, suc, ◌+◌, ◌==◌, List, [], ◌∷◌, ◌++◌, length, sum_by, Result, Ok, Err, if◌then◌else◌}
use Rattle.rc_fields.specs.Spelling.{u32_bytes}
use Rattle.rc_fields.specs.Reading.{◌>>=◌, u32_at, bytes_at}
use Rattle.rc_fields.specs.declared.fault.FieldFault.{FieldFault}

-- the record whose length stands first, and what follows it, or that the bytes end before it does
abbrev pub frame_at : List ℕ → Result (List ℕ × List ℕ) FieldFault
frame_at bytes = u32_at bytes >>= λ n. bytes_at n.0 n.1

-- one record more at the front
abbrev pub with_front : List ℕ → Result (List (List ℕ)) ℕ → Result (List (List ℕ)) ℕ
with_front r (Ok rs) = Ok (r ∷ rs)
with_front r (Err place) = Err place

-- a frame and what follows it, or the place of its gate where it goes past the end
abbrev pub framed : ℕ → Result (List ℕ × List ℕ) FieldFault → (List ℕ → Result (List (List ℕ)) ℕ) → Result (List (List ℕ)) ℕ
framed place (Ok frame) next = with_front frame.0 (next frame.0)
framed place (Err fault) next = Err place

-- The records of the bytes behind the first so many, where a gate stands at the place. A gate is open where it is 1;
-- the first other one is the end. An error is the place of a gate that is not there, or whose frame goes past the end.
unfoldable pub records_from : ℕ → ℕ → List ℕ → Result (List (List ℕ)) ℕ
records_from place zero [] = Err place
records_from place (suc skip) [] = Err place
records_from place zero (gate ∷ bytes) =
    if gate == 1 then framed place (frame_at bytes) (λ r. records_from (place + 5 + length r) (4 + length r) bytes) else Ok []
records_from place (suc skip) (b ∷ bytes) = records_from place skip bytes

-- the records that bytes stand for, or the place of the damage
abbrev pub records : List ℕ → Result (List (List ℕ)) ℕ
records bytes = records_from 0 0 bytes

-- how many bytes these records take with their gates and lengths: the place of the gate behind them
abbrev pub size_of : List (List ℕ) → ℕ
size_of rs = sum_by (λ (r : List ℕ). length r + 5) rs

-- what stands behind the gate of a record: its length, the record, and the next gate, closed
abbrev pub behind_gate : List ℕ → List ℕ
behind_gate r = u32_bytes (length r) ++ r ++ 0 ∷ []

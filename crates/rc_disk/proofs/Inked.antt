-- Bytes written over others: how many there are then, and what stays in front of them.
use Rattle.std.proofs.Common.{◌≡◌, ℕ, ◌+◌, ◌≤◌, List, [], ◌∷◌, ◌++◌, length, take, drop, min, max, Option, None, refl, sym, ap, ◌∙◌, arith, append_assoc, length-append, length-drop}
use Rattle.std.proofs.lemmas.List.{take-append-le, length-take, length-take-le, take-take}
use Rattle.rc_disk.specs.Memory.{inked}

pub inked_none : (bytes : List ℕ) → inked None bytes ≡ bytes
inked_none [] = refl
inked_none (b ∷ bytes) = ap (λ (l : List ℕ). b ∷ l) (inked_none bytes)

pub length-inked : (fill : Option ℕ) (bytes : List ℕ) → length (inked fill bytes) ≡ length bytes
length-inked fill [] = refl
length-inked fill (b ∷ bytes) = omega (arith, length-inked fill bytes)

pub length-written : (place : ℕ) (old written : List ℕ) → place ≤ length old
    → length (take place old ++ written ++ drop (place + length written) old) ≡ max (length old) (place + length written)
length-written place old written le =
    omega (arith, length-append (take place old ++ written) (drop (place + length written) old), length-append (take place old) written, length-take place old, length-drop (place + length written) old)

-- what stands in front of the place of a write stays, and with it what is the same there
pub clean_written : (m n place : ℕ) (old synced rest : List ℕ) → m ≡ min n place → place ≤ length old → take n old ≡ take n synced
    → take m (take place old ++ rest) ≡ take m synced
clean_written m n place old synced rest is inside same =
    let front : length (take place old) ≡ place = length-take-le place old inside in
    let le_place : m ≤ place = omega arith in
    let le : m ≤ length (take place old) = omega (arith, front) in
    let le_n : m ≤ n = omega arith in
    take-append-le m (take place old) rest le ∙ take-take m place old le_place ∙ sym (take-take m n old le_n) ∙ ap (take m) same ∙ take-take m n synced le_n

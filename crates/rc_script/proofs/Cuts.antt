-- What `cut` gives, byte by byte.
use Rattle.std.proofs.Common.{◌≡◌, ℕ, suc, ◌+◌, ◌==◌, eqb, true, false, not, cond, ltb, List, [], ◌∷◌, length, Option, Some, None, refl, arith, inl, inr}
use Rattle.std.specs.List.{slice_split, prefix_len}
use Rattle.std.proofs.lemmas.Bool.{cases_Bool, cases_lt, lt-ltb, le-ltb}
use Rattle.std.proofs.lemmas.List.Splits.{slice_split-cons_yes, slice_split-cons_no}
use Rattle.rc_script.specs.Words.{cut, cut_at}

pub cut-cons_yes : (byte b : ℕ) (bs : List ℕ) → eqb b byte ≡ true → cut byte (b ∷ bs) ≡ ([], Some bs)
cut-cons_yes byte b bs e = let some : ltb 0 (suc (length bs)) ≡ true = lt-ltb _ _ (omega arith) in rw (e, some) refl

-- a byte more in front of the first word
abbrev pub in_front : ℕ → List ℕ × Option (List ℕ) → List ℕ × Option (List ℕ)
in_front b parts = (b ∷ parts.0, parts.1)

cut_further : (b k n : ℕ) (bs : List ℕ) → n ≡ length bs → cut_at (b ∷ bs) (cond (ltb (1 + k) (suc n)) (Some (1 + k)) None) ≡ in_front b (cut_at bs (cond (ltb k n) (Some k) None))
cut_further b k n bs e =
    let more : 1 + k ≡ suc k = omega arith in
    elim (cases_lt k n) [
      | inl lt ↦ let here : ltb k n ≡ true = lt-ltb _ _ lt in let there : ltb (suc k) (suc n) ≡ true = lt-ltb _ _ (omega arith) in let next : suc k + 1 ≡ suc (k + 1) = omega arith in rw (more, here, there) (rw next refl)
      | inr le ↦ let here : ltb k n ≡ false = le-ltb _ _ le in let there : ltb (suc k) (suc n) ≡ false = le-ltb _ _ (omega arith) in rw (more, here, there) refl
    ]

pub cut-cons_no : (byte b : ℕ) (bs : List ℕ) → eqb b byte ≡ false → cut byte (b ∷ bs) ≡ in_front b (cut byte bs)
cut-cons_no byte b bs e = rw e (cut_further b (prefix_len (λ x. not (eqb x byte)) bs) (length bs) bs refl)

-- the words of what is left
abbrev pub parts : ℕ → Option (List ℕ) → List (List ℕ)
parts byte None = []
parts byte (Some text) = slice_split (λ b. b == byte) text

pub slice_split-cut : (byte : ℕ) (text : List ℕ) → slice_split (λ b. b == byte) text ≡ (cut byte text).0 ∷ parts byte (cut byte text).1
slice_split-cut byte [] = refl
slice_split-cut byte (b ∷ bs) =
    elim (cases_Bool (eqb b byte)) [
      | inl is ↦ rw (cut-cons_yes byte b bs is, slice_split-cons_yes (λ b. eqb b byte) b bs is) refl
      | inr isnt ↦ rw (cut-cons_no byte b bs isnt, slice_split-cons_no (λ b. eqb b byte) b bs isnt, slice_split-cut byte bs) refl
    ]

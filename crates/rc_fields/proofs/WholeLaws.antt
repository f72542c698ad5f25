-- Values that all of the bytes spell.
use Rattle.std.proofs.Common.{◌≡◌, ◌==◌, ℕ, suc, false, arith, cond, List, [], ◌∷◌, ◌++◌, length, Option, Some, None, refl, ap, subst, sym, ◌∙◌}
use Rattle.std.proofs.lemmas.List.{append-nil}
use Rattle.rc_fields.specs.Formats.{IsBytes, Reader, Reads, Gives, ◌>>=◌}
use Rattle.rc_fields.specs.Whole.{at_end, all_of, ReadsAll}
use Rattle.rc_fields.proofs.FormatLaws.{bind_some}

none_left : {A : Type 0} (a b : A) (rest : List ℕ) → at_end (a, rest) ≡ Some b → (rest ≡ []) × (a ≡ b)
none_left a b [] e = (refl, cc)
none_left a b (r ∷ rest) e = absurd cc

pub Reads-all : {A : Type 0} (spelled : A → List ℕ) (fits : A → Type 0) (at : Reader A) → Reads spelled fits at → ReadsAll spelled fits (all_of at)
Reads-all {A} spelled fits at reads = record {
  takes = λ bytes a is e.
      let s = bind_some (at bytes) at_end a e in
      let n = none_left s.0.0 a s.0.1 s.2 in
      let t = reads.takes bytes s.0.0 s.0.1 is s.1 in
      subst (λ b. fits b × (bytes ≡ spelled b)) n.1
      (t.0, t.1 ∙ ap (λ w. spelled s.0.0 ++ w) n.0 ∙ append-nil (spelled s.0.0));
  again = λ a is. ap (λ w. at w >>= at_end) (sym (append-nil (spelled a))) ∙ ap (λ r. r >>= at_end) (reads.again a [] is);
}

-- a reading that left nothing is of all of the bytes
not_none : {A : Type 0} (o : Option A) (n : ℕ) → cond (suc n == 0) o None ≡ None
not_none o n = ap (λ b. cond b o None) (no_zero n)
  where
    no_zero : (m : ℕ) → (suc m == 0) ≡ false
    no_zero m = grind arith

pub all_of-found : {A : Type 0} (at : Reader A) (bytes rest : List ℕ) (found : Option A) → Gives found rest (at bytes)
    → cond (length rest == 0) found None ≡ all_of at bytes
all_of-found at bytes [] (Some a) told = ap (λ r. r >>= at_end) (sym told)
all_of-found at bytes (b ∷ rest) (Some a) told = not_none (Some a) (length rest) ∙ ap (λ r. r >>= at_end) (sym told)
all_of-found at bytes [] None told = ap (λ r. r >>= at_end) (sym told)
all_of-found at bytes (b ∷ rest) None told = not_none None (length rest) ∙ ap (λ r. r >>= at_end) (sym told)

-- The test of gone values.
use Rattle.std.proofs.Common.{◌≡◌, ◌↔◌, ℕ, Bool, true, false, List, [], ◌∷◌, IsTrue, refl, sym, ap, ◌∙◌, arith}
use Rattle.rc_ids.specs.Texts.{gone, same_key}

gone_same : (v : List ℕ) → same_key v gone ≡ true → v ≡ gone
gone_same [] e = cc
gone_same (b ∷ []) e = grind arith
gone_same (b ∷ c ∷ bs) e = grind arith

other : (v : List ℕ) (b : Bool) → same_key v gone ≡ b → IsTrue false ↔ (v ≡ gone) → false ≡ b
other v true e told = let no : IsTrue false = told.1 (gone_same v e) in cc
other v false e told = refl

-- what is true of gone values alone is the test
pub gone_test : (v : List ℕ) (b : Bool) → IsTrue b ↔ (v ≡ gone) → b ≡ same_key v gone
gone_test v true told = sym (ap (λ w. same_key w gone) (told.0 refl))
gone_test v false told = other v (same_key v gone) refl told

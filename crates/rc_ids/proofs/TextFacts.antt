-- Bytes that all pass.
use Rattle.std.proofs.Common.{◌≡◌, ℕ, ◌+◌, length, Bool, true, not, List, [], ◌∷◌, None, refl, sym, ◌∙◌, arith, position}
use Rattle.std.specs.List.{list_all, position_from}
use Rattle.std.specs.Prelude.{nat_le}
use Rattle.std.proofs.lemmas.Bool.{le-leb}
use Rattle.std.proofs.lemmas.Iterator.Adapters.{position_from-zero}
use Rattle.rc_ids.specs.Texts.{is_key_byte, is_value_byte, IsKey, IsText, key_fault, value_fault}

all_pass_from : (passes : ℕ → Bool) (place : ℕ) (bytes : List ℕ)
    → position_from (λ b. not (passes b)) place bytes ≡ None → list_all passes bytes ≡ true
all_pass_from passes place [] none = refl
all_pass_from passes place (b ∷ bytes) none = grind (arith, all_pass_from passes (place + 1) bytes)

-- where no byte fails, all pass
pub all_pass : (passes : ℕ → Bool) (bytes : List ℕ)
    → position (λ b. not (passes b)) bytes ≡ None → list_all passes bytes ≡ true
all_pass passes bytes none =
    all_pass_from passes 0 bytes (sym (position_from-zero (λ b. not (passes b)) bytes) ∙ none)

none_fails_from : (passes : ℕ → Bool) (place : ℕ) (bytes : List ℕ)
    → list_all passes bytes ≡ true → position_from (λ b. not (passes b)) place bytes ≡ None
none_fails_from passes place [] all = refl
none_fails_from passes place (b ∷ bytes) all = grind (arith, none_fails_from passes (place + 1) bytes)

-- where all bytes pass, none fails
pub none_fails : (passes : ℕ → Bool) (bytes : List ℕ)
    → list_all passes bytes ≡ true → position (λ b. not (passes b)) bytes ≡ None
none_fails passes bytes all =
    position_from-zero (λ b. not (passes b)) bytes ∙ none_fails_from passes 0 bytes all

-- a key has no fault
pub no_key_fault : (k : List ℕ) → IsKey k → key_fault k ≡ None
no_key_fault k h =
    let low : nat_le 1 (length k) ≡ true = le-leb 1 (length k) h.0 in
    let high : nat_le (length k) 64 ≡ true = le-leb (length k) 64 h.1 in
    rw (low, high, none_fails is_key_byte k h.2) refl

-- a text has no fault
pub no_text_fault : (v : List ℕ) → IsText v → value_fault v ≡ None
no_text_fault v h =
    let high : nat_le (length v) 1024 ≡ true = le-leb (length v) 1024 h.0 in
    rw (high, none_fails is_value_byte v h.1) refl

-- What stands behind a byte that was read.
use Rattle.std.proofs.Common.{◌≡◌, ◌≢◌, ℕ, zero, suc, List, [], ◌∷◌, Option, Some, None, refl, ap, sym, ◌∙◌}
use Rattle.rc_fields.specs.Formats.{Reader, ◌>>=◌, tagged_at, option_at}
use Rattle.rc_fields.specs.Names.{byte_at}

byte_or : Option (ℕ × List ℕ) → ℕ
byte_or None = 0
byte_or (Some p) = p.0

rest_or : Option (ℕ × List ℕ) → List ℕ
rest_or None = []
rest_or (Some p) = p.1

same_byte : (b t : ℕ) (bytes rest : List ℕ) → byte_at (b ∷ bytes) ≡ Some (t, rest) → b ≡ t
unfolding byte_at byte_or
same_byte b t bytes rest e = ap byte_or e

same_rest : (b t : ℕ) (bytes rest : List ℕ) → byte_at (b ∷ bytes) ≡ Some (t, rest) → bytes ≡ rest
unfolding byte_at rest_or
same_rest b t bytes rest e = ap rest_or e

no_byte : (t : ℕ) (rest : List ℕ) → byte_at [] ≡ Some (t, rest) → ⊥
unfolding byte_at
no_byte t rest e = cc

-- the byte chooses the reading
pub behind_byte : {A : Type 0} (choose : ℕ → Reader A) (bytes : List ℕ) (t : ℕ) (rest : List ℕ) → byte_at bytes ≡ Some (t, rest)
    → tagged_at choose bytes ≡ choose t rest
unfolding tagged_at
behind_byte choose [] t rest e = absurd (no_byte t rest e)
behind_byte choose (b ∷ bytes) t rest e = ap (λ s. choose s bytes) (same_byte b t bytes rest e) ∙ ap (choose t) (same_rest b t bytes rest e)

pub behind_none : {A : Type 0} (choose : ℕ → Reader A) (bytes : List ℕ) → byte_at bytes ≡ None → tagged_at choose bytes ≡ None
unfolding tagged_at byte_at
behind_none choose [] e = refl
behind_none choose (b ∷ bytes) e = absurd cc

-- 0 stands for none, 1 for a value, and no other byte for anything
zero_behind : {A : Type 0} (at : Reader A) (t : ℕ) (bytes : List ℕ) → t ≡ 0 → option_at at (t ∷ bytes) ≡ Some (None, bytes)
unfolding option_at
zero_behind at t bytes e = ap (λ s. option_at at (s ∷ bytes)) e

one_behind : {A : Type 0} (at : Reader A) (t : ℕ) (bytes : List ℕ) → t ≡ 1 → option_at at (t ∷ bytes) ≡ (at bytes >>= λ a. Some (Some a.0, a.1))
unfolding option_at
one_behind at t bytes e = ap (λ s. option_at at (s ∷ bytes)) e

other_behind : {A : Type 0} (at : Reader A) (t : ℕ) (bytes : List ℕ) → t ≢ 0 → t ≢ 1 → option_at at (t ∷ bytes) ≡ None
unfolding option_at
other_behind at zero bytes n m = absurd (n refl)
other_behind at (suc zero) bytes n m = absurd (m refl)
other_behind at (suc (suc t)) bytes n m = refl

pub option_at-zero : {A : Type 0} (at : Reader A) (bytes rest : List ℕ) → byte_at bytes ≡ Some (0, rest) → option_at at bytes ≡ Some (None, rest)
option_at-zero at [] rest e = absurd (no_byte 0 rest e)
option_at-zero at (b ∷ bytes) rest e = zero_behind at b bytes (same_byte b 0 bytes rest e) ∙ ap (λ w. Some (None, w)) (same_rest b 0 bytes rest e)

pub option_at-one : {A : Type 0} (at : Reader A) (bytes rest : List ℕ) → byte_at bytes ≡ Some (1, rest)
    → option_at at bytes ≡ (at rest >>= λ a. Some (Some a.0, a.1))
option_at-one at [] rest e = absurd (no_byte 1 rest e)
option_at-one at (b ∷ bytes) rest e =
    one_behind at b bytes (same_byte b 1 bytes rest e) ∙ ap (λ w. at w >>= λ a. Some (Some a.0, a.1)) (same_rest b 1 bytes rest e)

pub option_at-other : {A : Type 0} (at : Reader A) (bytes rest : List ℕ) (t : ℕ) → byte_at bytes ≡ Some (t, rest) → t ≢ 0 → t ≢ 1 → option_at at bytes ≡ None
option_at-other at [] rest t e n m = absurd (no_byte t rest e)
option_at-other at (b ∷ bytes) rest t e n m =
    let same = same_byte b t bytes rest e in other_behind at b bytes (λ z. n (sym same ∙ z)) (λ z. m (sym same ∙ z))

pub option_at-nothing : {A : Type 0} (at : Reader A) (bytes : List ℕ) → byte_at bytes ≡ None → option_at at bytes ≡ None
unfolding option_at byte_at
option_at-nothing at [] e = refl
option_at-nothing at (b ∷ bytes) e = absurd cc

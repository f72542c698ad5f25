-- Reading values from the front of bytes: the value and the bytes after it, or None where no spelling of one stands there.
use Rattle.std.specs.Prelude.{◌≡◌, ℕ, zero, suc, ◌<◌, Bool, List, [], ◌∷◌, ◌++◌, length, Option, Some, None, slice_index, Result, Ok, Err, ◌≢◌, if◌then◌else◌}
use Rattle.std.specs.List.{flat_map}
use Rattle.rc_fields.specs.declared.fault.ReadFault.{ReadFault}
use Rattle.rc_fields.specs.declared.fault.ReadFault.TheVariants.{NoMemory, NotThere}
use Rattle.rc_fields.specs.Spelling.{u8_bytes}

-- each is a byte
abbrev pub IsBytes : List ℕ → Type 0
IsBytes bytes = (i : ℕ) → slice_index bytes i < 256

abbrev pub Reader : Type 0 → Type 0
Reader A = List ℕ → Option (A × List ℕ)

-- what is read stands first by its spelling, and what is spelled is read again, whatever follows
pub record Reads {A : Type 0} (spelled : A → List ℕ) (fits : A → Type 0) (at : List ℕ → Option (A × List ℕ)) : Type 0 where
  pub takes : (bytes : List ℕ) (a : A) (rest : List ℕ) → IsBytes bytes → at bytes ≡ Some (a, rest) → fits a × (bytes ≡ spelled a ++ rest)
  pub again : (a : A) (rest : List ℕ) → fits a → at (spelled a ++ rest) ≡ Some (a, rest)

-- no spelling of one stands first
abbrev pub NoneStands : {A : Type 0} → (A → List ℕ) → (A → Type 0) → List ℕ → Type 0
NoneStands {A} spelled fits bytes = (a : A) (rest : List ℕ) → fits a → bytes ≢ spelled a ++ rest

-- what was found stood first, and what stood behind it is left; or none stands first, and all is left
unfoldable pub Finds : {A : Type 0} → (A → List ℕ) → (A → Type 0) → Option A → List ℕ → List ℕ → Type 0
Finds spelled fits (Some a) before after = fits a × (before ≡ spelled a ++ after)
Finds spelled fits None before after = NoneStands spelled fits before × (after ≡ before)

-- what was found, and what is left, is what reading says
abbrev pub Gives : {A : Type 0} → Option A → List ℕ → Option (A × List ℕ) → Type 0
Gives (Some a) after read = read ≡ Some (a, after)
Gives None after read = read ≡ None

-- the same of a reader that may be out of memory, and leaves anything where it finds nothing
abbrev pub Fails : {A : Type 0} → ReadFault → Option A → Type 0
Fails NoMemory read = Unit {0}
Fails NotThere read = read ≡ None

abbrev pub Tells : {A : Type 0} → Result A ReadFault → List ℕ → Option (A × List ℕ) → Type 0
Tells (Ok a) after read = read ≡ Some (a, after)
Tells (Err fault) after read = Fails fault read

infixl 10 ◌>>=◌
abbrev pub ◌>>=◌ : {A B : Type 0} → Option A → (A → Option B) → Option B
(Some a) >>= next = next a
None >>= next = None

-- no byte
unfoldable pub nothing_at : Reader (Unit {0})
nothing_at bytes = Some (tt, bytes)

-- one field after another
unfoldable pub both_at : {A B : Type 0} → Reader A → Reader B → Reader (A × B)
both_at first second bytes = first bytes >>= λ a. second a.1 >>= λ b. Some ((a.0, b.0), b.1)

-- the same bytes, seen otherwise
unfoldable pub mapped_at : {A B : Type 0} → (A → B) → Reader A → Reader B
mapped_at f at bytes = at bytes >>= λ a. Some (f a.0, a.1)

-- a value that passes a test
unfoldable pub tested_at : {A : Type 0} → (A → Bool) → Reader A → Reader A
tested_at test at bytes = at bytes >>= λ a. if test a.0 then Some a else None

-- what stands behind a byte depends on it
unfoldable pub tagged_at : {A : Type 0} → (ℕ → Reader A) → Reader A
tagged_at choose [] = None
tagged_at choose (t ∷ bytes) = choose t bytes

-- the reading at a place, counted from 0
unfoldable pub pick : {A : Type 0} → List (Reader A) → ℕ → Reader A
pick [] t bytes = None
pick (r ∷ rs) zero bytes = r bytes
pick (r ∷ rs) (suc t) bytes = pick rs t bytes

-- a tag that stands for nothing
unfoldable pub none_at : {A : Type 0} → Reader A
none_at bytes = None

-- 0 for none; 1, and the value
abbrev pub option_bytes : {A : Type 0} → (A → List ℕ) → Option A → List ℕ
option_bytes spelled None = u8_bytes 0
option_bytes spelled (Some a) = u8_bytes 1 ++ spelled a

unfoldable pub option_at : {A : Type 0} → Reader A → Reader (Option A)
option_at at [] = None
option_at at (zero ∷ bytes) = Some (None, bytes)
option_at at (suc zero ∷ bytes) = at bytes >>= λ a. Some (Some a.0, a.1)
option_at at (suc (suc t) ∷ bytes) = None

-- so many values
unfoldable pub many_at : {A : Type 0} → Reader A → ℕ → Reader (List A)
many_at at zero bytes = Some ([], bytes)
many_at at (suc n) bytes = at bytes >>= λ a. many_at at n a.1 >>= λ more. Some (a.0 ∷ more.0, more.1)

-- a byte that counts, and so many values
abbrev pub list_bytes : {A : Type 0} → (A → List ℕ) → List A → List ℕ
list_bytes spelled xs = u8_bytes (length xs) ++ flat_map spelled xs

unfoldable pub list_at : {A : Type 0} → Reader A → Reader (List A)
list_at at = tagged_at (many_at at)

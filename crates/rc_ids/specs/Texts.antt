-- The bytes of keys, texts and values, and their order.
use Rattle.std.specs.Prelude.{◌≡◌, ℕ, ◌≤◌, ◌==◌, Bool, not, cond, ◌&&◌, ◌||◌, nat_le, nat_eq, IsTrue, List, [], ◌∷◌, length, Option, Some, ◌⊎◌, position}
use Rattle.std.specs.List.{list_all}
use Rattle.std.specs.Option.{option_map}
use Rattle.std.specs.declared.cmp.Ordering.{Ordering}
use Rattle.std.specs.Ordering.{nat_cmp}
use Rattle.std.specs.Cmp.Lexicographic.{slice_cmp, pointwise}
use Rattle.rc_ids.specs.declared.fault.TextFault.{TextFault}
use Rattle.rc_ids.specs.declared.fault.TextFault.TheVariants.{BadLength, BadByte}

-- a digit, a letter, '_' or '-'
abbrev pub is_key_byte : ℕ → Bool
is_key_byte b =
    (nat_le 48 b && nat_le b 57) || (nat_le 65 b && nat_le b 90) || (nat_le 97 b && nat_le b 122) || (b == 95) || (b == 45)

-- a byte from the space to '~'
abbrev pub is_value_byte : ℕ → Bool
is_value_byte b = nat_le 32 b && nat_le b 126

-- how the gone value is seen; no text holds this byte
abbrev pub gone : List ℕ
gone = 0 ∷ []

abbrev pub IsKey : List ℕ → Type 0
IsKey bytes = (1 ≤ length bytes) × (length bytes ≤ 64) × IsTrue (list_all is_key_byte bytes)

abbrev pub IsText : List ℕ → Type 0
IsText bytes = (length bytes ≤ 1024) × IsTrue (list_all is_value_byte bytes)

-- a value is a text or gone
abbrev pub IsValue : List ℕ → Type 0
IsValue bytes = IsText bytes ⊎ (bytes ≡ gone)

-- keys are ordered by bytes
abbrev pub key_cmp : List ℕ → List ℕ → Ordering
key_cmp = slice_cmp nat_cmp

abbrev pub same_key : List ℕ → List ℕ → Bool
same_key = pointwise nat_eq

-- the place of the first byte that does not pass
abbrev pub bad_byte : (ℕ → Bool) → List ℕ → Option TextFault
bad_byte passes bytes = option_map BadByte (position (λ b. not (passes b)) bytes)

-- why the bytes are no key; None where they are one
abbrev pub key_fault : List ℕ → Option TextFault
key_fault bytes =
    cond (nat_le 1 (length bytes) && nat_le (length bytes) 64) (bad_byte is_key_byte bytes) (Some BadLength)

-- why the bytes are no text; None where they are one
abbrev pub value_fault : List ℕ → Option TextFault
value_fault bytes = cond (nat_le (length bytes) 1024) (bad_byte is_value_byte bytes) (Some BadLength)

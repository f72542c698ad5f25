-- Reading fields from the left: the value and the bytes after it, or the first fault.
use Rattle.std.specs.Prelude.{ℕ, List, [], ◌∷◌, length, take, drop, Result, Ok, Err, nat_lt, nat_le, if◌then◌else◌}
use Rattle.std.specs.Int.{Width, w16, w32, w64, byte_len, from_be_bytes}
use Rattle.rc_fields.specs.declared.fault.FieldFault.{FieldFault}
use Rattle.rc_fields.specs.declared.fault.FieldFault.TheVariants.{Short, TooLong, BadTag}

infixl 10 ◌>>=◌
abbrev pub ◌>>=◌ : {A B : Type 0} → Result A FieldFault → (A → Result B FieldFault) → Result B FieldFault
(Ok x) >>= next = next x
(Err fault) >>= next = Err fault

-- the first bytes, so many
abbrev pub bytes_at : ℕ → List ℕ → Result (List ℕ × List ℕ) FieldFault
bytes_at count bytes = if nat_lt (length bytes) count then Err Short else Ok (take count bytes, drop count bytes)

abbrev pub u8_at : List ℕ → Result (ℕ × List ℕ) FieldFault
u8_at [] = Err Short
u8_at (b ∷ bytes) = Ok (b, bytes)

abbrev pub number_at : Width → List ℕ → Result (ℕ × List ℕ) FieldFault
number_at width bytes =
    if nat_lt (length bytes) (byte_len width) then Err Short else Ok (from_be_bytes width (take (byte_len width) bytes), drop (byte_len width) bytes)

abbrev pub u16_at : List ℕ → Result (ℕ × List ℕ) FieldFault
u16_at bytes = number_at w16 bytes

abbrev pub u32_at : List ℕ → Result (ℕ × List ℕ) FieldFault
u32_at bytes = number_at w32 bytes

abbrev pub u64_at : List ℕ → Result (ℕ × List ℕ) FieldFault
u64_at bytes = number_at w64 bytes

-- a byte of at most max
abbrev pub tag_at : ℕ → List ℕ → Result (ℕ × List ℕ) FieldFault
tag_at max bytes = u8_at bytes >>= λ b. if nat_lt max b.0 then Err BadTag else Ok b

-- a length, of one byte where max is at most 255 and of two else
abbrev pub length_at : ℕ → List ℕ → Result (ℕ × List ℕ) FieldFault
length_at max bytes = if nat_le max 255 then u8_at bytes else u16_at bytes

-- a length of at most max, and so many bytes: a length above max is told before bytes that are missing
abbrev pub counted_at : ℕ → List ℕ → Result (List ℕ × List ℕ) FieldFault
counted_at max bytes = length_at max bytes >>= λ n. if nat_lt max n.0 then Err TooLong else bytes_at n.0 n.1

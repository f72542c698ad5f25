-- Words, and the numbers and names that they spell.
use Rattle.std.specs.Prelude.{ℕ, ◌+◌, ◌-◌, ◌*◌, ◌==◌, nat_le, Bool, ◌&&◌, if◌then◌else◌, List, [], ◌∷◌, length, take, drop, Option, Some, None, position}
use Rattle.std.specs.Char.{is_ascii_digit}
use Rattle.std.specs.List.{slice_split}
use Rattle.std.specs.Str.{bytes_eq}
use Rattle.rc_ids.specs.declared.names.NodeId.{NodeId}
use Rattle.rc_ids.specs.declared.names.NodeId.TheVariants.{Coord, Shard}
use Rattle.rc_ids.specs.Texts.{key_fault, value_fault}

infixl 10 ◌>>=◌
abbrev pub ◌>>=◌ : {A B : Type 0} → Option A → (A → Option B) → Option B
(Some x) >>= f = f x
None >>= f = None

-- the value, where the test passes
abbrev pub only_if : {A : Type 0} → Bool → A → Option A
only_if test x = if test then Some x else None

-- ---- words

abbrev pub cut_at : List ℕ → Option ℕ → List ℕ × Option (List ℕ)
cut_at text None = (text, None)
cut_at text (Some i) = (take i text, Some (drop (i + 1) text))

-- what stands before the first such byte, and what stands behind it, where there is one
abbrev pub cut : ℕ → List ℕ → List ℕ × Option (List ℕ)
cut byte text = cut_at text (position (λ b. b == byte) text)

-- the first word: what stands before the first space
abbrev pub first_word : List ℕ → List ℕ
first_word text = (cut 32 text).0

-- what follows the first space
abbrev pub later_words : List ℕ → Option (List ℕ)
later_words text = (cut 32 text).1

-- what follows a text at the front
abbrev pub text_after : List ℕ → List ℕ → Option (List ℕ)
text_after front text = only_if (bytes_eq (take (length front) text) front) (drop (length front) text)

-- ---- numbers

-- the number with one more digit, where the byte is a digit and the limit is not passed
abbrev pub with_digit : ℕ → ℕ → ℕ → Option ℕ
with_digit limit n byte = only_if (is_ascii_digit byte && nat_le (10 * n + (byte - 48)) limit) (10 * n + (byte - 48))

abbrev pub with_digits : ℕ → ℕ → List ℕ → Option ℕ
with_digits limit n [] = Some n
with_digits limit n (byte ∷ bytes) = with_digit limit n byte >>= λ m. with_digits limit m bytes

-- a decimal number without leading zeros, up to a limit
abbrev pub number_up_to : ℕ → List ℕ → Option ℕ
number_up_to limit [] = None
number_up_to limit (byte ∷ []) = with_digits limit 0 (byte ∷ [])
number_up_to limit (byte ∷ next ∷ bytes) = if byte == 48 then None else with_digits limit 0 (byte ∷ next ∷ bytes)

abbrev pub number_in : ℕ → ℕ → List ℕ → Option ℕ
number_in low high word = do
  n ← number_up_to high word
  only_if (nat_le low n) n

abbrev pub numbers_in : ℕ → ℕ → List (List ℕ) → Option (List ℕ)
numbers_in low high [] = Some []
numbers_in low high (word ∷ words) = do
  n ← number_in low high word
  ns ← numbers_in low high words
  Some (n ∷ ns)

-- numbers with one space between them
abbrev pub numbers_of : ℕ → ℕ → List ℕ → Option (List ℕ)
numbers_of low high text = numbers_in low high (slice_split (λ b. b == 32) text)

-- ---- names

-- a letter and a number from 1 up to a limit
abbrev pub named : ℕ → ℕ → List ℕ → Option ℕ
named letter limit [] = None
named letter limit (byte ∷ bytes) = if byte == letter then number_in 1 limit bytes else None

-- 't' and a number
abbrev pub tx_of : List ℕ → Option ℕ
tx_of word = named 116 4294967295 word

-- 'd' and the number of a datacentre of the world
abbrev pub dc_of : ℕ → List ℕ → Option ℕ
dc_of dcs word = named 100 dcs word

-- 's' and the number of a shard of the world
abbrev pub shard_of : ℕ → List ℕ → Option ℕ
shard_of shards word = named 115 shards word

abbrev pub node_at : ℕ → ℕ → List ℕ → Option (List ℕ) → Option NodeId
node_at dcs shards word None = do
  dc ← dc_of dcs word
  Some (Coord dc)
node_at dcs shards word (Some other) = do
  dc ← dc_of dcs word
  shard ← shard_of shards other
  Some (Shard dc shard)

-- a coordinator, or a shard server with a point before its shard
abbrev pub node_of : ℕ → ℕ → List ℕ → Option NodeId
node_of dcs shards word = node_at dcs shards (cut 46 word).0 (cut 46 word).1

abbrev pub key_from : {E : Type 0} → List ℕ → Option E → Option (List ℕ)
key_from bytes None = Some bytes
key_from bytes (Some fault) = None

abbrev pub key_of : List ℕ → Option (List ℕ)
key_of bytes = key_from bytes (key_fault bytes)

abbrev pub val_of : List ℕ → Option (List ℕ)
val_of bytes = key_from bytes (value_fault bytes)

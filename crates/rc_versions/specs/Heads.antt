-- The first bytes of a key as a number.
use Rattle.std.specs.Prelude.{ℕ, zero, suc, ◌+◌, ◌*◌, ◌^◌, List, [], ◌∷◌}

-- the first n bytes, the first one the highest, with zeros behind a shorter list
abbrev pub packed : ℕ → List ℕ → ℕ
packed zero bytes = 0
packed (suc n) [] = 0
packed (suc n) (b ∷ bytes) = b * 256 ^ n + packed n bytes

-- the first eight bytes
unfoldable pub head_of : List ℕ → ℕ
head_of key = packed 8 key

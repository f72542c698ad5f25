-- One map, transactions applied to it one after another, and what that explains (one-copy serializability).
use Rattle.std.specs.Prelude.{◌≡◌, ℕ, suc, ◌+◌, List, [], ◌∷◌, Option, Some, None, ◌==◌, if◌then◌else◌}
use Rattle.rc_ids.specs.Tables.{Table, In, put, maybe}
use Rattle.rc_ids.specs.Texts.{key_cmp}
use Rattle.rc_record.specs.ShardState.{version_at, value_at, set_rows}
use Rattle.rc_body.specs.declared.entry.Entry.{Entry}

-- for each key that was written its version, from 1 on, and its value
abbrev pub Map : Type 0
Map = Table (List ℕ) (ℕ × List ℕ)

-- a write sets the value, to gone where it is a deletion, and raises the version by one
abbrev pub entry_applied : Map → Entry → Map
entry_applied m e = maybe e.write m (λ value. put key_cmp m e.key (version_at m e.key + 1, value))

abbrev pub body_applied : Map → List Entry → Map
body_applied m [] = m
body_applied m (e ∷ es) = body_applied (entry_applied m e) es

-- the map to which transactions are applied in order
abbrev pub after : Map → List (ℕ × List Entry) → Map
after m [] = m
after m (x ∷ xs) = after (body_applied m x.1) xs

-- the map that logs give whose votes choose these transactions: of each key the row of the highest version among their writes
abbrev pub base : List (ℕ × List Entry) → Map
base [] = []
base (x ∷ xs) = set_rows (base xs) x.1

-- the value of a key as a read shows it: none where it was never written
abbrev pub IsRowOf : Map → List ℕ → ℕ → Option (List ℕ) → Type 0
IsRowOf m k version value = (version ≡ version_at m k) × (value ≡ value_at m k)

-- each entry of each transaction has the version of its key in the map of those before, and each read served to it has the version and
-- the value there
abbrev pub Explains : Map → List (ℕ × List Entry) → (ℕ → List ℕ → ℕ → Option (List ℕ) → Type 0) → Type 0
Explains m [] Served = Unit {0}
Explains m (x ∷ xs) Served =
    ((e : Entry) → In e x.1 → e.version ≡ version_at m e.key)
    × ((k : List ℕ) (version : ℕ) (value : Option (List ℕ)) → Served x.0 k version value → IsRowOf m k version value)
    × Explains (body_applied m x.1) xs Served

-- the first read that the map does not give, by place in the order and then in body order
pub record FirstWrong : Type 0 where
  pub place : ℕ
  pub key : List ℕ
  pub expected : ℕ
  pub read : ℕ

abbrev pub wrong_entry : Map → ℕ → List Entry → Option FirstWrong
wrong_entry m place [] = None
wrong_entry m place (e ∷ es) =
    if e.version == version_at m e.key then wrong_entry m place es
    else Some (record { place = place; key = e.key; expected = version_at m e.key; read = e.version })

abbrev pub first_wrong : Map → ℕ → List (ℕ × List Entry) → Option FirstWrong
first_wrong m place [] = None
first_wrong m place (x ∷ xs) = maybe (wrong_entry m place x.1) (first_wrong (body_applied m x.1) (suc place) xs) Some

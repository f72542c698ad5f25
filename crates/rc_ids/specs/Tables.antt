-- Tables and sets as lists in the order of their keys, with the words of `BTreeMap` and `BTreeSet`; and plain lists.
use Rattle.std.specs.Prelude.{◌≡◌, ℕ, zero, suc, Bool, List, [], ◌∷◌, ◌++◌, Option, Some, None, ◌⊎◌}
use Rattle.std.specs.declared.cmp.Ordering.{Ordering}
use Rattle.std.specs.List.{list_any}
use Rattle.std.specs.Map.{lookup, remove_entry}
use Rattle.std.specs.BTreeMap.{is_at, insert_entry}
use Rattle.std.specs.BTreeSet.{insert_key}
use Rattle.std.specs.Set.{remove_key}

-- a table is the list of its entries, in the order of their keys
abbrev pub Table : Type 0 → Type 0 → Type 0
Table K X = List (K × X)

-- what the table has at the key
abbrev pub found : {K X : Type 0} → (K → K → Ordering) → Table K X → K → Option X
found cmp table key = lookup (is_at (cmp key)) table

-- the table with this value at the key
abbrev pub put : {K X : Type 0} → (K → K → Ordering) → Table K X → K → X → Table K X
put cmp table key value = insert_entry cmp table key value

-- the table with nothing at the key
abbrev pub without : {K X : Type 0} → (K → K → Ordering) → Table K X → K → Table K X
without cmp table key = remove_entry (is_at (cmp key)) table

-- whether the key is a member of the rising list
abbrev pub member : {K : Type 0} → (K → K → Ordering) → List K → K → Bool
member cmp set key = list_any (is_at (cmp key)) set

-- the set with this member
abbrev pub added : {K : Type 0} → (K → K → Ordering) → List K → K → List K
added cmp set key = insert_key cmp set key

-- the set without this member
abbrev pub removed : {K : Type 0} → (K → K → Ordering) → List K → K → List K
removed cmp set key = remove_key (is_at (cmp key)) set

-- the given value where there is none, else what the function makes of it
abbrev pub maybe : {A B : Type 0} → Option A → B → (A → B) → B
maybe None other make = other
maybe (Some x) other make = make x

-- the numbers from 1 to n
abbrev pub up_to : ℕ → List ℕ
up_to zero = []
up_to (suc n) = up_to n ++ (suc n ∷ [])

-- the item at a place, counted from 0
abbrev pub nth : {A : Type 0} → List A → ℕ → Option A
nth [] place = None
nth (x ∷ xs) zero = Some x
nth (x ∷ xs) (suc place) = nth xs place

-- whether an item stands in the list
abbrev pub In : {A : Type 0} → A → List A → Type 0
In x [] = ⊥
In x (y ∷ ys) = (y ≡ x) ⊎ In x ys

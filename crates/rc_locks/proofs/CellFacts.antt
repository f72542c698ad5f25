-- The holders of keys.
use Rattle.std.proofs.Common.{◌≡◌, ℕ, suc, ◌+◌, ◌≤◌, ◌<◌, Bool, true, false, not, ◌||◌, ◌&&◌, ◌==◌, cond, if◌then◌else◌, List, [], ◌∷◌, insert, length, drop, slice_get, Option, Some, Vec, Global, vec_len, vec_capacity, refl, sym, ap, ◌∙◌, subst, arith}
use Rattle.std.specs.declared.cmp.Ordering.{Ordering}
use Rattle.std.specs.declared.cmp.Ordering.TheVariants.{Less, Equal, Greater}
use Rattle.std.specs.Ordering.{nat_cmp, match_ordering}
use Rattle.std.specs.List.{list_any}
use Rattle.std.specs.Cmp.Lexicographic.{texts_ties}
use Rattle.std.proofs.lemmas.Cmp.{nat_cmp_total, nat_list_cmp_total}
use Rattle.std.proofs.lemmas.Map.Keys.{any_passes_from_place}
use Rattle.std.proofs.lemmas.List.Edits.{length-insert}
use Rattle.rc_ids.specs.Tables.{Table, added, maybe}
use Rattle.rc_ids.specs.Texts.{same_key}
use Rattle.rc_body.specs.Bodies.{has_key}
use Rattle.rc_body.specs.declared.entry.Entry.{Entry}
use Rattle.rc_locks.specs.declared.cells.Holders.{Holders}
use Rattle.rc_locks.specs.Cells.{HasRoom, HasRooms, cell_at, joins, others, leaves}
use Rattle.rc_locks.specs.Places.{place_where, passes_at}
use Rattle.rc_locks.proofs.MarkLists.{same_itself, added_again}
use Rattle.rc_locks.proofs.Rest.{rest_at, rest_end}
use Rattle.rc_locks.proofs.PlaceFacts.{at_or_below, same_as, added_there, added_insert}
use Rattle.rc_locks.proofs.IndexFacts.{key_same}

-- ONE MORE TRANSACTION IN A LIST, by what the calls say of it
module _ (xs ys zs : List ℕ) (k : ℕ) (i : ℕ) (b : Bool) (one : ys ≡ xs) (two : zs ≡ xs)
    (place : i ≡ place_where (at_or_below nat_cmp k) ys) (test : b ≡ passes_at (same_as nat_cmp k) zs i) where
  at_place : i ≡ place_where (at_or_below nat_cmp k) xs
  at_place = place ∙ ap (place_where (at_or_below nat_cmp k)) one

  there : b ≡ passes_at (same_as nat_cmp k) xs (place_where (at_or_below nat_cmp k) xs)
  there = test ∙ ap (λ ws. passes_at (same_as nat_cmp k) ws i) two ∙ ap (passes_at (same_as nat_cmp k) xs) at_place

  pub add_there : b ≡ true → xs ≡ added nat_cmp xs k
  add_there holds = sym (added_there nat_cmp k xs (sym there ∙ holds))

  pub add_insert : b ≡ false → insert xs i k ≡ added nat_cmp xs k
  add_insert holds = ap (λ j. insert xs j k) at_place ∙ added_insert nat_cmp k xs (sym there ∙ holds)

length_added : (xs : List ℕ) (t : ℕ) → length (added nat_cmp xs t) ≤ suc (length xs)
length_added [] t = omega arith
length_added (x ∷ xs) t = placed (nat_cmp t x) (length_added xs t)
  where
    placed : (o : Ordering) → length (added nat_cmp xs t) ≤ suc (length xs)
        → length (match_ordering o (t ∷ x ∷ xs) (x ∷ xs) (x ∷ added nat_cmp xs t)) ≤ suc (suc (length xs))
    placed Less le = omega arith
    placed Equal le = omega arith
    placed Greater le = omega arith

pub room_after : (t : ℕ) (v : Vec ℕ Global) (xs : List ℕ) → v.items ≡ added nat_cmp xs t → HasRoom t v
room_after t v xs is =
    let fits : length v.items ≤ vec_capacity v = omega (arith, v.ok, v.small) in
    subst (λ (ys : List ℕ). length ys ≤ vec_capacity v) (is ∙ sym (added_again nat_cmp_total xs t) ∙ ap (λ (ys : List ℕ). added nat_cmp ys t) (sym is)) fits

pub room_wide : (t : ℕ) (v : Vec ℕ Global) → vec_len v + 1 ≤ vec_capacity v → HasRoom t v
room_wide t v lt = omega (arith, v.ok, length_added v.items t)

-- a list that lacks the transaction and has room has a place for it
pub room_is : (t i : ℕ) (v : Vec ℕ Global) → HasRoom t v → insert v.items i t ≡ added nat_cmp v.items t → i ≤ length v.items → vec_len v < vec_capacity v
room_is t i v room is le =
    let long = ap length is in
    omega (arith, long, room, v.ok, length-insert v.items i t le)

-- WHAT A CELL'S CHANGE MAKES OF ALL
-- the key has these holders, and all else is as before
abbrev pub IsCell : Table (List ℕ) Holders → Table (List ℕ) Holders → List ℕ → Option Holders → Type 0
IsCell old new key o = (q : List ℕ) → cell_at new q ≡ cond (same_key key q) o (cell_at old q)

module _ (g : Holders → List ℕ) (old new : Table (List ℕ) Holders) (key : List ℕ) where
  abbrev list_at : Table (List ℕ) Holders → List ℕ → List ℕ
  list_at cells k = maybe (cell_at cells k) [] g

  pub list_set : (cell cell' : Holders) → Some cell ≡ cell_at old key → IsCell old new key (Some cell') → (f : List ℕ → List ℕ) → g cell' ≡ f (g cell)
      → (k : List ℕ) → list_at new k ≡ (if same_key key k then f (list_at old k) else list_at old k)
  list_set cell cell' there set f is k = ap (λ (o : Option Holders). maybe o [] g) (set k) ∙ at (same_key key k) refl
    where
      at : (b : Bool) → same_key key k ≡ b → maybe (cond b (Some cell') (cell_at old k)) [] g ≡ (if b then f (list_at old k) else list_at old k)
      at true same = is ∙ ap f (ap (λ (o : Option Holders). maybe o [] g) (there ∙ ap (cell_at old) (key_same key k same)))
      at false same = refl

  -- an empty list comes or goes
  pub list_idle : (o : Option Holders) → IsCell old new key o → maybe o [] g ≡ [] → list_at old key ≡ [] → (k : List ℕ) → list_at new k ≡ list_at old k
  list_idle o set empty before k = ap (λ (o : Option Holders). maybe o [] g) (set k) ∙ at (same_key key k) refl
    where
      at : (b : Bool) → same_key key k ≡ b → maybe (cond b o (cell_at old k)) [] g ≡ list_at old k
      at true same = empty ∙ sym before ∙ ap (list_at old) (key_same key k same)
      at false same = refl

pub rooms_set : (old new : Table (List ℕ) Holders) (key : List ℕ) (cell : Holders) (t : ℕ) → IsCell old new key (Some cell) → HasRooms t (Some cell)
    → (k : List ℕ) → HasRooms t (cell_at old k) → HasRooms t (cell_at new k)
rooms_set old new key cell t set room k had = subst (HasRooms t) (sym (set k)) (at (same_key key k))
  where
    at : (b : Bool) → HasRooms t (cond b (Some cell) (cell_at old k))
    at true = room
    at false = had

pub and_if : (a b : Bool) (xs ys : List ℕ) → (if a then (if b then xs else ys) else ys) ≡ (if a && b then xs else ys)
and_if true b xs ys = refl
and_if false b xs ys = refl

-- ALL ENTRIES OF A PART
pub joins-is : (t : ℕ) (test : Entry → Bool) (es : List Entry) (xs : List ℕ) → joins t test es xs ≡ (if list_any test es then added nat_cmp xs t else xs)
joins-is t test [] xs = refl
joins-is t test (e ∷ es) xs = joins-is t test es (if test e then added nat_cmp xs t else xs) ∙ at (test e) (list_any test es)
  where
    at : (a b : Bool) → (if b then added nat_cmp (if a then added nat_cmp xs t else xs) t else (if a then added nat_cmp xs t else xs)) ≡ (if a || b then added nat_cmp xs t else xs)
    at true true = added_again nat_cmp_total xs t
    at true false = refl
    at false b = refl

pub joins_on : (t : ℕ) (test : Entry → Bool) (es : List Entry) (i : ℕ) (e : Entry) (xs ys zs : List ℕ) → slice_get es i ≡ Some e
    → ys ≡ (if test e then added nat_cmp xs t else xs) → joins t test (drop i es) xs ≡ joins t test es zs → joins t test (drop (i + 1) es) ys ≡ joins t test es zs
joins_on t test es i e xs ys zs at is before =
    ap (joins t test (drop (i + 1) es)) is ∙ sym (ap (λ (fs : List Entry). joins t test fs xs) (rest_at es i e at)) ∙ before

pub joins_done : (t : ℕ) (test : Entry → Bool) (es : List Entry) (i : ℕ) (xs zs : List ℕ) → length es ≤ i
    → joins t test (drop i es) xs ≡ joins t test es zs → xs ≡ (if list_any test es then added nat_cmp zs t else zs)
joins_done t test es i xs zs le before = sym (ap (λ (fs : List Entry). joins t test fs xs) (rest_end es i le)) ∙ before ∙ joins-is t test es zs

pub others_twice : (t : ℕ) (xs : List ℕ) → others t (others t xs) ≡ others t xs
others_twice t [] = refl
others_twice t (x ∷ xs) = at (x == t) refl (others_twice t xs)
  where
    at : (b : Bool) → (x == t) ≡ b → others t (others t xs) ≡ others t xs → others t (cond (not b) (x ∷ others t xs) (others t xs)) ≡ cond (not b) (x ∷ others t xs) (others t xs)
    at true is rest = rest
    at false is rest = ap (λ b. cond (not b) (x ∷ others t (others t xs)) (others t (others t xs))) is ∙ ap (λ ys. x ∷ ys) rest

pub leaves-is : (t : ℕ) (test : Entry → Bool) (es : List Entry) (xs : List ℕ) → leaves t test es xs ≡ (if list_any test es then others t xs else xs)
leaves-is t test [] xs = refl
leaves-is t test (e ∷ es) xs = leaves-is t test es (if test e then others t xs else xs) ∙ at (test e) (list_any test es)
  where
    at : (a b : Bool) → (if b then others t (if a then others t xs else xs) else (if a then others t xs else xs)) ≡ (if a || b then others t xs else xs)
    at true true = others_twice t xs
    at true false = refl
    at false b = refl

pub leaves_on : (t : ℕ) (test : Entry → Bool) (es : List Entry) (i : ℕ) (e : Entry) (xs ys zs : List ℕ) → slice_get es i ≡ Some e
    → ys ≡ (if test e then others t xs else xs) → leaves t test (drop i es) xs ≡ leaves t test es zs → leaves t test (drop (i + 1) es) ys ≡ leaves t test es zs
leaves_on t test es i e xs ys zs at is before =
    ap (leaves t test (drop (i + 1) es)) is ∙ sym (ap (λ (fs : List Entry). leaves t test fs xs) (rest_at es i e at)) ∙ before

pub leaves_done : (t : ℕ) (test : Entry → Bool) (es : List Entry) (i : ℕ) (xs zs : List ℕ) → length es ≤ i
    → leaves t test (drop i es) xs ≡ leaves t test es zs → xs ≡ (if list_any test es then others t zs else zs)
leaves_done t test es i xs zs le before = sym (ap (λ (fs : List Entry). leaves t test fs xs) (rest_end es i le)) ∙ before ∙ leaves-is t test es zs

-- an entry of the part has its key there
pub has_at : (es : List Entry) (i : ℕ) (e : Entry) → slice_get es i ≡ Some e → has_key e.key es ≡ true
has_at es i e at = any_passes_from_place (λ (f : Entry). same_key f.key e.key) es i e at (texts_ties e.key e.key ∙ same_itself nat_list_cmp_total e.key)

-- keys past the entry: its own, or those of the rest
pub lacks_next : (es : List Entry) (i : ℕ) (e : Entry) (k : List ℕ) → slice_get es i ≡ Some e → has_key k (drop (i + 1) es) ≡ false → same_key e.key k ≡ false → has_key k (drop i es) ≡ false
lacks_next es i e k at rest other = ap (has_key k) (rest_at es i e at) ∙ ap (λ b. b || has_key k (drop (i + 1) es)) other ∙ rest

pub same_if : (b : Bool) (xs : List ℕ) → (if b then xs else xs) ≡ xs
same_if true xs = refl
same_if false xs = refl

pub either_way : (P : Type 0) (b : Bool) → (b ≡ true → P) → (b ≡ false → P) → P
either_way P true p q = p refl
either_way P false p q = q refl

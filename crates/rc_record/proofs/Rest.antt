-- What is left of a list from a place on, and lists that grow at their end.
use Rattle.std.proofs.Common.{◌≡◌, ◌==◌, ◌-◌, ◌^◌, ◌≤◌, is_some, ℕ, zero, suc, ◌+◌, Bool, true, false, ◌&&◌, ◌||◌, cond, List, [], ◌∷◌, ◌++◌, length, drop, slice_get, None, Some, refl, ap, sym, ◌∙◌, arith, add-one, nat_eq}
use Rattle.std.specs.List.{list_any}
use Rattle.std.specs.Ordering.{nat_cmp, is_eq}
use Rattle.std.specs.Map.{lookup}
use Rattle.std.specs.BTreeMap.{is_at}
use Rattle.indexmap.specs.IndexMap.{insert_entry as in_order}
use Rattle.rc_body.proofs.Places.{none_passes}
use Rattle.rc_body.specs.Entries.{wears_out}
use Rattle.rc_body.specs.declared.entry.Entry.{Entry}

drop_suc : {X : Type 0} (xs : List X) (i : ℕ) (x : X) → slice_get xs i ≡ Some x → drop i xs ≡ x ∷ drop (suc i) xs
drop_suc [] i x at = cc
drop_suc (y ∷ ys) zero x at = cc
drop_suc (y ∷ ys) (suc i) x at = drop_suc ys i x at

-- it begins with the item at the place
pub drop_step : {X : Type 0} (xs : List X) (i : ℕ) (x : X) → slice_get xs i ≡ Some x → drop i xs ≡ x ∷ drop (i + 1) xs
drop_step xs i x at = rw add-one (drop_suc xs i x at)

-- it is empty at the end
pub drop_end : {X : Type 0} (xs : List X) (i : ℕ) → length xs ≤ i → drop i xs ≡ []
drop_end [] zero le = refl
drop_end [] (suc i) le = refl
drop_end (x ∷ xs) zero le = absurd (omega arith)
drop_end (x ∷ xs) (suc i) le = drop_end xs i (omega arith)

-- a search: what is left has the same answer as the whole, so the item at the place, the rest, or the end has it
pub any_here : {X : Type 0} (p : X → Bool) (xs : List X) (i : ℕ) (x : X) → slice_get xs i ≡ Some x
    → list_any p (drop i xs) ≡ list_any p xs → p x ≡ true → true ≡ list_any p xs
any_here p xs i x at same here = sym (ap (λ b. b || list_any p (drop (i + 1) xs)) here) ∙ sym (ap (list_any p) (drop_step xs i x at)) ∙ same

pub any_later : {X : Type 0} (p : X → Bool) (xs : List X) (i : ℕ) (x : X) → slice_get xs i ≡ Some x
    → list_any p (drop i xs) ≡ list_any p xs → p x ≡ false → list_any p (drop (i + 1) xs) ≡ list_any p xs
any_later p xs i x at same here = sym (ap (λ b. b || list_any p (drop (i + 1) xs)) here) ∙ sym (ap (list_any p) (drop_step xs i x at)) ∙ same

pub any_end : {X : Type 0} (p : X → Bool) (xs : List X) (i : ℕ) → length xs ≤ i
    → list_any p (drop i xs) ≡ list_any p xs → false ≡ list_any p xs
any_end p xs i le same = sym (ap (list_any p) (drop_end xs i le)) ∙ same

-- a written entry of a body has no last version
pub lasts : (part : List Entry) (i : ℕ) (e : Entry) → list_any wears_out part ≡ false → slice_get part i ≡ Some e → is_some e.write ≡ true
    → (e.version == 2 ^ 62 - 1) ≡ false
lasts part i e none at written = sym (ap (λ b. b && (e.version == 2 ^ 62 - 1)) written) ∙ none_passes wears_out part i e none at

-- a key is tested by equality as by order
same_test : (t k : ℕ) → nat_eq t k ≡ is_eq (nat_cmp t k)
same_test t k = grind arith

-- a key that is not found goes last
pub new_last : {X : Type 0} (es : List (ℕ × X)) (t : ℕ) (x : X) → lookup (is_at (nat_cmp t)) es ≡ None → in_order nat_eq es t x ≡ es ++ (t, x) ∷ []
new_last [] t x none = refl
new_last (e ∷ es) t x none = rw (same_test t e.0) (at (is_eq (nat_cmp t e.0)) none (new_last es t x))
  where
    at : (b : Bool) → cond b (Some e.1) (lookup (is_at (nat_cmp t)) es) ≡ None
        → (lookup (is_at (nat_cmp t)) es ≡ None → in_order nat_eq es t x ≡ es ++ (t, x) ∷ [])
        → cond b ((e.0, x) ∷ es) (e ∷ in_order nat_eq es t x) ≡ e ∷ (es ++ (t, x) ∷ [])
    at true found rest = cc
    at false found rest = ap (λ xs. e ∷ xs) (rest found)

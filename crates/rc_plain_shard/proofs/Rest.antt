-- What is left of a list from a place on, and what a loop knows of it.
use Rattle.std.proofs.Common.{◌≡◌, ℕ, zero, suc, ◌+◌, ◌≤◌, Bool, true, false, ◌||◌, ◌&&◌, cond, filter, List, [], ◌∷◌, length, map, get_or, drop, drop-cons, append_assoc, ◌<◌, ◌++◌, slice_get, Option, Some, None, refl, ap, sym, ◌∙◌, arith, add-one}
use Rattle.std.specs.List.{list_any}
use Rattle.rc_ids.specs.Tables.{added, maybe}
use Rattle.rc_body.specs.declared.entry.Entry.{Entry}
use Rattle.rc_body.specs.declared.reason.Reason.{Reason}
use Rattle.rc_protocol.specs.Shard.{Mark, mark_cmp, added_all, first_part, first_reason}

rest_next : {X : Type 0} (xs : List X) (i : ℕ) (x : X) → slice_get xs i ≡ Some x → drop i xs ≡ x ∷ drop (suc i) xs
rest_next [] i x at = cc
rest_next (y ∷ ys) zero x at = let e : y ≡ x = cc in ap (λ z. z ∷ ys) e
rest_next (y ∷ ys) (suc i) x at = rest_next ys i x at

-- it begins with the item at the place
pub rest_at : {X : Type 0} (xs : List X) (i : ℕ) (x : X) → slice_get xs i ≡ Some x → drop i xs ≡ x ∷ drop (i + 1) xs
rest_at xs i x at = rw add-one (rest_next xs i x at)

-- it is empty at the end
pub rest_end : {X : Type 0} (xs : List X) (i : ℕ) → length xs ≤ i → drop i xs ≡ []
rest_end [] zero le = refl
rest_end [] (suc i) le = refl
rest_end (x ∷ xs) zero le = absurd (omega arith)
rest_end (x ∷ xs) (suc i) le = rest_end xs i (omega arith)

-- a search: what is left has the same answer as the whole, so the item at the place, the rest, or the end has it
pub any_here : {X : Type 0} (p : X → Bool) (xs : List X) (i : ℕ) (x : X) → slice_get xs i ≡ Some x
    → list_any p (drop i xs) ≡ list_any p xs → p x ≡ true → true ≡ list_any p xs
any_here p xs i x at same here = sym (ap (λ b. b || list_any p (drop (i + 1) xs)) here) ∙ sym (ap (list_any p) (rest_at xs i x at)) ∙ same

pub any_later : {X : Type 0} (p : X → Bool) (xs : List X) (i : ℕ) (x : X) → slice_get xs i ≡ Some x
    → list_any p (drop i xs) ≡ list_any p xs → p x ≡ false → list_any p (drop (i + 1) xs) ≡ list_any p xs
any_later p xs i x at same here = sym (ap (λ b. b || list_any p (drop (i + 1) xs)) here) ∙ sym (ap (list_any p) (rest_at xs i x at)) ∙ same

pub any_end : {X : Type 0} (p : X → Bool) (xs : List X) (i : ℕ) → length xs ≤ i
    → list_any p (drop i xs) ≡ list_any p xs → false ≡ list_any p xs
any_end p xs i le same = sym (ap (list_any p) (rest_end xs i le)) ∙ same

module _ (reason : Entry → Option Reason) (xs : List Entry) (i : ℕ) where
  after : Option Reason → Option Reason
  after r = maybe r (first_reason reason (drop (i + 1) xs)) Some

  step : (x : Entry) (r : Option Reason) → slice_get xs i ≡ Some x → first_reason reason (drop i xs) ≡ first_reason reason xs
      → reason x ≡ r → after r ≡ first_reason reason xs
  unfolding after
  step x r at same here = sym (ap after here) ∙ sym (ap (first_reason reason) (rest_at xs i x at)) ∙ same

  pub reason_here : (x : Entry) (r : Reason) → slice_get xs i ≡ Some x → first_reason reason (drop i xs) ≡ first_reason reason xs
      → reason x ≡ Some r → Some r ≡ first_reason reason xs
  unfolding after
  reason_here x r at same here = step x (Some r) at same here

  pub reason_later : (x : Entry) → slice_get xs i ≡ Some x → first_reason reason (drop i xs) ≡ first_reason reason xs
      → reason x ≡ None → first_reason reason (drop (i + 1) xs) ≡ first_reason reason xs
  unfolding after
  reason_later x at same here = step x None at same here

  pub reason_end : length xs ≤ i → first_reason reason (drop i xs) ≡ first_reason reason xs → None ≡ first_reason reason xs
  reason_end le same = sym (ap (first_reason reason) (rest_end xs i le)) ∙ same

pub both : (a b : Bool) → a ≡ true → b ≡ true → (a && b) ≡ true
both a b l r = ap (λ x. x && b) l ∙ r

pub not_left : (a b : Bool) → a ≡ false → (a && b) ≡ false
not_left a b l = ap (λ x. x && b) l

pub not_right : (a b : Bool) → b ≡ false → (a && b) ≡ false
not_right true b r = r
not_right false b r = refl

-- one more mark, which is added if it passes
pub add_kept : (p : Mark → Bool) (marks rest : List Mark) (x : Mark) → p x ≡ true
    → added_all marks (filter p (x ∷ rest)) ≡ added_all (added mark_cmp marks x) (filter p rest)
add_kept p marks rest x here = ap (λ b. added_all marks (cond b (x ∷ filter p rest) (filter p rest))) here

pub add_left : (p : Mark → Bool) (marks rest : List Mark) (x : Mark) → p x ≡ false
    → added_all marks (filter p (x ∷ rest)) ≡ added_all marks (filter p rest)
add_left p marks rest x here = ap (λ b. added_all marks (cond b (x ∷ filter p rest) (filter p rest))) here

-- one more part, which passes or does not
pub part_here : (test : List Entry → Bool) (p : ℕ × List Entry) (ps : List (ℕ × List Entry)) → test p.1 ≡ true → first_part test (p ∷ ps) ≡ Some p.0
part_here test p ps here = ap (λ b. cond b (Some p.0) (first_part test ps)) here

pub part_later : (test : List Entry → Bool) (p : ℕ × List Entry) (ps : List (ℕ × List Entry)) → test p.1 ≡ false → first_part test (p ∷ ps) ≡ first_part test ps
part_later test p ps here = ap (λ b. cond b (Some p.0) (first_part test ps)) here

-- it begins with the item that was read there
pub item_at : {X : Type 0} (xs : List X) (i : ℕ) (x : X) → i < length xs → x ≡ get_or xs i x → drop i xs ≡ x ∷ drop (i + 1) xs
item_at xs i x lt is = rw (add-one, drop-cons xs i x) (ap (λ y. y ∷ drop (suc i) xs) (sym is))

-- one more message, which is sent if the mark passes
pub sent_kept : {Y : Type 0} (g : Mark → Y) (p : Mark → Bool) (out : List Y) (rest : List Mark) (x : Mark) → p x ≡ true
    → out ++ map g (filter p (x ∷ rest)) ≡ (out ++ g x ∷ []) ++ map g (filter p rest)
sent_kept g p out rest x here =
    ap (λ b. out ++ map g (cond b (x ∷ filter p rest) (filter p rest))) here ∙ sym (append_assoc out (g x ∷ []) (map g (filter p rest)))

pub sent_left : {Y : Type 0} (g : Mark → Y) (p : Mark → Bool) (out : List Y) (rest : List Mark) (x : Mark) → p x ≡ false
    → out ++ map g (filter p (x ∷ rest)) ≡ out ++ map g (filter p rest)
sent_left g p out rest x here = ap (λ b. out ++ map g (cond b (x ∷ filter p rest) (filter p rest))) here

-- The waiting reads whose key nobody holds, by the holders of keys.
use Rattle.std.proofs.Common.{◌≡◌, ℕ, Bool, true, false, not, ◌||◌, ◌&&◌, ◌==◌, cond, List, [], ◌∷◌, filter, Option, is_some, refl, sym, ap, ◌∙◌}
use Rattle.std.specs.Ordering.{nat_cmp}
use Rattle.std.specs.List.{slice_get, list_all}
use Rattle.std.specs.List.Sorted.{IsStrictlySortedBy}
use Rattle.rc_ids.specs.Tables.{Table, member, without}
use Rattle.rc_body.specs.Bodies.{writes}
use Rattle.rc_body.specs.declared.entry.Entry.{Entry}
use Rattle.rc_protocol.specs.Shard.{Mark, mark_cmp, is_free, cleared}
use Rattle.rc_locks.specs.declared.cells.Holders.{Holders}
use Rattle.rc_locks.specs.Cells.{IsRising, IsIndexed, writers_of, writers_at, is_free_at, is_among, frees_at}
use Rattle.rc_locks.specs.LockSets.{parts_left, cleared_all}
use Rattle.rc_locks.proofs.MarkLists.{mark_total, mark_exact, member-filter}
use Rattle.rc_locks.proofs.PartFacts.{first_kept, kept_of-without, rises-without}

pub rises_none : IsRising []
unfolding IsStrictlySortedBy
rises_none = tt

pub free_is : (parts : Table ℕ (List Entry)) (cells : Table (List ℕ) Holders) → IsIndexed parts cells → (m : Mark) → is_free_at cells m ≡ is_free parts m
free_is parts cells indexed m =
    ap (λ (xs : List ℕ). not (is_some (slice_get xs 0))) (indexed m.0).0 ∙ ap (λ (o : Option ℕ). not (is_some o)) (sym (first_kept (writes m.0) parts))

pub filter_alike : {X : Type 0} (p q : X → Bool) → ((x : X) → p x ≡ q x) → (xs : List X) → filter p xs ≡ filter q xs
filter_alike p q same [] = refl
filter_alike p q same (x ∷ xs) = λ i. cond (same x i) (x ∷ filter_alike p q same xs i) (filter_alike p q same xs i)

filter_filter : {X : Type 0} (p q : X → Bool) (xs : List X) → filter q (filter p xs) ≡ filter (λ x. p x && q x) xs
filter_filter p q [] = refl
filter_filter {X} p q (x ∷ xs) = at (p x) (filter_filter p q xs)
  where
    at : (b : Bool) → filter q (filter p xs) ≡ filter (λ x. p x && q x) xs
        → filter q (cond b (x ∷ filter p xs) (filter p xs)) ≡ cond (b && q x) (x ∷ filter (λ x. p x && q x) xs) (filter (λ x. p x && q x) xs)
    at true rest = ap (λ (ys : List X). cond (q x) (x ∷ ys) ys) rest
    at false rest = rest

filter_all : {X : Type 0} (xs : List X) → xs ≡ filter (λ x. true) xs
filter_all [] = refl
filter_all (x ∷ xs) = ap (λ ys. x ∷ ys) (filter_all xs)

apart : (a b : Bool) → (not a && not b) ≡ not (a || b)
apart true b = refl
apart false b = refl

pub cleared_all-is : (ts : List ℕ) (ws : List Mark) → cleared_all ws ts ≡ filter (λ (m : Mark). not (is_among ts m.1)) ws
cleared_all-is [] ws = filter_all ws
cleared_all-is (t ∷ ts) ws =
    cleared_all-is ts (cleared ws t) ∙ filter_filter (λ (m : Mark). not (m.1 == t)) (λ (m : Mark). not (is_among ts m.1)) ws
    ∙ filter_alike _ _ (λ m. apart (m.1 == t) (is_among ts m.1)) ws

writers_left : (ts : List ℕ) (parts : Table ℕ (List Entry)) (k : List ℕ) → IsRising parts → writers_of (parts_left parts ts) k ≡ filter (λ (u : ℕ). not (is_among ts u)) (writers_of parts k)
writers_left [] parts k up = filter_all (writers_of parts k)
writers_left (t ∷ ts) parts k up =
    writers_left ts (without nat_cmp parts t) k (rises-without t parts up)
    ∙ ap (filter (λ (u : ℕ). not (is_among ts u))) (kept_of-without (writes k) t parts up)
    ∙ filter_filter (λ (u : ℕ). not (u == t)) (λ (u : ℕ). not (is_among ts u)) (writers_of parts k)
    ∙ filter_alike _ _ (λ u. apart (u == t) (is_among ts u)) (writers_of parts k)

none_left : (h : ℕ → Bool) (xs : List ℕ) → not (is_some (slice_get (filter (λ (u : ℕ). not (h u)) xs) 0)) ≡ list_all h xs
none_left h [] = refl
none_left h (x ∷ xs) = at (h x) (none_left h xs)
  where
    at : (b : Bool) → not (is_some (slice_get (filter (λ (u : ℕ). not (h u)) xs) 0)) ≡ list_all h xs
        → not (is_some (slice_get (cond (not b) (x ∷ filter (λ (u : ℕ). not (h u)) xs) (filter (λ (u : ℕ). not (h u)) xs)) 0)) ≡ (b && list_all h xs)
    at true rest = rest
    at false rest = refl

module _ (parts : Table ℕ (List Entry)) (cells : Table (List ℕ) Holders) (up : IsRising parts) (indexed : IsIndexed parts cells) where
  free_left : (ts : List ℕ) (m : Mark) → list_all (is_among ts) (writers_at cells m.0) ≡ is_free (parts_left parts ts) m
  free_left ts m =
      ap (list_all (is_among ts)) (indexed m.0).0
      ∙ sym (none_left (is_among ts) (writers_of parts m.0))
      ∙ sym (ap (λ (xs : List ℕ). not (is_some (slice_get xs 0))) (writers_left ts parts m.0 up))
      ∙ sym (ap (λ (o : Option ℕ). not (is_some o)) (first_kept (writes m.0) (parts_left parts ts)))

  pub freed_without : (ts : List ℕ) (ws : List Mark) → filter (frees_at cells ts) ws ≡ filter (is_free (parts_left parts ts)) (cleared_all ws ts)
  freed_without ts ws =
      filter_alike (frees_at cells ts) (λ (m : Mark). not (is_among ts m.1) && is_free (parts_left parts ts) m) (λ m. ap (λ b. not (is_among ts m.1) && b) (free_left ts m)) ws
      ∙ sym (filter_filter (λ (m : Mark). not (is_among ts m.1)) (is_free (parts_left parts ts)) ws)
      ∙ sym (ap (filter (is_free (parts_left parts ts))) (cleared_all-is ts ws))

pub of_filter : (p : Mark → Bool) (ws : List Mark) (m : Mark) → member mark_cmp (filter p ws) m ≡ true → member mark_cmp ws m ≡ true
of_filter p ws m has = at (p m) (sym (member-filter mark_total mark_exact p ws m) ∙ has)
  where
    at : (b : Bool) → (b && member mark_cmp ws m) ≡ true → member mark_cmp ws m ≡ true
    at true h = h
    at false h = absurd cc

-- Rows in pages: where a key is, and what a change of its page makes of them all.
use Rattle.std.proofs.Common.{◌≡◌, ℕ, zero, suc, ◌-◌, ◌+◌, ◌<◌, ◌≤◌, Bool, true, false, cond, if◌then◌else◌, List, [], ◌∷◌, ◌++◌, length, take, drop, get_or, insert, slice_set, Option, Some, None, is_some, nat_lt, refl, sym, ap, subst, ◌∙◌, arith, append-nil, append_assoc, add-one}
use Rattle.std.specs.declared.cmp.Ordering.{Ordering}
use Rattle.std.specs.declared.cmp.Ordering.TheVariants.{Less, Equal, Greater}
use Rattle.std.specs.Ordering.{is_eq, is_ge, match_ordering}
use Rattle.std.specs.List.Sorted.{IsPartitionedBy, IsPartitionPoint}
use Rattle.rc_ids.specs.Tables.{found, put, maybe}
use Rattle.rc_ids.specs.Texts.{key_cmp}
use Rattle.rc_body.specs.Rows.{Row}
use Rattle.rc_record.specs.ShardState.{version_at}
use Rattle.rc_versions.specs.Rows.{AreAbove, Rises, newest}
use Rattle.rc_versions.specs.Pages.{all_rows, AreFilled, AreEmpty, IsPaged, AreBelow, IsPageOf, starts_by, reach}
use Rattle.rc_versions.proofs.RowFacts.{less_trans, greater_back, less_back, equal_left, above_all, Rises-newest}

-- ORDER
less_ge : (h r k : List ℕ) → key_cmp h r ≡ Less → is_ge (key_cmp k r) ≡ true → key_cmp h k ≡ Less
less_ge h r k lt ge = chosen (key_cmp k r) refl ge
  where
    chosen : (o : Ordering) → key_cmp k r ≡ o → is_ge o ≡ true → key_cmp h k ≡ Less
    chosen Less is ge = absurd cc
    chosen Equal is ge = greater_back k h (equal_left k r h is ∙ less_back h r lt)
    chosen Greater is ge = less_trans h r k lt (greater_back k r is)

not_ge : (o : Ordering) → is_ge o ≡ false → o ≡ Less
not_ge Less e = refl
not_ge Equal e = absurd cc
not_ge Greater e = absurd cc

-- PARTS
pub above_parts : (k : List ℕ) (xs ys : List Row) → AreAbove k (xs ++ ys) → AreAbove k xs × AreAbove k ys
above_parts k [] ys all = (tt, all)
above_parts k (x ∷ xs) ys all = let rest = above_parts k xs ys all.1 in ((all.0, rest.0), rest.1)

below_parts : (k : List ℕ) (xs ys : List Row) → AreBelow k (xs ++ ys) → AreBelow k xs × AreBelow k ys
below_parts k [] ys all = (tt, all)
below_parts k (x ∷ xs) ys all = let rest = below_parts k xs ys all.1 in ((all.0, rest.0), rest.1)

below_both : (k : List ℕ) (xs ys : List Row) → AreBelow k xs → AreBelow k ys → AreBelow k (xs ++ ys)
below_both k [] ys a b = b
below_both k (x ∷ xs) ys a b = (a.0, below_both k xs ys a.1 b)

pub rises_parts : (xs ys : List Row) → Rises (xs ++ ys) → Rises xs × Rises ys
rises_parts [] ys rises = (tt, rises)
rises_parts (x ∷ xs) ys rises = let rest = rises_parts xs ys rises.1 in (((above_parts x.0 xs ys rises.0).0, rest.0), rest.1)

-- all before rows that begin at k or below it
below_from : (k : List ℕ) (xs up : List Row) → Rises (xs ++ up) → starts_by k up ≡ true → AreBelow k xs
below_from k xs [] rises starts = absurd cc
below_from k [] (r ∷ ys) rises starts = tt
below_from k (x ∷ xs) (r ∷ ys) rises starts =
    (less_back x.0 k (less_ge x.0 r.0 k (above_parts x.0 xs (r ∷ ys) rises.0).1.0 starts), below_from k xs (r ∷ ys) rises.1 starts)

-- rows that begin above k, and all behind them
above_first : (k : List ℕ) (p ys : List Row) → 0 < length p → Rises (p ++ ys) → starts_by k p ≡ false → AreAbove k (p ++ ys)
above_first k [] ys some rises starts = absurd (omega arith)
above_first k (r ∷ rs) ys some rises starts = let lt = not_ge (key_cmp k r.0) starts in (lt, above_all k r.0 (rs ++ ys) lt rises.0)

-- ROWS BELOW AND ABOVE KEEP OUT OF IT
none_above : (k : List ℕ) (rs : List Row) → AreAbove k rs → found key_cmp rs k ≡ None
none_above k [] all = refl
none_above k (r ∷ rs) all = ap (λ (o : Ordering). cond (is_eq o) (Some r.1) (found key_cmp rs k)) all.0 ∙ none_above k rs all.1

pub found_above : (k : List ℕ) (p ys : List Row) → AreAbove k ys → found key_cmp (p ++ ys) k ≡ found key_cmp p k
found_above k [] ys all = none_above k ys all
found_above k (r ∷ p) ys all = ap (λ (o : Option (ℕ × List ℕ)). cond (is_eq (key_cmp k r.0)) (Some r.1) o) (found_above k p ys all)

pub found_below : (k : List ℕ) (xs p : List Row) → AreBelow k xs → found key_cmp (xs ++ p) k ≡ found key_cmp p k
found_below k [] p all = refl
found_below k (r ∷ xs) p all = ap (λ (o : Ordering). cond (is_eq o) (Some r.1) (found key_cmp (xs ++ p) k)) all.0 ∙ found_below k xs p all.1

put_above : (k : List ℕ) (x : ℕ × List ℕ) (p ys : List Row) → AreAbove k ys → put key_cmp (p ++ ys) k x ≡ put key_cmp p k x ++ ys
put_above k x [] [] all = refl
put_above k x [] (r ∷ rs) all = ap (λ (o : Ordering). match_ordering o ((k, x) ∷ r ∷ rs) ((r.0, x) ∷ rs) (r ∷ put key_cmp rs k x)) all.0
put_above k x (r ∷ p) ys all = placed (key_cmp k r.0) (put_above k x p ys all)
  where
    placed : (o : Ordering) → put key_cmp (p ++ ys) k x ≡ put key_cmp p k x ++ ys
        → match_ordering o ((k, x) ∷ r ∷ (p ++ ys)) ((r.0, x) ∷ (p ++ ys)) (r ∷ put key_cmp (p ++ ys) k x)
        ≡ match_ordering o ((k, x) ∷ r ∷ p) ((r.0, x) ∷ p) (r ∷ put key_cmp p k x) ++ ys
    placed Less rest = refl
    placed Equal rest = refl
    placed Greater rest = ap (λ (es : List Row). r ∷ es) rest

put_below : (k : List ℕ) (x : ℕ × List ℕ) (xs p : List Row) → AreBelow k xs → put key_cmp (xs ++ p) k x ≡ xs ++ put key_cmp p k x
put_below k x [] p all = refl
put_below k x (r ∷ xs) p all =
    ap (λ (o : Ordering). match_ordering o ((k, x) ∷ r ∷ (xs ++ p)) ((r.0, x) ∷ (xs ++ p)) (r ∷ put key_cmp (xs ++ p) k x)) all.0
    ∙ ap (λ (es : List Row). r ∷ es) (put_below k x xs p all.1)

version_of : (rows p : List Row) (k : List ℕ) → found key_cmp rows k ≡ found key_cmp p k → version_at rows k ≡ version_at p k
version_of rows p k same = ap (λ (o : Option (ℕ × List ℕ)). maybe o 0 (λ row. row.0)) same

pub newest_above : (k : List ℕ) (v : ℕ) (x : List ℕ) (p ys : List Row) → AreAbove k ys → newest (p ++ ys) k v x ≡ newest p k v x ++ ys
newest_above k v x p ys all =
    ap (λ (n : ℕ). if nat_lt n v then put key_cmp (p ++ ys) k (v, x) else (p ++ ys)) (version_of (p ++ ys) p k (found_above k p ys all))
    ∙ chosen (nat_lt (version_at p k) v)
  where
    chosen : (b : Bool) → (if b then put key_cmp (p ++ ys) k (v, x) else (p ++ ys)) ≡ (if b then put key_cmp p k (v, x) else p) ++ ys
    chosen true = put_above k (v, x) p ys all
    chosen false = refl

pub newest_below : (k : List ℕ) (v : ℕ) (x : List ℕ) (xs p : List Row) → AreBelow k xs → newest (xs ++ p) k v x ≡ xs ++ newest p k v x
newest_below k v x xs p all =
    ap (λ (n : ℕ). if nat_lt n v then put key_cmp (xs ++ p) k (v, x) else (xs ++ p)) (version_of (xs ++ p) p k (found_below k xs p all))
    ∙ chosen (nat_lt (version_at p k) v)
  where
    chosen : (b : Bool) → (if b then put key_cmp (xs ++ p) k (v, x) else (xs ++ p)) ≡ xs ++ (if b then put key_cmp p k (v, x) else p)
    chosen true = put_below k (v, x) xs p all
    chosen false = refl

-- some rows stay some
put_some : (k : List ℕ) (x : ℕ × List ℕ) (rows : List Row) → 0 < length (put key_cmp rows k x)
put_some k x [] = omega arith
put_some k x (r ∷ rs) = placed (key_cmp k r.0)
  where
    placed : (o : Ordering) → 0 < length (match_ordering o ((k, x) ∷ r ∷ rs) ((r.0, x) ∷ rs) (r ∷ put key_cmp rs k x))
    placed Less = omega arith
    placed Equal = omega arith
    placed Greater = omega arith

pub newest_kept : (k : List ℕ) (v : ℕ) (x : List ℕ) (rows : List Row) → 0 < length rows → 0 < length (newest rows k v x)
newest_kept k v x rows some = chosen (nat_lt (version_at rows k) v)
  where
    chosen : (b : Bool) → 0 < length (if b then put key_cmp rows k (v, x) else rows)
    chosen true = put_some k (v, x) rows
    chosen false = some

-- THE PAGE OF A KEY
-- pages that begin at k or below it come first
starts_before : (h k : List ℕ) (ps : List (List Row)) (j : ℕ) (d : List Row) → AreFilled ps → AreAbove h (all_rows ps) → j < length ps
    → starts_by k (get_or ps j d) ≡ true → key_cmp h k ≡ Less
starts_before h k [] j d filled above lt starts = absurd (omega arith)
starts_before h k ([] ∷ ps) zero d filled above lt starts = let some = filled.0 in absurd (omega (arith, some))
starts_before h k ((r ∷ rs) ∷ ps) zero d filled above lt starts = less_ge h r.0 k above.0 starts
starts_before h k (p ∷ ps) (suc j) d filled above lt starts =
    starts_before h k ps j d filled.1 (above_parts h p (all_rows ps) above).1 (omega arith) starts

first_before : (k : List ℕ) (p : List Row) (ps : List (List Row)) (j : ℕ) (d : List Row) → AreFilled (p ∷ ps) → Rises (all_rows (p ∷ ps)) → j < length ps
    → starts_by k (get_or ps j d) ≡ true → starts_by k p ≡ true
first_before k [] ps j d filled rises lt starts = let some = filled.0 in absurd (omega (arith, some))
first_before k (r ∷ rs) ps j d filled rises lt starts =
    ap is_ge (less_back r.0 k (starts_before r.0 k ps j d filled.1 (above_parts r.0 rs (all_rows ps) rises.0).1 lt starts))

pub parted_pages : (k : List ℕ) (ps : List (List Row)) → AreFilled ps → Rises (all_rows ps) → IsPartitionedBy (starts_by k) ps
parted_pages k [] filled rises i j d le lt starts = absurd (omega arith)
parted_pages k (p ∷ ps) filled rises zero zero d le lt starts = starts
parted_pages k (p ∷ ps) filled rises zero (suc j) d le lt starts = first_before k p ps j d filled rises (omega arith) starts
parted_pages k (p ∷ ps) filled rises (suc i) zero d le lt starts = absurd (omega arith)
parted_pages k (p ∷ ps) filled rises (suc i) (suc j) d le lt starts =
    parted_pages k ps filled.1 (rises_parts p (all_rows ps) rises).1 i j d (omega arith) (omega arith) starts

pub counted_pages : (k : List ℕ) (ps : List (List Row)) (i : ℕ) → i ≤ length ps
    → IsPartitionPoint (λ p. starts_by k p ≡ true) (λ p. starts_by k p ≡ false) ps i → i ≡ reach k ps
counted_pages k [] zero le point = refl
counted_pages k [] (suc i) le point = absurd (omega arith)
counted_pages k (p ∷ ps) zero le point =
    let first : starts_by k p ≡ false = point.1 0 [] (omega arith) (omega arith) in
    sym (ap (λ (b : Bool). if b then suc (reach k ps) else 0) first)
counted_pages k (p ∷ ps) (suc i) le point =
    let first : starts_by k p ≡ true = point.0 0 [] (omega arith) (omega arith) in
    let others = counted_pages k ps i (omega arith) (λ j d low lt. point.0 (suc j) d (omega arith) (omega arith), λ j d low lt. point.1 (suc j) d (omega arith) (omega arith)) in
    ap suc others ∙ sym (ap (λ (b : Bool). if b then suc (reach k ps) else 0) first)

above_reach : (k : List ℕ) (ps : List (List Row)) → AreFilled ps → Rises (all_rows ps) → AreAbove k (all_rows (drop (reach k ps) ps))
above_reach k [] filled rises = tt
above_reach k (p ∷ ps) filled rises = chosen (starts_by k p) refl (above_reach k ps filled.1 (rises_parts p (all_rows ps) rises).1)
  where
    chosen : (b : Bool) → starts_by k p ≡ b → AreAbove k (all_rows (drop (reach k ps) ps)) → AreAbove k (all_rows (drop (if b then suc (reach k ps) else 0) (p ∷ ps)))
    chosen true is rest = rest
    chosen false is rest = above_first k p (all_rows ps) filled.0 rises is

-- the pages before the last one that begins at k or below it
below_reach : (k : List ℕ) (n : ℕ) (ps : List (List Row)) → Rises (all_rows ps) → suc n ≡ reach k ps → AreBelow k (all_rows (take n ps))
below_reach k zero ps rises is = tt
below_reach k (suc n) [] rises is = tt
below_reach k (suc n) (p ∷ []) rises is = absurd (few (starts_by k p) is)
  where
    few : (b : Bool) → suc (suc n) ≡ (if b then 1 else 0) → ⊥
    few true is = omega arith
    few false is = omega arith
below_reach k (suc n) (p ∷ q ∷ ps) rises is =
    let parts = rises_parts p (all_rows (q ∷ ps)) rises in
    let more = inner (starts_by k p) is in
    below_both k p (all_rows (take n (q ∷ ps))) (before (starts_by k q) refl more) (below_reach k n (q ∷ ps) parts.1 more)
  where
    inner : (b : Bool) → suc (suc n) ≡ (if b then suc (reach k (q ∷ ps)) else 0) → suc n ≡ reach k (q ∷ ps)
    inner true is = omega arith
    inner false is = absurd (omega arith)

    before : (b : Bool) → starts_by k q ≡ b → suc n ≡ (if b then suc (reach k ps) else 0) → AreBelow k p
    before true starts is = below_from k p (q ++ all_rows ps) rises (starts_more q starts)
      where
        starts_more : (q : List Row) → starts_by k q ≡ true → starts_by k (q ++ all_rows ps) ≡ true
        starts_more [] starts = absurd cc
        starts_more (r ∷ rs) starts = starts
    before false starts is = absurd (omega arith)

above_later : (k : List ℕ) (ps : List (List Row)) → AreAbove k (all_rows ps) → AreAbove k (all_rows (drop 1 ps))
above_later k [] above = tt
above_later k (p ∷ ps) above = (above_parts k p (all_rows ps) above).1

pub page_reached : (k : List ℕ) (ps : List (List Row)) (n at : ℕ) → IsPaged ps → n ≡ reach k ps → n ≤ length ps → at ≡ n - 1 → IsPageOf k ps at
page_reached k ps zero at paged is few place =
    let here : at ≡ 0 = place in
    subst (IsPageOf k ps) (sym here) (record {
      below = tt;
      above = above_later k ps (subst (λ (m : ℕ). AreAbove k (all_rows (drop m ps))) (sym is) (above_reach k ps paged.filled paged.rises));
      there = λ some. some;
    })
page_reached k ps (suc n) at paged is few place =
    let here : at ≡ n = omega arith in
    subst (IsPageOf k ps) (sym here) (record {
      below = below_reach k n ps paged.rises is;
      above = subst (λ (m : ℕ). AreAbove k (all_rows (drop m ps))) (sym is) (above_reach k ps paged.filled paged.rises);
      there = λ some. few;
    })

-- WHAT ITS PAGE HAS OF A KEY
pub rises_at : (ps : List (List Row)) (at : ℕ) (d : List Row) → at < length ps → Rises (all_rows ps) → Rises (get_or ps at d)
rises_at [] at d lt rises = absurd (omega arith)
rises_at (p ∷ ps) zero d lt rises = (rises_parts p (all_rows ps) rises).0
rises_at (p ∷ ps) (suc at) d lt rises = rises_at ps at d (omega arith) (rises_parts p (all_rows ps) rises).1

found_in : (k : List ℕ) (ps : List (List Row)) (at : ℕ) (d : List Row) → AreBelow k (all_rows (take at ps)) → AreAbove k (all_rows (drop (suc at) ps))
    → at < length ps → found key_cmp (all_rows ps) k ≡ found key_cmp (get_or ps at d) k
found_in k [] at d below above lt = absurd (omega arith)
found_in k (p ∷ ps) zero d below above lt = found_above k p (all_rows ps) above
found_in k (p ∷ ps) (suc at) d below above lt =
    let parts = below_parts k p (all_rows (take at ps)) below in
    found_below k p (all_rows ps) parts.0 ∙ found_in k ps at d parts.1 above (omega arith)

pub found_at : (k : List ℕ) (ps : List (List Row)) (at : ℕ) (d : List Row) → IsPageOf k ps at → at < length ps
    → found key_cmp (all_rows ps) k ≡ found key_cmp (get_or ps at d) k
found_at k ps at d page lt = found_in k ps at d page.below page.above lt

pub version_in : (k : List ℕ) (ps : List (List Row)) (at : ℕ) (d : List Row) → IsPageOf k ps at → at < length ps
    → version_at (all_rows ps) k ≡ version_at (get_or ps at d) k
version_in k ps at d page lt = version_of (all_rows ps) (get_or ps at d) k (found_at k ps at d page lt)

-- a key that is found has its page
pub page_there : (k : List ℕ) (ps : List (List Row)) (at : ℕ) → IsPageOf k ps at → is_some (found key_cmp (all_rows ps) k) ≡ true → at < length ps
page_there k [] at page some = absurd cc
page_there k (p ∷ ps) at page some = page.there (omega arith)

-- ANOTHER PAGE IN ITS PLACE
newest_in : (k : List ℕ) (v : ℕ) (x : List ℕ) (ps : List (List Row)) (at : ℕ) (d q : List Row) → AreBelow k (all_rows (take at ps))
    → AreAbove k (all_rows (drop (suc at) ps)) → at < length ps → q ≡ newest (get_or ps at d) k v x
    → all_rows (slice_set ps at q) ≡ newest (all_rows ps) k v x
newest_in k v x [] at d q below above lt is = absurd (omega arith)
newest_in k v x (p ∷ ps) zero d q below above lt is =
    ap (λ (rows : List Row). rows ++ all_rows ps) is ∙ sym (newest_above k v x p (all_rows ps) above)
newest_in k v x (p ∷ ps) (suc at) d q below above lt is =
    let parts = below_parts k p (all_rows (take at ps)) below in
    ap (λ (rows : List Row). p ++ rows) (newest_in k v x ps at d q parts.1 above (omega arith) is)
    ∙ sym (newest_below k v x p (all_rows ps) parts.0)

pub newest_at : (k : List ℕ) (v : ℕ) (x : List ℕ) (ps : List (List Row)) (at : ℕ) (d q : List Row) → IsPageOf k ps at → at < length ps
    → q ≡ newest (get_or ps at d) k v x → all_rows (slice_set ps at q) ≡ newest (all_rows ps) k v x
newest_at k v x ps at d q page lt is = newest_in k v x ps at d q page.below page.above lt is

pub filled_at : (ps : List (List Row)) (at : ℕ) (d : List Row) → at < length ps → AreFilled ps → 0 < length (get_or ps at d)
filled_at [] at d lt filled = absurd (omega arith)
filled_at (p ∷ ps) zero d lt filled = filled.0
filled_at (p ∷ ps) (suc at) d lt filled = filled_at ps at d (omega arith) filled.1

filled_set : (ps : List (List Row)) (at : ℕ) (q : List Row) → AreFilled ps → 0 < length q → AreFilled (slice_set ps at q)
filled_set [] at q filled some = tt
filled_set (p ∷ ps) zero q filled some = (some, filled.1)
filled_set (p ∷ ps) (suc at) q filled some = (filled.0, filled_set ps at q filled.1 some)

pub paged_at : (k : List ℕ) (v : ℕ) (x : List ℕ) (ps : List (List Row)) (at : ℕ) (q : List Row) → IsPaged ps → 0 < length q
    → all_rows (slice_set ps at q) ≡ newest (all_rows ps) k v x → IsPaged (slice_set ps at q)
paged_at k v x ps at q paged some is = record {
  filled = filled_set ps at q paged.filled some;
  rises = subst Rises (sym is) (Rises-newest k v x (all_rows ps) paged.rises);
}

-- TWO PAGES IN ITS PLACE
split_in : (k : List ℕ) (v : ℕ) (x : List ℕ) (ps : List (List Row)) (at : ℕ) (d lo up : List Row) → AreBelow k (all_rows (take at ps))
    → AreAbove k (all_rows (drop (suc at) ps)) → at < length ps → lo ++ up ≡ newest (get_or ps at d) k v x
    → all_rows (insert (slice_set ps at lo) (suc at) up) ≡ newest (all_rows ps) k v x
split_in k v x [] at d lo up below above lt is = absurd (omega arith)
split_in k v x (p ∷ ps) zero d lo up below above lt is =
    sym (append_assoc lo up (all_rows ps)) ∙ ap (λ (rows : List Row). rows ++ all_rows ps) is ∙ sym (newest_above k v x p (all_rows ps) above)
split_in k v x (p ∷ ps) (suc at) d lo up below above lt is =
    let parts = below_parts k p (all_rows (take at ps)) below in
    ap (λ (rows : List Row). p ++ rows) (split_in k v x ps at d lo up parts.1 above (omega arith) is)
    ∙ sym (newest_below k v x p (all_rows ps) parts.0)

pub split_at : (k : List ℕ) (v : ℕ) (x : List ℕ) (ps : List (List Row)) (at : ℕ) (d lo up : List Row) → IsPageOf k ps at → at < length ps
    → lo ++ up ≡ newest (get_or ps at d) k v x → all_rows (insert (slice_set ps at lo) (at + 1) up) ≡ newest (all_rows ps) k v x
split_at k v x ps at d lo up page lt is =
    ap (λ (n : ℕ). all_rows (insert (slice_set ps at lo) n up)) (add-one at) ∙ split_in k v x ps at d lo up page.below page.above lt is

filled_insert : (ps : List (List Row)) (at : ℕ) (q : List Row) → AreFilled ps → 0 < length q → AreFilled (insert ps at q)
filled_insert ps zero q filled some = (some, filled)
filled_insert [] (suc at) q filled some = (some, tt)
filled_insert (p ∷ ps) (suc at) q filled some = (filled.0, filled_insert ps at q filled.1 some)

pub paged_split : (k : List ℕ) (v : ℕ) (x : List ℕ) (ps : List (List Row)) (at : ℕ) (lo up : List Row) → IsPaged ps → 0 < length lo → 0 < length up
    → all_rows (insert (slice_set ps at lo) (at + 1) up) ≡ newest (all_rows ps) k v x → IsPaged (insert (slice_set ps at lo) (at + 1) up)
paged_split k v x ps at lo up paged lower upper is = record {
  filled = filled_insert (slice_set ps at lo) (at + 1) up (filled_set ps at lo paged.filled lower) upper;
  rises = subst Rises (sym is) (Rises-newest k v x (all_rows ps) paged.rises);
}

-- THE HALVES OF A PAGE
pub half_below : (k : List ℕ) (lo up rows : List Row) → lo ++ up ≡ rows → Rises rows → starts_by k up ≡ true → AreBelow k lo
half_below k lo up rows is rises starts = below_from k lo up (subst Rises (sym is) rises) starts

pub half_above : (k : List ℕ) (lo up rows : List Row) → lo ++ up ≡ rows → Rises rows → 0 < length up → starts_by k up ≡ false → AreAbove k up
half_above k lo up rows is rises some starts =
    let all : AreAbove k (up ++ []) = above_first k up [] some (subst Rises (sym (append-nil up)) (rises_parts lo up (subst Rises (sym is) rises)).1) starts in
    subst (AreAbove k) (append-nil up) all

pub half_rises : (lo up rows : List Row) → lo ++ up ≡ rows → Rises rows → Rises lo × Rises up
half_rises lo up rows is rises = rises_parts lo up (subst Rises (sym is) rises)

-- PAGES WITHOUT ROWS
pub empty_push : (ps : List (List Row)) (q : List Row) → AreEmpty ps → q ≡ [] → AreEmpty (ps ++ q ∷ [])
empty_push [] q all is = (ap length is, tt)
empty_push (p ∷ ps) q all is = (all.0, empty_push ps q all.1 is)

pub empty_take : (ps : List (List Row)) (n : ℕ) → AreEmpty ps → AreEmpty (take n ps)
empty_take ps zero all = tt
empty_take [] (suc n) all = tt
empty_take (p ∷ ps) (suc n) all = (all.0, empty_take ps n all.1)

pub empty_at : (ps : List (List Row)) (n : ℕ) (d : List Row) → AreEmpty ps → n < length ps → get_or ps n d ≡ []
empty_at [] n d all lt = absurd (omega arith)
empty_at ([] ∷ ps) zero d all lt = refl
empty_at ((r ∷ rs) ∷ ps) zero d all lt = let none = all.0 in absurd (omega (arith, none))
empty_at (p ∷ ps) (suc n) d all lt = empty_at ps n d all.1 (omega arith)

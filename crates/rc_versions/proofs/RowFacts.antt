-- Rows in the order of their keys: where a key is, and what one more makes of them.
use Rattle.std.proofs.Common.{◌≡◌, ℕ, zero, suc, ◌<◌, ◌≤◌, Bool, true, false, cond, if◌then◌else◌, List, [], ◌∷◌, length, get_or, insert, slice_get, slice_set, Option, Some, None, is_some, nat_lt, refl, sym, ap, ◌∙◌, arith}
use Rattle.std.specs.declared.cmp.Ordering.{Ordering}
use Rattle.std.specs.declared.cmp.Ordering.TheVariants.{Less, Equal, Greater}
use Rattle.std.specs.Ordering.{nat_cmp, is_lt, is_gt, is_eq, ordering_reverse, match_ordering}
use Rattle.std.specs.Cmp.Lexicographic.{texts_ties}
use Rattle.std.specs.List.Sorted.{IsPartitionedBy, IsPartitionPoint}
use Rattle.std.proofs.lemmas.Cmp.{nat_list_cmp_total, nat_list_eq_equiv}
use Rattle.rc_ids.specs.Tables.{found, put, maybe}
use Rattle.rc_ids.specs.Texts.{key_cmp, same_key}
use Rattle.rc_body.specs.Rows.{Row}
use Rattle.rc_record.specs.ShardState.{version_at}
use Rattle.rc_versions.specs.Rows.{AreAbove, Rises, rank, held, newest}

-- the row's key is below k
abbrev pub is_below : List ℕ → Row → Bool
is_below k r = is_gt (key_cmp k r.0)

-- ORDER
pub less_trans : (a b c : List ℕ) → key_cmp a b ≡ Less → key_cmp b c ≡ Less → key_cmp a c ≡ Less
less_trans a b c h k = nat_list_cmp_total.trans a b c h k

pub greater_back : (a b : List ℕ) → key_cmp a b ≡ Greater → key_cmp b a ≡ Less
greater_back a b h = nat_list_cmp_total.antisymm b a ∙ ap ordering_reverse h

pub less_back : (a b : List ℕ) → key_cmp a b ≡ Less → key_cmp b a ≡ Greater
less_back a b h = nat_list_cmp_total.antisymm b a ∙ ap ordering_reverse h

pub equal_left : (a b c : List ℕ) → key_cmp a b ≡ Equal → key_cmp a c ≡ key_cmp b c
equal_left a b c h = nat_list_cmp_total.congr a b c h

gt_is : (o : Ordering) → is_gt o ≡ true → o ≡ Greater
gt_is Less e = absurd cc
gt_is Equal e = absurd cc
gt_is Greater e = refl

below_before : (k a b : List ℕ) → key_cmp a b ≡ Less → is_gt (key_cmp k b) ≡ true → is_gt (key_cmp k a) ≡ true
below_before k a b h gt = ap is_gt (less_back a k (less_trans a b k h (greater_back k b (gt_is (key_cmp k b) gt))))

pub above_all : (h k : List ℕ) (rs : List Row) → key_cmp h k ≡ Less → AreAbove k rs → AreAbove h rs
above_all h k [] lt all = tt
above_all h k (r ∷ rs) lt all = (less_trans h k r.0 lt all.0, above_all h k rs lt all.1)

above_at : (h : List ℕ) (rs : List Row) → AreAbove h rs → (j : ℕ) (d : Row) → j < length rs → key_cmp h (get_or rs j d).0 ≡ Less
above_at h [] all j d lt = absurd (omega arith)
above_at h (r ∷ rs) all zero d lt = all.0
above_at h (r ∷ rs) all (suc j) d lt = above_at h rs all.1 j d (omega arith)

-- SEARCH BY HALVES
pub parted : (k : List ℕ) (rows : List Row) → Rises rows → IsPartitionedBy (is_below k) rows
parted k [] rises i j d le lt below = absurd (omega arith)
parted k (r ∷ rs) rises zero zero d le lt below = below
parted k (r ∷ rs) rises zero (suc j) d le lt below = below_before k r.0 (get_or rs j d).0 (above_at r.0 rs rises.0 j d (omega arith)) below
parted k (r ∷ rs) rises (suc i) zero d le lt below = absurd (omega arith)
parted k (r ∷ rs) rises (suc i) (suc j) d le lt below = parted k rs rises.1 i j d (omega arith) (omega arith) below

some_row : Row
some_row = ([], (0, []))

pub counted : (k : List ℕ) (rows : List Row) (i : ℕ) → i ≤ length rows → IsPartitionPoint (λ r. is_below k r ≡ true) (λ r. is_below k r ≡ false) rows i
    → i ≡ rank k rows
counted k [] zero le point = refl
counted k [] (suc i) le point = absurd (omega arith)
counted k (r ∷ rs) zero le point =
    let first : is_below k r ≡ false = point.1 0 some_row (omega arith) (omega arith) in
    sym (ap (λ (b : Bool). if b then suc (rank k rs) else 0) first)
counted k (r ∷ rs) (suc i) le point =
    let first : is_below k r ≡ true = point.0 0 some_row (omega arith) (omega arith) in
    let others = counted k rs i (omega arith) (λ j d low lt. point.0 (suc j) d (omega arith) (omega arith), λ j d low lt. point.1 (suc j) d (omega arith) (omega arith)) in
    ap suc others ∙ sym (ap (λ (b : Bool). if b then suc (rank k rs) else 0) first)

pub rank_few : (k : List ℕ) (rows : List Row) → rank k rows ≤ length rows
rank_few k [] = omega arith
rank_few k (r ∷ rs) = chosen (is_below k r) (rank_few k rs)
  where
    chosen : (b : Bool) → rank k rs ≤ length rs → (if b then suc (rank k rs) else 0) ≤ length (r ∷ rs)
    chosen true le = omega arith
    chosen false le = omega arith

-- WHAT IS FOUND
none_above : (k h : List ℕ) (rs : List Row) → key_cmp k h ≡ Less → AreAbove h rs → found key_cmp rs k ≡ None
none_above k h [] lt all = refl
none_above k h (r ∷ rs) lt all =
    ap (λ (o : Ordering). cond (is_eq o) (Some r.1) (found key_cmp rs k)) (less_trans k h r.0 lt all.0)
    ∙ none_above k h rs lt all.1

-- keys are tested by order as by equality
tied : (k l : List ℕ) → is_eq (key_cmp k l) ≡ same_key k l
tied k l = sym (texts_ties k l)

eq_is : (o : Ordering) → is_eq o ≡ true → o ≡ Equal
eq_is Less e = absurd cc
eq_is Equal e = refl
eq_is Greater e = absurd cc

pub found-rank : (k : List ℕ) (rows : List Row) → Rises rows → found key_cmp rows k ≡ held k (slice_get rows (rank k rows))
found-rank k [] rises = refl
found-rank k (r ∷ rs) rises = placed (key_cmp k r.0) refl (found-rank k rs rises.1)
  where
    placed : (o : Ordering) → key_cmp k r.0 ≡ o → found key_cmp rs k ≡ held k (slice_get rs (rank k rs))
        → cond (is_eq o) (Some r.1) (found key_cmp rs k) ≡ held k (slice_get (r ∷ rs) (if is_gt o then suc (rank k rs) else 0))
    placed Less is rest = none_above k r.0 rs is rises.0 ∙ sym (ap (λ (o : Ordering). if is_eq o then Some r.1 else None) is)
    placed Equal is rest = sym (ap (λ (o : Ordering). if is_eq o then Some r.1 else None) is)
    placed Greater is rest = rest

-- ONE MORE
pub put-new : (k : List ℕ) (x : ℕ × List ℕ) (rows : List Row) → held k (slice_get rows (rank k rows)) ≡ None
    → put key_cmp rows k x ≡ insert rows (rank k rows) (k, x)
put-new k x [] none = refl
put-new k x (r ∷ rs) none = placed (key_cmp k r.0) refl none (put-new k x rs)
  where
    placed : (o : Ordering) → key_cmp k r.0 ≡ o → held k (slice_get (r ∷ rs) (if is_gt o then suc (rank k rs) else 0)) ≡ None
        → (held k (slice_get rs (rank k rs)) ≡ None → put key_cmp rs k x ≡ insert rs (rank k rs) (k, x))
        → match_ordering o ((k, x) ∷ r ∷ rs) ((r.0, x) ∷ rs) (r ∷ put key_cmp rs k x)
        ≡ insert (r ∷ rs) (if is_gt o then suc (rank k rs) else 0) (k, x)
    placed Less is none rest = refl
    placed Equal is none rest = absurd (cc (ap (λ (o : Ordering). if is_eq o then Some r.1 else None) is))
    placed Greater is none rest = ap (λ (es : List Row). r ∷ es) (rest none)

pub put-there : (k : List ℕ) (x : ℕ × List ℕ) (rows : List Row) (r : Row) → slice_get rows (rank k rows) ≡ Some r → key_cmp k r.0 ≡ Equal
    → put key_cmp rows k x ≡ slice_set rows (rank k rows) (r.0, x)
put-there k x [] r at same = absurd cc
put-there k x (y ∷ ys) r at same = placed (key_cmp k y.0) refl at (λ later. put-there k x ys r later same)
  where
    placed : (o : Ordering) → key_cmp k y.0 ≡ o → slice_get (y ∷ ys) (if is_gt o then suc (rank k ys) else 0) ≡ Some r
        → (slice_get ys (rank k ys) ≡ Some r → put key_cmp ys k x ≡ slice_set ys (rank k ys) (r.0, x))
        → match_ordering o ((k, x) ∷ y ∷ ys) ((y.0, x) ∷ ys) (y ∷ put key_cmp ys k x)
        ≡ slice_set (y ∷ ys) (if is_gt o then suc (rank k ys) else 0) (r.0, x)
    placed Less is at rest = let e : y ≡ r = cc in absurd (cc (ap (λ (z : Row). key_cmp k z.0) e, is, same))
    placed Equal is at rest = let e : y ≡ r = cc in ap (λ (z : Row). (z.0, x) ∷ ys) e
    placed Greater is at rest = ap (λ (es : List Row). y ∷ es) (rest at)

above-put : (h k : List ℕ) (x : ℕ × List ℕ) (rows : List Row) → key_cmp h k ≡ Less → AreAbove h rows → AreAbove h (put key_cmp rows k x)
above-put h k x [] lt all = (lt, tt)
above-put h k x (r ∷ rs) lt all = placed (key_cmp k r.0) (above-put h k x rs lt all.1)
  where
    placed : (o : Ordering) → AreAbove h (put key_cmp rs k x) → AreAbove h (match_ordering o ((k, x) ∷ r ∷ rs) ((r.0, x) ∷ rs) (r ∷ put key_cmp rs k x))
    placed Less rest = (lt, all)
    placed Equal rest = all
    placed Greater rest = (all.0, rest)

pub Rises-put : (k : List ℕ) (x : ℕ × List ℕ) (rows : List Row) → Rises rows → Rises (put key_cmp rows k x)
Rises-put k x [] rises = (tt, tt)
Rises-put k x (r ∷ rs) rises = placed (key_cmp k r.0) refl (Rises-put k x rs rises.1)
  where
    placed : (o : Ordering) → key_cmp k r.0 ≡ o → Rises (put key_cmp rs k x) → Rises (match_ordering o ((k, x) ∷ r ∷ rs) ((r.0, x) ∷ rs) (r ∷ put key_cmp rs k x))
    placed Less is rest = ((is, above_all k r.0 rs is rises.0), rises)
    placed Equal is rest = rises
    placed Greater is rest = (above-put r.0 k x rs (greater_back k r.0 is) rises.0, rest)

-- THE KEY THAT STANDS AT A PLACE
pub held_here : (k : List ℕ) (r : Row) → same_key r.0 k ≡ true → held k (Some r) ≡ Some r.1
held_here k r same = ap (λ (b : Bool). if b then Some r.1 else None) (tied k r.0 ∙ nat_list_eq_equiv.symm k r.0 ∙ same)

pub held_not : (k : List ℕ) (r : Row) → same_key r.0 k ≡ false → held k (Some r) ≡ None
held_not k r other = ap (λ (b : Bool). if b then Some r.1 else None) (tied k r.0 ∙ nat_list_eq_equiv.symm k r.0 ∙ other)

pub equal_here : (k : List ℕ) (r : Row) → same_key r.0 k ≡ true → key_cmp k r.0 ≡ Equal
equal_here k r same = eq_is (key_cmp k r.0) (tied k r.0 ∙ nat_list_eq_equiv.symm k r.0 ∙ same)

pub Rises-newest : (k : List ℕ) (version : ℕ) (x : List ℕ) (rows : List Row) → Rises rows → Rises (newest rows k version x)
Rises-newest k version x rows rises = chosen (nat_lt (version_at rows k) version)
  where
    chosen : (b : Bool) → Rises (if b then put key_cmp rows k (version, x) else rows)
    chosen true = Rises-put k (version, x) rows rises
    chosen false = rises

-- the row at a place
row_there : (rows : List Row) (i : ℕ) (r : Row) → i < length rows → r ≡ get_or rows i r → slice_get rows i ≡ Some r
row_there [] i r lt is = absurd (omega arith)
row_there (x ∷ xs) zero r lt is = ap Some (sym is)
row_there (x ∷ xs) (suc i) r lt is = row_there xs i r (omega arith) is

pub held_in : (k : List ℕ) (rows : List Row) (i : ℕ) (r : Row) → i < length rows → r ≡ get_or rows i r
    → is_some (held k (slice_get rows i)) ≡ same_key r.0 k
held_in k rows i r lt is =
    ap (λ (o : Option Row). is_some (held k o)) (row_there rows i r lt is)
    ∙ chosen (is_eq (key_cmp k r.0)) ∙ tied k r.0 ∙ nat_list_eq_equiv.symm k r.0
  where
    chosen : (b : Bool) → is_some (if b then Some r.1 else None) ≡ b
    chosen true = refl
    chosen false = refl

pub held_past : (k : List ℕ) (rows : List Row) (i : ℕ) → length rows ≤ i → is_some (held k (slice_get rows i)) ≡ false
held_past k [] i le = refl
held_past k (x ∷ xs) zero le = absurd (omega arith)
held_past k (x ∷ xs) (suc i) le = held_past k xs i (omega arith)

pub none_held : (o : Option (ℕ × List ℕ)) → is_some o ≡ false → o ≡ None
none_held None e = refl
none_held (Some x) e = absurd cc

pub held_bound : (k : List ℕ) (rows : List Row) (i : ℕ) → is_some (held k (slice_get rows i)) ≡ true → i < length rows
held_bound k [] i there = absurd cc
held_bound k (x ∷ xs) zero there = omega arith
held_bound k (x ∷ xs) (suc i) there = let lt : i < length xs = held_bound k xs i there in omega arith

-- what is found where the key's place is known
pub found_none : (k : List ℕ) (rows : List Row) (i : ℕ) → Rises rows → i ≡ rank k rows → is_some (held k (slice_get rows i)) ≡ false
    → None ≡ found key_cmp rows k
found_none k rows i rises place none =
    sym (none_held (held k (slice_get rows i)) none)
    ∙ ap (λ (j : ℕ). held k (slice_get rows j)) place
    ∙ sym (found-rank k rows rises)

-- there is a row, and it has the key
same_there : (k : List ℕ) (rows : List Row) (i : ℕ) (r : Row) → is_some (held k (slice_get rows i)) ≡ true → r ≡ get_or rows i r → same_key r.0 k ≡ true
same_there k rows i r there is = sym (held_in k rows i r (held_bound k rows i there) is) ∙ there

pub found_some : (k : List ℕ) (rows : List Row) (i : ℕ) (r : Row) → Rises rows → i ≡ rank k rows → is_some (held k (slice_get rows i)) ≡ true
    → r ≡ get_or rows i r → Some r.1 ≡ found key_cmp rows k
found_some k rows i r rises place there is =
    sym (held_here k r (same_there k rows i r there is))
    ∙ ap (held k) (sym (row_there rows i r (held_bound k rows i there) is))
    ∙ ap (λ (j : ℕ). held k (slice_get rows j)) place
    ∙ sym (found-rank k rows rises)

pub version_there : (k : List ℕ) (rows : List Row) (i : ℕ) (r : Row) → Rises rows → i ≡ rank k rows → is_some (held k (slice_get rows i)) ≡ true
    → r ≡ get_or rows i r → r.1.0 ≡ version_at rows k
version_there k rows i r rises place there is =
    ap (λ (o : Option (ℕ × List ℕ)). maybe o 0 (λ row. row.0)) (found_some k rows i r rises place there is)

pub version_none : (k : List ℕ) (rows : List Row) (i : ℕ) → Rises rows → i ≡ rank k rows → is_some (held k (slice_get rows i)) ≡ false
    → version_at rows k ≡ 0
version_none k rows i rises place none =
    sym (ap (λ (o : Option (ℕ × List ℕ)). maybe o 0 (λ row. row.0)) (found_none k rows i rises place none))

-- the newest where the key stands at a place
pub newest_set : (k : List ℕ) (rows : List Row) (i : ℕ) (r : Row) (version : ℕ) (x : List ℕ) → i ≡ rank k rows
    → is_some (held k (slice_get rows i)) ≡ true → r ≡ get_or rows i r → version_at rows k < version
    → slice_set rows i (r.0, (version, x)) ≡ newest rows k version x
newest_set k rows i r version x place there is lt =
    let newer : nat_lt (version_at rows k) version ≡ true = grind arith in
    let at : slice_get rows (rank k rows) ≡ Some r = ap (slice_get rows) (sym place) ∙ row_there rows i r (held_bound k rows i there) is in
    ap (λ (j : ℕ). slice_set rows j (r.0, (version, x))) place
    ∙ sym (put-there k (version, x) rows r at (equal_here k r (same_there k rows i r there is)))
    ∙ sym (ap (λ (b : Bool). if b then put key_cmp rows k (version, x) else rows) newer)

pub newest_kept : (k : List ℕ) (rows : List Row) (version : ℕ) (x : List ℕ) → version ≤ version_at rows k → rows ≡ newest rows k version x
newest_kept k rows version x le =
    let older : nat_lt (version_at rows k) version ≡ false = grind arith in
    sym (ap (λ (b : Bool). if b then put key_cmp rows k (version, x) else rows) older)

-- and where it is new
pub newest_insert : (k : List ℕ) (rows : List Row) (i : ℕ) (version : ℕ) (x : List ℕ) → Rises rows → i ≡ rank k rows
    → is_some (held k (slice_get rows i)) ≡ false → 0 < version → insert rows i (k, (version, x)) ≡ newest rows k version x
newest_insert k rows i version x rises place none lt =
    let zero_there : version_at rows k ≡ 0 = version_none k rows i rises place none in
    let newer : nat_lt (version_at rows k) version ≡ true = grind arith in
    ap (λ (j : ℕ). insert rows j (k, (version, x))) place
    ∙ sym (put-new k (version, x) rows (ap (λ (j : ℕ). held k (slice_get rows j)) (sym place) ∙ none_held (held k (slice_get rows i)) none))
    ∙ sym (ap (λ (b : Bool). if b then put key_cmp rows k (version, x) else rows) newer)

-- A WRITE AT A PLACE, whose row is read there
set_same : {X : Type 0} (xs : List X) (i : ℕ) (d : X) → slice_set xs i (get_or xs i d) ≡ xs
set_same [] i d = refl
set_same (x ∷ xs) zero d = refl
set_same (x ∷ xs) (suc i) d = ap (λ ys. x ∷ ys) (set_same xs i d)

lt_true : (a b : ℕ) (t : Bool) → t ≡ nat_lt a b → t ≡ true → a < b
lt_true a b t is holds = grind arith

lt_false : (a b : ℕ) (t : Bool) → t ≡ nat_lt a b → t ≡ false → b ≤ a
lt_false a b t is fails = grind arith

is_lt-nat_lt : (a b : ℕ) → is_lt (nat_cmp a b) ≡ nat_lt a b
is_lt-nat_lt a b = grind arith

pub raise_said : (k : List ℕ) (rows : List Row) (i : ℕ) (r : Row) (version : ℕ) (t : Bool) → Rises rows → i ≡ rank k rows
    → is_some (held k (slice_get rows i)) ≡ true → r ≡ get_or rows i r → t ≡ is_lt (nat_cmp (get_or rows i r).1.0 version) → t ≡ nat_lt (version_at rows k) version
raise_said k rows i r version t rises place there is test =
    test ∙ is_lt-nat_lt (get_or rows i r).1.0 version
    ∙ ap (λ (x : Row). nat_lt x.1.0 version) (sym is)
    ∙ ap (λ (v : ℕ). nat_lt v version) (version_there k rows i r rises place there is)

pub raise_newer : (k : List ℕ) (rows : List Row) (i : ℕ) (r : Row) (version : ℕ) (x : List ℕ) (t : Bool) → i ≡ rank k rows
    → is_some (held k (slice_get rows i)) ≡ true → r ≡ get_or rows i r → t ≡ nat_lt (version_at rows k) version → t ≡ true
    → slice_set rows i ((get_or rows i r).0, (version, x)) ≡ newest rows k version x
raise_newer k rows i r version x t place there is said holds =
    ap (λ (y : Row). slice_set rows i (y.0, (version, x))) (sym is)
    ∙ newest_set k rows i r version x place there is (lt_true (version_at rows k) version t said holds)

pub raise_older : (k : List ℕ) (rows : List Row) (i : ℕ) (r : Row) (version : ℕ) (x : List ℕ) (t : Bool)
    → t ≡ nat_lt (version_at rows k) version → t ≡ false → slice_set rows i (get_or rows i r) ≡ newest rows k version x
raise_older k rows i r version x t said fails = set_same rows i r ∙ newest_kept k rows version x (lt_false (version_at rows k) version t said fails)

pub newer_none : (k : List ℕ) (rows : List Row) (i : ℕ) (version : ℕ) → Rises rows → i ≡ rank k rows → is_some (held k (slice_get rows i)) ≡ false
    → 0 < version → nat_lt (version_at rows k) version ≡ true
newer_none k rows i version rises place none lt =
    let zero_there : version_at rows k ≡ 0 = version_none k rows i rises place none in grind arith

-- what stands at the place of a key, of which it is known whether it is there
pub held_there : (k : List ℕ) (old rows : List Row) (i : ℕ) (b : Bool) → rows ≡ old → Rises old → i ≡ rank k rows → is_some (found key_cmp old k) ≡ b
    → is_some (held k (slice_get rows i)) ≡ b
held_there k old rows i b is rises place there =
    ap (λ (j : ℕ). is_some (held k (slice_get rows j))) place
    ∙ ap (λ (rs : List Row). is_some (held k (slice_get rs (rank k rs)))) is
    ∙ sym (ap is_some (found-rank k old rises)) ∙ there

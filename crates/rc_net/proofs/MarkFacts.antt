-- Marks at messages, and the numbers of the marked ones.
use Rattle.std.proofs.Common.{◌≡◌, ℕ, zero, suc, ◌+◌, ◌<◌, ◌≤◌, nat_lt, max, Bool, true, false, cond, ◌||◌, if◌then◌else◌, List, [], ◌∷◌, ◌++◌, length, take, replicate, find, slice_get, slice_set, Some, None, refl, sym, ap, subst, ◌∙◌, arith}
use Rattle.std.specs.List.{list_any}
use Rattle.std.specs.Ordering.{nat_cmp, is_eq}
use Rattle.std.proofs.lemmas.Bool.{or_parts, or_from}
use Rattle.std.proofs.lemmas.List.{take-append-le}
use Rattle.rc_ids.specs.Tables.{member, removed}
use Rattle.rc_ids.specs.Sets.{marked}
use Rattle.rc_ids.specs.Marks.{below_absent, tied}
use Rattle.rc_net.specs.Network.{numbers_after}
use Rattle.rc_net.specs.Parcels.{IsQuiet, IsAtPending}

-- NUMBERS
pub marked-append : (b : ℕ) (xs ys : List Bool) → marked b (xs ++ ys) ≡ marked b xs ++ marked (b + length xs) ys
marked-append b [] ys = let e : b ≡ b + 0 = omega arith in ap (λ (k : ℕ). marked k ys) e
marked-append b (x ∷ xs) ys =
    let e : suc b + length xs ≡ b + suc (length xs) = omega arith in
    chosen x (marked-append (suc b) xs ys ∙ ap (λ (k : ℕ). marked (suc b) xs ++ marked k ys) e)
  where
    chosen : (m : Bool) → marked (suc b) (xs ++ ys) ≡ marked (suc b) xs ++ marked (b + suc (length xs)) ys
        → cond m (b ∷ marked (suc b) (xs ++ ys)) (marked (suc b) (xs ++ ys)) ≡ cond m (b ∷ marked (suc b) xs) (marked (suc b) xs) ++ marked (b + suc (length xs)) ys
    chosen true rest = ap (λ (ks : List ℕ). b ∷ ks) rest
    chosen false rest = rest

pub marked-trues : (n c : ℕ) → marked (suc n) (replicate c true) ≡ numbers_after n c
marked-trues n zero = refl
marked-trues n (suc c) = ap (λ (ks : List ℕ). suc n ∷ ks) (marked-trues (suc n) c)

absent_stays : (ks : List ℕ) (n : ℕ) → member nat_cmp ks n ≡ false → removed nat_cmp ks n ≡ ks
absent_stays [] n none = refl
absent_stays (k ∷ ks) n none =
    let parts = or_parts (is_eq (nat_cmp n k)) (member nat_cmp ks n) none in
    ap (λ (b : Bool). cond b ks (k ∷ removed nat_cmp ks n)) parts.0 ∙ ap (λ (xs : List ℕ). k ∷ xs) (absent_stays ks n parts.1)

-- a later number is not the first
later : (b i : ℕ) → is_eq (nat_cmp (b + suc i) b) ≡ false
later b i = grind arith

-- a settled message is no longer among the marked ones
pub removed-marked : (b i : ℕ) (ms : List Bool) → i < length ms → removed nat_cmp (marked b ms) (b + i) ≡ marked b (slice_set ms i false)
removed-marked b i [] lt = absurd (omega arith)
removed-marked b zero (m ∷ ms) lt =
    let e : b + 0 ≡ b = omega arith in
    ap (removed nat_cmp (marked b (m ∷ ms))) e ∙ chosen m (absent_stays (marked (suc b) ms) b (below_absent b (suc b) ms (omega arith)))
  where
    chosen : (m : Bool) → removed nat_cmp (marked (suc b) ms) b ≡ marked (suc b) ms
        → removed nat_cmp (cond m (b ∷ marked (suc b) ms) (marked (suc b) ms)) b ≡ marked (suc b) ms
    chosen true rest = ap (λ (t : Bool). cond t (marked (suc b) ms) (b ∷ removed nat_cmp (marked (suc b) ms) b)) (tied b)
    chosen false rest = rest
removed-marked b (suc i) (m ∷ ms) lt =
    let e : suc b + i ≡ b + suc i = omega arith in
    chosen m (ap (removed nat_cmp (marked (suc b) ms)) (sym e) ∙ removed-marked (suc b) i ms (omega arith))
  where
    chosen : (m : Bool) → removed nat_cmp (marked (suc b) ms) (b + suc i) ≡ marked (suc b) (slice_set ms i false)
        → removed nat_cmp (cond m (b ∷ marked (suc b) ms) (marked (suc b) ms)) (b + suc i)
        ≡ cond m (b ∷ marked (suc b) (slice_set ms i false)) (marked (suc b) (slice_set ms i false))
    chosen true rest =
        ap (λ (t : Bool). cond t (marked (suc b) ms) (b ∷ removed nat_cmp (marked (suc b) ms) (b + suc i))) (later b i)
        ∙ ap (λ (ks : List ℕ). b ∷ ks) rest
    chosen false rest = rest

-- a message is among the marked ones as its mark says
pub member-marked : (b i : ℕ) (ms : List Bool) (mark : Bool) → slice_get ms i ≡ Some mark → member nat_cmp (marked b ms) (b + i) ≡ mark
member-marked b i [] mark at = absurd cc
member-marked b zero (m ∷ ms) mark at =
    let e : b + 0 ≡ b = omega arith in
    let is : m ≡ mark = cc in
    ap (member nat_cmp (marked b (m ∷ ms))) e ∙ chosen m (below_absent b (suc b) ms (omega arith)) ∙ is
  where
    chosen : (m : Bool) → member nat_cmp (marked (suc b) ms) b ≡ false → member nat_cmp (cond m (b ∷ marked (suc b) ms) (marked (suc b) ms)) b ≡ m
    chosen true rest = ap (λ (t : Bool). t || member nat_cmp (marked (suc b) ms) b) (tied b)
    chosen false rest = rest
member-marked b (suc i) (m ∷ ms) mark at =
    let e : suc b + i ≡ b + suc i = omega arith in
    chosen m (ap (member nat_cmp (marked (suc b) ms)) (sym e) ∙ member-marked (suc b) i ms mark at)
  where
    chosen : (m : Bool) → member nat_cmp (marked (suc b) ms) (b + suc i) ≡ mark
        → member nat_cmp (cond m (b ∷ marked (suc b) ms) (marked (suc b) ms)) (b + suc i) ≡ mark
    chosen true rest = ap (λ (t : Bool). t || member nat_cmp (marked (suc b) ms) (b + suc i)) (later b i) ∙ rest
    chosen false rest = rest

-- QUIET STRETCHES
pub quiet_join : (ms : List Bool) (a b c : ℕ) → a ≤ b → IsQuiet a b ms → IsQuiet b c ms → IsQuiet a c ms
quiet_join ms a b zero le l r = empty ms a
  where
    empty : (ms : List Bool) (a : ℕ) → IsQuiet a 0 ms
    empty ms zero = refl
    empty ms (suc a) = refl
quiet_join [] zero b (suc c) le l r = refl
quiet_join [] (suc a) b (suc c) le l r = refl
quiet_join (m ∷ ms) zero zero (suc c) le l r = r
quiet_join (m ∷ ms) zero (suc b) (suc c) le l r =
    let parts = or_parts m (list_any (λ (mark : Bool). mark) (take b ms)) l in
    or_from m (list_any (λ (mark : Bool). mark) (take c ms)) parts.0 (quiet_join ms 0 b c (omega arith) parts.1 r)
quiet_join (m ∷ ms) (suc a) zero (suc c) le l r = absurd (omega arith)
quiet_join (m ∷ ms) (suc a) (suc b) (suc c) le l r = quiet_join ms a b c (omega arith) l r

pub quiet_self : (ms : List Bool) (a : ℕ) → IsQuiet a a ms
quiet_self [] zero = refl
quiet_self [] (suc a) = refl
quiet_self (m ∷ ms) zero = refl
quiet_self (m ∷ ms) (suc a) = quiet_self ms a

quiet_later : (ms : List Bool) (a b : ℕ) → IsQuiet 0 b ms → IsQuiet a b ms
quiet_later ms zero b all = all
quiet_later ms (suc a) zero all = refl
quiet_later [] (suc a) (suc b) all = refl
quiet_later (m ∷ ms) (suc a) (suc b) all = quiet_later ms a b (or_parts m (list_any (λ (mark : Bool). mark) (take b ms)) all).1

pub quiet_from : (ms : List Bool) (a s : ℕ) → IsQuiet 0 s ms → IsQuiet a (max a s) ms
quiet_from ms a s all = chosen (nat_lt a s) refl
  where
    chosen : (b : Bool) → nat_lt a s ≡ b → IsQuiet a (max a s) ms
    chosen true is = let e : s ≡ max a s = grind arith in subst (λ (k : ℕ). IsQuiet a k ms) e (quiet_later ms a s all)
    chosen false is = let e : a ≡ max a s = grind arith in subst (λ (k : ℕ). IsQuiet a k ms) e (quiet_self ms a)

-- one more place without a mark
pub quiet_more : (ms : List Bool) (a k : ℕ) → a ≤ k → IsQuiet a k ms → slice_get ms k ≡ Some false → IsQuiet a (suc k) ms
quiet_more [] a k le q at = absurd cc
quiet_more (m ∷ ms) zero zero le q at = let e : m ≡ false = cc in ap (λ (b : Bool). b || false) e
quiet_more (m ∷ ms) zero (suc k) le q at =
    let parts = or_parts m (list_any (λ (mark : Bool). mark) (take k ms)) q in
    or_from m (list_any (λ (mark : Bool). mark) (take (suc k) ms)) parts.0 (quiet_more ms 0 k (omega arith) parts.1 at)
quiet_more (m ∷ ms) (suc a) zero le q at = absurd (omega arith)
quiet_more (m ∷ ms) (suc a) (suc k) le q at = quiet_more ms a k (omega arith) q at

pub quiet_set : (ms : List Bool) (b i : ℕ) → IsQuiet 0 b ms → IsQuiet 0 b (slice_set ms i false)
quiet_set [] b i q = q
quiet_set (m ∷ ms) zero zero q = refl
quiet_set (m ∷ ms) (suc b) zero q = (or_parts m (list_any (λ (mark : Bool). mark) (take b ms)) q).1
quiet_set (m ∷ ms) zero (suc i) q = refl
quiet_set (m ∷ ms) (suc b) (suc i) q =
    let parts = or_parts m (list_any (λ (mark : Bool). mark) (take b ms)) q in
    or_from m (list_any (λ (mark : Bool). mark) (take b (slice_set ms i false))) parts.0 (quiet_set ms b i parts.1)

pub quiet_append : (ms ts : List Bool) (b : ℕ) → b ≤ length ms → IsQuiet 0 b ms → IsQuiet 0 b (ms ++ ts)
quiet_append ms ts b le q = ap (list_any (λ (mark : Bool). mark)) (take-append-le b ms ts le) ∙ q

-- THE FIRST MARK
pub front_append : (ms : List Bool) (s c : ℕ) → s ≤ length ms → IsAtPending s ms → IsAtPending s (ms ++ replicate c true)
front_append [] zero zero le f = tt
front_append [] zero (suc c) le f = refl
front_append [] (suc s) c le f = absurd (omega arith)
front_append (m ∷ ms) zero c le f = f
front_append (m ∷ ms) (suc s) c le f = front_append ms s c (omega arith) f

pub front_there : (ms : List Bool) (k : ℕ) → slice_get ms k ≡ Some true → IsAtPending k ms
front_there [] k at = absurd cc
front_there (m ∷ ms) zero at = cc
front_there (m ∷ ms) (suc k) at = front_there ms k at

pub front_end : (ms : List Bool) (k : ℕ) → length ms ≤ k → IsAtPending k ms
front_end [] zero le = tt
front_end [] (suc k) le = tt
front_end (m ∷ ms) zero le = absurd (omega arith)
front_end (m ∷ ms) (suc k) le = front_end ms k (omega arith)

not_above : (n j : ℕ) → j ≤ n → nat_lt n j ≡ false
not_above n j le = grind arith

is_above : (n j : ℕ) → n < j → nat_lt n j ≡ true
is_above n j lt = grind arith

one_more : (a b : ℕ) → nat_lt a b ≡ nat_lt (suc a) (suc b)
one_more a b = grind arith

none_below : (k : ℕ) → nat_lt k 0 ≡ false
none_below k = grind arith

-- what is found among the marked numbers by a test that those up to b + n fail and those above pass
find_first : (ms : List Bool) (b n k : ℕ) (p : ℕ → Bool) → n ≤ k → IsQuiet n k ms → IsAtPending k ms
    → ((j : ℕ) → b < j → j ≤ b + n → p j ≡ false) → ((j : ℕ) → b + n < j → p j ≡ true)
    → find p (marked (suc b) ms) ≡ (if nat_lt k (length ms) then Some (suc (b + k)) else None)
find_first [] b n k p le q f below above = sym (ap (λ (t : Bool). if t then Some (suc (b + k)) else None) (none_below k))
find_first (m ∷ ms) b zero zero p le q f below above =
    let here : p (suc b) ≡ true = above (suc b) (omega arith) in
    let e : suc b ≡ suc (b + 0) = omega arith in
    let some : nat_lt 0 (suc (length ms)) ≡ true = is_above 0 (suc (length ms)) (omega arith) in
    ap (λ (t : Bool). find p (cond t (suc b ∷ marked (suc (suc b)) ms) (marked (suc (suc b)) ms))) f
    ∙ ap (λ (t : Bool). cond t (Some (suc b)) (find p (marked (suc (suc b)) ms))) here
    ∙ ap Some e
    ∙ sym (ap (λ (t : Bool). if t then Some (suc (b + 0)) else None) some)
find_first (m ∷ ms) b zero (suc k) p le q f below above =
    let parts = or_parts m (list_any (λ (mark : Bool). mark) (take k ms)) q in
    let e : suc (suc b + k) ≡ suc (b + suc k) = omega arith in
    ap (λ (t : Bool). find p (cond t (suc b ∷ marked (suc (suc b)) ms) (marked (suc (suc b)) ms))) parts.0
    ∙ find_first ms (suc b) 0 k p (omega arith) parts.1 f (λ j low high. absurd (omega arith)) (λ j high. above j (omega arith))
    ∙ ap (λ (i : ℕ). if nat_lt k (length ms) then Some i else None) e
    ∙ ap (λ (t : Bool). if t then Some (suc (b + suc k)) else None) (one_more k (length ms))
find_first (m ∷ ms) b (suc n) zero p le q f below above = absurd (omega arith)
find_first (m ∷ ms) b (suc n) (suc k) p le q f below above =
    let here : p (suc b) ≡ false = below (suc b) (omega arith) (omega arith) in
    let e : suc (suc b + k) ≡ suc (b + suc k) = omega arith in
    skipped m here
    ∙ find_first ms (suc b) n k p (omega arith) q f (λ j low high. below j (omega arith) (omega arith)) (λ j high. above j (omega arith))
    ∙ ap (λ (i : ℕ). if nat_lt k (length ms) then Some i else None) e
    ∙ ap (λ (t : Bool). if t then Some (suc (b + suc k)) else None) (one_more k (length ms))
  where
    skipped : (m : Bool) → p (suc b) ≡ false
        → find p (cond m (suc b ∷ marked (suc (suc b)) ms) (marked (suc (suc b)) ms)) ≡ find p (marked (suc (suc b)) ms)
    skipped true here = ap (λ (t : Bool). cond t (Some (suc b)) (find p (marked (suc (suc b)) ms))) here
    skipped false here = refl

-- the least marked number above n
pub find_after : (ms : List Bool) (n k : ℕ) → n ≤ k → IsQuiet n k ms → IsAtPending k ms
    → find (nat_lt n) (marked 1 ms) ≡ (if nat_lt k (length ms) then Some (k + 1) else None)
find_after ms n k le q f =
    let e : suc (0 + k) ≡ k + 1 = omega arith in
    find_first ms 0 n k (nat_lt n) le q f (λ j low high. not_above n j (omega arith)) (λ j high. is_above n j (omega arith))
    ∙ ap (λ (i : ℕ). if nat_lt k (length ms) then Some i else None) e

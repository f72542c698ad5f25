-- Places in lists, and what an item more or less makes of them.
use Rattle.std.proofs.Common.{◌≡◌, ℕ, zero, suc, ◌+◌, ◌<◌, ◌≤◌, Bool, true, false, cond, if◌then◌else◌, List, [], ◌∷◌, ◌++◌, filter, length, get_or, insert, remove, drop, Some, None, refl, sym, ap, ◌∙◌, append_assoc, append-nil, add-one, arith}
use Rattle.std.specs.declared.cmp.Ordering.{Ordering}
use Rattle.std.specs.declared.cmp.Ordering.TheVariants.{Less, Equal, Greater}
use Rattle.std.specs.Ordering.{nat_cmp, is_le, is_eq, match_ordering}
use Rattle.rc_ids.specs.Tables.{found, added, put, without}
use Rattle.rc_body.specs.declared.entry.Entry.{Entry}
use Rattle.rc_protocol.specs.Shard.{Mark, mark_cmp}
use Rattle.rc_locks.specs.LockSets.{put_new, put_all}
use Rattle.rc_locks.specs.Places.{place_where, passes_at}

pub passes_in : {X : Type 0} (p : X → Bool) (xs : List X) (i : ℕ) (x : X) → i < length xs → x ≡ get_or xs i x → passes_at p xs i ≡ p x
passes_in p [] i x lt is = absurd (omega arith)
passes_in p (y ∷ ys) zero x lt is = ap p (sym is)
passes_in p (y ∷ ys) (suc i) x lt is = passes_in p ys i x (omega arith) is

pub passes_past : {X : Type 0} (p : X → Bool) (xs : List X) (i : ℕ) → length xs ≤ i → passes_at p xs i ≡ false
passes_past p [] i le = refl
passes_past p (y ∷ ys) zero le = absurd (omega arith)
passes_past p (y ∷ ys) (suc i) le = passes_past p ys i (omega arith)

module _ {K : Type 0} (cmp : K → K → Ordering) (k : K) where
  abbrev pub at_or_below : K → Bool
  at_or_below x = is_le (cmp k x)

  abbrev pub same_as : K → Bool
  same_as x = is_eq (cmp k x)

-- a set with one member more: it is there already, or stands at its place
pub added_there : {K : Type 0} (cmp : K → K → Ordering) (k : K) (xs : List K)
    → passes_at (same_as cmp k) xs (place_where (at_or_below cmp k) xs) ≡ true → added cmp xs k ≡ xs
added_there cmp k [] there = absurd cc
added_there cmp k (x ∷ xs) there = placed (cmp k x) refl there (added_there cmp k xs)
  where
    placed : (o : Ordering) → cmp k x ≡ o
        → passes_at (same_as cmp k) (x ∷ xs) (if is_le o then 0 else suc (place_where (at_or_below cmp k) xs)) ≡ true
        → (passes_at (same_as cmp k) xs (place_where (at_or_below cmp k) xs) ≡ true → added cmp xs k ≡ xs)
        → match_ordering o (k ∷ x ∷ xs) (x ∷ xs) (x ∷ added cmp xs k) ≡ x ∷ xs
    placed Less is there rest = let no : false ≡ true = sym (ap is_eq is) ∙ there in absurd cc
    placed Equal is there rest = refl
    placed Greater is there rest = ap (λ ys. x ∷ ys) (rest there)

pub added_insert : {K : Type 0} (cmp : K → K → Ordering) (k : K) (xs : List K)
    → passes_at (same_as cmp k) xs (place_where (at_or_below cmp k) xs) ≡ false
    → insert xs (place_where (at_or_below cmp k) xs) k ≡ added cmp xs k
added_insert cmp k [] none = refl
added_insert cmp k (x ∷ xs) none = placed (cmp k x) refl none (added_insert cmp k xs)
  where
    placed : (o : Ordering) → cmp k x ≡ o
        → passes_at (same_as cmp k) (x ∷ xs) (if is_le o then 0 else suc (place_where (at_or_below cmp k) xs)) ≡ false
        → (passes_at (same_as cmp k) xs (place_where (at_or_below cmp k) xs) ≡ false → insert xs (place_where (at_or_below cmp k) xs) k ≡ added cmp xs k)
        → insert (x ∷ xs) (if is_le o then 0 else suc (place_where (at_or_below cmp k) xs)) k
        ≡ match_ordering o (k ∷ x ∷ xs) (x ∷ xs) (x ∷ added cmp xs k)
    placed Less is none rest = refl
    placed Equal is none rest = let no : true ≡ false = sym (ap is_eq is) ∙ none in absurd cc
    placed Greater is none rest = ap (λ ys. x ∷ ys) (rest none)

-- and by what the calls say of it
module _ (xs ys zs : List Mark) (k : Mark) (i : ℕ) (b : Bool) (one : ys ≡ xs) (two : zs ≡ xs)
    (place : i ≡ place_where (at_or_below mark_cmp k) ys) (test : b ≡ passes_at (same_as mark_cmp k) zs i) where
  at_place : i ≡ place_where (at_or_below mark_cmp k) xs
  at_place = place ∙ ap (place_where (at_or_below mark_cmp k)) one

  there : b ≡ passes_at (same_as mark_cmp k) xs (place_where (at_or_below mark_cmp k) xs)
  there = test ∙ ap (λ ws. passes_at (same_as mark_cmp k) ws i) two ∙ ap (passes_at (same_as mark_cmp k) xs) at_place

  pub add_there : b ≡ true → xs ≡ added mark_cmp xs k
  add_there holds = sym (added_there mark_cmp k xs (sym there ∙ holds))

  pub add_insert : b ≡ false → insert xs i k ≡ added mark_cmp xs k
  add_insert holds = ap (λ j. insert xs j k) at_place ∙ added_insert mark_cmp k xs (sym there ∙ holds)

-- a table with one key more, which stands at its place
pub put_insert : (t : ℕ) (x : List Entry) (ps : List (ℕ × List Entry)) → found nat_cmp ps t ≡ None
    → insert ps (place_where (λ (p : ℕ × List Entry). is_le (nat_cmp t p.0)) ps) (t, x) ≡ put nat_cmp ps t x
put_insert t x [] none = refl
put_insert t x (p ∷ ps) none = placed (nat_cmp t p.0) refl none (put_insert t x ps)
  where
    placed : (o : Ordering) → nat_cmp t p.0 ≡ o → cond (is_eq o) (Some p.1) (found nat_cmp ps t) ≡ None
        → (found nat_cmp ps t ≡ None → insert ps (place_where (λ (p : ℕ × List Entry). is_le (nat_cmp t p.0)) ps) (t, x) ≡ put nat_cmp ps t x)
        → insert (p ∷ ps) (if is_le o then 0 else suc (place_where (λ (p : ℕ × List Entry). is_le (nat_cmp t p.0)) ps)) (t, x)
        ≡ match_ordering o ((t, x) ∷ p ∷ ps) ((p.0, x) ∷ ps) (p ∷ put nat_cmp ps t x)
    placed Less is none rest = refl
    placed Equal is none rest = absurd cc
    placed Greater is none rest = ap (λ es. p ∷ es) (rest none)

-- a table with a key less
pub without_at : (t : ℕ) (ps : List (ℕ × List Entry)) → place_where (λ (p : ℕ × List Entry). is_eq (nat_cmp t p.0)) ps < length ps
    → remove ps (place_where (λ (p : ℕ × List Entry). is_eq (nat_cmp t p.0)) ps) ≡ without nat_cmp ps t
without_at t [] lt = absurd (omega arith)
without_at t (p ∷ ps) lt = chosen (is_eq (nat_cmp t p.0)) lt (without_at t ps)
  where
    chosen : (b : Bool) → (if b then 0 else suc (place_where (λ (p : ℕ × List Entry). is_eq (nat_cmp t p.0)) ps)) < length (p ∷ ps)
        → (place_where (λ (p : ℕ × List Entry). is_eq (nat_cmp t p.0)) ps < length ps → remove ps (place_where (λ (p : ℕ × List Entry). is_eq (nat_cmp t p.0)) ps) ≡ without nat_cmp ps t)
        → remove (p ∷ ps) (if b then 0 else suc (place_where (λ (p : ℕ × List Entry). is_eq (nat_cmp t p.0)) ps))
        ≡ cond b ps (p ∷ without nat_cmp ps t)
    chosen true lt rest = refl
    chosen false lt rest = ap (λ es. p ∷ es) (rest (omega arith))

pub without_none : (t : ℕ) (ps : List (ℕ × List Entry)) → place_where (λ (p : ℕ × List Entry). is_eq (nat_cmp t p.0)) ps ≡ length ps
    → ps ≡ without nat_cmp ps t
without_none t [] le = refl
without_none t (p ∷ ps) le = chosen (is_eq (nat_cmp t p.0)) le (without_none t ps)
  where
    chosen : (b : Bool) → (if b then 0 else suc (place_where (λ (p : ℕ × List Entry). is_eq (nat_cmp t p.0)) ps)) ≡ length (p ∷ ps)
        → (place_where (λ (p : ℕ × List Entry). is_eq (nat_cmp t p.0)) ps ≡ length ps → ps ≡ without nat_cmp ps t)
        → p ∷ ps ≡ cond b ps (p ∷ without nat_cmp ps t)
    chosen true le rest = absurd (omega (arith, le))
    chosen false le rest = ap (λ es. p ∷ es) (rest (omega (arith, le)))

-- what is left behind an item is one less
less_next : {X : Type 0} (xs : List X) (i : ℕ) → i < length xs → length (drop i xs) ≡ suc (length (drop (suc i) xs))
less_next [] i lt = absurd (omega arith)
less_next (x ∷ xs) zero lt = refl
less_next (x ∷ xs) (suc i) lt = less_next xs i (omega arith)

pub drop_less : {X : Type 0} (xs : List X) (i : ℕ) → i < length xs → length (drop i xs) ≡ suc (length (drop (i + 1) xs))
drop_less xs i lt = rw add-one (less_next xs i lt)

-- one more item at the end, where it passes
pub kept_at : (p : Mark → Bool) (out rest : List Mark) (x : Mark) → p x ≡ true
    → (out ++ x ∷ []) ++ filter p rest ≡ out ++ filter p (x ∷ rest)
kept_at p out rest x here = append_assoc out (x ∷ []) (filter p rest) ∙ ap (λ b. out ++ cond b (x ∷ filter p rest) (filter p rest)) (sym here)

pub left_at : (p : Mark → Bool) (out rest : List Mark) (x : Mark) → p x ≡ false → out ++ filter p rest ≡ out ++ filter p (x ∷ rest)
left_at p out rest x here = ap (λ b. out ++ cond b (x ∷ filter p rest) (filter p rest)) (sym here)

pub put_all_next : (ps es : List (ℕ × List Entry)) (e : ℕ × List Entry) → put_all ps (es ++ e ∷ []) ≡ put_new (put_all ps es) e.0 e.1
put_all_next ps [] e = refl
put_all_next ps (d ∷ es) e = put_all_next (put_new ps d.0 d.1) es e

pub nothing_more : (p : Mark → Bool) (out rest : List Mark) → rest ≡ [] → out ≡ out ++ filter p rest
nothing_more p out rest none = sym (append-nil out) ∙ ap (λ ms. out ++ filter p ms) (sym none)

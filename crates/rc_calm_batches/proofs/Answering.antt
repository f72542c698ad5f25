-- The answers of the touched shards at each coordinator in order: with the last one it votes.
use Rattle.std.proofs.Common.{◌≡◌, ℕ, zero, suc, ◌≤◌, List, [], ◌∷◌, ◌++◌, refl, sym, ap, ◌∙◌, subst, arith, Bool, true, false, cond, ◌⊎◌, inl, inr, ⊎_elim}
use Rattle.std.specs.Prelude.{◌&&◌, ◌||◌, filter}
use Rattle.std.proofs.lemmas.List.{append-nil}
use Rattle.std.specs.List.{list_all}
use Rattle.std.specs.Ordering.{nat_cmp}
use Rattle.rc_ids.specs.Tables.{In, member, added, up_to}
use Rattle.rc_ids.specs.Cluster.{Layout}
use Rattle.rc_body.specs.Bodies.{touches, touched}
use Rattle.rc_body.specs.declared.entry.Entry.{Entry}
use Rattle.rc_protocol.specs.Coordinator.{has_all}
use Rattle.rc_calm_batches.proofs.Stages.{in_filter, same_or_not}
use Rattle.rc_calm_batches.proofs.Grants.{Below, added_last, not_member, up_below}
use Rattle.rc_calm_batches.proofs.Puts.{nat_same}
use Rattle.rc_calm_batches.proofs.Stands.{gather, in_before, in_last}

-- LISTS
pub filter_both : {A : Type 0} (f : A → Bool) (a b : List A) → filter f (a ++ b) ≡ filter f a ++ filter f b
filter_both f [] b = refl
filter_both f (x ∷ a) b = go (f x) (filter_both f a b)
  where
    go : (v : Bool) → filter f (a ++ b) ≡ filter f a ++ filter f b → cond v (x ∷ filter f (a ++ b)) (filter f (a ++ b)) ≡ cond v (x ∷ filter f a) (filter f a) ++ filter f b
    go true e = ap (λ z. x ∷ z) e
    go false e = e

pub in_kept : {A : Type 0} (f : A → Bool) (x : A) (xs : List A) → In x xs → f x ≡ true → In x (filter f xs)
in_kept f x [] i h = absurd i
in_kept f x (y ∷ xs) i h = go (f y) refl i (λ j. in_kept f x xs j h)
  where
    go : (v : Bool) → f y ≡ v → (y ≡ x) ⊎ In x xs → (In x xs → In x (filter f xs)) → In x (cond v (y ∷ filter f xs) (filter f xs))
    go true q (inl e) more = inl e
    go true q (inr j) more = inr (more j)
    go false q (inl e) more = absurd (let k : true ≡ false = sym h ∙ (ap f (sym e) ∙ q) in cc)
    go false q (inr j) more = more j

pub in_up : (n s : ℕ) → 1 ≤ s → s ≤ n → In s (up_to n)
in_up zero s a b = absurd (omega (arith, a, b))
in_up (suc n) s a b = ⊎_elim
    (λ (e : s ≡ suc n). subst (λ (z : ℕ). In z (up_to n ++ suc n ∷ [])) (sym e) (in_last (suc n) (up_to n)))
    (λ n'. in_before s (suc n) (up_to n) (in_up n s a (omega (arith, b, n')))) (same_or_not s (suc n))

member_in : (xs : List ℕ) (s : ℕ) → In s xs → member nat_cmp xs s ≡ true
member_in [] s i = absurd i
member_in (x ∷ xs) s (inl e) = let k = nat_same s in rw (e, k)
member_in (x ∷ xs) s (inr i) = let more = member_in xs s i in go _ more
  where
    go : (v : Bool) {w : Bool} → w ≡ true → (v || w) ≡ true
    go true e = refl
    go false e = e

all_in : (f : ℕ → Bool) (xs : List ℕ) → ((s : ℕ) → In s xs → f s ≡ true) → list_all f xs ≡ true
all_in f [] h = refl
all_in f (x ∷ xs) h = let now = h x (inl refl) in let more = all_in f xs (λ s i. h s (inr i)) in rw (now, more)

one_out : (f : ℕ → Bool) (xs : List ℕ) (s : ℕ) → In s xs → f s ≡ false → list_all f xs ≡ false
one_out f [] s i h = absurd i
one_out f (x ∷ xs) s (inl e) h = let k : f x ≡ false = ap f e ∙ h in rw k
one_out f (x ∷ xs) s (inr i) h = go (f x) (one_out f xs s i h)
  where
    go : (v : Bool) → list_all f xs ≡ false → (v && list_all f xs) ≡ false
    go true e = e
    go false e = refl

-- WHO SAID YES after the shards up to r
module _ (c : Layout) (over : List ℕ) (t : ℕ) (body : List Entry) where
  abbrev pub yes_to : ℕ → List ℕ
  yes_to r = filter (touches c body) (up_to r)

  abbrev pub full : ℕ → Bool
  full r = has_all c (gather c over t body (yes_to r))

  pub full_last : full c.shards ≡ true
  full_last = all_in (member nat_cmp (touched c body)) (touched c body) (λ s i. member_in (touched c body) s i)

  pub yes_skips : (r : ℕ) → touches c body (suc r) ≡ false → yes_to (suc r) ≡ yes_to r
  yes_skips r h = filter_both (touches c body) (up_to r) (suc r ∷ []) ∙ rw h (append-nil (yes_to r))

  yes_grows : (r : ℕ) → touches c body (suc r) ≡ true → yes_to (suc r) ≡ yes_to r ++ suc r ∷ []
  yes_grows r h = filter_both (touches c body) (up_to r) (suc r ∷ []) ∙ rw h

  yes_below : (r : ℕ) → Below (suc r) (yes_to r)
  yes_below r s i = up_below r s (in_filter (touches c body) s (up_to r) i)

  pub yes_new : (r : ℕ) → member nat_cmp (yes_to r) (suc r) ≡ false
  yes_new r = not_member (yes_to r) (suc r) (yes_below r)

  pub yes_added : (r : ℕ) → touches c body (suc r) ≡ true → added nat_cmp (yes_to r) (suc r) ≡ yes_to (suc r)
  yes_added r h = added_last (yes_to r) (suc r) (yes_below r) ∙ sym (yes_grows r h)

  pub not_full : (r : ℕ) → suc r ≤ c.shards → touches c body (suc r) ≡ true → full r ≡ false
  not_full r le h = one_out (member nat_cmp (yes_to r)) (touched c body) (suc r) (in_kept (touches c body) (suc r) (up_to c.shards) (in_up c.shards (suc r) (omega arith) le) h) (yes_new r)

-- The keys of a client and its slots: search, and what stands in the list after a change.
use Rattle.std.proofs.Common.{◌≡◌, ℕ, List, [], ◌∷◌, refl, sym, ap, ◌∙◌, subst, Bool, true, false, Option, Some, None, ◌⊎◌, inl, inr, ⊎_elim, true≢false, eqb}
use Rattle.std.specs.Prelude.{◌&&◌}
use Rattle.std.specs.List.{flat_map}
use Rattle.std.proofs.lemmas.Bool.{eqb-true, eq-eqb}
use Rattle.rc_ids.specs.Tables.{In, maybe}
use Rattle.rc_ids.specs.Texts.{same_key}
use Rattle.rc_protocol.specs.Client.{Slot, NotRead, UnderWay, with_read, slot_of, slot_set, read_begun, is_unread, read_dropped}
use Rattle.rc_agreement.proofs.Cases.{on_cond, on_maybe, some_is, never, and_left, and_right}
use Rattle.rc_agreement.proofs.Tables.{in_either}

pub both : (a b : Bool) → a ≡ true → b ≡ true → (a && b) ≡ true
both true b x y = y
both false b x y = x

-- KEYS
pub key_self : (a : List ℕ) → same_key a a ≡ true
key_self [] = refl
key_self (x ∷ a) = both (eqb x x) (same_key a a) (eq-eqb x x refl) (key_self a)

pub key_same : (a b : List ℕ) → a ≡ b → same_key a b ≡ true
key_same a b e = subst (λ (z : List ℕ). same_key a z ≡ true) e (key_self a)

pub key_is : (a b : List ℕ) → same_key a b ≡ true → a ≡ b
key_is [] [] e = refl
key_is [] (y ∷ b) e = absurd (true≢false (sym e))
key_is (x ∷ a) [] e = absurd (true≢false (sym e))
key_is (x ∷ a) (y ∷ b) e =
    let h : x ≡ y = eqb-true x y (and_left (eqb x y) (same_key a b) e) in
    let t : a ≡ b = key_is a b (and_right (eqb x y) (same_key a b) e) in
    λ i. h i ∷ t i

pub key_dec : (a b : List ℕ) → (a ≡ b) ⊎ (a ≡ b → ⊥)
key_dec a b = go (same_key a b) refl
  where
    go : (v : Bool) → same_key a b ≡ v → (a ≡ b) ⊎ (a ≡ b → ⊥)
    go true is = inl (key_is a b is)
    go false is = inr (λ e. true≢false (sym (key_same a b e) ∙ is))

-- SEARCH
pub slot_in : (k : List ℕ) (xs : List Slot) (x : Slot) → slot_of xs k ≡ Some x → In x xs × (x.key ≡ k)
slot_in k [] x e = never x e
slot_in k (y ∷ ys) x e =
    on_cond (λ (z : Option Slot). z ≡ Some x → In x (y ∷ ys) × (x.key ≡ k)) (same_key y.key k) (Some y) (slot_of ys k)
    (λ t f. let z : y ≡ x = some_is y x f in (inl z, ap (λ (q : Slot). q.key) (sym z) ∙ key_is y.key k t))
    (λ _ f. let z = slot_in k ys x f in (inr z.0, z.1)) e

pub slot_out : (k : List ℕ) (xs : List Slot) → slot_of xs k ≡ None → (x : Slot) → In x xs → x.key ≡ k → ⊥
slot_out k [] e x i q = i
slot_out k (y ∷ ys) e x i q =
    on_cond (λ (z : Option Slot). z ≡ None → ⊥) (same_key y.key k) (Some y) (slot_of ys k)
    (λ _ f. cc)
    (λ n f. ⊎_elim (λ (s : y ≡ x). true≢false (sym (key_same y.key k (ap (λ (z : Slot). z.key) s ∙ q)) ∙ n)) (λ j. slot_out k ys f x j q) i) e

pub in_set : (s : Slot) (xs : List Slot) (x : Slot) → In x (slot_set xs s) → (s ≡ x) ⊎ In x xs
in_set s [] x i = absurd i
in_set s (y ∷ ys) x i =
    on_cond (λ (z : List Slot). In x z → (s ≡ x) ⊎ In x (y ∷ ys)) (same_key y.key s.key) (s ∷ ys) (y ∷ slot_set ys s)
    (λ _ j. ⊎_elim inl (λ z. inr (inr z)) j)
    (λ _ j. ⊎_elim (λ z. inr (inl z)) (λ z. ⊎_elim inl (λ w. inr (inr w)) (in_set s ys x z)) j) i

-- a slot of xs has this key
abbrev pub Keyed : List Slot → List ℕ → Type 0
Keyed xs k = (z : Slot) × In z xs × (z.key ≡ k)

-- what is left of one slot
pub dropped_one : (k : List ℕ) (y x : Slot) → In x (read_dropped k y) → (y ≡ x) ⊎ ((x.read ≡ NotRead) × (y.key ≡ x.key))
dropped_one k y x i =
    on_cond P (same_key y.key k) (maybe y.write [] (λ value. with_read y NotRead ∷ [])) (y ∷ [])
    (λ _. on_maybe P y.write [] (λ value. with_read y NotRead ∷ []) (λ _ j. absurd j)
    (λ v _ j. ⊎_elim (λ (z : with_read y NotRead ≡ x). inr (ap (λ (q : Slot). q.read) (sym z), ap (λ (q : Slot). q.key) z)) (λ n. absurd n) j))
    (λ _ j. ⊎_elim inl (λ n. absurd n) j) i
  where
    P : List Slot → Type 0
    P z = In x z → (y ≡ x) ⊎ ((x.read ≡ NotRead) × (y.key ≡ x.key))

pub in_dropped : (k : List ℕ) (xs : List Slot) (x : Slot) → In x (flat_map (read_dropped k) xs) → In x xs ⊎ ((x.read ≡ NotRead) × Keyed xs x.key)
in_dropped k [] x i = absurd i
in_dropped k (y ∷ ys) x i =
    ⊎_elim
    (λ (j : In x (read_dropped k y)). ⊎_elim (λ e. inl (inl e)) (λ (z : (x.read ≡ NotRead) × (y.key ≡ x.key)). inr (z.0, (y, inl refl, z.1))) (dropped_one k y x j))
    (λ (j : In x (flat_map (read_dropped k) ys)). ⊎_elim (λ w. inl (inr w)) (λ (w : (x.read ≡ NotRead) × Keyed ys x.key). inr (w.0, (w.1.0, inr w.1.1, w.1.2))) (in_dropped k ys x j))
    (in_either x (read_dropped k y) (flat_map (read_dropped k) ys) i)

pub begun_key : (x : Slot) → (read_begun x).key ≡ x.key
begun_key x = on_cond (λ (z : Slot). z.key ≡ x.key) (is_unread x.read) (with_read x (UnderWay false [])) x (λ _. refl) (λ _. refl)

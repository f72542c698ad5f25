-- Numbers that rise.
use Rattle.std.proofs.Common.{◌≡◌, ℕ, zero, suc, ◌+◌, ◌<◌, ◌≤◌, ◌||◌, Bool, true, false, cond, List, [], ◌∷◌, ◌++◌, refl, sym, ap, ◌∙◌, subst, arith, true≢false}
use Rattle.std.specs.Prelude.{filter}
use Rattle.std.specs.Ordering.{nat_cmp, is_eq}
use Rattle.rc_ids.specs.Sets.{IsRisingWithin}
use Rattle.rc_ids.specs.Tables.{member, removed}
use Rattle.rc_ids.specs.Marks.{apart}
use Rattle.rc_net.specs.Network.{numbers_after}
use Rattle.rc_composition.proofs.Numbered.{test_is}

rises_lower : (m n high : ℕ) (xs : List ℕ) → m ≤ n → IsRisingWithin n high xs → IsRisingWithin m high xs
rises_lower m n high [] le h = h
rises_lower m n high (x ∷ xs) le h = let low = h.0 in (omega arith, h.1, h.2)

pub rises_on : (low a b : ℕ) (xs ys : List ℕ) → low ≤ suc a → a ≤ b → IsRisingWithin low a xs → IsRisingWithin (suc a) b ys → IsRisingWithin low b (xs ++ ys)
rises_on low a b [] ys le up h k = rises_lower low (suc a) b ys le k
rises_on low a b (x ∷ xs) ys le up h k = let high = h.1 in (h.0, omega arith, rises_on (suc x) a b xs ys (omega arith) up h.2 k)

pub rises_filtered : (f : ℕ → Bool) (low high : ℕ) (xs : List ℕ) → IsRisingWithin low high xs → IsRisingWithin low high (filter f xs)
rises_filtered f low high [] h = h
rises_filtered f low high (x ∷ xs) h = go (f x) (rises_filtered f (suc x) high xs h.2)
  where
    go : (b : Bool) → IsRisingWithin (suc x) high (filter f xs) → IsRisingWithin low high (cond b (x ∷ filter f xs) (filter f xs))
    go true rest = (h.0, h.1, rest)
    go false rest = rises_lower low (suc x) high (filter f xs) (let l = h.0 in omega arith) rest

pub rises_removed : (low high n : ℕ) (xs : List ℕ) → IsRisingWithin low high xs → IsRisingWithin low high (removed nat_cmp xs n)
rises_removed low high n [] h = h
rises_removed low high n (x ∷ xs) h = go (is_eq (nat_cmp n x)) (rises_removed (suc x) high n xs h.2)
  where
    go : (b : Bool) → IsRisingWithin (suc x) high (removed nat_cmp xs n) → IsRisingWithin low high (cond b xs (x ∷ removed nat_cmp xs n))
    go true rest = rises_lower low (suc x) high xs (let l = h.0 in omega arith) h.2
    go false rest = (h.0, h.1, rest)

pub rises_numbers : (n k : ℕ) → IsRisingWithin (suc n) (n + k) (numbers_after n k)
rises_numbers n zero = tt
rises_numbers n (suc k) =
    let same : suc n + k ≡ n + suc k = omega arith in
    (omega arith, omega arith, subst (λ (high : ℕ). IsRisingWithin (suc (suc n)) high (numbers_after (suc n) k)) same (rises_numbers (suc n) k))

-- nothing stands below the first, or above the last
pub none_below : (low high k : ℕ) (xs : List ℕ) → k < low → IsRisingWithin low high xs → member nat_cmp xs k ≡ false
none_below low high k [] lt h = refl
none_below low high k (x ∷ xs) lt h =
    let l = h.0 in
    ap (λ (b : Bool). b || member nat_cmp xs k) (apart k x (λ e. absurd (omega arith))) ∙ none_below (suc x) high k xs (omega arith) h.2

pub within : (low high k : ℕ) (xs : List ℕ) → IsRisingWithin low high xs → member nat_cmp xs k ≡ true → k ≤ high
within low high k [] h is = absurd cc
within low high k (x ∷ xs) h is = go (is_eq (nat_cmp k x)) refl (within (suc x) high k xs h.2) is
  where
    go : (b : Bool) → is_eq (nat_cmp k x) ≡ b → (member nat_cmp xs k ≡ true → k ≤ high) → (b || member nat_cmp xs k) ≡ true → k ≤ high
    go true same rest is = let e = test_is k x same in let high_is = h.1 in omega arith
    go false same rest is = rest is

-- what was taken out is there no longer
pub gone : (low high n : ℕ) (xs : List ℕ) → IsRisingWithin low high xs → member nat_cmp (removed nat_cmp xs n) n ≡ false
gone low high n [] h = refl
gone low high n (x ∷ xs) h = go (is_eq (nat_cmp n x)) refl (gone (suc x) high n xs h.2)
  where
    go : (b : Bool) → is_eq (nat_cmp n x) ≡ b → member nat_cmp (removed nat_cmp xs n) n ≡ false → member nat_cmp (cond b xs (x ∷ removed nat_cmp xs n)) n ≡ false
    go true same rest = let e = test_is n x same in none_below (suc x) high n xs (omega arith) h.2
    go false same rest = ap (λ (b : Bool). b || member nat_cmp (removed nat_cmp xs n) n) same ∙ rest

-- what is not in the whole is not in a part of it
pub not_in : (a b : Bool) → (a ≡ true → b ≡ true) → b ≡ false → a ≡ false
not_in true b f none = absurd (true≢false (sym (f refl) ∙ none))
not_in false b f none = refl

pub filtered_passes : (f : ℕ → Bool) (n : ℕ) (xs : List ℕ) → member nat_cmp (filter f xs) n ≡ true → f n ≡ true
filtered_passes f n [] h = absurd cc
filtered_passes f n (x ∷ xs) h = go (f x) refl (filtered_passes f n xs) h
  where
    go : (b : Bool) → f x ≡ b → (member nat_cmp (filter f xs) n ≡ true → f n ≡ true) → member nat_cmp (cond b (x ∷ filter f xs) (filter f xs)) n ≡ true → f n ≡ true
    go true is rest h = here (is_eq (nat_cmp n x)) refl h
      where
        here : (b : Bool) → is_eq (nat_cmp n x) ≡ b → (b || member nat_cmp (filter f xs) n) ≡ true → f n ≡ true
        here true same h = ap f (test_is n x same) ∙ is
        here false same h = rest h
    go false is rest h = rest h

-- How many there can be: each has a label of its own among given ones.
use Rattle.std.proofs.Common.{◌≡◌, ℕ, suc, ◌≤◌, List, [], ◌∷◌, refl, sym, ap, ◌∙◌, subst, arith, inl, inr}
use Rattle.std.specs.Prelude.{length}
use Rattle.rc_ids.specs.Tables.{In}
use Rattle.rc_claims.specs.Quiet.{Differ}

-- no item stands twice
abbrev pub Apart : {A : Type 0} → List A → Type 0
Apart [] = Unit {0}
Apart (x ∷ xs) = (In x xs → ⊥) × Apart xs

pub differ_all : (ns : List ℕ) → Differ ns → Apart ns
differ_all [] h = tt
differ_all (n ∷ ns) h = (h.0, differ_all ns h.1)

-- the list without the found item
without : {A : Type 0} (x : A) (ys : List A) → In x ys → List A
without x [] i = absurd i
without x (y ∷ ys) (inl e) = ys
without x (y ∷ ys) (inr i) = y ∷ without x ys i

one_less : {A : Type 0} (x : A) (ys : List A) (i : In x ys) → length ys ≡ suc (length (without x ys i))
unfolding without
one_less x [] i = absurd i
one_less x (y ∷ ys) (inl e) = refl
one_less x (y ∷ ys) (inr i) = ap suc (one_less x ys i)

others_stay : {A : Type 0} (x z : A) (ys : List A) (i : In x ys) → (x ≡ z → ⊥) → In z ys → In z (without x ys i)
unfolding without
others_stay x z [] i n j = absurd i
others_stay x z (y ∷ ys) (inl e) n (inl f) = absurd (n (sym e ∙ f))
others_stay x z (y ∷ ys) (inl e) n (inr j) = j
others_stay x z (y ∷ ys) (inr i) n (inl f) = inl f
others_stay x z (y ∷ ys) (inr i) n (inr j) = inr (others_stay x z ys i n j)

in_equal : {A : Type 0} (x z : A) (xs : List A) → x ≡ z → In z xs → In x xs
in_equal x z xs e i = subst (λ y. In y xs) (sym e) i

pub few_within : {A : Type 0} (xs ys : List A) → Apart xs → ((x : A) → In x xs → In x ys) → length xs ≤ length ys
few_within [] ys h sub = omega arith
few_within (x ∷ xs) ys h sub =
    let i = sub x (inl refl) in
    let k = few_within xs (without x ys i) h.1 (λ z j. others_stay x z ys i (λ e. h.0 (in_equal x z xs e j)) (sub z (inr j))) in
    let l = one_less x ys i in
    omega (arith, k, l)

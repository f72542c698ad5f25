-- The head of a key: what it is made of, and that it decides where it differs.
use Rattle.std.proofs.Common.{◌≡◌, ◌≢◌, ℕ, zero, suc, ◌*◌, ◌^◌, ◌<◌, ◌≤◌, Bool, true, false, ◌&&◌, IsTrue, List, [], ◌∷◌, get_or, refl, sym, ap, arith}
use Rattle.std.proofs.Math.Nat.{mul-le-mul_left}
use Rattle.std.proofs.lemmas.Bool.Decides.{nat_tests}
use Rattle.std.proofs.lemmas.Cmp.{ranked}
use Rattle.std.specs.declared.cmp.Ordering.{Ordering}
use Rattle.std.specs.declared.cmp.Ordering.TheVariants.{Less, Equal, Greater}
use Rattle.std.specs.Int.{from_be_bytes, w64}
use Rattle.std.specs.List.{list_all}
use Rattle.std.specs.Ordering.{nat_cmp, ordering_then, MatchOrdering}
use Rattle.rc_ids.specs.Texts.{IsKey, is_key_byte, key_cmp}
use Rattle.rc_versions.specs.Heads.{packed, head_of}
use Rattle.rc_versions.proofs.RowFacts.{less_back}

-- each is a byte
abbrev AreBytes : List ℕ → Type 0
AreBytes [] = Unit {0}
AreBytes (b ∷ bs) = (b < 256) × AreBytes bs

both : (a b : Bool) → IsTrue (a && b) → IsTrue a × IsTrue b
both true true t = (t, t)
both true false t = absurd cc
both false b t = absurd cc

key_byte_small : (b : ℕ) → IsTrue (is_key_byte b) → b < 256
key_byte_small b is = grind (arith, nat_tests)

key_bytes : (k : List ℕ) → IsTrue (list_all is_key_byte k) → AreBytes k
key_bytes [] all = tt
key_bytes (b ∷ bs) all = let parts = both (is_key_byte b) (list_all is_key_byte bs) all in (key_byte_small b parts.0, key_bytes bs parts.1)

small : (n : ℕ) (k : List ℕ) → AreBytes k → packed n k < 256 ^ n
small zero k all = omega arith
small (suc n) [] all = positive n
  where
    positive : (n : ℕ) → 0 < 256 ^ suc n
    positive zero = omega arith
    positive (suc n) = let rest = positive n in omega arith
small (suc n) (b ∷ bs) all =
    let rest = small n bs all.1 in
    let most : 256 ^ n * suc b ≤ 256 ^ n * 256 = mul-le-mul_left (256 ^ n) all.0 in
    omega (arith, rest, most)

less : (n : ℕ) (k l : List ℕ) → AreBytes k → AreBytes l → packed n k < packed n l → key_cmp k l ≡ Less
less zero k l ks ls lt = absurd (omega arith)
less (suc n) [] [] ks ls lt = absurd (omega arith)
less (suc n) [] (b ∷ l) ks ls lt = refl
less (suc n) (a ∷ k) [] ks ls lt = absurd (omega arith)
less (suc n) (a ∷ k) (b ∷ l) ks ls lt = chosen (nat_cmp a b) (ranked a b (nat_cmp a b) refl) (λ below. less n k l ks.1 ls.1 below)
  where
    chosen : (o : Ordering) → MatchOrdering o (a < b) (a ≡ b) (b < a) → (packed n k < packed n l → key_cmp k l ≡ Less) → ordering_then o (key_cmp k l) ≡ Less
    chosen Less is rest = refl
    chosen Equal is rest =
        let same : a * 256 ^ n ≡ b * 256 ^ n = ap (λ (x : ℕ). x * 256 ^ n) is in
        rest (omega (arith, same, lt))
    chosen Greater is rest =
        let more : 256 ^ n * suc b ≤ 256 ^ n * a = mul-le-mul_left (256 ^ n) is in
        let few = small n l ls.1 in
        absurd (omega (arith, more, few, lt))

-- where heads differ, they are ordered as the keys
pub head_decides : (k l : List ℕ) → IsKey k → IsKey l → head_of k ≢ head_of l → nat_cmp (head_of k) (head_of l) ≡ key_cmp k l
unfolding head_of
head_decides k l is_k is_l differ = chosen (nat_cmp (packed 8 k) (packed 8 l)) (ranked (packed 8 k) (packed 8 l) (nat_cmp (packed 8 k) (packed 8 l)) refl)
  where
    chosen : (o : Ordering) → MatchOrdering o (packed 8 k < packed 8 l) (packed 8 k ≡ packed 8 l) (packed 8 l < packed 8 k) → o ≡ key_cmp k l
    chosen Less lt = sym (less 8 k l (key_bytes k is_k.2) (key_bytes l is_l.2) lt)
    chosen Equal is = absurd (differ is)
    chosen Greater gt = sym (less_back l k (less 8 l k (key_bytes l is_l.2) (key_bytes k is_k.2) gt))

pub head_made : (k : List ℕ)
    → from_be_bytes w64 (get_or k 0 0 ∷ get_or k 1 0 ∷ get_or k 2 0 ∷ get_or k 3 0 ∷ get_or k 4 0 ∷ get_or k 5 0 ∷ get_or k 6 0 ∷ get_or k 7 0 ∷ [])
    ≡ head_of k
unfolding head_of
head_made [] = refl
head_made (a ∷ []) = omega arith
head_made (a ∷ b ∷ []) = omega arith
head_made (a ∷ b ∷ c ∷ []) = omega arith
head_made (a ∷ b ∷ c ∷ d ∷ []) = omega arith
head_made (a ∷ b ∷ c ∷ d ∷ e ∷ []) = omega arith
head_made (a ∷ b ∷ c ∷ d ∷ e ∷ f ∷ []) = omega arith
head_made (a ∷ b ∷ c ∷ d ∷ e ∷ f ∷ g ∷ []) = omega arith
head_made (a ∷ b ∷ c ∷ d ∷ e ∷ f ∷ g ∷ h ∷ rest) = omega arith

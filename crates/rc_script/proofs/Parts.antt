-- Numbers one after the other, as a loop reads them.
use Rattle.std.proofs.Common.{◌≡◌, ℕ, List, [], ◌∷◌, ◌++◌, Option, Some, None, refl, sym, ap, ◌∙◌, append_assoc}
use Rattle.rc_script.specs.Words.{◌>>=◌, cut, number_in, numbers_in, numbers_of}
use Rattle.rc_script.proofs.Cuts.{parts, slice_split-cut}

-- what was read before, and what is still read
abbrev pub with_front : List ℕ → Option (List ℕ) → Option (List ℕ)
with_front front read = read >>= λ ns. Some (front ++ ns)

regroup : (front : List ℕ) (n : ℕ) (read : Option (List ℕ)) → with_front front (read >>= λ ns. Some (n ∷ ns)) ≡ with_front (front ++ n ∷ []) read
regroup front n (Some ns) = ap (λ (xs : List ℕ). Some xs) (simp append_assoc)
regroup front n None = refl

pub goes_on : (front : List ℕ) (low high : ℕ) (text word : List ℕ) (others : Option (List ℕ)) (n : ℕ) (total : Option (List ℕ))
    → (word, others) ≡ cut 32 text → number_in low high word ≡ Some n
    → with_front front (numbers_of low high text) ≡ total → with_front (front ++ n ∷ []) (numbers_in low high (parts 32 others)) ≡ total
goes_on front low high text word others n total was read so_far =
    let word_is : word ≡ (cut 32 text).0 = ap (λ (p : List ℕ × Option (List ℕ)). p.0) was in
    let others_is : others ≡ (cut 32 text).1 = ap (λ (p : List ℕ × Option (List ℕ)). p.1) was in
    let reads : number_in low high (cut 32 text).0 ≡ Some n = rw (← word_is) read in
    let one : with_front front (numbers_of low high text) ≡ with_front (front ++ n ∷ []) (numbers_in low high (parts 32 others)) = rw (slice_split-cut 32 text, reads, ← others_is) (regroup front n (numbers_in low high (parts 32 others))) in
    sym one ∙ so_far

pub ends : (front : List ℕ) (low high : ℕ) (text word : List ℕ) (others : Option (List ℕ)) (total : Option (List ℕ))
    → (word, others) ≡ cut 32 text → number_in low high word ≡ None
    → with_front front (numbers_of low high text) ≡ total → None ≡ total
ends front low high text word others total was read so_far =
    let word_is : word ≡ (cut 32 text).0 = ap (λ (p : List ℕ × Option (List ℕ)). p.0) was in
    let reads : number_in low high (cut 32 text).0 ≡ None = rw (← word_is) read in
    let one : with_front front (numbers_of low high text) ≡ None = rw (slice_split-cut 32 text, reads) refl in
    sym one ∙ so_far

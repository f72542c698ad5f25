-- Values read one after the other, as a loop does.
use Rattle.std.proofs.Common.{◌≡◌, ℕ, suc, ◌-◌, ◌+◌, ◌≤◌, ◌<◌, Bool, true, false, cond, List, [], ◌∷◌, ◌++◌, Option, Some, None, refl, sym, ap, ◌∙◌, append_assoc, arith}
use Rattle.std.proofs.lemmas.List.{append-nil}
use Rattle.rc_fields.specs.Formats.{Reader, Fails, ◌>>=◌, tested_at, many_at}
use Rattle.rc_fields.specs.declared.fault.ReadFault.{ReadFault}
use Rattle.rc_fields.specs.declared.fault.ReadFault.TheVariants.{NoMemory, NotThere}

-- what was read before, and what is still read
abbrev pub with_front : {A : Type 0} → List A → Option (List A × List ℕ) → Option (List A × List ℕ)
with_front front read = read >>= λ x. Some (front ++ x.0, x.1)

regroup : {A : Type 0} (front : List A) (a : A) (read : Option (List A × List ℕ))
    → with_front front (read >>= λ more. Some (a ∷ more.0, more.1)) ≡ with_front (front ++ (a ∷ [])) read
regroup {A} front a (Some x) = ap (λ (xs : List A). Some (xs, x.1)) (sym (append_assoc front (a ∷ []) x.0))
regroup front a None = refl

-- one more is read
pub many-goes_on : {A : Type 0} (at : Reader A) (front : List A) (n i : ℕ) (bytes : List ℕ) (a : A) (after : List ℕ) (total : Option (List A × List ℕ))
    → i < n → at bytes ≡ Some (a, after) → with_front front (many_at at (n - i) bytes) ≡ total
    → with_front (front ++ (a ∷ [])) (many_at at (n - (i + 1)) after) ≡ total
unfolding many_at
many-goes_on at front n i bytes a after total lt read so_far =
    let k : n - i ≡ suc (n - (i + 1)) = omega arith in
    let one : with_front front (many_at at (n - i) bytes) ≡ with_front (front ++ (a ∷ [])) (many_at at (n - (i + 1)) after) =
    rw (k, read) (regroup front a (many_at at (n - (i + 1)) after)) in
    sym one ∙ so_far

-- the next is not there
pub many-stops : {A : Type 0} (at : Reader A) (front : List A) (n i : ℕ) (bytes : List ℕ) (total : Option (List A × List ℕ))
    → i < n → at bytes ≡ None → with_front front (many_at at (n - i) bytes) ≡ total → total ≡ None
unfolding many_at
many-stops at front n i bytes total lt read so_far =
    let k : n - i ≡ suc (n - (i + 1)) = omega arith in
    let one : with_front front (many_at at (n - i) bytes) ≡ None = rw (k, read) refl in
    sym so_far ∙ one

-- none is left
pub many-is_done : {A : Type 0} (at : Reader A) (front : List A) (n i : ℕ) (bytes : List ℕ) (total : Option (List A × List ℕ))
    → n ≤ i → with_front front (many_at at (n - i) bytes) ≡ total → total ≡ Some (front, bytes)
unfolding many_at
many-is_done {A} at front n i bytes total le so_far =
    let k : n - i ≡ 0 = omega arith in
    let one : with_front front (many_at at (n - i) bytes) ≡ Some (front, bytes) = rw k (ap (λ (xs : List A). Some (xs, bytes)) (append-nil front)) in
    sym so_far ∙ one

refuses : {A : Type 0} (test : List A → Bool) (front : List A) (read : Option (List A × List ℕ))
    → ((more : List A) → test (front ++ more) ≡ false) → (with_front front read >>= λ x. cond (test x.0) (Some x) None) ≡ None
refuses test front (Some x) failing = ap (λ b. cond b (Some (front ++ x.0, x.1)) None) (failing x.0)
refuses test front None failing = refl

-- the test fails, whatever follows
pub many-refused : {A : Type 0} (test : List A → Bool) (at : Reader A) (front : List A) (n i : ℕ) (bytes : List ℕ) (a : A) (after start : List ℕ)
    → i < n → at bytes ≡ Some (a, after) → with_front front (many_at at (n - i) bytes) ≡ many_at at n start
    → ((more : List A) → test ((front ++ (a ∷ [])) ++ more) ≡ false)
    → tested_at test (many_at at n) start ≡ None
unfolding tested_at
many-refused test at front n i bytes a after start lt read so_far failing =
    let next = many-goes_on at front n i bytes a after (many_at at n start) lt read so_far in
    ap (λ r. r >>= λ x. cond (test x.0) (Some x) None) (sym next) ∙ refuses test (front ++ (a ∷ [])) (many_at at (n - (i + 1)) after) failing

-- nothing is read, so nothing is tested
pub tested-stops : {A : Type 0} (test : A → Bool) (at : Reader A) (bytes : List ℕ) → at bytes ≡ None → tested_at test at bytes ≡ None
unfolding tested_at
tested-stops test at bytes e = ap (λ r. r >>= λ x. cond (test x.0) (Some x) None) e

pub tested-passes : {A : Type 0} (test : A → Bool) (at : Reader A) (bytes : List ℕ) (a : A) (rest : List ℕ) → at bytes ≡ Some (a, rest) → test a ≡ true
    → tested_at test at bytes ≡ Some (a, rest)
unfolding tested_at
tested-passes test at bytes a rest e passes =
    ap (λ r. r >>= λ x. cond (test x.0) (Some x) None) e ∙ ap (λ b. cond b (Some (a, rest)) None) passes

-- what a fault says of the whole, where the next could not be read
pub many-ends : {A : Type 0} (test : List A → Bool) (at : Reader A) (front : List A) (n i : ℕ) (bytes start : List ℕ) (fault : ReadFault)
    → i < n → Fails fault (at bytes) → with_front front (many_at at (n - i) bytes) ≡ many_at at n start
    → Fails fault (tested_at test (many_at at n) start)
many-ends test at front n i bytes start NoMemory lt fails so_far = tt
many-ends test at front n i bytes start NotThere lt fails so_far =
    tested-stops test (many_at at n) start (many-stops at front n i bytes (many_at at n start) lt fails so_far)

-- the same where the next was read, and may not follow
pub many-may_not : {A : Type 0} (test : List A → Bool) (at : Reader A) (front : List A) (n i : ℕ) (bytes : List ℕ) (a : A) (after start : List ℕ) (fault : ReadFault)
    → ((xs more : List A) → test xs ≡ false → test (xs ++ more) ≡ false)
    → i < n → at bytes ≡ Some (a, after) → (fault ≡ NotThere → test (front ++ (a ∷ [])) ≡ false)
    → with_front front (many_at at (n - i) bytes) ≡ many_at at n start
    → Fails fault (tested_at test (many_at at n) start)
many-may_not test at front n i bytes a after start NoMemory lasting lt read failing so_far = tt
many-may_not test at front n i bytes a after start NotThere lasting lt read failing so_far =
    many-refused test at front n i bytes a after start lt read so_far (λ more. lasting (front ++ (a ∷ [])) more (failing refl))

-- all were read, and pass
pub many-passes : {A : Type 0} (test : List A → Bool) (at : Reader A) (front : List A) (n i : ℕ) (bytes start : List ℕ)
    → n ≤ i → test front ≡ true → with_front front (many_at at (n - i) bytes) ≡ many_at at n start
    → tested_at test (many_at at n) start ≡ Some (front, bytes)
many-passes test at front n i bytes start le passes so_far =
    tested-passes test (many_at at n) start front bytes (many-is_done at front n i bytes (many_at at n start) le so_far) passes

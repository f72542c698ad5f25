-- One call more of a list.
use Rattle.std.proofs.Common.{◌≡◌, ℕ, zero, suc, ◌+◌, ◌<◌, ◌≤◌, List, [], ◌∷◌, ◌++◌, length, map, take, get_or, refl, sym, ap, ◌∙◌, subst, arith}
use Rattle.std.proofs.lemmas.List.{take_more, take_all, map-append}
use Rattle.rc_locks.specs.declared.run.LockCall.{LockCall}
use Rattle.rc_locks.specs.declared.run.LockAnswer.{LockAnswer}
use Rattle.rc_locks.specs.LockSets.{LockSets}
use Rattle.rc_locks.specs.Runs.{Said, said_by, said_to, after_call, ran, MayCall, MayRun}

left_more : (s : LockSets) (xs : List LockCall) (x : LockCall) → (ran s (xs ++ x ∷ [])).1 ≡ after_call (ran s xs).1 x
left_more s [] x = refl
left_more s (y ∷ ys) x = left_more (after_call s y) ys x

said_more : (s : LockSets) (xs : List LockCall) (x : LockCall) → (ran s (xs ++ x ∷ [])).0 ≡ (ran s xs).0 ++ said_to (ran s xs).1 x ∷ []
said_more s [] x = refl
said_more s (y ∷ ys) x = ap (λ (zs : List Said). said_to s y ∷ zs) (said_more (after_call s y) ys x)

take_one : (xs : List LockCall) (i : ℕ) (x : LockCall) → i < length xs → x ≡ get_or xs i x → take (i + 1) xs ≡ take i xs ++ x ∷ []
take_one xs i x lt is = take_more xs i x lt ∙ ap (λ (y : LockCall). take i xs ++ y ∷ []) (sym is)

may_at : (s : LockSets) (xs : List LockCall) (i : ℕ) (x : LockCall) → MayRun s xs → i < length xs → x ≡ get_or xs i x → MayCall (ran s (take i xs)).1 x
may_at s [] i x may lt is = absurd (omega arith)
may_at s (y ∷ ys) zero x may lt is = let P : LockCall → Type 0 = λ z. MayCall s z in subst P (sym is) may.0
may_at s (y ∷ ys) (suc i) x may lt is = may_at (after_call s y) ys i x may.1 (omega arith) is

pub may_call : (s t : LockSets) (xs : List LockCall) (i : ℕ) (x : LockCall) → MayRun s xs → i < length xs → x ≡ get_or xs i x
    → t ≡ (ran s (take i xs)).1 → MayCall t x
may_call s t xs i x may lt is so_far = let P : LockSets → Type 0 = λ u. MayCall u x in subst P (sym so_far) (may_at s xs i x may lt is)

pub after_more : (s t u : LockSets) (xs : List LockCall) (i : ℕ) (x : LockCall) → i < length xs → x ≡ get_or xs i x
    → t ≡ (ran s (take i xs)).1 → u ≡ after_call t x → u ≡ (ran s (take (i + 1) xs)).1
after_more s t u xs i x lt is so_far call =
    call ∙ ap (λ (v : LockSets). after_call v x) so_far
    ∙ sym (left_more s (take i xs) x)
    ∙ sym (ap (λ (ys : List LockCall). (ran s ys).1) (take_one xs i x lt is))

pub answers_more : (s t : LockSets) (xs : List LockCall) (i : ℕ) (x : LockCall) (told : List LockAnswer) (a : LockAnswer) → i < length xs → x ≡ get_or xs i x
    → t ≡ (ran s (take i xs)).1 → map said_by told ≡ (ran s (take i xs)).0 → said_by a ≡ said_to t x
    → map said_by (told ++ a ∷ []) ≡ (ran s (take (i + 1) xs)).0
answers_more s t xs i x told a lt is so_far said call =
    map-append said_by told (a ∷ [])
    ∙ ap (λ (zs : List Said). zs ++ said_by a ∷ []) said
    ∙ ap (λ (z : Said). (ran s (take i xs)).0 ++ z ∷ []) (call ∙ ap (λ (v : LockSets). said_to v x) so_far)
    ∙ sym (said_more s (take i xs) x)
    ∙ sym (ap (λ (ys : List LockCall). (ran s ys).0) (take_one xs i x lt is))

pub after_all : (s t : LockSets) (xs : List LockCall) (i : ℕ) → length xs ≤ i → t ≡ (ran s (take i xs)).1 → t ≡ (ran s xs).1
after_all s t xs i le so_far = so_far ∙ ap (λ (ys : List LockCall). (ran s ys).1) (take_all i xs le)

pub answers_all : (s : LockSets) (xs : List LockCall) (i : ℕ) (zs : List Said) → length xs ≤ i → zs ≡ (ran s (take i xs)).0 → zs ≡ (ran s xs).0
answers_all s xs i zs le so_far = so_far ∙ ap (λ (ys : List LockCall). (ran s ys).0) (take_all i xs le)

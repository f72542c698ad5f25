-- Why all nodes did not begin, where one of them did not.
use Rattle.std.proofs.Common.{◌≡◌, ℕ, zero, suc, ◌+◌, ◌≤◌, List, [], ◌∷◌, ◌++◌, Result, Ok, Err, sym, ap, ◌∙◌, subst, arith, inl, inr, ⊎_elim, append_assoc, add-zero}
use Rattle.std.specs.Prelude.{IfErr}
use Rattle.std.specs.Result.{IsErrAnd}
use Rattle.std.proofs.lemmas.List.{append-nil}
use Rattle.rc_ids.specs.Cluster.{Layout}
use Rattle.rc_ids.specs.declared.names.NodeId.{NodeId}
use Rattle.rc_runs.specs.Session.{Halt, FarmFails}
use Rattle.rc_runs.specs.Stored.{Place, Begun, begins_node, begins_all}
use Rattle.rc_begin.specs.declared.fault.WorldFault.{WorldFault}
use Rattle.rc_begin.specs.declared.fault.WorldFault.TheVariants.{NoMemory, Farm, Log, Limit, Naming}
use Rattle.rc_begin.specs.Beginnings.{HasRisen, BeginRefused}
use Rattle.rc_begin.proofs.Behind.{joined, in_two, begins_none}

risen_since : (a b c d : ℕ) → a ≤ b → c ≤ d → HasRisen b c → HasRisen a d
risen_since a b c d earlier later risen = grind (arith, earlier, later, risen)

-- where the one is refused, so is the other, with counts that lie further apart
refused_as : {A B : Type 0} (a b c d : ℕ) (one : Result A Halt) (all : Result B Halt) → a ≤ b → c ≤ d → ((halt : Halt) → one ≡ Err halt → all ≡ Err halt)
    → (fault : WorldFault) → BeginRefused b c one fault → BeginRefused a d all fault
refused_as a b c d one all earlier later is NoMemory h = tt
refused_as a b c d one all earlier later is Farm h =
    ⊎_elim (λ (risen : HasRisen b c). inl (risen_since a b c d earlier later risen)) (λ (e : one ≡ Err FarmFails). inr (is FarmFails e)) h
refused_as a b c d one all earlier later is (Log node fault) h = is _ h
refused_as a b c d one all earlier later is (Limit which) h = is _ h
refused_as a b c d one all earlier later is (Naming name) h = absurd h

module _ (p : Place) (c : Layout) where
  -- one node behind those that began
  pub one_refused : (before was now after : ℕ) → before ≤ was → now ≤ after → (ns ms : List NodeId) (n : NodeId) (xs : List Begun) → begins_all p c ns ≡ Ok xs
      → (fault : WorldFault) → BeginRefused was now (begins_node p c n) fault → BeginRefused before after (begins_all p c (ns ++ n ∷ ms)) fault
  one_refused before was now after earlier later ns ms n xs all fault h =
      refused_as before was now after (begins_node p c n) (begins_all p c (ns ++ n ∷ ms)) earlier later (λ halt e. begins_none p c ns ms n xs halt all e) fault h

  front_refuses : (ns ms : List NodeId) (halt : Halt) → begins_all p c ns ≡ Err halt → begins_all p c (ns ++ ms) ≡ Err halt
  front_refuses ns ms halt e = in_two p c ns ms ∙ ap (λ (r : Result (List Begun) Halt). joined r (begins_all p c ms)) e

  -- some of all nodes
  pub some_refused : (before was now after : ℕ) → before ≤ was → now ≤ after → (ns ms all : List NodeId) → all ≡ ns ++ ms
      → (fault : WorldFault) → BeginRefused was now (begins_all p c ns) fault → BeginRefused before after (begins_all p c all) fault
  some_refused before was now after earlier later ns ms all is fault h =
      refused_as before was now after (begins_all p c ns) (begins_all p c all) earlier later
      (λ halt e. ap (begins_all p c) is ∙ front_refuses ns ms halt e) fault h

-- LISTS that grow step by step
pub grows : {X : Type 0} (f : ℕ → List X) (more : ℕ → List X) → ((n : ℕ) → f (suc n) ≡ f n ++ more n) → (n k : ℕ) → (rest : List X) × (f (n + k) ≡ f n ++ rest)
grows f more step n zero = ([], ap f (add-zero n) ∙ sym (append-nil (f n)))
grows f more step n (suc k) =
    let before = grows f more step n k in
    let next : n + suc k ≡ suc (n + k) = omega arith in
    (before.0 ++ more (n + k), ap f next ∙ step (n + k) ∙ ap (λ xs. xs ++ more (n + k)) before.1 ∙ append_assoc (f n) before.0 (more (n + k)))

-- a fault is given on as it is
pub given_on : {X : Type 0} (P : WorldFault → Type 0) (result : Result X WorldFault) (fault : WorldFault) → IsErrAnd result (λ e. e ≡ fault) → P fault → IfErr result P
given_on P (Ok x) fault is holds = tt
given_on P (Err e) fault is holds = subst P (sym is) holds

pub if_err_weaker : {X E : Type 0} {P Q : E → Type 0} (result : Result X E) → ((e : E) → P e → Q e) → IfErr result P → IfErr result Q
if_err_weaker (Ok x) weaker h = tt
if_err_weaker (Err e) weaker h = weaker e h

-- Where parties stand that write down what they do, and their passes: for the tests.
use Rattle.std.proofs.Common.{◌≡◌, ℕ, suc, Bool, true, false, ◌&&◌, List, [], ◌∷◌, ◌++◌, refl, ap, sym, ◌∙◌, subst, None, Some}
use Rattle.std.specs.Prelude.{All}
use Rattle.std.specs.List.{list_all}
use Rattle.std.proofs.lemmas.List.Elements.{All-nil, All-cons, All-pop}
use Rattle.rc_ids.specs.declared.names.Party.{Party}
use Rattle.rc_ids.specs.declared.sends.Letter.{Letter}
use Rattle.rc_wire.specs.declared.pass.Known.{Known}
use Rattle.rc_wire.specs.declared.standing.Standing.{Standing}
use Rattle.rc_wire.specs.declared.turn.Act.{Act}
use Rattle.rc_wire.specs.declared.turn.Act.TheVariants.{Took, Posted, Rested}
use Rattle.rc_wire.specs.declared.turn.StepEnd.TheVariants.{Handled}
use Rattle.rc_wire.specs.Chronicle.{Chronicle}
use Rattle.rc_wire.specs.Parties.{is_client}
use Rattle.rc_wire.specs.Passes.{known_at_first, known_from, all_known}
use Rattle.rc_wire.specs.Standings.{turn, at_first, after, standing}
use Rattle.rc_wire.specs.Turns.{Adds, Rests, RestsAs}
use Rattle.rc_wire.proofs.Hubs.{after_last}

-- STANDINGS
pub stands : (act : Act) (old new : Known) (wire : Chronicle) → Adds old act new wire → standing new.mine ≡ after (standing old.mine) act
stands act old new wire adds = ap standing adds.mine ∙ after_last at_first old.mine (turn old.party act)

-- a party that was at rest is so again once it has handled what it took
pub answered : (s : Standing) (number : ℕ) (sends : List Letter) → s.unanswered ≡ None → s.waiting ≡ false → after (after s (Took number)) (Posted Handled sends) ≡ s
answered s number sends none awake = λ j. record { unanswered = sym none j; stopped = s.stopped; waiting = sym awake j; ended = s.ended; halted = s.halted }

-- a party that has not waited waits after its rest
pub rested : (old new : Known) → standing old.mine ≡ at_first → Rests old false new → standing new.mine ≡ after at_first (Rested false)
rested old new first rests =
    let leaves : RestsAs false old false new = subst (λ (b : Bool). RestsAs b old false new) (ap (λ (s : Standing). s.waiting) first) rests in
    stands (Rested false) old new leaves.wire leaves.adds ∙ ap (λ (s : Standing). after s (Rested false)) first

-- PASSES
abbrev pub IsNewClient : Known → Type 0
IsNewClient x = (is_client x.party ≡ true) × (x.mine ≡ [])

clients_from : (c : Chronicle) (seat : ℕ) (ps : List Party) → list_all is_client ps ≡ true → All IsNewClient (known_from c seat ps)
clients_from c seat [] all = All-nil IsNewClient
clients_from c seat (p ∷ ps) all = All-cons IsNewClient (known_at_first c seat p) (known_from c (suc seat) ps) (first (is_client p) all, refl) (clients_from c (suc seat) ps (rest (is_client p) all))
  where
    first : (b : Bool) → b && list_all is_client ps ≡ true → b ≡ true
    first true e = refl
    first false e = absurd cc

    rest : (b : Bool) → b && list_all is_client ps ≡ true → list_all is_client ps ≡ true
    rest true e = e
    rest false e = absurd cc

pub new_clients : (c : Chronicle) → list_all is_client c.parties ≡ true → All IsNewClient (all_known c)
new_clients c all = clients_from c 0 c.parties all

pub last_apart : {A : Type 0} (P : A → Type 0) (all xs : List A) (x : A) → all ≡ xs ++ x ∷ [] → All P all → All P xs × P x
last_apart P all xs x is each = All-pop P all xs (Some x) is each

only_last : {A : Type 0} (xs : List A) (a p : A) → a ∷ [] ≡ xs ++ p ∷ [] → (xs ≡ []) × (p ≡ a)
only_last [] a p is = (refl, cc)
only_last (x ∷ []) a p is = absurd cc
only_last (x ∷ y ∷ ys) a p is = absurd cc

tails : {A : Type 0} (x y : A) (xs ys : List A) → x ∷ xs ≡ y ∷ ys → (x ≡ y) × (xs ≡ ys)
tails x y xs ys is = (cc, cc)

last_of_two : {A : Type 0} (xs : List A) (a b p : A) → a ∷ b ∷ [] ≡ xs ++ p ∷ [] → (xs ≡ a ∷ []) × (p ≡ b)
last_of_two [] a b p is = absurd cc
last_of_two (x ∷ xs) a b p is =
    let t = tails a x (b ∷ []) (xs ++ p ∷ []) is in
    let o = only_last xs b p t.1 in
    (λ j. sym t.0 j ∷ o.0 j, o.1)

-- two passes, taken out one after the other
pub two_apart : (a b p q : Known) (xs ys : List Known) → a ∷ b ∷ [] ≡ xs ++ p ∷ [] → xs ≡ ys ++ q ∷ [] → (ys ≡ []) × (q ≡ a) × (p ≡ b)
two_apart a b p q xs ys first second =
    let l = last_of_two xs a b p first in
    let o = only_last ys a q (sym l.0 ∙ second) in
    (o.0, o.1, l.1)

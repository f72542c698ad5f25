-- What the rows of the step table are where the node does them.
use Rattle.std.proofs.Common.{◌≡◌, ℕ, nat_lt, Bool, true, false, Bor, Option, Some, None, is_some, is_none, not, sym, ap, subst, ◌∙◌, if◌then◌else◌, arith}
use Rattle.std.specs.Ordering.{nat_cmp, is_lt}
use Rattle.std.specs.Option.{option_copied}
use Rattle.rc_ids.specs.Tables.{without, maybe, found}
use Rattle.rc_ids.specs.Cluster.{Layout, owner_of}
use Rattle.rc_body.specs.Bodies.{touched}
use Rattle.rc_body.specs.declared.decision.Decision.{Decision}
use Rattle.rc_body.specs.declared.reason.Reason.TheVariants.{Promised as PromisedHigher}
use Rattle.rc_ids.specs.declared.names.Party.{Party}
use Rattle.rc_msg.specs.declared.msg.Msg.TheVariants.{Refused}
use Rattle.rc_protocol.specs.Messages.{coordinator, one}
use Rattle.rc_protocol.specs.Coordinator.{GatherState, CoordDurable, CoordVolatile, CoordAct, outcome_of, promise_of, promises_at, accepted_at, takes_proposal, refuses, tells, vote, proposer, on_propose, on_voted, is_decided_by, tally_of, coord_learns, coord_says, coord_stays, with_vote}
use Rattle.rc_coord_tables.specs.Maps.{mapped}
use Rattle.rc_coord_tables.specs.Gathers.{GatherTable, AreOf}
use Rattle.rc_coord_tables.proofs.MapFacts.{mapped-without}
use Rattle.rc_coord.specs.Rows.{asks_open}

-- gathers of a cluster stay so, once one is forgotten
pub fits-without : (c : Layout) (t : ℕ) (old new : GatherTable) → AreOf c old → new.table ≡ without nat_cmp old.table t → new.asked ≡ without nat_cmp old.asked t → AreOf c new
fits-without c t old new fit table asked =
    asked ∙ ap (λ xs. without nat_cmp xs t) fit ∙ sym (mapped-without (λ (x : GatherState). touched c x.body) old.table t)
    ∙ ap (mapped (λ (x : GatherState). touched c x.body)) (sym table)

-- what is not there is none
pub none_copied : {A : Type 0} (r : Option (Bor A)) {o : Option A} → option_copied r ≡ o → is_some r ≡ false → o ≡ None
none_copied None is e = sym is
none_copied (Some x) is e = absurd cc

-- a look-up by reference, and its test
pub none_test : {A : Type 0} (r : Option (Bor A)) (there : Option A) (b : Bool) → option_copied r ≡ there → is_some r ≡ not b → is_none there ≡ b
none_test None there true e s = sym (ap is_none e)
none_test None there false e s = cc
none_test (Some x) there true e s = cc
none_test (Some x) there false e s = sym (ap is_none e)

pub some_test : {A : Type 0} (r : Option (Bor A)) {o : Option A} → option_copied r ≡ o → is_some r ≡ true → is_some o ≡ true
some_test None is e = absurd cc
some_test (Some x) is e = sym (ap is_some is)

module _ (c : Layout) (d : ℕ) (s : CoordDurable) (v : CoordVolatile) (t b from : ℕ) (o : Decision) where
  voted_is : outcome_of s.outcomes t ≡ None → (x : Bool) → is_decided_by c (tally_of v t) b from o ≡ x
      → on_voted c d s v t b from o ≡ (if x then coord_learns c d v t o else coord_stays (with_vote v t b from o))
  voted_is none x is =
      ap (λ (known : Option Decision). maybe known (if is_decided_by c (tally_of v t) b from o then coord_learns c d v t o else coord_stays (with_vote v t b from o)) (λ _. coord_stays v)) none
      ∙ ap (λ (y : Bool). if y then coord_learns c d v t o else coord_stays (with_vote v t b from o)) is

  pub voted-learns : outcome_of s.outcomes t ≡ None → is_decided_by c (tally_of v t) b from o ≡ true → coord_learns c d v t o ≡ on_voted c d s v t b from o
  voted-learns none is = sym (voted_is none true is)

below : (a b : ℕ) → is_lt (nat_cmp a b) ≡ true → nat_lt a b ≡ true
below a b low = grind arith

below_as : (b n promise : ℕ) → n ≡ promise → is_lt (nat_cmp b n) ≡ true → nat_lt b promise ≡ true
below_as b n promise is low = subst (λ (m : ℕ). nat_lt b m ≡ true) is (below b n low)

-- a lower ballot is refused
pub asks-low : (c : Layout) (d : ℕ) (s : CoordDurable) (v : CoordVolatile) (t b promise : ℕ) (to : Party) → to ≡ coordinator (owner_of c b) → promise ≡ promise_of s.promises t → is_lt (nat_cmp b promise) ≡ true
    → coord_says v (one to (Refused t b d (PromisedHigher promise))) ≡ asks_open c d s v t b
asks-low c d s v t b promise to to_is is low =
    ap (λ (p : Party). coord_says v (one p (Refused t b d (PromisedHigher promise)))) to_is ∙
    ap (λ (n : ℕ). coord_says v (one (coordinator (owner_of c b)) (Refused t b d (PromisedHigher n)))) is
    ∙ sym (ap (λ (x : Bool). let act : CoordAct = if x then coord_says v (one (coordinator (owner_of c b)) (Refused t b d (PromisedHigher (promise_of s.promises t)))) else promises_at c d s v t b in act)
    (below_as b promise (promise_of s.promises t) is low))

-- and so is a proposal at one
pub propose-low : (c : Layout) (d : ℕ) (s : CoordDurable) (v : CoordVolatile) (t b promise : ℕ) (o : Decision) (to : Party) → outcome_of s.outcomes t ≡ None → to ≡ proposer c t b
    → promise ≡ promise_of s.promises t → is_lt (nat_cmp b promise) ≡ true → coord_says v (one to (Refused t b d (PromisedHigher promise))) ≡ on_propose c d s v t b o
propose-low c d s v t b promise o to none to_is is low =
    ap (λ (p : Party). coord_says v (one p (Refused t b d (PromisedHigher promise)))) to_is
    ∙ ap (λ (n : ℕ). refuses c d v t b (PromisedHigher n)) is
    ∙ sym (ap (λ (known : Option Decision). let act : CoordAct = maybe known (if nat_lt b (promise_of s.promises t) then refuses c d v t b (PromisedHigher (promise_of s.promises t)) else maybe (accepted_at (found nat_cmp s.accepted t) b) (takes_proposal c d v t b o) (λ old. coord_says v (vote c d t b old))) (λ outcome. tells v (proposer c t b) t outcome) in act) none
    ∙ ap (λ (x : Bool). let act : CoordAct = if x then refuses c d v t b (PromisedHigher (promise_of s.promises t)) else maybe (accepted_at (found nat_cmp s.accepted t) b) (takes_proposal c d v t b o) (λ old. coord_says v (vote c d t b old)) in act)
    (below_as b promise (promise_of s.promises t) is low))

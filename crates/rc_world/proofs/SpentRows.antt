-- An act of a coordinator that is spent, since no ballot is left, has no record.
use Rattle.std.proofs.Common.{◌≡◌, ℕ, Bool, true, false, Option, None, Some, refl}
use Rattle.std.specs.Prelude.{nat_lt, if◌then◌else◌}
use Rattle.std.specs.Ordering.{nat_cmp}
use Rattle.rc_ids.specs.Tables.{found, maybe}
use Rattle.rc_ids.specs.Cluster.{Layout, is_dc, is_shard, next_ballot}
use Rattle.rc_ids.specs.declared.names.Party.{Party}
use Rattle.rc_body.specs.declared.decision.Decision.{Decision}
use Rattle.rc_body.specs.declared.decision.Decision.TheVariants.{Abort, Commit}
use Rattle.rc_body.specs.declared.reason.Reason.{Reason}
use Rattle.rc_msg.specs.declared.msg.Msg.{Msg}
use Rattle.rc_msg.specs.declared.msg.Msg.TheVariants.{Propose, Prepared, Ask, Promise, Voted, Decided, Abandon, CatchAsk, CatchPage}
use Rattle.rc_record.specs.CoordState.{CoordDurable, promise_of, outcome_of}
use Rattle.rc_protocol.specs.Acts.{NodeCause, Came, Catches, Takes, coord_act}
use Rattle.rc_protocol.specs.Coordinator.{CoordVolatile, CoordAct, GatherState, coord_row, takes_over, on_promise, on_voted, on_catch_page, on_prepared, waiting_takeover, chooses, hears, tally_of, is_decided_by, is_next_coord_page, gathers_on, gather_at, takes_proposal, has_all, accepted_at, waiting_gather, said_yes, with_yes}

abbrev IsEmptyIfSpent : CoordAct → Type 0
IsEmptyIfSpent act = act.spent ≡ true → act.logs ≡ None

-- an act that is not spent, and one without a record
abbrev Whole : CoordAct → Type 0
Whole act = act.spent ≡ false

either_way : (b : Bool) (x y : CoordAct) → Whole x → Whole y → Whole (if b then x else y)
either_way true x y one other = one
either_way false x y one other = other

in_case : {A : Type 0} (o : Option A) (x : CoordAct) (f : A → CoordAct) → Whole x → ((a : A) → Whole (f a)) → Whole (maybe o x f)
in_case None x f one other = one
in_case (Some a) x f one other = other a

at_decided : {A : Type 0} (o : Option A) (x : CoordAct) (f : A → CoordAct) → IsEmptyIfSpent x → ((a : A) → IsEmptyIfSpent (f a)) → IsEmptyIfSpent (maybe o x f)
at_decided None x f one other = one
at_decided (Some a) x f one other = other a

never : (act : CoordAct) → Whole act → IsEmptyIfSpent act
never act whole spent = absurd (cc)

module _ (c : Layout) (d : ℕ) (s : CoordDurable) (v : CoordVolatile) where
  takes_is : (t : ℕ) (eager : Bool) → IsEmptyIfSpent (takes_over c d s v t eager)
  takes_is t eager = at_decided (next_ballot c d (promise_of s.promises t)) _ _ (λ _. refl) (λ b spent. absurd (cc))

  gathers_is : (t : ℕ) (g : GatherState) → Whole (gathers_on c d v t g)
  gathers_is t g = either_way (has_all c g) _ _ refl refl

  proposal_is : (t b : ℕ) (o : Decision) → Whole (takes_proposal c d v t b o)
  proposal_is t b Abort = refl
  proposal_is t b (Commit body) = gathers_is t (gather_at v t b body)

  yes_is : (t : ℕ) (g : GatherState) → Whole (said_yes c d s v t g)
  yes_is t g = either_way (has_all c g) _ _ (either_way (nat_lt g.ballot (promise_of s.promises t)) _ _ refl refl) refl

  prepared_is : (t sh : ℕ) (answer : Option Reason) → Whole (on_prepared c d s v t sh answer)
  prepared_is t sh None = in_case (waiting_gather c s v t sh) _ _ refl (λ g. yes_is t (with_yes g sh))
  prepared_is t sh (Some reason) = in_case (waiting_gather c s v t sh) _ _ refl (λ g. refl)

  row_is : (from : Party) (m : Msg) → IsEmptyIfSpent (coord_row c d s v from m)
  row_is from (Propose t b o) =
      never (coord_row c d s v from (Propose t b o)) (in_case (outcome_of s.outcomes t) _ _
      (either_way (nat_lt b (promise_of s.promises t)) _ _ refl (in_case (accepted_at (found nat_cmp s.accepted t) b) (takes_proposal c d v t b o) _ (proposal_is t b o) (λ old. refl)))
      (λ o. refl))
  row_is from (Prepared t sh reason) = never (coord_row c d s v from (Prepared t sh reason)) (either_way (is_shard c sh) (on_prepared c d s v t sh reason) _ (prepared_is t sh reason) refl)
  row_is from (Ask t b) = never (coord_row c d s v from (Ask t b)) (in_case (outcome_of s.outcomes t) _ _ (either_way (nat_lt b (promise_of s.promises t)) _ _ refl refl) (λ o. refl))
  row_is from (Promise t b e report) =
      never (coord_row c d s v from (Promise t b e report)) (either_way (is_dc c e) (on_promise c s v t b e report) _ (in_case (waiting_takeover s v t b e) _ _ refl (λ k. in_case (chooses c (hears k e report)) _ _ refl (λ o. refl))) refl)
  row_is from (Voted t b e o) =
      never (coord_row c d s v from (Voted t b e o)) (either_way (is_dc c e) (on_voted c d s v t b e o) _ (in_case (outcome_of s.outcomes t) _ _ (either_way (is_decided_by c (tally_of v t) b e o) _ _ refl refl) (λ u. refl)) refl)
  row_is from (Decided t o) = never (coord_row c d s v from (Decided t o)) (in_case (outcome_of s.outcomes t) _ _ refl (λ u. refl))
  row_is from (Abandon t) = at_decided (outcome_of s.outcomes t) (takes_over c d s v t false) _ (takes_is t false) (λ o _. refl)
  row_is from (CatchAsk place) = λ _. refl
  row_is from (CatchPage e place page) =
      never (coord_row c d s v from (CatchPage e place page)) (either_way (is_dc c e) (on_catch_page c d s v e place page) _ (either_way (is_next_coord_page d v e place page) _ _ refl refl) refl)
  row_is from _ = λ _. refl

  pub spent_logs : (cause : NodeCause) → IsEmptyIfSpent (coord_act c d s v cause)
  spent_logs (Came from m) = row_is from m
  spent_logs Catches = λ _. refl
  spent_logs (Takes t) = at_decided (outcome_of s.outcomes t) (takes_over c d s v t true) _ (takes_is t true) (λ o _. refl)

-- What a coordinator accepts is of the transaction of a proposal or of a shard's answer.
use Rattle.std.proofs.Common.{◌≡◌, ℕ, Bool, true, false, List, [], ◌∷◌, Option, None, Some, refl}
use Rattle.std.specs.Prelude.{nat_lt, if◌then◌else◌}
use Rattle.std.specs.Ordering.{nat_cmp}
use Rattle.rc_ids.specs.Tables.{found, maybe}
use Rattle.rc_ids.specs.Cluster.{Layout, is_dc, is_shard, next_ballot}
use Rattle.rc_ids.specs.declared.names.Party.{Party}
use Rattle.rc_body.specs.declared.decision.Decision.{Decision}
use Rattle.rc_body.specs.declared.decision.Decision.TheVariants.{Abort, Commit}
use Rattle.rc_body.specs.declared.reason.Reason.{Reason}
use Rattle.rc_msg.specs.declared.msg.Msg.{Msg}
use Rattle.rc_msg.specs.declared.msg.Msg.TheVariants.{ReadAsk, ReadCancel, Granted, Propose, Prepare, Prepared, Voted, Refused, Ask, Promise, Decided, Finish, Abandon, CatchAsk, CatchPage}
use Rattle.rc_record.specs.declared.record.Record.{Record}
use Rattle.rc_record.specs.declared.record.Record.TheVariants.{Promised}
use Rattle.rc_record.specs.CoordState.{CoordDurable, promise_of, outcome_of}
use Rattle.rc_protocol.specs.Messages.{coordinator}
use Rattle.rc_protocol.specs.Acts.{NodeCause, Came, Catches, Takes, coord_act}
use Rattle.rc_protocol.specs.Coordinator.{CoordVolatile, CoordAct, GatherState, coord_stays, takes_over, promise_record, promises_at, on_ask, on_promise, on_voted, on_decided, on_catch_page, on_propose, on_prepared, waiting_takeover, chooses, hears, tally_of, is_decided_by, is_next_coord_page, undecided, outcomes_record, takes_page, with_coord_cursor, asks_next_coord_page, gathers_on, gather_at, takes_proposal, has_all, accepted_at, waiting_gather, said_yes, with_yes}
use Rattle.rc_world.specs.Votes.{votes_on, IsNoVote, IsVoteOn}

module _ (P : Option Record → Type 0) where
  if_either : (b : Bool) (x y : CoordAct) → P x.logs → P y.logs → P (if b then x else y).logs
  if_either true x y a z = a
  if_either false x y a z = z

  maybe_either : {A : Type 0} (o : Option A) (x : CoordAct) (f : A → CoordAct) → P x.logs → ((a : A) → P (f a).logs) → P (maybe o x f).logs
  maybe_either None x f a g = a
  maybe_either (Some y) x f a g = g y

-- NO VOTES
takes_over_is : (c : Layout) (d : ℕ) (s : CoordDurable) (v : CoordVolatile) (t : ℕ) (eager : Bool) → IsNoVote (takes_over c d s v t eager).logs
takes_over_is c d s v t eager = maybe_either IsNoVote (next_ballot c d (promise_of s.promises t)) _ _ tt (λ b. tt)

promise_is : (t b promise : ℕ) → IsNoVote (promise_record t b promise)
promise_is t b promise = by_test (nat_lt promise b)
  where
    by_test : (x : Bool) → IsNoVote (if x then Some (Promised t b) else None)
    by_test true = tt
    by_test false = tt

outcomes_is : (new : List (ℕ × Decision)) → IsNoVote (outcomes_record new)
outcomes_is [] = tt
outcomes_is (e ∷ es) = tt

ask_is : (c : Layout) (d : ℕ) (s : CoordDurable) (v : CoordVolatile) (t b : ℕ) → IsNoVote (on_ask c d s v t b).logs
ask_is c d s v t b = maybe_either IsNoVote (outcome_of s.outcomes t) _ _ (if_either IsNoVote (nat_lt b (promise_of s.promises t)) _ (promises_at c d s v t b) tt (promise_is t b (promise_of s.promises t))) (λ o. tt)

promised_is : (c : Layout) (s : CoordDurable) (v : CoordVolatile) (t b e : ℕ) (report : Option (ℕ × Decision)) → IsNoVote (on_promise c s v t b e report).logs
promised_is c s v t b e report = maybe_either IsNoVote (waiting_takeover s v t b e) _ _ tt (λ k. maybe_either IsNoVote (chooses c (hears k e report)) _ _ tt (λ o. tt))

voted_is : (c : Layout) (d : ℕ) (s : CoordDurable) (v : CoordVolatile) (t b e : ℕ) (o : Decision) → IsNoVote (on_voted c d s v t b e o).logs
voted_is c d s v t b e o = maybe_either IsNoVote (outcome_of s.outcomes t) _ _ (if_either IsNoVote (is_decided_by c (tally_of v t) b e o) _ _ tt tt) (λ u. tt)

decided_is : (c : Layout) (d : ℕ) (s : CoordDurable) (v : CoordVolatile) (t : ℕ) (o : Decision) → IsNoVote (on_decided c d s v t o).logs
decided_is c d s v t o = maybe_either IsNoVote (outcome_of s.outcomes t) _ _ tt (λ u. tt)

page_is : (c : Layout) (d : ℕ) (s : CoordDurable) (v : CoordVolatile) (e place : ℕ) (page : List (ℕ × Decision)) → IsNoVote (on_catch_page c d s v e place page).logs
page_is c d s v e place page = if_either IsNoVote (is_next_coord_page d v e place page) (takes_page c d (with_coord_cursor v e _) (undecided s.outcomes page) (asks_next_coord_page (coordinator e) place page)) _ (outcomes_is (undecided s.outcomes page)) tt

row_is : (c : Layout) (d : ℕ) (s : CoordDurable) (v : CoordVolatile) (from : Party) (m : Msg) → votes_on (Came from m) ≡ None → IsNoVote (coord_act c d s v (Came from m)).logs
row_is c d s v from (Propose t b o) is = cc
row_is c d s v from (Prepared t sh reason) is = cc
row_is c d s v from (Ask t b) is = ask_is c d s v t b
row_is c d s v from (Promise t b e report) is = if_either IsNoVote (is_dc c e) (on_promise c s v t b e report) _ (promised_is c s v t b e report) tt
row_is c d s v from (Voted t b e o) is = if_either IsNoVote (is_dc c e) (on_voted c d s v t b e o) _ (voted_is c d s v t b e o) tt
row_is c d s v from (Decided t o) is = decided_is c d s v t o
row_is c d s v from (Abandon t) is = maybe_either IsNoVote (outcome_of s.outcomes t) (takes_over c d s v t false) _ (takes_over_is c d s v t false) (λ o. tt)
row_is c d s v from (CatchAsk place) is = tt
row_is c d s v from (CatchPage e place page) is = if_either IsNoVote (is_dc c e) (on_catch_page c d s v e place page) _ (page_is c d s v e place page) tt
row_is c d s v from (ReadAsk t k) is = tt
row_is c d s v from (ReadCancel t k) is = tt
row_is c d s v from (Granted t k e version value) is = tt
row_is c d s v from (Prepare t part) is = tt
row_is c d s v from (Refused t b e reason) is = tt
row_is c d s v from (Finish t o) is = tt

pub no_vote : (c : Layout) (d : ℕ) (s : CoordDurable) (v : CoordVolatile) (cause : NodeCause) → votes_on cause ≡ None → IsNoVote (coord_act c d s v cause).logs
no_vote c d s v (Came from m) is = row_is c d s v from m is
no_vote c d s v Catches is = tt
no_vote c d s v (Takes t) is = maybe_either IsNoVote (outcome_of s.outcomes t) (takes_over c d s v t true) _ (takes_over_is c d s v t true) (λ o. tt)

-- VOTES
gathers_is : (c : Layout) (d : ℕ) (v : CoordVolatile) (t : ℕ) (g : GatherState) → IsVoteOn t (gathers_on c d v t g).logs
gathers_is c d v t g = if_either (IsVoteOn t) (has_all c g) _ _ refl tt

proposal_is : (c : Layout) (d : ℕ) (v : CoordVolatile) (t b : ℕ) (o : Decision) → IsVoteOn t (takes_proposal c d v t b o).logs
proposal_is c d v t b Abort = refl
proposal_is c d v t b (Commit body) = gathers_is c d v t (gather_at v t b body)

propose_is : (c : Layout) (d : ℕ) (s : CoordDurable) (v : CoordVolatile) (t b : ℕ) (o : Decision) → IsVoteOn t (on_propose c d s v t b o).logs
propose_is c d s v t b o =
    maybe_either (IsVoteOn t) (outcome_of s.outcomes t) _ _
    (if_either (IsVoteOn t) (nat_lt b (promise_of s.promises t)) _ _ tt
    (maybe_either (IsVoteOn t) (accepted_at (found nat_cmp s.accepted t) b) (takes_proposal c d v t b o) _ (proposal_is c d v t b o) (λ u. tt)))
    (λ u. tt)

yes_is : (c : Layout) (d : ℕ) (s : CoordDurable) (v : CoordVolatile) (t : ℕ) (g : GatherState) → IsVoteOn t (said_yes c d s v t g).logs
yes_is c d s v t g = if_either (IsVoteOn t) (has_all c g) _ _ (if_either (IsVoteOn t) (nat_lt g.ballot (promise_of s.promises t)) _ _ tt refl) tt

prepared_is : (c : Layout) (d : ℕ) (s : CoordDurable) (v : CoordVolatile) (t sh : ℕ) (answer : Option Reason) → IsVoteOn t (on_prepared c d s v t sh answer).logs
prepared_is c d s v t sh None = maybe_either (IsVoteOn t) (waiting_gather c s v t sh) _ _ tt (λ g. yes_is c d s v t (with_yes g sh))
prepared_is c d s v t sh (Some reason) = maybe_either (IsVoteOn t) (waiting_gather c s v t sh) _ _ tt (λ g. tt)

some_is : (t u : ℕ) (logs : Option Record) → Some t ≡ Some u → IsVoteOn t logs → IsVoteOn u logs
some_is t u logs is vote = let e : t ≡ u = (cc) in rw⁻¹ e vote

pub vote_on : (c : Layout) (d : ℕ) (s : CoordDurable) (v : CoordVolatile) (cause : NodeCause) (t : ℕ) → votes_on cause ≡ Some t → IsVoteOn t (coord_act c d s v cause).logs
vote_on c d s v (Came from (Propose u b o)) t is = some_is u t (on_propose c d s v u b o).logs is (propose_is c d s v u b o)
vote_on c d s v (Came from (Prepared u sh answer)) t is =
    some_is u t (if is_shard c sh then on_prepared c d s v u sh answer else coord_stays v).logs is (if_either (IsVoteOn u) (is_shard c sh) (on_prepared c d s v u sh answer) _ (prepared_is c d s v u sh answer) tt)
vote_on c d s v (Came from (Ask u b)) t is = cc
vote_on c d s v (Came from (Promise u b e report)) t is = cc
vote_on c d s v (Came from (Voted u b e o)) t is = cc
vote_on c d s v (Came from (Decided u o)) t is = cc
vote_on c d s v (Came from (Abandon u)) t is = cc
vote_on c d s v (Came from (CatchAsk place)) t is = cc
vote_on c d s v (Came from (CatchPage e place page)) t is = cc
vote_on c d s v (Came from (ReadAsk u k)) t is = cc
vote_on c d s v (Came from (ReadCancel u k)) t is = cc
vote_on c d s v (Came from (Granted u k e version value)) t is = cc
vote_on c d s v (Came from (Prepare u part)) t is = cc
vote_on c d s v (Came from (Refused u b e reason)) t is = cc
vote_on c d s v (Came from (Finish u o)) t is = cc
vote_on c d s v Catches t is = cc
vote_on c d s v (Takes u) t is = cc

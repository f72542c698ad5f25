-- An act of a coordinator that lacks a ballot makes no record.
use Rattle.std.proofs.Common.{◌≡◌, ℕ, Bool, true, false, List, [], Option, None, Some, refl}
use Rattle.std.specs.Prelude.{◌+◌, nat_lt, length, if◌then◌else◌}
use Rattle.std.specs.Ordering.{nat_cmp}
use Rattle.rc_ids.specs.Tables.{maybe, found}
use Rattle.rc_ids.specs.Cluster.{Layout, is_shard, is_dc, owner_of, next_ballot}
use Rattle.rc_body.specs.declared.reason.Reason.{Reason}
use Rattle.rc_ids.specs.declared.names.Party.{Party}
use Rattle.rc_body.specs.declared.decision.Decision.{Decision}
use Rattle.rc_body.specs.declared.decision.Decision.TheVariants.{Commit, Abort}
use Rattle.rc_msg.specs.declared.msg.Msg.{Msg}
use Rattle.rc_msg.specs.declared.msg.Msg.TheVariants.{Propose, Prepared, Ask, Promise, Voted, Refused, Decided, Abandon, CatchAsk, CatchPage}
use Rattle.rc_body.specs.declared.reason.Reason.TheVariants.{Promised as PromisedHigher}
use Rattle.rc_protocol.specs.Messages.{one, to_each, to_all, coordinator, client_of}
use Rattle.rc_protocol.specs.Coordinator.{CoordAct, CoordDurable, CoordVolatile, GatherState, TakeoverState, promise_of, outcome_of, proposer, coord_row, coord_stays, coord_says, on_propose, takes_proposal, gather_at, has_all, with_gather, prepare_to, accepts, accepted_at, vote, refuses, opens, takes_over, on_prepared, said_yes, waiting_gather, with_yes, on_ask, promises_at, on_promise, proposes_or_waits, chooses, with_takeover, proposed, waiting_takeover, hears, on_voted, is_decided_by, tally_of, coord_learns, with_vote, on_catch_page, is_next_coord_page, takes_page, with_coord_cursor, undecided, asks_next_coord_page, do_take}

record IsWise (act : CoordAct) : Type 0 where
  pub wise : act.spent ≡ true → act.logs ≡ None

whole : (act : CoordAct) → act.spent ≡ false → IsWise act
whole act is = record { wise = λ lacks. absurd (cc) }

either : {A : Type 0} (o : Option A) (other : CoordAct) (make : A → CoordAct) → IsWise other → ((x : A) → IsWise (make x)) → IsWise (maybe o other make)
either None other make a b = a
either (Some x) other make a b = b x

choice : (test : Bool) (x y : CoordAct) → IsWise x → IsWise y → IsWise (if test then x else y)
choice true x y a b = a
choice false x y a b = b

proposal : (c : Layout) (d : ℕ) (v : CoordVolatile) (t b : ℕ) (o : Decision) → IsWise (takes_proposal c d v t b o)
proposal c d v t b Abort = whole _ refl
proposal c d v t b (Commit body) =
    let g : GatherState = gather_at v t b body in
    choice (has_all c g) (accepts c d (with_gather v t g) t g.ballot (Commit g.body)) (coord_says (with_gather v t g) (to_each c.shards (prepare_to c d t g))) (whole _ refl) (whole _ refl)

opening : (c : Layout) (d : ℕ) (s : CoordDurable) (v : CoordVolatile) (t : ℕ) (is_eager : Bool) → IsWise (takes_over c d s v t is_eager)
opening c d s v t is_eager =
    either (next_ballot c d (promise_of s.promises t)) (record { logs = None; after = v; sends = []; spent = true }) (λ b. opens c v t is_eager b)
    (record { wise = λ _. refl }) (λ b. whole _ refl)

yes : (c : Layout) (d : ℕ) (s : CoordDurable) (v : CoordVolatile) (t : ℕ) (g : GatherState) → IsWise (said_yes c d s v t g)
yes c d s v t g =
    let inner = choice (nat_lt g.ballot (promise_of s.promises t)) (refuses c d (with_gather v t g) t g.ballot (PromisedHigher (promise_of s.promises t))) (accepts c d (with_gather v t g) t g.ballot (Commit g.body)) (whole _ refl) (whole _ refl) in
    choice (has_all c g) (if nat_lt g.ballot (promise_of s.promises t) then refuses c d (with_gather v t g) t g.ballot (PromisedHigher (promise_of s.promises t)) else accepts c d (with_gather v t g) t g.ballot (Commit g.body)) (coord_stays (with_gather v t g)) inner (whole _ refl)

prepared : (c : Layout) (d : ℕ) (s : CoordDurable) (v : CoordVolatile) (t sh : ℕ) (reason : Option Reason) → IsWise (on_prepared c d s v t sh reason)
prepared c d s v t sh None = either (waiting_gather c s v t sh) (coord_stays v) (λ g. said_yes c d s v t (with_yes g sh)) (whole _ refl) (λ g. yes c d s v t (with_yes g sh))
prepared c d s v t sh (Some reason) = either (waiting_gather c s v t sh) (coord_stays v) (λ g. refuses c d v t g.ballot reason) (whole _ refl) (λ g. whole _ refl)

propose : (c : Layout) (d : ℕ) (s : CoordDurable) (v : CoordVolatile) (t b : ℕ) (o : Decision) → IsWise (on_propose c d s v t b o)
propose c d s v t b o =
    let last = either (accepted_at (found nat_cmp s.accepted t) b) (takes_proposal c d v t b o) (λ old. coord_says v (vote c d t b old)) (proposal c d v t b o) (λ old. whole _ refl) in
    let inner = choice (nat_lt b (promise_of s.promises t)) (refuses c d v t b (PromisedHigher (promise_of s.promises t)))
    (maybe (accepted_at (found nat_cmp s.accepted t) b) (takes_proposal c d v t b o) (λ old. coord_says v (vote c d t b old))) (whole _ refl) last in
    either (outcome_of s.outcomes t)
    (if nat_lt b (promise_of s.promises t) then refuses c d v t b (PromisedHigher (promise_of s.promises t))
    else maybe (accepted_at (found nat_cmp s.accepted t) b) (takes_proposal c d v t b o) (λ old. coord_says v (vote c d t b old)))
    (λ outcome. coord_says v (one (proposer c t b) (Decided t outcome))) inner (λ outcome. whole _ refl)

ask : (c : Layout) (d : ℕ) (s : CoordDurable) (v : CoordVolatile) (t b : ℕ) → IsWise (on_ask c d s v t b)
ask c d s v t b =
    let low : CoordAct = coord_says v (one (coordinator (owner_of c b)) (Refused t b d (PromisedHigher (promise_of s.promises t)))) in
    either (outcome_of s.outcomes t) (if nat_lt b (promise_of s.promises t) then low else promises_at c d s v t b) (λ outcome. coord_says v (one (coordinator (owner_of c b)) (Decided t outcome)))
    (choice (nat_lt b (promise_of s.promises t)) low (promises_at c d s v t b) (whole _ refl) (whole _ refl)) (λ outcome. whole _ refl)

heard : (c : Layout) (v : CoordVolatile) (t : ℕ) (k : TakeoverState) → IsWise (proposes_or_waits c v t k)
heard c v t k = either (chooses c k) (coord_stays (with_takeover v t k)) (λ o. coord_says (with_takeover v t (proposed k)) (to_all c (Propose t k.ballot o))) (whole _ refl) (λ o. whole _ refl)

promise : (c : Layout) (s : CoordDurable) (v : CoordVolatile) (t b from : ℕ) (report : Option (ℕ × Decision)) → IsWise (on_promise c s v t b from report)
promise c s v t b from report = either (waiting_takeover s v t b from) (coord_stays v) (λ k. proposes_or_waits c v t (hears k from report)) (whole _ refl) (λ k. heard c v t (hears k from report))

voted : (c : Layout) (d : ℕ) (s : CoordDurable) (v : CoordVolatile) (t b from : ℕ) (o : Decision) → IsWise (on_voted c d s v t b from o)
voted c d s v t b from o =
    either (outcome_of s.outcomes t) (if is_decided_by c (tally_of v t) b from o then coord_learns c d v t o else coord_stays (with_vote v t b from o)) (λ _. coord_stays v)
    (choice (is_decided_by c (tally_of v t) b from o) (coord_learns c d v t o) (coord_stays (with_vote v t b from o)) (whole _ refl) (whole _ refl)) (λ _. whole _ refl)

page : (c : Layout) (d : ℕ) (s : CoordDurable) (v : CoordVolatile) (from place : ℕ) (es : List (ℕ × Decision)) → IsWise (on_catch_page c d s v from place es)
page c d s v from place es =
    choice (is_next_coord_page d v from place es) (takes_page c d (with_coord_cursor v from (place + length es)) (undecided s.outcomes es) (asks_next_coord_page (coordinator from) place es)) (coord_stays v)
    (whole _ refl) (whole _ refl)

row : (c : Layout) (d : ℕ) (s : CoordDurable) (v : CoordVolatile) (from : Party) (msg : Msg) → IsWise (coord_row c d s v from msg)
row c d s v from (Propose t b o) = propose c d s v t b o
row c d s v from (Prepared t sh reason) = choice (is_shard c sh) (on_prepared c d s v t sh reason) (coord_stays v) (prepared c d s v t sh reason) (whole _ refl)
row c d s v from (Ask t b) = ask c d s v t b
row c d s v from (Promise t b e report) = choice (is_dc c e) (on_promise c s v t b e report) (coord_stays v) (promise c s v t b e report) (whole _ refl)
row c d s v from (Voted t b e o) = choice (is_dc c e) (on_voted c d s v t b e o) (coord_stays v) (voted c d s v t b e o) (whole _ refl)
row c d s v from (Decided t o) = either (outcome_of s.outcomes t) (coord_learns c d v t o) (λ _. coord_stays v) (whole _ refl) (λ _. whole _ refl)
row c d s v from (Abandon t) = either (outcome_of s.outcomes t) (takes_over c d s v t false) (λ outcome. coord_says v (one (client_of t) (Decided t outcome))) (opening c d s v t false) (λ outcome. whole _ refl)
row c d s v from (CatchAsk place) = whole _ refl
row c d s v from (CatchPage e place es) = choice (is_dc c e) (on_catch_page c d s v e place es) (coord_stays v) (page c d s v e place es) (whole _ refl)
row c d s v from _ = whole _ refl

pub lacks_row : (c : Layout) (d : ℕ) (s : CoordDurable) (v : CoordVolatile) (from : Party) (msg : Msg) → (coord_row c d s v from msg).spent ≡ true → (coord_row c d s v from msg).logs ≡ None
lacks_row c d s v from msg = let w = row c d s v from msg in w.wise

pub lacks_take : (c : Layout) (d : ℕ) (s : CoordDurable) (v : CoordVolatile) (t : ℕ) → (do_take c d s v t).spent ≡ true → (do_take c d s v t).logs ≡ None
lacks_take c d s v t = let w : IsWise (do_take c d s v t) = either (outcome_of s.outcomes t) (takes_over c d s v t true) (λ outcome. coord_says v (one (client_of t) (Decided t outcome))) (opening c d s v t true) (λ outcome. whole _ refl) in w.wise

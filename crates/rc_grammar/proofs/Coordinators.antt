-- Each row of a coordinator says only what has a spelling.
use Rattle.std.proofs.Common.{◌≡◌, ℕ, ◌+◌, ◌==◌, ◌^◌, Bool, true, false, List, [], ◌∷◌, length, subst, arith, Option, Some, None}
use Rattle.std.specs.Prelude.{nat_lt, not, ◌&&◌, IfSome, max, if◌then◌else◌}
use Rattle.std.specs.List.{AllByRecursion, list_all}
use Rattle.std.specs.Ordering.{nat_cmp}
use Rattle.rc_ids.specs.Tables.{found, maybe, member}
use Rattle.rc_ids.specs.Cluster.{Layout, IsLayout, is_dc, is_shard, all_dcs, is_quorum, owner_of, next_ballot}
use Rattle.rc_ids.specs.declared.names.Party.{Party}
use Rattle.rc_body.specs.Bodies.{part, touches}
use Rattle.rc_body.specs.Spelling.{HasBody, HasDecision, HasReason, HasReport, HasOutcome, HasPage}
use Rattle.rc_body.specs.declared.entry.Entry.{Entry}
use Rattle.rc_body.specs.declared.decision.Decision.{Decision}
use Rattle.rc_body.specs.declared.decision.Decision.TheVariants.{Commit, Abort}
use Rattle.rc_body.specs.declared.reason.Reason.{Reason}
use Rattle.rc_body.specs.declared.reason.Reason.TheVariants.{Locked, Lost, Stale, Promised as PromisedHigher}
use Rattle.rc_fields.specs.Ranges.{IsTxNumber, IsDcNumber, IsShardNumber, IsBallotNumber, IsPlace, IsPartyName}
use Rattle.rc_msg.specs.declared.msg.Msg.{Msg}
use Rattle.rc_msg.specs.declared.msg.Msg.TheVariants.{ReadAsk, ReadCancel, Granted, Propose, Prepare, Prepared, Voted, Refused, Ask, Promise, Decided, Finish, Abandon, CatchAsk, CatchPage}
use Rattle.rc_msg.specs.Spelling.{HasMsg, IsShardReason, IsOwnedBallot}
use Rattle.rc_record.specs.declared.record.Record.TheVariants.{Promised}
use Rattle.rc_record.specs.CoordState.{promise_of, outcome_of}
use Rattle.rc_protocol.specs.Messages.{Posts, coordinator, shard_server, client_of, one, to_all, most_entries}
use Rattle.rc_protocol.specs.Acts.{NodeCause, Came, Catches, Takes, coord_act}
use Rattle.rc_protocol.specs.Coordinator.{CoordDurable, CoordVolatile, CoordAct, GatherState, TakeoverState, coord_stays, coord_says, proposer, vote, accepts, finish_to, finish_posts, forgotten, coord_learns, opening, opens, takes_over, has_all, with_gather, prepare_to, gathers_on, gather_at, takes_proposal, refuses, accepted_at, on_propose, waiting_gather, said_yes, with_yes, on_prepared, on_ask, better, hears, best_or_abort, chooses_eagerly, chooses_patiently, chooses, waiting_takeover, with_takeover, proposed, proposes_or_waits, on_promise, is_decided_by, tally_of, with_vote, on_voted, on_decided, page_from, cursor_of, is_next_coord_page, with_coord_cursor, undecided, forgotten_all, finish_all_posts, outcomes_record, asks_next_coord_page, on_catch_page, do_catch, coord_row}
use Rattle.rc_grammar.specs.Acts.{HasPosts, HasLogged, HasNodeCause}
use Rattle.rc_grammar.specs.Coordinators.{HasGather, HasTakeover, HasCursor, HasCoordDurable, HasCoordVolatile, CoordSpeaks}
use Rattle.rc_grammar.proofs.Lists.{on_cond, on_maybe, some_is, never, and_right, all_put, all_without, all_found}
use Rattle.rc_grammar.proofs.Ranges.{dc_within, is_dc_number, shard_within, owner_is_dc, next_is_owned, max_is_ballot}
use Rattle.rc_grammar.proofs.Bodies.{has_part}
use Rattle.rc_grammar.proofs.Pages.{has_single, has_undecided, has_page_from}
use Rattle.rc_grammar.proofs.Sends.{to_one, to_both, to_many, to_coords}
use Rattle.rc_grammar.proofs.CoordStates.{promise_is, accepted_is, outcome_is, coord_keeps_logged}

-- what a row logs and sends, and the volatile state after it
pub record Says (act : CoordAct) : Type 0 where
  pub logs : HasLogged act.logs
  pub sends : HasPosts act.sends
  pub after : HasCoordVolatile act.after

stays : (v : CoordVolatile) → HasCoordVolatile v → Says (coord_stays v)
stays v h = record { logs = tt; sends = tt; after = h }

says : (v : CoordVolatile) (ms : Posts) → HasCoordVolatile v → HasPosts ms → Says (coord_says v ms)
says v ms h p = record { logs = tt; sends = p; after = h }

-- a shard's no is a reason
is_reason : (reason : Reason) → IsShardReason reason → HasReason reason
is_reason (Locked k t) h = h
is_reason (Lost k) h = h
is_reason (Stale k version) h = h
is_reason (PromisedHigher b) h = absurd h

-- VOLATILE STATES
abbrev HasGatherState : GatherState → Type 0
HasGatherState g = IsBallotNumber g.ballot × HasBody g.body

abbrev HasTakeoverState : TakeoverState → Type 0
HasTakeoverState k = IsBallotNumber k.ballot × HasReport k.best

has_forgotten : (v : CoordVolatile) (t : ℕ) → HasCoordVolatile v → HasCoordVolatile (forgotten v t)
has_forgotten v t h = record { gathers = all_without nat_cmp HasGather v.gathers t h.gathers; takeovers = all_without nat_cmp HasTakeover v.takeovers t h.takeovers; cursors = h.cursors }

has_forgotten_all : (page : List (ℕ × Decision)) (v : CoordVolatile) → HasCoordVolatile v → HasCoordVolatile (forgotten_all v page)
has_forgotten_all [] v h = h
has_forgotten_all (e ∷ es) v h = has_forgotten_all es (forgotten v e.0) (has_forgotten v e.0 h)

has_with_gather : (v : CoordVolatile) (t : ℕ) (g : GatherState) → HasCoordVolatile v → HasGatherState g → HasCoordVolatile (with_gather v t g)
has_with_gather v t g h own = record { gathers = all_put nat_cmp HasGather v.gathers t g h.gathers own (λ _ _. own); takeovers = h.takeovers; cursors = h.cursors }

has_with_takeover : (v : CoordVolatile) (t : ℕ) (k : TakeoverState) → HasCoordVolatile v → HasTakeoverState k → HasCoordVolatile (with_takeover v t k)
has_with_takeover v t k h own = record { gathers = h.gathers; takeovers = all_put nat_cmp HasTakeover v.takeovers t k h.takeovers own (λ _ _. own); cursors = h.cursors }

has_gather_at : (v : CoordVolatile) (t b : ℕ) (body : List Entry) → HasCoordVolatile v → IsBallotNumber b → HasBody body → HasGatherState (gather_at v t b body)
has_gather_at v t b body h ballot own =
    on_maybe HasGatherState (found nat_cmp v.gathers t) _ (λ g. record g { ballot = max g.ballot b })
    (λ _. (ballot, own))
    (λ g is. let k = all_found nat_cmp HasGatherState v.gathers t g h.gathers is in (max_is_ballot g.ballot b k.0 ballot, k.1))

has_cursor_of : (v : CoordVolatile) (d : ℕ) → HasCoordVolatile v → IsPlace (cursor_of v d)
has_cursor_of v d h = on_maybe IsPlace (found nat_cmp v.cursors d) 0 (λ cursor. cursor) (λ _. omega arith) (λ cursor is. all_found nat_cmp IsPlace v.cursors d cursor h.cursors is)

-- ROWS
module _ (c : Layout) (hc : IsLayout c) (d : ℕ) (dc : is_dc c d ≡ true) where
  own_dc : IsDcNumber d
  own_dc = is_dc_number c hc d dc

  to_owner : (b : ℕ) (m : Msg) → HasMsg m → HasPosts (one (coordinator (owner_of c b)) m)
  to_owner b m h = to_one (coordinator (owner_of c b)) m (owner_is_dc c hc b) h

  proposer_is : (t b : ℕ) → IsTxNumber t → IsPartyName (proposer c t b)
  proposer_is t b tx = on_cond IsPartyName (b == 0) (client_of t) (coordinator (owner_of c b)) (λ _. tx) (λ _. owner_is_dc c hc b)

  has_vote : (t b : ℕ) (o : Decision) → IsTxNumber t → IsBallotNumber b → HasDecision o → HasPosts (vote c d t b o)
  has_vote t b o tx ballot own =
      to_both (to_all c (Voted t b d o)) (one (client_of t) (Voted t b d o)) (to_coords c hc (Voted t b d o) (tx, ballot, own_dc, own)) (to_one (client_of t) (Voted t b d o) tx (tx, ballot, own_dc, own))

  has_finish_to : (t : ℕ) (o : Decision) (sh : ℕ) → IsTxNumber t → HasDecision o → IsShardNumber sh → HasPosts (finish_to c d t o sh)
  has_finish_to t Abort sh tx own number = to_one (shard_server d sh) (Finish t Abort) (own_dc, number) (tx, tt)
  has_finish_to t (Commit body) sh tx own number =
      on_cond HasPosts (touches c body sh) _ [] (λ _. to_one (shard_server d sh) (Finish t (Commit (part c sh body))) (own_dc, number) (tx, has_part c sh body own)) (λ _. tt)

  has_finish : (t : ℕ) (o : Decision) → IsTxNumber t → HasDecision o → HasPosts (finish_posts c d t o)
  has_finish t o tx own = to_many c.shards (finish_to c d t o) (λ sh low high. has_finish_to t o sh tx own (shard_within c hc sh low high))

  has_finish_all : (page : List (ℕ × Decision)) → AllByRecursion HasOutcome page → HasPosts (finish_all_posts c d page)
  has_finish_all [] own = tt
  has_finish_all (e ∷ es) own = to_both (finish_posts c d e.0 e.1) (finish_all_posts c d es) (has_finish e.0 e.1 own.0.0 own.0.1) (has_finish_all es own.1)

  accepting : (v : CoordVolatile) (t b : ℕ) (o : Decision) → HasCoordVolatile v → IsTxNumber t → IsBallotNumber b → HasDecision o → Says (accepts c d v t b o)
  accepting v t b o h tx ballot own = record { logs = (tx, ballot, own); sends = has_vote t b o tx ballot own; after = h }

  refusing : (v : CoordVolatile) (t b : ℕ) (reason : Reason) → HasCoordVolatile v → IsTxNumber t → IsBallotNumber b → HasReason reason → Says (refuses c d v t b reason)
  refusing v t b reason h tx ballot why = says v _ h (to_one (proposer c t b) (Refused t b d reason) (proposer_is t b tx) (tx, ballot, own_dc, why))

  learning : (v : CoordVolatile) (t : ℕ) (o : Decision) → HasCoordVolatile v → IsTxNumber t → HasDecision o → Says (coord_learns c d v t o)
  learning v t o h tx own = record { logs = has_single t o tx own; sends = has_finish t o tx own; after = has_forgotten v t h }

  module _ (s : CoordDurable) (h : HasCoordDurable s) (v : CoordVolatile) (g : HasCoordVolatile v) where
    promise : (t : ℕ) → IsBallotNumber (promise_of s.promises t)
    promise t = promise_is s.promises t h.promises

    -- of a decided transaction the outcome is told
    telling : (to : Party) (t : ℕ) (o : Decision) → IsPartyName to → IsTxNumber t → outcome_of s.outcomes t ≡ Some o → Says (coord_says v (one to (Decided t o)))
    telling to t o name tx is = says v _ g (to_one to (Decided t o) name (tx, outcome_is s.outcomes t o h.outcomes is))

    take_over : (t : ℕ) (eager : Bool) → IsTxNumber t → Says (takes_over c d s v t eager)
    take_over t eager tx =
        on_maybe Says (next_ballot c d (promise_of s.promises t)) _ (λ b. opens c v t eager b)
        (λ _. record { logs = tt; sends = tt; after = g })
        (λ b is. let ballot = next_is_owned c d (promise_of s.promises t) b is in
        record { logs = (tx, ballot.1); sends = to_coords c hc (Ask t b) (tx, ballot); after = has_with_takeover v t (opening b eager) g (ballot.1, tt) })

    -- PROPOSALS
    gathering : (t : ℕ) (k : GatherState) → IsTxNumber t → HasGatherState k → Says (gathers_on c d v t k)
    gathering t k tx own =
        let after = has_with_gather v t k g own in
        on_cond Says (has_all c k) _ _
        (λ _. accepting (with_gather v t k) t k.ballot (Commit k.body) after tx own.0 own.1)
        (λ _. says (with_gather v t k) _ after (to_many c.shards (prepare_to c d t k) (λ sh low high.
        on_cond HasPosts (touches c k.body sh && not (member nat_cmp k.yes sh)) _ []
        (λ _. to_one (shard_server d sh) (Prepare t (part c sh k.body)) (own_dc, shard_within c hc sh low high) (tx, has_part c sh k.body own.1)) (λ _. tt))))

    taking : (t b : ℕ) (o : Decision) → IsTxNumber t → IsBallotNumber b → HasDecision o → Says (takes_proposal c d v t b o)
    taking t b Abort tx ballot own = accepting v t b Abort g tx ballot tt
    taking t b (Commit body) tx ballot own = gathering t (gather_at v t b body) tx (has_gather_at v t b body g ballot own)

    old_accepted : (b : ℕ) (o : Decision) (a : Option (ℕ × Decision)) → HasReport a → accepted_at a b ≡ Some o → HasDecision o
    old_accepted b o None own is = never o is
    old_accepted b o (Some a) own is =
        on_cond (λ (z : Option Decision). z ≡ Some o → HasDecision o) (a.0 == b) (Some a.1) None (λ _ e. subst HasDecision (some_is a.1 o e) own.1) (λ _ e. never o e) is

    propose : (t b : ℕ) (o : Decision) → IsTxNumber t → IsBallotNumber b → HasDecision o → Says (on_propose c d s v t b o)
    propose t b o tx ballot own =
        on_maybe Says (outcome_of s.outcomes t) _ _
        (λ _. on_cond Says (nat_lt b (promise_of s.promises t)) _ _
        (λ _. refusing v t b (PromisedHigher (promise_of s.promises t)) g tx ballot (promise t))
        (λ _. on_maybe Says (accepted_at (found nat_cmp s.accepted t) b) _ _
        (λ _. taking t b o tx ballot own)
        (λ old is. says v _ g (has_vote t b old tx ballot (old_accepted b old (found nat_cmp s.accepted t) (accepted_is s.accepted t h.accepted) is)))))
        (λ out is. telling (proposer c t b) t out (proposer_is t b tx) tx is)

    -- ANSWERS OF SHARDS
    gather_waits : (t sh : ℕ) (k : GatherState) → waiting_gather c s v t sh ≡ Some k → HasGatherState k
    gather_waits t sh k is =
        on_maybe Q (outcome_of s.outcomes t) _ (λ _. None)
        (λ _. on_maybe Q (found nat_cmp v.gathers t) None _ (λ _ e. never k e)
        (λ x at. on_cond Q (touches c x.body sh && not (member nat_cmp x.yes sh)) (Some x) None
        (λ _ e. subst HasGatherState (some_is x k e) (all_found nat_cmp HasGatherState v.gathers t x g.gathers at)) (λ _ e. never k e)))
        (λ _ _ e. never k e) is
      where
        Q : Option GatherState → Type 0
        Q z = z ≡ Some k → HasGatherState k

    yes : (t : ℕ) (k : GatherState) → IsTxNumber t → HasGatherState k → Says (said_yes c d s v t k)
    yes t k tx own =
        let after = has_with_gather v t k g own in
        on_cond Says (has_all c k) _ _
        (λ _. on_cond Says (nat_lt k.ballot (promise_of s.promises t)) _ _
        (λ _. refusing (with_gather v t k) t k.ballot (PromisedHigher (promise_of s.promises t)) after tx own.0 (promise t))
        (λ _. accepting (with_gather v t k) t k.ballot (Commit k.body) after tx own.0 own.1))
        (λ _. stays (with_gather v t k) after)

    answered : (t sh : ℕ) (answer : Option Reason) → IsTxNumber t → IfSome answer IsShardReason → Says (on_prepared c d s v t sh answer)
    answered t sh None tx why = on_maybe Says (waiting_gather c s v t sh) _ _ (λ _. stays v g) (λ k is. yes t (with_yes k sh) tx (gather_waits t sh k is))
    answered t sh (Some reason) tx why =
        on_maybe Says (waiting_gather c s v t sh) _ _ (λ _. stays v g) (λ k is. refusing v t k.ballot reason g tx (gather_waits t sh k is).0 (is_reason reason why))

    -- PROMISES
    ask : (t b : ℕ) → IsTxNumber t → IsOwnedBallot b → Says (on_ask c d s v t b)
    ask t b tx ballot =
        on_maybe Says (outcome_of s.outcomes t) _ _
        (λ _. on_cond Says (nat_lt b (promise_of s.promises t)) _ _
        (λ _. says v _ g (to_owner b (Refused t b d (PromisedHigher (promise_of s.promises t))) (tx, ballot.1, own_dc, promise t)))
        (λ _. record {
          logs = on_cond HasLogged (nat_lt (promise_of s.promises t) b) (Some (Promised t b)) None (λ _. (tx, ballot.1)) (λ _. tt);
          sends = to_owner b (Promise t b d (found nat_cmp s.accepted t)) (tx, ballot, own_dc, accepted_is s.accepted t h.accepted);
          after = g;
        }))
        (λ out is. telling (coordinator (owner_of c b)) t out (owner_is_dc c hc b) tx is)

    takeover_waits : (t b from : ℕ) (k : TakeoverState) → waiting_takeover s v t b from ≡ Some k → HasTakeoverState k
    takeover_waits t b from k is =
        on_maybe Q (outcome_of s.outcomes t) _ (λ _. None)
        (λ _. on_maybe Q (found nat_cmp v.takeovers t) None _ (λ _ e. never k e)
        (λ x at. on_cond Q ((x.ballot == b) && (not x.has_proposed && not (member nat_cmp x.heard from))) (Some x) None
        (λ _ e. subst HasTakeoverState (some_is x k e) (all_found nat_cmp HasTakeoverState v.takeovers t x g.takeovers at)) (λ _ e. never k e)))
        (λ _ _ e. never k e) is
      where
        Q : Option TakeoverState → Type 0
        Q z = z ≡ Some k → HasTakeoverState k

    promised : (t b from : ℕ) (report : Option (ℕ × Decision)) → IsTxNumber t → HasReport report → Says (on_promise c s v t b from report)
    promised t b from report tx own =
        on_maybe Says (waiting_takeover s v t b from) _ _ (λ _. stays v g)
        (λ k is. let heard = hearing k (takeover_waits t b from k is) in deciding (hears k from report) heard)
      where
        best : (a b : Option (ℕ × Decision)) → HasReport a → HasReport b → HasReport (better a b)
        best a None p q = p
        best None (Some y) p q = q
        best (Some x) (Some y) p q = on_cond HasReport (nat_lt x.0 y.0) (Some y) (Some x) (λ _. q) (λ _. p)

        hearing : (k : TakeoverState) → HasTakeoverState k → HasTakeoverState (hears k from report)
        hearing k p = (p.0, best k.best report p.1 own)

        abort_or : (a : Option (ℕ × Decision)) → HasReport a → HasDecision (best_or_abort a)
        abort_or None p = tt
        abort_or (Some x) p = p.1

        chosen : (k : TakeoverState) → HasTakeoverState k → IfSome (chooses c k) HasDecision
        chosen k p =
            on_cond (λ z. IfSome z HasDecision) k.is_eager (chooses_eagerly c k) (chooses_patiently c k)
            (λ _. on_cond (λ z. IfSome z HasDecision) (is_quorum c k.heard) (Some (best_or_abort k.best)) None (λ _. abort_or k.best p.1) (λ _. tt))
            (λ _. on_cond (λ z. IfSome z HasDecision) (is_quorum c k.silent) (Some Abort) _ (λ _. tt)
            (λ _. on_cond (λ z. IfSome z HasDecision) (list_all (member nat_cmp k.heard) (all_dcs c)) (Some (best_or_abort k.best)) None (λ _. abort_or k.best p.1) (λ _. tt)))

        deciding : (k : TakeoverState) → HasTakeoverState k → Says (proposes_or_waits c v t k)
        deciding k p =
            on_maybe Says (chooses c k) _ _ (λ _. stays (with_takeover v t k) (has_with_takeover v t k g p))
            (λ o is. says (with_takeover v t (proposed k)) _ (has_with_takeover v t (proposed k) g (p.0, tt))
            (to_coords c hc (Propose t k.ballot o) (tx, p.0, subst (λ z. IfSome z HasDecision) is (chosen k p))))

    -- VOTES AND OUTCOMES
    voted : (t b from : ℕ) (o : Decision) → IsTxNumber t → HasDecision o → Says (on_voted c d s v t b from o)
    voted t b from o tx own =
        on_maybe Says (outcome_of s.outcomes t) _ (λ _. coord_stays v)
        (λ _. on_cond Says (is_decided_by c (tally_of v t) b from o) _ _
        (λ _. learning v t o g tx own)
        (λ _. stays (with_vote v t b from o) (record { gathers = g.gathers; takeovers = g.takeovers; cursors = g.cursors })))
        (λ _ _. stays v g)

    decided : (t : ℕ) (o : Decision) → IsTxNumber t → HasDecision o → Says (on_decided c d s v t o)
    decided t o tx own = on_maybe Says (outcome_of s.outcomes t) _ (λ _. coord_stays v) (λ _. learning v t o g tx own) (λ _ _. stays v g)

    -- the transaction is taken over, or its client is told the outcome
    taken : (t : ℕ) (eager : Bool) → IsTxNumber t → Says (maybe (outcome_of s.outcomes t) (takes_over c d s v t eager) (λ o. coord_says v (one (client_of t) (Decided t o))))
    taken t eager tx = on_maybe Says (outcome_of s.outcomes t) _ _ (λ _. take_over t eager tx) (λ out is. telling (client_of t) t out tx tx is)

    -- CATCH-UP
    catch_page : (from : ℕ) (page : List (ℕ × Decision)) (place : ℕ) → is_dc c from ≡ true → HasPage page → Says (on_catch_page c d s v from place page)
    catch_page from page place there own =
        on_cond Says (is_next_coord_page d v from place page) _ (coord_stays v)
        (λ is. let next : IsPlace (place + length page) = next_place is in
        let new = has_undecided s.outcomes page own in
        record {
          logs = one_record (undecided s.outcomes page) new;
          sends = to_both (finish_all_posts c d (undecided s.outcomes page)) (asks_next_coord_page (coordinator from) place page)
              (has_finish_all (undecided s.outcomes page) new.outcomes)
              (on_cond HasPosts (length page == most_entries) _ [] (λ _. to_one (coordinator from) (CatchAsk (place + length page)) (is_dc_number c hc from there) next) (λ _. tt));
          after = has_forgotten_all (undecided s.outcomes page) (with_coord_cursor v from (place + length page))
              (record { gathers = g.gathers; takeovers = g.takeovers; cursors = all_put nat_cmp HasCursor v.cursors from (place + length page) g.cursors next (λ _ _. next) });
        })
        (λ _. stays v g)
      where
        next_place : is_next_coord_page d v from place page ≡ true → IsPlace (place + length page)
        next_place is =
            let less = and_right (place == cursor_of v from) (nat_lt (place + length page) (2 ^ 32))
            (and_right (not (from == d)) ((place == cursor_of v from) && nat_lt (place + length page) (2 ^ 32)) is) in
            grind (arith, less)

        one_record : (new : List (ℕ × Decision)) → HasPage new → HasLogged (outcomes_record new)
        one_record [] p = tt
        one_record (e ∷ es) p = (omega arith, p)

    catches : Says (do_catch c d v)
    catches = says v _ g (to_many c.dcs (λ e. if e == d then [] else one (coordinator e) (CatchAsk (cursor_of v e))) (λ e low high.
        on_cond HasPosts (e == d) [] _ (λ _. tt) (λ _. to_one (coordinator e) (CatchAsk (cursor_of v e)) (dc_within c hc e low high) (has_cursor_of v e g))))

    row : (from : Party) (m : Msg) → IsPartyName from → HasMsg m → Says (coord_row c d s v from m)
    row from (Propose t b o) name own = propose t b o own.0 own.1 own.2
    row from (Prepared t sh answer) name own = on_cond Says (is_shard c sh) _ (coord_stays v) (λ _. answered t sh answer own.0 own.2) (λ _. stays v g)
    row from (Ask t b) name own = ask t b own.0 own.1
    row from (Promise t b e report) name own = on_cond Says (is_dc c e) _ (coord_stays v) (λ _. promised t b e report own.0 own.3) (λ _. stays v g)
    row from (Voted t b e o) name own = on_cond Says (is_dc c e) _ (coord_stays v) (λ _. voted t b e o own.0 own.3) (λ _. stays v g)
    row from (Decided t o) name own = decided t o own.0 own.1
    row from (Abandon t) name own = taken t false own
    row from (CatchAsk place) name own = says v _ g (to_one from (CatchPage d place (page_from s.outcomes place)) name (own_dc, own, has_page_from s.outcomes place h.outcomes h.apart))
    row from (CatchPage e place page) name own = on_cond Says (is_dc c e) _ (coord_stays v) (λ there. catch_page e page place there own.2) (λ _. stays v g)
    row from (ReadAsk t k) name own = stays v g
    row from (ReadCancel t k) name own = stays v g
    row from (Granted t k e version held) name own = stays v g
    row from (Prepare t p) name own = stays v g
    row from (Refused t b e reason) name own = stays v g
    row from (Finish t o) name own = stays v g

    does : (cause : NodeCause) → HasNodeCause cause → Says (coord_act c d s v cause)
    does (Came from m) own = row from m own.0 own.1
    does Catches own = catches
    does (Takes t) own = taken t true own

    pub speaks : (cause : NodeCause) → HasNodeCause cause → CoordSpeaks s (coord_act c d s v cause)
    speaks cause own =
        let k = does cause own in
        record { logs = k.logs; sends = k.sends; durable = coord_keeps_logged s (coord_act c d s v cause).logs h k.logs; volatile = k.after }

-- THE LAW
pub coords_speak : (c : Layout) → IsLayout c → (d : ℕ) → is_dc c d ≡ true → (s : CoordDurable) → HasCoordDurable s → (v : CoordVolatile) → HasCoordVolatile v
    → (cause : NodeCause) → HasNodeCause cause → CoordSpeaks s (coord_act c d s v cause)
coords_speak c hc d dc s h v g cause k = speaks c hc d dc s h v g cause k

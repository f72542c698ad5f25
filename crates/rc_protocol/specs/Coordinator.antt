-- The rows of a coordinator: the gather of two-phase commit, the acceptor of Paxos, the tally of votes, take-overs and catch-up.
-- Ballots per transaction, that a promise may be given again at its own ballot and that an accept raises the promise are this
-- project's own.
use Rattle.std.specs.Prelude.{ℕ, ◌+◌, ◌^◌, Bool, true, false, not, ◌&&◌, List, [], ◌∷◌, ◌++◌, length, take, drop, filter, Option, Some, None, nat_lt, ◌==◌, if◌then◌else◌, is_some, is_none, max}
use Rattle.std.specs.Ordering.{nat_cmp}
use Rattle.std.specs.List.{list_all}
use Rattle.rc_ids.specs.Tables.{Table, found, put, without, member, added, maybe}
use Rattle.rc_ids.specs.Cluster.{Layout, all_dcs, is_dc, is_shard, is_quorum, owner_of, next_ballot}
use Rattle.rc_ids.specs.declared.names.Party.{Party}
use Rattle.rc_body.specs.Bodies.{part, touches, touched}
use Rattle.rc_body.specs.declared.entry.Entry.{Entry}
use Rattle.rc_body.specs.declared.decision.Decision.{Decision}
use Rattle.rc_body.specs.declared.decision.Decision.TheVariants.{Commit, Abort}
use Rattle.rc_body.specs.declared.reason.Reason.{Reason}
use Rattle.rc_body.specs.declared.reason.Reason.TheVariants.{Promised as PromisedHigher}
use Rattle.rc_msg.specs.declared.msg.Msg.{Msg}
use Rattle.rc_msg.specs.declared.msg.Msg.TheVariants.{Propose, Prepare, Prepared, Voted, Refused, Ask, Promise, Decided, Finish, Abandon, CatchAsk, CatchPage}
use Rattle.rc_record.specs.declared.record.Record.{Record}
use Rattle.rc_record.specs.declared.record.Record.TheVariants.{Promised, Accepted, Decided as OutcomesDecided}
pub use Rattle.rc_record.specs.declared.coord.CoordDurable.{CoordDurable}
pub use Rattle.rc_record.specs.CoordState.{new_durable, promise_of, outcome_of, promise_raised, outcomes_joined, coord_applied}
use Rattle.rc_protocol.specs.Messages.{Posts, coordinator, shard_server, client_of, one, to_each, to_all, most_entries}

-- a transaction for which this datacentre's shards are asked, and those that said yes
pub record GatherState : Type 0 where
  pub ballot : ℕ
  pub body : List Entry
  pub yes : List ℕ

-- an open take-over: who promised its ballot, who of them reported nothing, and the report of the highest ballot. An eager one proposes
-- as soon as it may, a patient one aborts only what no quorum can have chosen before
pub record TakeoverState : Type 0 where
  pub ballot : ℕ
  pub is_eager : Bool
  pub has_proposed : Bool
  pub heard : List ℕ
  pub silent : List ℕ
  pub best : Option (ℕ × Decision)

-- who stands for commit and who for abort, at one ballot
pub record Standing : Type 0 where
  pub commits : List ℕ
  pub aborts : List ℕ

pub record CoordVolatile : Type 0 where
  pub gathers : Table ℕ GatherState
  pub takeovers : Table ℕ TakeoverState
  pub votes : Table ℕ (Table ℕ Standing)
  pub cursors : Table ℕ ℕ  -- how far the list of each other coordinator was caught up with

-- what a row does; where no ballot is left it does nothing, and says so
pub record CoordAct : Type 0 where
  pub logs : Option Record
  pub after : CoordVolatile
  pub sends : Posts
  pub spent : Bool

abbrev pub new_volatile : CoordVolatile
new_volatile = record { gathers = []; takeovers = []; votes = []; cursors = [] }

-- ACTS
abbrev pub coord_stays : CoordVolatile → CoordAct
coord_stays v = record { logs = None; after = v; sends = []; spent = false }

abbrev pub coord_says : CoordVolatile → Posts → CoordAct
coord_says v ms = record { logs = None; after = v; sends = ms; spent = false }

-- what is done of a transaction that is decided, and of one that is not
abbrev pub if_decided : {A : Type 0} → CoordDurable → ℕ → (Decision → A) → A → A
if_decided s t decided undecided = maybe (outcome_of s.outcomes t) undecided decided

-- the outcome is told
abbrev pub tells : CoordVolatile → Party → ℕ → Decision → CoordAct
tells v to t outcome = coord_says v (one to (Decided t outcome))

-- the proposer of a ballot: the client of ballot 0, else its owner's coordinator
abbrev pub proposer : Layout → ℕ → ℕ → Party
proposer c t b = if b == 0 then client_of t else coordinator (owner_of c b)

abbrev pub vote : Layout → ℕ → ℕ → ℕ → Decision → Posts
vote c d t b o = to_all c (Voted t b d o) ++ one (client_of t) (Voted t b d o)

abbrev pub accepts : Layout → ℕ → CoordVolatile → ℕ → ℕ → Decision → CoordAct
accepts c d v t b o = record { logs = Some (Accepted t b o); after = v; sends = vote c d t b o; spent = false }

-- commit goes to each touched shard with its part, abort to each shard
abbrev pub finish_to : Layout → ℕ → ℕ → Decision → ℕ → Posts
finish_to c d t Abort sh = one (shard_server d sh) (Finish t Abort)
finish_to c d t (Commit body) sh = if touches c body sh then one (shard_server d sh) (Finish t (Commit (part c sh body))) else []

abbrev pub finish_posts : Layout → ℕ → ℕ → Decision → Posts
finish_posts c d t o = to_each c.shards (finish_to c d t o)

abbrev pub forgotten : CoordVolatile → ℕ → CoordVolatile
forgotten v t = record v { gathers = without nat_cmp v.gathers t; takeovers = without nat_cmp v.takeovers t; votes = without nat_cmp v.votes t }

abbrev pub coord_learns : Layout → ℕ → CoordVolatile → ℕ → Decision → CoordAct
coord_learns c d v t o = record { logs = Some (OutcomesDecided ((t, o) ∷ [])); after = forgotten v t; sends = finish_posts c d t o; spent = false }

-- A TAKE-OVER OPENS
abbrev pub opening : ℕ → Bool → TakeoverState
opening b is_eager = record { ballot = b; is_eager = is_eager; has_proposed = false; heard = []; silent = []; best = None }

abbrev pub opens : Layout → CoordVolatile → ℕ → Bool → ℕ → CoordAct
opens c v t is_eager b = record {
  logs = Some (Promised t b);
  after = record v { takeovers = put nat_cmp v.takeovers t (opening b is_eager) };
  sends = to_all c (Ask t b);
  spent = false;
}

-- its ballot is the least own one above the promise
abbrev pub takes_over : Layout → ℕ → CoordDurable → CoordVolatile → ℕ → Bool → CoordAct
takes_over c d s v t is_eager =
    maybe (next_ballot c d (promise_of s.promises t))
    (record { logs = None; after = v; sends = []; spent = true })
    (λ b. opens c v t is_eager b)

-- A PROPOSAL COMES
abbrev pub has_all : Layout → GatherState → Bool
has_all c g = list_all (member nat_cmp g.yes) (touched c g.body)

abbrev pub with_gather : CoordVolatile → ℕ → GatherState → CoordVolatile
with_gather v t g = record v { gathers = put nat_cmp v.gathers t g }

-- the shard is asked, where it is touched and has not said yes
abbrev pub prepare_to : Layout → ℕ → ℕ → GatherState → ℕ → Posts
prepare_to c d t g sh = if touches c g.body sh && not (member nat_cmp g.yes sh) then one (shard_server d sh) (Prepare t (part c sh g.body)) else []

abbrev pub gathers_on : Layout → ℕ → CoordVolatile → ℕ → GatherState → CoordAct
gathers_on c d v t g =
    if has_all c g
    then accepts c d (with_gather v t g) t g.ballot (Commit g.body)
    else coord_says (with_gather v t g) (to_each c.shards (prepare_to c d t g))

-- a gather is made where there is none; its ballot becomes the larger one
abbrev pub gather_at : CoordVolatile → ℕ → ℕ → List Entry → GatherState
gather_at v t b body =
    maybe (found nat_cmp v.gathers t)
    (record { ballot = b; body = body; yes = [] })
    (λ g. record g { ballot = max g.ballot b })

abbrev pub takes_proposal : Layout → ℕ → CoordVolatile → ℕ → ℕ → Decision → CoordAct
takes_proposal c d v t b Abort = accepts c d v t b Abort
takes_proposal c d v t b (Commit body) = gathers_on c d v t (gather_at v t b body)

abbrev pub refuses : Layout → ℕ → CoordVolatile → ℕ → ℕ → Reason → CoordAct
refuses c d v t b reason = coord_says v (one (proposer c t b) (Refused t b d reason))

-- what was accepted at this very ballot
abbrev pub accepted_at : Option (ℕ × Decision) → ℕ → Option Decision
accepted_at None b = None
accepted_at (Some a) b = if a.0 == b then Some a.1 else None

abbrev pub on_propose : Layout → ℕ → CoordDurable → CoordVolatile → ℕ → ℕ → Decision → CoordAct
on_propose c d s v t b o =
    if_decided s t (tells v (proposer c t b) t)
    (if nat_lt b (promise_of s.promises t)
    then refuses c d v t b (PromisedHigher (promise_of s.promises t))
    else maybe (accepted_at (found nat_cmp s.accepted t) b) (takes_proposal c d v t b o) (λ old. coord_says v (vote c d t b old)))

-- A SHARD ANSWERS
-- the gather that waits for this shard: the transaction is undecided, the shard is touched and has not said yes
abbrev pub waiting_gather : Layout → CoordDurable → CoordVolatile → ℕ → ℕ → Option GatherState
waiting_gather c s v t sh =
    if_decided s t (λ _. None)
    (maybe (found nat_cmp v.gathers t) None (λ g. if touches c g.body sh && not (member nat_cmp g.yes sh) then Some g else None))

abbrev pub said_yes : Layout → ℕ → CoordDurable → CoordVolatile → ℕ → GatherState → CoordAct
said_yes c d s v t g =
    if has_all c g
    then (if nat_lt g.ballot (promise_of s.promises t)
    then refuses c d (with_gather v t g) t g.ballot (PromisedHigher (promise_of s.promises t))
    else accepts c d (with_gather v t g) t g.ballot (Commit g.body))
    else coord_stays (with_gather v t g)

abbrev pub with_yes : GatherState → ℕ → GatherState
with_yes g sh = record g { yes = added nat_cmp g.yes sh }

abbrev pub on_prepared : Layout → ℕ → CoordDurable → CoordVolatile → ℕ → ℕ → Option Reason → CoordAct
on_prepared c d s v t sh None = maybe (waiting_gather c s v t sh) (coord_stays v) (λ g. said_yes c d s v t (with_yes g sh))
on_prepared c d s v t sh (Some reason) = maybe (waiting_gather c s v t sh) (coord_stays v) (λ g. refuses c d v t g.ballot reason)

-- A PROMISE IS ASKED FOR
abbrev pub promise_record : ℕ → ℕ → ℕ → Option Record
promise_record t b promise = if nat_lt promise b then Some (Promised t b) else None

abbrev pub promises_at : Layout → ℕ → CoordDurable → CoordVolatile → ℕ → ℕ → CoordAct
promises_at c d s v t b = record {
  logs = promise_record t b (promise_of s.promises t);
  after = v;
  sends = one (coordinator (owner_of c b)) (Promise t b d (found nat_cmp s.accepted t));
  spent = false;
}

abbrev pub on_ask : Layout → ℕ → CoordDurable → CoordVolatile → ℕ → ℕ → CoordAct
on_ask c d s v t b =
    if_decided s t (tells v (coordinator (owner_of c b)) t)
    (if nat_lt b (promise_of s.promises t)
    then coord_says v (one (coordinator (owner_of c b)) (Refused t b d (PromisedHigher (promise_of s.promises t))))
    else promises_at c d s v t b)

-- A PROMISE COMES
-- of reports at one ballot the first heard counts
abbrev pub better : Option (ℕ × Decision) → Option (ℕ × Decision) → Option (ℕ × Decision)
better best None = best
better None (Some report) = Some report
better (Some old) (Some report) = if nat_lt old.0 report.0 then Some report else Some old

abbrev pub hears : TakeoverState → ℕ → Option (ℕ × Decision) → TakeoverState
hears k from report = record k {
  heard = added nat_cmp k.heard from;
  silent = if is_some report then k.silent else added nat_cmp k.silent from;
  best = better k.best report;
}

abbrev pub best_or_abort : Option (ℕ × Decision) → Decision
best_or_abort None = Abort
best_or_abort (Some report) = report.1

-- an eager take-over proposes what was reported at the highest ballot, else abort, once a quorum is heard
abbrev pub chooses_eagerly : Layout → TakeoverState → Option Decision
chooses_eagerly c k = if is_quorum c k.heard then Some (best_or_abort k.best) else None

-- a patient one proposes abort once a quorum reported nothing, and what was reported at the highest ballot once all are heard
abbrev pub chooses_patiently : Layout → TakeoverState → Option Decision
chooses_patiently c k =
    if is_quorum c k.silent then Some Abort
    else (if list_all (member nat_cmp k.heard) (all_dcs c) then Some (best_or_abort k.best) else None)

abbrev pub chooses : Layout → TakeoverState → Option Decision
chooses c k = if k.is_eager then chooses_eagerly c k else chooses_patiently c k

-- the open take-over that still waits for this datacentre
abbrev pub waiting_takeover : CoordDurable → CoordVolatile → ℕ → ℕ → ℕ → Option TakeoverState
waiting_takeover s v t b from =
    if_decided s t (λ _. None)
    (maybe (found nat_cmp v.takeovers t) None (λ k. if (k.ballot == b) && (not k.has_proposed && not (member nat_cmp k.heard from)) then Some k else None))

abbrev pub with_takeover : CoordVolatile → ℕ → TakeoverState → CoordVolatile
with_takeover v t k = record v { takeovers = put nat_cmp v.takeovers t k }

-- it proposes once, and keeps no report after that
abbrev pub proposed : TakeoverState → TakeoverState
proposed k = record k { has_proposed = true; best = None }

abbrev pub proposes_or_waits : Layout → CoordVolatile → ℕ → TakeoverState → CoordAct
proposes_or_waits c v t k = maybe (chooses c k) (coord_stays (with_takeover v t k)) (λ o. coord_says (with_takeover v t (proposed k)) (to_all c (Propose t k.ballot o)))

abbrev pub on_promise : Layout → CoordDurable → CoordVolatile → ℕ → ℕ → ℕ → Option (ℕ × Decision) → CoordAct
on_promise c s v t b from report = maybe (waiting_takeover s v t b from) (coord_stays v) (λ k. proposes_or_waits c v t (hears k from report))

-- VOTES
abbrev pub nobody : Standing
nobody = record { commits = []; aborts = [] }

abbrev pub stands_for : Standing → Decision → ℕ → Standing
stands_for standing Abort d = record standing { aborts = added nat_cmp standing.aborts d }
stands_for standing (Commit body) d = record standing { commits = added nat_cmp standing.commits d }

abbrev pub standing_for : Standing → Decision → List ℕ
standing_for standing Abort = standing.aborts
standing_for standing (Commit body) = standing.commits

-- the standing at a ballot, and the tally with one more vote
abbrev pub standing_at : Table ℕ Standing → ℕ → Standing
standing_at tally b = maybe (found nat_cmp tally b) nobody (λ standing. standing)

abbrev pub counted : Table ℕ Standing → ℕ → ℕ → Decision → Table ℕ Standing
counted tally b from o = put nat_cmp tally b (stands_for (standing_at tally b) o from)

-- after the vote a quorum stands for its outcome at its ballot
abbrev pub is_decided_by : Layout → Table ℕ Standing → ℕ → ℕ → Decision → Bool
is_decided_by c tally b from o = is_quorum c (standing_for (stands_for (standing_at tally b) o from) o)

abbrev pub tally_of : CoordVolatile → ℕ → Table ℕ Standing
tally_of v t = maybe (found nat_cmp v.votes t) [] (λ tally. tally)

abbrev pub with_vote : CoordVolatile → ℕ → ℕ → ℕ → Decision → CoordVolatile
with_vote v t b from o = record v { votes = put nat_cmp v.votes t (counted (tally_of v t) b from o) }

abbrev pub on_voted : Layout → ℕ → CoordDurable → CoordVolatile → ℕ → ℕ → ℕ → Decision → CoordAct
on_voted c d s v t b from o =
    if_decided s t (λ _. coord_stays v)
    (if is_decided_by c (tally_of v t) b from o then coord_learns c d v t o else coord_stays (with_vote v t b from o))

abbrev pub on_decided : Layout → ℕ → CoordDurable → CoordVolatile → ℕ → Decision → CoordAct
on_decided c d s v t o = if_decided s t (λ _. coord_stays v) (coord_learns c d v t o)

-- a client gives its transaction up: a patient take-over
abbrev pub on_abandon : Layout → ℕ → CoordDurable → CoordVolatile → ℕ → CoordAct
on_abandon c d s v t = if_decided s t (tells v (client_of t) t) (takes_over c d s v t false)

-- the command to take a transaction over: an eager take-over
abbrev pub do_take : Layout → ℕ → CoordDurable → CoordVolatile → ℕ → CoordAct
do_take c d s v t = if_decided s t (tells v (client_of t) t) (takes_over c d s v t true)

-- CATCH-UP, by pages of at most 64 entries of a list of outcomes
abbrev pub page_from : List (ℕ × Decision) → ℕ → List (ℕ × Decision)
page_from outcomes place = take most_entries (drop place outcomes)

abbrev pub on_catch_ask : ℕ → CoordDurable → CoordVolatile → Party → ℕ → CoordAct
on_catch_ask d s v asker place = coord_says v (one asker (CatchPage d place (page_from s.outcomes place)))

-- how far the list of d was caught up with
abbrev pub cursor_of : CoordVolatile → ℕ → ℕ
cursor_of v d = maybe (found nat_cmp v.cursors d) 0 (λ cursor. cursor)

-- the page of another coordinator stands at its catch-up place, and the place after it is a number of four bytes
abbrev pub is_next_coord_page : ℕ → CoordVolatile → ℕ → ℕ → List (ℕ × Decision) → Bool
is_next_coord_page d v from place page = not (from == d) && ((place == cursor_of v from) && nat_lt (place + length page) (2 ^ 32))

abbrev pub with_coord_cursor : CoordVolatile → ℕ → ℕ → CoordVolatile
with_coord_cursor v from cursor = record v { cursors = put nat_cmp v.cursors from cursor }

abbrev pub undecided : List (ℕ × Decision) → List (ℕ × Decision) → List (ℕ × Decision)
undecided outcomes page = filter (λ (e : ℕ × Decision). is_none (outcome_of outcomes e.0)) page

abbrev pub forgotten_all : CoordVolatile → List (ℕ × Decision) → CoordVolatile
forgotten_all v [] = v
forgotten_all v (e ∷ es) = forgotten_all (forgotten v e.0) es

abbrev pub finish_all_posts : Layout → ℕ → List (ℕ × Decision) → Posts
finish_all_posts c d [] = []
finish_all_posts c d (e ∷ es) = finish_posts c d e.0 e.1 ++ finish_all_posts c d es

-- one record for all that is new, where anything is
abbrev pub outcomes_record : List (ℕ × Decision) → Option Record
outcomes_record [] = None
outcomes_record (e ∷ es) = Some (OutcomesDecided (e ∷ es))

-- after a full page the next one is asked for
abbrev pub asks_next_coord_page : Party → ℕ → List (ℕ × Decision) → Posts
asks_next_coord_page owner place page = if length page == most_entries then one owner (CatchAsk (place + length page)) else []

abbrev pub takes_page : Layout → ℕ → CoordVolatile → List (ℕ × Decision) → Posts → CoordAct
takes_page c d v new more = record { logs = outcomes_record new; after = forgotten_all v new; sends = finish_all_posts c d new ++ more; spent = false }

abbrev pub on_catch_page : Layout → ℕ → CoordDurable → CoordVolatile → ℕ → ℕ → List (ℕ × Decision) → CoordAct
on_catch_page c d s v from place page =
    if is_next_coord_page d v from place page
    then takes_page c d (with_coord_cursor v from (place + length page)) (undecided s.outcomes page) (asks_next_coord_page (coordinator from) place page)
    else coord_stays v

-- the command to catch up, and what a restart begins with: each other coordinator is asked, in order
abbrev pub do_catch : Layout → ℕ → CoordVolatile → CoordAct
do_catch c d v = coord_says v (to_each c.dcs (λ e. if e == d then [] else one (coordinator e) (CatchAsk (cursor_of v e))))

-- a message that no row names is ignored, and so is one that names a datacentre or shard outside the world
abbrev pub coord_row : Layout → ℕ → CoordDurable → CoordVolatile → Party → Msg → CoordAct
coord_row c d s v from (Propose t b o) = on_propose c d s v t b o
coord_row c d s v from (Prepared t sh reason) = if is_shard c sh then on_prepared c d s v t sh reason else coord_stays v
coord_row c d s v from (Ask t b) = on_ask c d s v t b
coord_row c d s v from (Promise t b e report) = if is_dc c e then on_promise c s v t b e report else coord_stays v
coord_row c d s v from (Voted t b e o) = if is_dc c e then on_voted c d s v t b e o else coord_stays v
coord_row c d s v from (Decided t o) = on_decided c d s v t o
coord_row c d s v from (Abandon t) = on_abandon c d s v t
coord_row c d s v from (CatchAsk place) = on_catch_ask d s v from place
coord_row c d s v from (CatchPage e place page) = if is_dc c e then on_catch_page c d s v e place page else coord_stays v
coord_row c d s v from _ = coord_stays v

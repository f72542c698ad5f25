-- Parts of the rows of a coordinator.
use Rattle.std.specs.Prelude.{◌≡◌, ℕ, nat_lt, if◌then◌else◌, max, List, [], ◌∷◌, ◌++◌, Option, Some, None, ◌&&◌, not, Bool, true, false, is_none, is_some}
use Rattle.std.specs.Ordering.{nat_cmp}
use Rattle.rc_ids.specs.Tables.{Table, found, maybe}
use Rattle.rc_ids.specs.Cluster.{Layout, is_dc, is_shard, owner_of}
use Rattle.rc_body.specs.declared.entry.Entry.{Entry}
use Rattle.rc_body.specs.declared.decision.Decision.{Decision}
use Rattle.rc_body.specs.declared.decision.Decision.TheVariants.{Abort, Commit}
use Rattle.rc_body.specs.declared.reason.Reason.TheVariants.{Promised as PromisedHigher}
use Rattle.rc_msg.specs.declared.msg.Msg.{Msg}
use Rattle.rc_msg.specs.declared.msg.Msg.TheVariants.{Propose, Prepared, Ask, Promise, Voted, Refused, Decided, Abandon, CatchAsk, CatchPage}
use Rattle.rc_msg.specs.Posts.{posted_all}
use Rattle.rc_record.specs.declared.record.Record.{Record}
use Rattle.rc_record.specs.declared.record.Record.TheVariants.{Decided as OutcomesDecided}
use Rattle.rc_log.specs.Journals.{State}
use Rattle.rc_node.specs.declared.fault.NodeFault.{NodeFault}
use Rattle.rc_node.specs.Acts.{NodeAct, View, Stays}
use Rattle.rc_protocol.specs.Messages.{Posts, to_all, client_of, coordinator, one}
use Rattle.rc_protocol.specs.Coordinator.{GatherState, CoordDurable, CoordVolatile, CoordAct, coord_says, promises_at, if_decided, tells, takes_over, promise_of, outcome_of, waiting_gather, waiting_takeover, is_next_coord_page, forgotten_all, finish_all_posts, with_coord_cursor}
use Rattle.rc_vote.specs.Gathers.{ShardGather}
use Rattle.rc_coord_tables.specs.declared.gathers.Asked.{Asked}
use Rattle.rc_takeover.specs.TakeOvers.{Foretold, ignored, waiting, abort, reported}

-- what a take-over would propose goes to all coordinators
abbrev pub proposes : Layout → ℕ → ℕ → Foretold → Posts
proposes c t b ignored = []
proposes c t b waiting = []
proposes c t b abort = to_all c (Propose t b Abort)
proposes c t b (reported o) = to_all c (Propose t b o)

-- the gather that a proposal of a commit makes
abbrev pub gathered_at : Table ℕ GatherState → ℕ → ℕ → List Entry → GatherState
gathered_at gathers t b body =
    maybe (found nat_cmp gathers t)
    (record { ballot = b; body = body; yes = [] })
    (λ g. record g { ballot = max g.ballot b })

-- a gather with the body whose shards it asks
abbrev pub asked_for : ShardGather → List Entry → Asked
asked_for gather body = record { gather = gather; body = body }

-- the commit for which shards were asked
abbrev pub commit_in : Table ℕ GatherState → ℕ → Decision
commit_in gathers t = maybe (found nat_cmp gathers t) Abort (λ g. Commit g.body)

-- a volatile state of which only the places matter
abbrev pub only_placed : Table ℕ ℕ → CoordVolatile
only_placed places = record { gathers = []; takeovers = []; votes = []; cursors = places }

-- the page from a place on is asked for, if there is one
abbrev pub asks_at : ℕ → Option ℕ → Posts
asks_at from None = []
asks_at from (Some place) = one (coordinator from) (CatchAsk place)

-- each of these outcomes is of a transaction that has none, also after those before it
abbrev pub AreNew : List (ℕ × Decision) → List (ℕ × Decision) → Type 0
AreNew outcomes [] = Unit {0}
AreNew outcomes (e ∷ es) = (outcome_of outcomes e.0 ≡ None) × AreNew (outcomes ++ e ∷ []) es

-- new outcomes are learned, and then more is sent
abbrev pub takes_new : Layout → ℕ → CoordVolatile → List (ℕ × Decision) → Posts → CoordAct
takes_new c d v new more = record { logs = Some (OutcomesDecided new); after = forgotten_all v new; sends = finish_all_posts c d new ++ more; spent = false }

-- a list is caught up with to the next place, and more is sent
abbrev pub placed : View CoordDurable CoordVolatile → ℕ → ℕ → Posts → View CoordDurable CoordVolatile
placed x from next more = record { durable = x.durable; volatile = with_coord_cursor x.volatile from next; out = posted_all x.out more }

-- a promise is asked for, of a transaction that is not decided
abbrev pub asks_open : Layout → ℕ → CoordDurable → CoordVolatile → ℕ → ℕ → CoordAct
asks_open c d s v t b =
    if nat_lt b (promise_of s.promises t)
    then coord_says v (one (coordinator (owner_of c b)) (Refused t b d (PromisedHigher (promise_of s.promises t))))
    else promises_at c d s v t b

-- a transaction is taken over by this command or at its client's message: on_abandon is the patient one, do_take the eager one
abbrev pub takes : Layout → ℕ → CoordDurable → CoordVolatile → ℕ → Bool → CoordAct
takes c d s v t is_eager = if_decided s t (tells v (client_of t) t) (takes_over c d s v t is_eager)

-- an act of which only the record matters
abbrev pub only_logs : Record → NodeAct (Unit {0}) (Unit {0})
only_logs r = record { logs = Some r; durable = tt; volatile = tt; sends = []; spent = false }

-- what a fault says of the journal that this record was to enter
abbrev pub StaysAt : NodeFault → (List ℕ → Type 0) → State → State → Record → Type 0
StaysAt fault may_leave old new r = Stays fault may_leave old new (only_logs r)

-- the messages at which nothing can want memory: the rows ignore them
abbrev pub needs_none : Layout → ℕ → CoordDurable → CoordVolatile → Msg → Bool
needs_none c d s v (Propose t b o) = false
needs_none c d s v (Prepared t sh reason) = not (is_shard c sh && is_some (waiting_gather c s v t sh))
needs_none c d s v (Ask t b) = false
needs_none c d s v (Promise t b e report) = not (is_dc c e && is_some (waiting_takeover s v t b e))
needs_none c d s v (Voted t b e o) = not (is_dc c e && is_none (outcome_of s.outcomes t))
needs_none c d s v (Decided t o) = is_some (outcome_of s.outcomes t)
needs_none c d s v (Abandon t) = false
needs_none c d s v (CatchAsk place) = false
needs_none c d s v (CatchPage e place page) = not (is_dc c e && is_next_coord_page d v e place page)
needs_none c d s v _ = true

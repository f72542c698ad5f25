-- The rows of a shard server: two-phase commit with shared and exclusive locks inside a datacentre. The lock rules, the version
-- test and the marks of lost locks are this project's own.
use Rattle.std.specs.Prelude.{ℕ, ◌+◌, ◌^◌, Bool, true, cond, not, ◌||◌, ◌&&◌, List, [], ◌∷◌, ◌++◌, map, filter, length, Option, Some, None, nat_lt, ◌==◌, if◌then◌else◌, is_some, is_none}
use Rattle.std.specs.declared.cmp.Ordering.{Ordering}
use Rattle.std.specs.Ordering.{nat_cmp, is_eq, ordering_then}
use Rattle.rc_ids.specs.Tables.{Table, found, member, added, maybe}
use Rattle.rc_ids.specs.Texts.{key_cmp}
use Rattle.rc_ids.specs.Cluster.{Layout, is_dc}
use Rattle.rc_body.specs.Bodies.{has_key, writes, part, touches}
use Rattle.rc_body.specs.declared.entry.Entry.{Entry}
use Rattle.rc_body.specs.declared.decision.Decision.{Decision}
use Rattle.rc_body.specs.declared.decision.Decision.TheVariants.{Commit, Abort}
use Rattle.rc_body.specs.declared.reason.Reason.{Reason}
use Rattle.rc_body.specs.declared.reason.Reason.TheVariants.{Locked, Lost, Stale}
use Rattle.rc_ids.specs.declared.names.Party.{Party}
use Rattle.rc_msg.specs.declared.msg.Msg.{Msg}
use Rattle.rc_msg.specs.declared.msg.Msg.TheVariants.{ReadAsk, ReadCancel, Granted, Prepare, Prepared, Finish, CatchAsk, CatchPage}
use Rattle.rc_record.specs.declared.record.Record.{Record}
use Rattle.rc_record.specs.declared.record.Record.TheVariants.{Prepared as PartPrepared, Finished}
pub use Rattle.rc_record.specs.declared.shard.ShardDurable.{ShardDurable}
pub use Rattle.rc_record.specs.ShardState.{new_durable, version_at, value_at, set_row, set_rows, settled, settled_new, settled_all, shard_applied}
use Rattle.rc_protocol.specs.Messages.{Posts, coordinator, client_of, one, or_else, most_entries}

-- a key that a transaction locked, lost or waits for
abbrev pub Mark : Type 0
Mark = List ℕ × ℕ

abbrev pub mark_cmp : Mark → Mark → Ordering
mark_cmp a b = ordering_then (key_cmp a.0 b.0) (nat_cmp a.1 b.1)

-- what a stop loses: plain read locks, marks of those that a prepare took away, reads that wait, in order of arrival, and how far the
-- coordinator's list of outcomes was caught up with
pub record ShardVolatile : Type 0 where
  pub plain : List Mark
  pub lost : List Mark
  pub waiting : List Mark
  pub cursor : ℕ

-- what a row does: at most one record, the volatile state after it, and the messages sent
pub record ShardAct : Type 0 where
  pub logs : Option Record
  pub after : ShardVolatile
  pub sends : Posts

abbrev pub new_volatile : ShardVolatile
new_volatile = record { plain = []; lost = []; waiting = []; cursor = 0 }

-- LOCKS
-- the least transaction whose prepared part passes the test
abbrev pub first_part : (List Entry → Bool) → Table ℕ (List Entry) → Option ℕ
first_part test [] = None
first_part test (p ∷ ps) = cond (test p.1) (Some p.0) (first_part test ps)

-- who holds the key exclusively: the least transaction whose prepared part writes it
abbrev pub holder : Table ℕ (List Entry) → List ℕ → Option ℕ
holder parts k = first_part (writes k) parts

-- the least transaction whose prepared part has the key
abbrev pub reader : Table ℕ (List Entry) → List ℕ → Option ℕ
reader parts k = first_part (has_key k) parts

-- THE TEST OF A PREPARE: locked, lost, stale, in this order, and of each the first key in body order
abbrev pub locked : Table ℕ (List Entry) → Entry → Option Reason
locked parts e = maybe (holder parts e.key) (if is_some e.write then maybe (reader parts e.key) None (λ u. Some (Locked e.key u)) else None) (λ u. Some (Locked e.key u))

abbrev pub lost_by : List Mark → ℕ → Entry → Option Reason
lost_by lost t e = if member mark_cmp lost (e.key, t) then Some (Lost e.key) else None

abbrev pub stale : Table (List ℕ) (ℕ × List ℕ) → Entry → Option Reason
stale rows e = if nat_lt e.version (version_at rows e.key) then Some (Stale e.key (version_at rows e.key)) else None

-- the first entry that has a reason
abbrev pub first_reason : (Entry → Option Reason) → List Entry → Option Reason
first_reason reason [] = None
first_reason reason (e ∷ es) = or_else (reason e) (first_reason reason es)

abbrev pub test : ShardDurable → ShardVolatile → ℕ → List Entry → Option Reason
test s v t part = or_else (first_reason (locked s.parts) part) (or_else (first_reason (lost_by v.lost t) part) (first_reason (stale s.rows) part))

-- nothing of t among the marks
abbrev pub cleared : List Mark → ℕ → List Mark
cleared marks t = filter (λ (m : Mark). not (m.1 == t)) marks

abbrev pub forgotten : ShardVolatile → ℕ → ShardVolatile
forgotten v t = record v { plain = cleared v.plain t; lost = cleared v.lost t; waiting = cleared v.waiting t }

abbrev pub forgotten_all : ShardVolatile → List (ℕ × Decision) → ShardVolatile
forgotten_all v [] = v
forgotten_all v (e ∷ es) = forgotten_all (forgotten v e.0) es

-- GRANTS
abbrev pub grant_of : ℕ → Table (List ℕ) (ℕ × List ℕ) → Mark → Party × Msg
grant_of d rows m = (client_of m.1, Granted m.1 m.0 d (version_at rows m.0) (value_at rows m.0))

abbrev pub is_free : Table ℕ (List Entry) → Mark → Bool
is_free parts m = not (is_some (holder parts m.0))

abbrev pub added_all : List Mark → List Mark → List Mark
added_all marks [] = marks
added_all marks (m ∷ ms) = added_all (added mark_cmp marks m) ms

-- each waiting read whose key nobody holds exclusively gets a plain lock, in order
abbrev pub granted : ShardDurable → ShardVolatile → ShardVolatile
granted s v = record v {
  plain = added_all v.plain (filter (is_free s.parts) v.waiting);
  waiting = filter (λ (m : Mark). not (is_free s.parts m)) v.waiting;
}

abbrev pub grants : ℕ → ShardDurable → ShardVolatile → Posts
grants d s v = map (grant_of d s.rows) (filter (is_free s.parts) v.waiting)

-- THE ROWS
abbrev pub shard_stays : ShardVolatile → ShardAct
shard_stays v = record { logs = None; after = v; sends = [] }

abbrev pub shard_says : ShardVolatile → Posts → ShardAct
shard_says v ms = record { logs = None; after = v; sends = ms }

abbrev pub waits : ShardVolatile → Mark → ShardVolatile
waits v m = record v { waiting = if member mark_cmp v.waiting m then v.waiting else v.waiting ++ m ∷ [] }

abbrev pub locks_plain : ShardVolatile → Mark → ShardVolatile
locks_plain v m = record v { plain = added mark_cmp v.plain m }

-- t is finished or prepared here, or lost the key
abbrev pub ignores_ask : ShardDurable → ShardVolatile → ℕ → List ℕ → Bool
ignores_ask s v t k = (is_some (found nat_cmp s.finished t) || is_some (found nat_cmp s.parts t)) || member mark_cmp v.lost (k, t)

abbrev pub on_read_ask : ℕ → ShardDurable → ShardVolatile → ℕ → List ℕ → ShardAct
on_read_ask d s v t k =
    if ignores_ask s v t k then shard_stays v
    else (if is_free s.parts (k, t) then shard_says (locks_plain v (k, t)) (grant_of d s.rows (k, t) ∷ []) else shard_stays (waits v (k, t)))

abbrev pub is_other : Mark → Mark → Bool
is_other m n = not (is_eq (mark_cmp m n))

abbrev pub on_read_cancel : ShardVolatile → ℕ → List ℕ → ShardAct
on_read_cancel v t k = shard_stays (record v { plain = filter (is_other (k, t)) v.plain; waiting = filter (is_other (k, t)) v.waiting })

-- the prepare of t takes this plain lock away
abbrev pub is_taken : ℕ → List Entry → Mark → Bool
is_taken t part m = not (m.1 == t) && writes m.0 part

abbrev pub preempted : ShardVolatile → ℕ → List Entry → ShardVolatile
preempted v t part = record v {
  plain = cleared (filter (λ (m : Mark). not (is_taken t part m)) v.plain) t;
  lost = added_all v.lost (filter (is_taken t part) v.plain);
  waiting = cleared v.waiting t;
}

abbrev pub answers : ℕ → ℕ → ℕ → Option Reason → Posts
answers d sh t reason = one (coordinator d) (Prepared t sh reason)

abbrev pub on_prepare : ℕ → ℕ → ShardDurable → ShardVolatile → ℕ → List Entry → ShardAct
on_prepare d sh s v t part =
    if is_some (found nat_cmp s.finished t) then shard_stays v
    else (if is_some (found nat_cmp s.parts t) then shard_says v (answers d sh t None)
    else maybe (test s v t part)
    (record { logs = Some (PartPrepared t part); after = preempted v t part; sends = answers d sh t None })
    (λ reason. shard_says v (answers d sh t (Some reason))))

abbrev pub finishes_page : ℕ → ShardDurable → ShardVolatile → List (ℕ × Decision) → ShardAct
finishes_page d s v page = record {
  logs = Some (Finished page);
  after = granted (settled_all s page) (forgotten_all v page);
  sends = grants d (settled_all s page) (forgotten_all v page);
}

abbrev pub on_finish : ℕ → ShardDurable → ShardVolatile → ℕ → Decision → ShardAct
on_finish d s v t o = if is_some (found nat_cmp s.finished t) then shard_stays v else finishes_page d s v ((t, o) ∷ [])

-- CATCH-UP with the list of outcomes of its coordinator
-- an abort, or a commit with a key of this shard
abbrev pub concerns : Layout → ℕ → Decision → Bool
concerns c sh Abort = true
concerns c sh (Commit body) = touches c body sh

abbrev pub cut_to_part : Layout → ℕ → Decision → Decision
cut_to_part c sh Abort = Abort
cut_to_part c sh (Commit body) = Commit (part c sh body)

-- the entries of a page that concern this shard and are not finished here, each with its part
abbrev pub unfinished : Layout → ℕ → ShardDurable → List (ℕ × Decision) → List (ℕ × Decision)
unfinished c sh s page =
    map (λ (e : ℕ × Decision). (e.0, cut_to_part c sh e.1))
    (filter (λ (e : ℕ × Decision). is_none (found nat_cmp s.finished e.0) && concerns c sh e.1) page)

abbrev pub is_next_shard_page : ShardVolatile → ℕ → List (ℕ × Decision) → Bool
is_next_shard_page v place page = (place == v.cursor) && nat_lt (place + length page) (2 ^ 32)

abbrev pub with_shard_cursor : ShardVolatile → ℕ → ShardVolatile
with_shard_cursor v cursor = record v { cursor = cursor }

-- after a full page the next one is asked for
abbrev pub asks_next_shard_page : ℕ → ℕ → List (ℕ × Decision) → Posts
asks_next_shard_page d place page = if length page == most_entries then one (coordinator d) (CatchAsk (place + length page)) else []

abbrev pub then_says : ShardAct → Posts → ShardAct
then_says act more = record act { sends = act.sends ++ more }

abbrev pub takes_page : ℕ → ShardDurable → ShardVolatile → List (ℕ × Decision) → ShardAct
takes_page d s v [] = shard_stays v
takes_page d s v (e ∷ es) = finishes_page d s v (e ∷ es)

abbrev pub on_catch_page : Layout → ℕ → ℕ → ShardDurable → ShardVolatile → ℕ → List (ℕ × Decision) → ShardAct
on_catch_page c d sh s v place page =
    if is_next_shard_page v place page
    then then_says (takes_page d s (with_shard_cursor v (place + length page)) (unfinished c sh s page)) (asks_next_shard_page d place page)
    else shard_stays v

-- the command to catch up, and what a restart begins with
abbrev pub do_catch : ℕ → ShardVolatile → ShardAct
do_catch d v = shard_says v (one (coordinator d) (CatchAsk v.cursor))

-- a message that no row names is ignored, and so is one that names a datacentre outside the world
abbrev pub shard_row : Layout → ℕ → ℕ → ShardDurable → ShardVolatile → Msg → ShardAct
shard_row c d sh s v (ReadAsk t k) = on_read_ask d s v t k
shard_row c d sh s v (ReadCancel t k) = on_read_cancel v t k
shard_row c d sh s v (Prepare t part) = on_prepare d sh s v t part
shard_row c d sh s v (Finish t o) = on_finish d s v t o
shard_row c d sh s v (CatchPage from place page) = if is_dc c from then on_catch_page c d sh s v place page else shard_stays v
shard_row c d sh s v _ = shard_stays v

-- What a shard server says, by its rows: its no to a prepare has the reason that its test gave.
use Rattle.std.proofs.Common.{◌≡◌, ℕ, List, [], ◌∷◌, refl, subst, Option, Some, None, length}
use Rattle.std.specs.Prelude.{filter, is_some, ◌+◌, ◌==◌}
use Rattle.std.specs.Ordering.{nat_cmp}
use Rattle.rc_ids.specs.Tables.{found}
use Rattle.rc_ids.specs.Cluster.{Layout, is_dc}
use Rattle.rc_ids.specs.declared.names.Party.{Party}
use Rattle.rc_body.specs.declared.decision.Decision.{Decision}
use Rattle.rc_body.specs.declared.entry.Entry.{Entry}
use Rattle.rc_body.specs.declared.reason.Reason.{Reason}
use Rattle.rc_body.specs.declared.reason.Reason.TheVariants.{Locked, Lost, Stale, Promised}
use Rattle.rc_msg.specs.declared.msg.Msg.{Msg}
use Rattle.rc_msg.specs.declared.msg.Msg.TheVariants.{ReadAsk, ReadCancel, Prepare, Prepared, Finish, CatchAsk, CatchPage}
use Rattle.rc_protocol.specs.Messages.{Posts, coordinator, or_else, most_entries}
use Rattle.rc_protocol.specs.Shard.{ShardDurable, ShardVolatile, ShardAct, holder, reader, locked, lost_by, stale, first_reason, test, forgotten_all, settled_all, grant_of, is_free, grants, ignores_ask, on_prepare, unfinished, is_next_shard_page, with_shard_cursor, asks_next_shard_page, takes_page, shard_row}
use Rattle.rc_protocol.specs.Acts.{NodeCause, Came, Catches, Takes, shard_act}
use Rattle.rc_agreement.proofs.Cases.{on_cond, on_maybe, some_is}
use Rattle.rc_agreement.proofs.Sends.{EachTo, to_none, to_one, to_both, to_map}
use Rattle.rc_causes.proofs.Says.{Dull, Dulls}

-- a no is the test's answer to the prepare that came, and goes to the shard's own coordinator
abbrev pub ShardSay : (d sh : ℕ) → ShardDurable → ShardVolatile → NodeCause → Party → Msg → Type 0
ShardSay d sh s v k to (Prepared u shard (Some reason)) =
    (to ≡ coordinator d) × (shard ≡ sh) × (from : Party) × (part : List Entry) × (k ≡ Came from (Prepare u part)) × (test s v u part ≡ Some reason)
ShardSay d sh s v k to m = Dull to m

abbrev pub ShardRow : (d sh : ℕ) → ShardDurable → ShardVolatile → NodeCause → Posts → Type 0
ShardRow d sh s v k ms = EachTo (ShardSay d sh s v k) ms

module _ (d sh : ℕ) (s : ShardDurable) (v : ShardVolatile) (k : NodeCause) where
  abbrev R : ShardAct → Type 0
  R a = ShardRow d sh s v k a.sends

  dull_say : (to : Party) (m : Msg) → Dull to m → ShardSay d sh s v k to m
  dull_say to (Prepared u shard (Some reason)) h = absurd h
  dull_say to m h = h

  plain : (ms : Posts) → Dulls ms → ShardRow d sh s v k ms
  plain ms q = record { each = λ to m i. dull_say to m (q.each to m i) }

  none : ShardRow d sh s v k []
  none = to_none (ShardSay d sh s v k)

grants_dull : (d : ℕ) (s : ShardDurable) (v : ShardVolatile) → Dulls (grants d s v)
grants_dull d s v = to_map Dull (grant_of d s.rows) (filter (is_free s.parts) v.waiting) (λ _. tt)

next_dull : (d place : ℕ) (es : List (ℕ × Decision)) → Dulls (asks_next_shard_page d place es)
next_dull d place es = on_cond Dulls (length es == most_entries) _ _ (λ _. to_one Dull (coordinator d) (CatchAsk (place + length es)) tt) (λ _. to_none Dull)

page_dull : (d : ℕ) (s : ShardDurable) (v : ShardVolatile) (es : List (ℕ × Decision)) → Dulls (takes_page d s v es).sends
page_dull d s v [] = to_none Dull
page_dull d s v (e ∷ es) = grants_dull d (settled_all s (e ∷ es)) (forgotten_all v (e ∷ es))

pub shard_row_of : (c : Layout) (d sh : ℕ) (s : ShardDurable) (v : ShardVolatile) (k : NodeCause) → ShardRow d sh s v k (shard_act c d sh s v k).sends
shard_row_of c d sh s v Catches = plain d sh s v Catches _ (to_one Dull (coordinator d) (CatchAsk v.cursor) tt)
shard_row_of c d sh s v (Takes t) = none d sh s v (Takes t)
shard_row_of c d sh s v (Came from m) = comes m
  where
    prepares : (t : ℕ) (part : List Entry) → ShardRow d sh s v (Came from (Prepare t part)) (on_prepare d sh s v t part).sends
    prepares t part =
        let k : NodeCause = Came from (Prepare t part) in
        on_cond (R d sh s v k) (is_some (found nat_cmp s.finished t)) _ _ (λ _. none d sh s v k)
        (λ _. on_cond (R d sh s v k) (is_some (found nat_cmp s.parts t)) _ _ (λ _. plain d sh s v k _ (to_one Dull (coordinator d) (Prepared t sh None) tt))
        (λ _. on_maybe (R d sh s v k) (test s v t part) _ _
        (λ _. plain d sh s v k _ (to_one Dull (coordinator d) (Prepared t sh None) tt))
        (λ reason is. to_one (ShardSay d sh s v k) (coordinator d) (Prepared t sh (Some reason)) (refl, refl, from, part, refl, is))))

    comes : (m : Msg) → ShardRow d sh s v (Came from m) (shard_row c d sh s v m).sends
    comes (ReadAsk t key) =
        on_cond (R d sh s v (Came from (ReadAsk t key))) (ignores_ask s v t key) _ _ (λ _. none d sh s v _)
        (λ _. on_cond (R d sh s v (Came from (ReadAsk t key))) (is_free s.parts (key, t)) _ _
        (λ _. plain d sh s v _ _ (to_one Dull (grant_of d s.rows (key, t)).0 (grant_of d s.rows (key, t)).1 tt)) (λ _. none d sh s v _))
    comes (ReadCancel t key) = none d sh s v _
    comes (Prepare t part) = prepares t part
    comes (Finish t o) =
        on_cond (R d sh s v (Came from (Finish t o))) (is_some (found nat_cmp s.finished t)) _ _
        (λ _. none d sh s v _) (λ _. plain d sh s v _ _ (grants_dull d (settled_all s ((t, o) ∷ [])) (forgotten_all v ((t, o) ∷ []))))
    comes (CatchPage e place es) =
        on_cond (R d sh s v (Came from (CatchPage e place es))) (is_dc c e) _ _
        (λ _. on_cond (R d sh s v (Came from (CatchPage e place es))) (is_next_shard_page v place es) _ _
        (λ _. plain d sh s v _ _ (to_both Dull _ _ (page_dull d s (with_shard_cursor v (place + length es)) (unfinished c sh s es)) (next_dull d place es))) (λ _. none d sh s v _))
        (λ _. none d sh s v _)
    comes m = none d sh s v (Came from m)

-- THE TEST never names a promise
abbrev pub IsTestReason : Reason → Type 0
IsTestReason (Promised b) = ⊥
IsTestReason _ = Unit {0}

record Fine (o : Option Reason) : Type 0 where
  is : (reason : Reason) → o ≡ Some reason → IsTestReason reason

fine_none : Fine None
fine_none = record { is = λ r e. absurd (cc) }

fine_some : (r : Reason) → IsTestReason r → Fine (Some r)
fine_some r h = record { is = λ q e. subst IsTestReason (some_is r q e) h }

fine_or : (a b : Option Reason) → Fine a → Fine b → Fine (or_else a b)
fine_or None b f g = g
fine_or (Some r) b f g = f

fine_first : (reason : Entry → Option Reason) → ((e : Entry) → Fine (reason e)) → (es : List Entry) → Fine (first_reason reason es)
fine_first reason f [] = fine_none
fine_first reason f (e ∷ es) = fine_or (reason e) (first_reason reason es) (f e) (fine_first reason f es)

pub test_reason : (s : ShardDurable) (v : ShardVolatile) (t : ℕ) (part : List Entry) (reason : Reason) → test s v t part ≡ Some reason → IsTestReason reason
test_reason s v t part reason is = whole.is reason is
  where
    locks : (e : Entry) → Fine (locked s.parts e)
    locks e =
        on_maybe Fine (holder s.parts e.key) _ _
        (λ _. on_cond Fine (is_some e.write) _ _ (λ _. on_maybe Fine (reader s.parts e.key) _ _ (λ _. fine_none) (λ u _. fine_some (Locked e.key u) tt)) (λ _. fine_none))
        (λ u _. fine_some (Locked e.key u) tt)

    losses : (e : Entry) → Fine (lost_by v.lost t e)
    losses e = on_cond Fine _ (Some (Lost e.key)) None (λ _. fine_some (Lost e.key) tt) (λ _. fine_none)

    ages : (e : Entry) → Fine (stale s.rows e)
    ages e = on_cond Fine _ _ None (λ _. fine_some (Stale e.key _) tt) (λ _. fine_none)

    whole : Fine (test s v t part)
    whole =
        fine_or (first_reason (locked s.parts) part) _ (fine_first (locked s.parts) locks part)
        (fine_or (first_reason (lost_by v.lost t) part) _ (fine_first (lost_by v.lost t) losses part) (fine_first (stale s.rows) ages part))

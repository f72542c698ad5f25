-- Each row of a shard server says only what has a spelling.
use Rattle.std.proofs.Common.{◌≡◌, ℕ, ◌+◌, ◌==◌, ◌^◌, Bool, true, List, [], ◌∷◌, ◌++◌, length, subst, arith, Option, Some, None}
use Rattle.std.specs.Prelude.{nat_lt, not, is_some, IfSome}
use Rattle.std.specs.List.{AllByRecursion}
use Rattle.std.specs.Ordering.{nat_cmp}
use Rattle.rc_ids.specs.Tables.{Table, found, member}
use Rattle.rc_ids.specs.Texts.{IsKey}
use Rattle.rc_ids.specs.Cluster.{Layout, IsLayout, is_dc, is_shard}
use Rattle.rc_body.specs.Bodies.{writes, has_key}
use Rattle.rc_body.specs.Spelling.{HasEntry, HasBody, HasDecision, HasPage}
use Rattle.rc_body.specs.declared.entry.Entry.{Entry}
use Rattle.rc_body.specs.declared.decision.Decision.{Decision}
use Rattle.rc_body.specs.declared.reason.Reason.{Reason}
use Rattle.rc_body.specs.declared.reason.Reason.TheVariants.{Locked, Lost, Stale}
use Rattle.rc_fields.specs.Ranges.{IsTxNumber, IsPlace}
use Rattle.rc_msg.specs.declared.msg.Msg.{Msg}
use Rattle.rc_msg.specs.declared.msg.Msg.TheVariants.{ReadAsk, ReadCancel, Granted, Propose, Prepare, Prepared, Voted, Refused, Ask, Promise, Decided, Finish, Abandon, CatchAsk, CatchPage}
use Rattle.rc_msg.specs.Spelling.{HasMsg, IsShardReason}
use Rattle.rc_record.specs.Spelling.{HasFullPage}
use Rattle.rc_record.specs.ShardState.{version_at, settled_all}
use Rattle.rc_protocol.specs.Messages.{Posts, coordinator, one, or_else, most_entries}
use Rattle.rc_protocol.specs.Acts.{NodeCause, Came, Catches, Takes, shard_act}
use Rattle.rc_protocol.specs.Shard.{Mark, ShardDurable, ShardVolatile, ShardAct, first_part, holder, reader, locked, lost_by, stale, first_reason, test, forgotten, forgotten_all, grant_of, is_free, granted, grants, shard_stays, shard_says, waits, locks_plain, ignores_ask, on_read_ask, is_other, on_read_cancel, answers, on_prepare, finishes_page, on_finish, unfinished, is_next_shard_page, with_shard_cursor, asks_next_shard_page, then_says, takes_page, on_catch_page, shard_row, mark_cmp}
use Rattle.rc_grammar.specs.Acts.{HasPost, HasPosts, HasLogged, HasNodeCause}
use Rattle.rc_grammar.specs.Shards.{HasPart, HasMark, HasShardDurable, HasShardVolatile, ShardSpeaks}
use Rattle.rc_grammar.proofs.Lists.{on_cond, on_maybe, some_is, never, all_both, all_filter, all_map, and_right}
use Rattle.rc_grammar.proofs.Ranges.{is_dc_number, is_shard_number}
use Rattle.rc_grammar.proofs.Pages.{has_single, has_unfinished}
use Rattle.rc_grammar.proofs.Sends.{to_one, to_both}
use Rattle.rc_grammar.proofs.ShardStates.{is_row, has_settled_all, shard_keeps_logged}

-- what a row logs and sends, and the volatile state after it
pub record Says (act : ShardAct) : Type 0 where
  pub logs : HasLogged act.logs
  pub sends : HasPosts act.sends
  pub after : HasShardVolatile act.after

stays : (v : ShardVolatile) → HasShardVolatile v → Says (shard_stays v)
stays v h = record { logs = tt; sends = tt; after = h }

says : (v : ShardVolatile) (ms : Posts) → HasShardVolatile v → HasPosts ms → Says (shard_says v ms)
says v ms h p = record { logs = tt; sends = p; after = h }

-- THE TEST OF A PREPARE
first_is_tx : (passes : List Entry → Bool) (parts : Table ℕ (List Entry)) (u : ℕ) → AllByRecursion HasPart parts → first_part passes parts ≡ Some u → IsTxNumber u
first_is_tx passes [] u h is = never u is
first_is_tx passes (p ∷ ps) u h is =
    on_cond (λ (o : Option ℕ). o ≡ Some u → IsTxNumber u) (passes p.1) (Some p.0) (first_part passes ps)
    (λ _ e. subst IsTxNumber (some_is p.0 u e) h.0) (λ _ e. first_is_tx passes ps u h.1 e) is

abbrev HasNo : Option Reason → Type 0
HasNo reason = IfSome reason IsShardReason

or_no : (a b : Option Reason) → HasNo a → HasNo b → HasNo (or_else a b)
or_no None b p q = q
or_no (Some r) b p q = p

first_no : (reason : Entry → Option Reason) (part : List Entry) → ((e : Entry) → HasEntry e → HasNo (reason e)) → AllByRecursion HasEntry part → HasNo (first_reason reason part)
first_no reason [] each h = tt
first_no reason (e ∷ es) each h = or_no (reason e) (first_reason reason es) (each e h.0) (first_no reason es each h.1)

module _ (s : ShardDurable) (h : HasShardDurable s) where
  locked_no : (e : Entry) → HasEntry e → HasNo (locked s.parts e)
  locked_no e own =
      on_maybe HasNo (holder s.parts e.key) _ (λ u. Some (Locked e.key u))
      (λ _. on_cond HasNo (is_some e.write) _ None
      (λ _. on_maybe HasNo (reader s.parts e.key) None (λ u. Some (Locked e.key u)) (λ _. tt) (λ u is. (own.key, first_is_tx (has_key e.key) s.parts u h.parts is))) (λ _. tt))
      (λ u is. (own.key, first_is_tx (writes e.key) s.parts u h.parts is))

  lost_no : (lost : List Mark) (t : ℕ) (e : Entry) → HasEntry e → HasNo (lost_by lost t e)
  lost_no lost t e own = on_cond HasNo (member mark_cmp lost (e.key, t)) (Some (Lost e.key)) None (λ _. own.key) (λ _. tt)

  stale_no : (e : Entry) → HasEntry e → HasNo (stale s.rows e)
  stale_no e own =
      on_cond HasNo (nat_lt e.version (version_at s.rows e.key)) (Some (Stale e.key (version_at s.rows e.key))) None (λ _. (own.key, (is_row s.rows e.key h.rows).0)) (λ _. tt)

  test_no : (v : ShardVolatile) (t : ℕ) (part : List Entry) → AllByRecursion HasEntry part → HasNo (test s v t part)
  test_no v t part own =
      or_no (first_reason (locked s.parts) part) (or_else (first_reason (lost_by v.lost t) part) (first_reason (stale s.rows) part))
      (first_no (locked s.parts) part locked_no own)
      (or_no (first_reason (lost_by v.lost t) part) (first_reason (stale s.rows) part) (first_no (lost_by v.lost t) part (lost_no v.lost t) own) (first_no (stale s.rows) part stale_no own))

-- VOLATILE STATES
has_forgotten : (v : ShardVolatile) (t : ℕ) → HasShardVolatile v → HasShardVolatile (forgotten v t)
has_forgotten v t h = record { waiting = all_filter HasMark (λ (m : Mark). not (m.1 == t)) v.waiting h.waiting; cursor = h.cursor }

has_forgotten_all : (page : List (ℕ × Decision)) (v : ShardVolatile) → HasShardVolatile v → HasShardVolatile (forgotten_all v page)
has_forgotten_all [] v h = h
has_forgotten_all (e ∷ es) v h = has_forgotten_all es (forgotten v e.0) (has_forgotten v e.0 h)

has_granted : (s : ShardDurable) (v : ShardVolatile) → HasShardVolatile v → HasShardVolatile (granted s v)
has_granted s v h = record { waiting = all_filter HasMark (λ (m : Mark). not (is_free s.parts m)) v.waiting h.waiting; cursor = h.cursor }

-- ROWS
module _ (c : Layout) (hc : IsLayout c) (d sh : ℕ) (dc : is_dc c d ≡ true) (own_shard : is_shard c sh ≡ true) where
  asks_coordinator : (m : Msg) → HasMsg m → HasPosts (one (coordinator d) m)
  asks_coordinator m h = to_one (coordinator d) m (is_dc_number c hc d dc) h

  grant : (s : ShardDurable) (m : Mark) → HasShardDurable s → HasMark m → HasPost (grant_of d s.rows m)
  grant s m h own = (own.1, (own.1, own.0, is_dc_number c hc d dc, is_row s.rows m.0 h.rows))

  has_grants : (s : ShardDurable) (v : ShardVolatile) → HasShardDurable s → HasShardVolatile v → HasPosts (grants d s v)
  has_grants s v h g = all_map HasMark HasPost (grant_of d s.rows) (λ m own. grant s m h own) _ (all_filter HasMark (is_free s.parts) v.waiting g.waiting)

  has_answers : (t : ℕ) (reason : Option Reason) → IsTxNumber t → HasNo reason → HasPosts (answers d sh t reason)
  has_answers t reason tx why = asks_coordinator (Prepared t sh reason) (tx, is_shard_number c hc sh own_shard, why)

  module _ (s : ShardDurable) (h : HasShardDurable s) (v : ShardVolatile) (g : HasShardVolatile v) where
    ask : (t : ℕ) (k : List ℕ) → IsTxNumber t → IsKey k → Says (on_read_ask d s v t k)
    ask t k tx key =
        on_cond Says (ignores_ask s v t k) (shard_stays v) _ (λ _. stays v g)
        (λ _. on_cond Says (is_free s.parts (k, t)) (shard_says (locks_plain v (k, t)) (grant_of d s.rows (k, t) ∷ [])) (shard_stays (waits v (k, t)))
        (λ _. says _ _ (record { waiting = g.waiting; cursor = g.cursor }) (grant s (k, t) h (key, tx), tt))
        (λ _. stays _ (record {
          waiting = on_cond (AllByRecursion HasMark) (member mark_cmp v.waiting (k, t)) v.waiting (v.waiting ++ (k, t) ∷ []) (λ _. g.waiting) (λ _. all_both HasMark v.waiting ((k, t) ∷ []) g.waiting ((key, tx), tt));
          cursor = g.cursor;
        })))

    cancel : (t : ℕ) (k : List ℕ) → Says (on_read_cancel v t k)
    cancel t k = stays _ (record { waiting = all_filter HasMark (is_other (k, t)) v.waiting g.waiting; cursor = g.cursor })

    prepare : (t : ℕ) (part : List Entry) → IsTxNumber t → HasBody part → Says (on_prepare d sh s v t part)
    prepare t part tx body =
        on_cond Says (is_some (found nat_cmp s.finished t)) (shard_stays v) _ (λ _. stays v g)
        (λ _. on_cond Says (is_some (found nat_cmp s.parts t)) (shard_says v (answers d sh t None)) _ (λ _. says v _ g (has_answers t None tx tt))
        (λ _. on_maybe Says (test s v t part) _ (λ reason. shard_says v (answers d sh t (Some reason)))
        (λ _. record {
          logs = (tx, body);
          sends = has_answers t None tx tt;
          after = record { waiting = all_filter HasMark (λ (m : Mark). not (m.1 == t)) v.waiting g.waiting; cursor = g.cursor };
        })
        (λ reason is. says v _ g (has_answers t (Some reason) tx (subst HasNo is (test_no s h v t part body.entries))))))

    finishes : (w : ShardVolatile) (page : List (ℕ × Decision)) → HasShardVolatile w → HasFullPage page → Says (finishes_page d s w page)
    finishes w page k own =
        let settles = has_settled_all page s h own.1.outcomes in
        let forgets = has_forgotten_all page w k in
        record { logs = own; sends = has_grants (settled_all s page) (forgotten_all w page) settles forgets; after = has_granted (settled_all s page) (forgotten_all w page) forgets }

    finish : (t : ℕ) (o : Decision) → IsTxNumber t → HasDecision o → Says (on_finish d s v t o)
    finish t o tx own = on_cond Says (is_some (found nat_cmp s.finished t)) (shard_stays v) _ (λ _. stays v g) (λ _. finishes v ((t, o) ∷ []) g (has_single t o tx own))

    takes : (w : ShardVolatile) (page : List (ℕ × Decision)) → HasShardVolatile w → HasPage page → Says (takes_page d s w page)
    takes w [] k own = stays w k
    takes w (e ∷ es) k own = finishes w (e ∷ es) k (omega arith, own)

    then : (act : ShardAct) (more : Posts) → Says act → HasPosts more → Says (then_says act more)
    then act more p q = record { logs = p.logs; sends = to_both act.sends more p.sends q; after = p.after }

    catch_page : (place : ℕ) (page : List (ℕ × Decision)) → HasPage page → Says (on_catch_page c d sh s v place page)
    catch_page place page own =
        on_cond Says (is_next_shard_page v place page) _ (shard_stays v)
        (λ is. let next : IsPlace (place + length page) = next_place is in
        then (takes_page d s (with_shard_cursor v (place + length page)) (unfinished c sh s page)) (asks_next_shard_page d place page)
        (takes (with_shard_cursor v (place + length page)) (unfinished c sh s page) (record { waiting = g.waiting; cursor = next }) (has_unfinished c sh s page own))
        (on_cond HasPosts (length page == most_entries) _ [] (λ _. asks_coordinator (CatchAsk (place + length page)) next) (λ _. tt)))
        (λ _. stays v g)
      where
        next_place : is_next_shard_page v place page ≡ true → IsPlace (place + length page)
        next_place is = let less = and_right (place == v.cursor) (nat_lt (place + length page) (2 ^ 32)) is in grind (arith, less)

    row : (m : Msg) → HasMsg m → Says (shard_row c d sh s v m)
    row (ReadAsk t k) own = ask t k own.0 own.1
    row (ReadCancel t k) own = cancel t k
    row (Prepare t part) own = prepare t part own.0 own.1
    row (Finish t o) own = finish t o own.0 own.1
    row (CatchPage from place page) own = on_cond Says (is_dc c from) (on_catch_page c d sh s v place page) (shard_stays v) (λ _. catch_page place page own.2) (λ _. stays v g)
    row (Granted t k e version held) own = stays v g
    row (Propose t b o) own = stays v g
    row (Prepared t e answer) own = stays v g
    row (Voted t b e o) own = stays v g
    row (Refused t b e reason) own = stays v g
    row (Ask t b) own = stays v g
    row (Promise t b e report) own = stays v g
    row (Decided t o) own = stays v g
    row (Abandon t) own = stays v g
    row (CatchAsk place) own = stays v g

    does : (cause : NodeCause) → HasNodeCause cause → Says (shard_act c d sh s v cause)
    does (Came from m) own = row m own.1
    does Catches own = says v _ g (asks_coordinator (CatchAsk v.cursor) g.cursor)
    does (Takes t) own = stays v g

    pub speaks : (cause : NodeCause) → HasNodeCause cause → ShardSpeaks s (shard_act c d sh s v cause)
    speaks cause own =
        let k = does cause own in
        record { logs = k.logs; sends = k.sends; durable = shard_keeps_logged s (shard_act c d sh s v cause).logs h k.logs; volatile = k.after }

-- THE LAW
pub shards_speak : (c : Layout) → IsLayout c → (d sh : ℕ) → is_dc c d ≡ true → is_shard c sh ≡ true → (s : ShardDurable) → HasShardDurable s → (v : ShardVolatile) → HasShardVolatile v
    → (cause : NodeCause) → HasNodeCause cause → ShardSpeaks s (shard_act c d sh s v cause)
shards_speak c hc d sh dc own s h v g cause k = speaks c hc d sh dc own s h v g cause k

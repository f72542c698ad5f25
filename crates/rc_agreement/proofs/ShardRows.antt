-- What shard servers say: reads granted, prepares answered, and questions to their coordinator.
use Rattle.std.proofs.Common.{ℕ, List, [], ◌∷◌, Some, None}
use Rattle.std.specs.Prelude.{filter, ◌==◌, length, ◌+◌, is_some}
use Rattle.std.specs.Ordering.{nat_cmp}
use Rattle.rc_ids.specs.Tables.{found}
use Rattle.rc_ids.specs.Cluster.{Layout, is_dc}
use Rattle.rc_body.specs.declared.entry.Entry.{Entry}
use Rattle.rc_body.specs.declared.decision.Decision.{Decision}
use Rattle.rc_msg.specs.declared.msg.Msg.{Msg}
use Rattle.rc_msg.specs.declared.msg.Msg.TheVariants.{ReadAsk, ReadCancel, Prepare, Prepared, Finish, CatchAsk, CatchPage}
use Rattle.rc_protocol.specs.Messages.{coordinator}
use Rattle.rc_protocol.specs.Shard.{ShardDurable, ShardVolatile, ShardAct, test, grant_of, is_free, grants, ignores_ask, on_prepare, unfinished, is_next_shard_page, with_shard_cursor, asks_next_shard_page, takes_page, shard_row, settled_all, forgotten_all}
use Rattle.rc_agreement.proofs.Cases.{on_cond, on_maybe}
use Rattle.rc_protocol.specs.Acts.{NodeCause, Came, Catches, Takes, shard_act}
use Rattle.rc_agreement.proofs.Said.{Each, each_none, each_one, each_both, each_map, Modest}

abbrev Quiet : ShardAct → Type 0
Quiet a = Each Modest a.sends

grants_modest : (d : ℕ) (s : ShardDurable) (v : ShardVolatile) → Each Modest (grants d s v)
grants_modest d s v = each_map Modest (grant_of d s.rows) (filter (is_free s.parts) v.waiting) (λ _. tt)

next_modest : (d place : ℕ) (es : List (ℕ × Decision)) → Each Modest (asks_next_shard_page d place es)
next_modest d place es = on_cond (Each Modest) (length es == 64) _ _ (λ _. each_one Modest (coordinator d) (CatchAsk (place + length es)) tt) (λ _. each_none Modest)

page_modest : (d : ℕ) (s : ShardDurable) (v : ShardVolatile) (es : List (ℕ × Decision)) → Each Modest (takes_page d s v es).sends
page_modest d s v [] = each_none Modest
page_modest d s v (e ∷ es) = grants_modest d (settled_all s (e ∷ es)) (forgotten_all v (e ∷ es))

prepare_modest : (d sh : ℕ) (s : ShardDurable) (v : ShardVolatile) (t : ℕ) (part : List Entry) → Quiet (on_prepare d sh s v t part)
prepare_modest d sh s v t part =
    on_cond Quiet (is_some (found nat_cmp s.finished t)) _ _ (λ _. each_none Modest)
    (λ _. on_cond Quiet (is_some (found nat_cmp s.parts t)) _ _ (λ _. each_one Modest (coordinator d) (Prepared t sh None) tt)
    (λ _. on_maybe Quiet (test s v t part) _ _ (λ _. each_one Modest (coordinator d) (Prepared t sh None) tt) (λ r _. each_one Modest (coordinator d) (Prepared t sh (Some r)) tt)))

pub shard_modest : (c : Layout) (d sh : ℕ) (s : ShardDurable) (v : ShardVolatile) (k : NodeCause) → Quiet (shard_act c d sh s v k)
shard_modest c d sh s v Catches = each_one Modest (coordinator d) (CatchAsk v.cursor) tt
shard_modest c d sh s v (Takes t) = each_none Modest
shard_modest c d sh s v (Came from m) = comes m
  where
    comes : (m : Msg) → Quiet (shard_row c d sh s v m)
    comes (ReadAsk t k) =
        on_cond Quiet (ignores_ask s v t k) _ _ (λ _. each_none Modest)
        (λ _. on_cond Quiet (is_free s.parts (k, t)) _ _ (λ _. each_one Modest (grant_of d s.rows (k, t)).0 (grant_of d s.rows (k, t)).1 tt) (λ _. each_none Modest))
    comes (ReadCancel t k) = each_none Modest
    comes (Prepare t part) = prepare_modest d sh s v t part
    comes (Finish t o) =
        on_cond Quiet (is_some (found nat_cmp s.finished t)) _ _ (λ _. each_none Modest) (λ _. grants_modest d (settled_all s ((t, o) ∷ [])) (forgotten_all v ((t, o) ∷ [])))
    comes (CatchPage e place es) =
        on_cond Quiet (is_dc c e) _ _
        (λ _. on_cond Quiet (is_next_shard_page v place es) _ _
        (λ _. each_both Modest _ _ (page_modest d s (with_shard_cursor v (place + length es)) (unfinished c sh s es)) (next_modest d place es)) (λ _. each_none Modest))
        (λ _. each_none Modest)
    comes _ = each_none Modest

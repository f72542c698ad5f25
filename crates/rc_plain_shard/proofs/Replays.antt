-- Replay, record by record.
use Rattle.std.proofs.Common.{◌≡◌, ℕ, ◌+◌, List, [], ◌∷◌, ◌++◌, drop, slice_get, Some, refl, sym, ap, ◌∙◌}
use Rattle.rc_body.specs.declared.decision.Decision.{Decision}
use Rattle.rc_record.specs.declared.record.Record.{Record}
use Rattle.rc_record.specs.declared.shard.ShardDurable.{ShardDurable}
use Rattle.rc_record.specs.ShardState.{new_durable, settled_new, settled_all, shard_applied}
use Rattle.rc_protocol.specs.Nodes.{shard_replayed}
use Rattle.rc_plain_shard.specs.Logs.{LogState, IsReplayed}
use Rattle.rc_plain_shard.proofs.Rest.{rest_at}

pub replayed-push : (s : ShardDurable) (rs : List Record) (r : Record) → shard_replayed s (rs ++ r ∷ []) ≡ shard_applied (shard_replayed s rs) r
replayed-push s [] r = refl
replayed-push s (x ∷ xs) r = replayed-push (shard_applied s x) xs r

-- one record more
pub IsReplayed-push : (x : LogState) (r : Record) (rs : List Record) (s : ShardDurable) → IsReplayed x → rs ≡ x.log ++ r ∷ [] → s ≡ shard_applied x.durable r
    → IsReplayed (record { log = rs; durable = s })
IsReplayed-push x r rs s is more applied =
    record { replay = applied ∙ ap (λ z. shard_applied z r) is.replay ∙ sym (replayed-push new_durable x.log r) ∙ ap (shard_replayed new_durable) (sym more) }

-- one more entry of the page is settled
pub settled_step : (s : ShardDurable) (page : List (ℕ × Decision)) (i : ℕ) (e : ℕ × Decision) (new whole : ShardDurable) → slice_get page i ≡ Some e
    → new ≡ settled_new s e → settled_all s (drop i page) ≡ whole → settled_all new (drop (i + 1) page) ≡ whole
settled_step s page i e new whole at is before =
    ap (λ (t : ShardDurable). settled_all t (drop (i + 1) page)) is
    ∙ (ap (settled_all s) (sym (rest_at page i e at)) ∙ before)

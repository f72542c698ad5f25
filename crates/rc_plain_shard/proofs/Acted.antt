-- The acts of a prepare that is refused, and of an outcome.
use Rattle.std.proofs.Common.{◌≡◌, ℕ, ◌+◌, false, List, [], ◌∷◌, ◌++◌, Option, Some, None, is_some, sym, ap, subst, ◌∙◌, drop, slice_get}
use Rattle.std.specs.Prelude.{if◌then◌else◌}
use Rattle.std.specs.Ordering.{nat_cmp}
use Rattle.rc_ids.specs.Tables.{found, maybe}
use Rattle.rc_body.specs.declared.entry.Entry.{Entry}
use Rattle.rc_body.specs.declared.decision.Decision.{Decision}
use Rattle.rc_body.specs.declared.reason.Reason.{Reason}
use Rattle.rc_record.specs.declared.record.Record.TheVariants.{Prepared as PartPrepared}
use Rattle.rc_protocol.specs.Messages.{Posts}
use Rattle.rc_protocol.specs.Shard.{ShardVolatile, ShardAct, shard_says, shard_stays, answers, test, preempted, on_prepare, on_finish, finishes_page, forgotten, forgotten_all, unfinished}
use Rattle.rc_protocol.specs.Nodes.{ShardNode, shard_after}
use Rattle.rc_plain_shard.specs.Acts.{HasActed}
use Rattle.rc_plain_shard.proofs.Rest.{rest_at}

pub prepare_refused : (d sh t : ℕ) (x : ShardNode) (part : List Entry) (reason : Reason) (before after : Posts)
    → is_some (found nat_cmp x.durable.finished t) ≡ false → is_some (found nat_cmp x.durable.parts t) ≡ false
    → test x.durable x.volatile t part ≡ Some reason → after ≡ before ++ answers d sh t (Some reason)
    → HasActed x x before after (on_prepare d sh x.durable x.volatile t part)
prepare_refused d sh t x part reason before after unfinished unprepared refused sent =
    let tested : Option Reason → ShardAct =
    λ o. maybe o (record { logs = Some (PartPrepared t part); after = preempted x.volatile t part; sends = answers d sh t None })
    (λ r. shard_says x.volatile (answers d sh t (Some r))) in
    let act : on_prepare d sh x.durable x.volatile t part ≡ shard_says x.volatile (answers d sh t (Some reason)) =
    ap (λ b. if b then shard_stays x.volatile else (if is_some (found nat_cmp x.durable.parts t) then shard_says x.volatile (answers d sh t None) else tested (test x.durable x.volatile t part))) unfinished
    ∙ ap (λ b. if b then shard_says x.volatile (answers d sh t None) else tested (test x.durable x.volatile t part)) unprepared
    ∙ ap tested refused in
    record { node = ap (shard_after x) (sym act); sends = sent ∙ ap (λ (a : ShardAct). before ++ a.sends) (sym act) }

-- one transaction of a page less
pub forgotten_step : (v w : ShardVolatile) (page : List (ℕ × Decision)) (i t : ℕ) (d : Decision) (z : ShardVolatile) → slice_get page i ≡ Some (t, d)
    → w ≡ forgotten v t → forgotten_all v (drop i page) ≡ z → forgotten_all w (drop (i + 1) page) ≡ z
forgotten_step v w page i t d z at is before =
    ap (λ (y : ShardVolatile). forgotten_all y (drop (i + 1) page)) is
    ∙ sym (ap (λ (es : List (ℕ × Decision)). forgotten_all v es) (rest_at page i (t, d) at)) ∙ before

-- an outcome of a transaction that is not finished
pub finish_acts : (d t : ℕ) (x y : ShardNode) (o : Decision) (page : List (ℕ × Decision)) (before after : Posts)
    → is_some (found nat_cmp x.durable.finished t) ≡ false → page ≡ (t, o) ∷ []
    → HasActed x y before after (finishes_page d x.durable x.volatile page) → HasActed x y before after (on_finish d x.durable x.volatile t o)
finish_acts d t x y o page before after unfinished one acted =
    let act : finishes_page d x.durable x.volatile page ≡ on_finish d x.durable x.volatile t o =
    ap (finishes_page d x.durable x.volatile) one
    ∙ sym (ap (λ b. if b then shard_stays x.volatile else finishes_page d x.durable x.volatile ((t, o) ∷ [])) unfinished) in
    subst (λ (a : ShardAct). HasActed x y before after a) act acted

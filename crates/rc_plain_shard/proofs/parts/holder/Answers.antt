use Rattle.std.proofs.Common.{ℕ, List, sym, ap, ◌∙◌}
use Rattle.rc_body.specs.declared.entry.Entry.{Entry}
use Rattle.rc_body.specs.Bodies.{writes}
use Rattle.rc_protocol.specs.Shard.{holder}
use Rattle.rc_plain_shard.proofs.Rest.{part_here, part_later}
use Rattle.rc_plain_shard.proofs.parts.holder.Goals as goal

pub returns-then-writes_key : goal.returns-then-writes_key
returns-then-writes_key c =
    sym (part_here (writes c.args.key.now) (c.in-Some.tx.now, c.in-Some.part.now) c.next.new.self (sym c.writes_key.ensures ∙ c.if-writes_key.true))
    ∙ sym (ap (λ (ps : List (ℕ × List Entry)). holder ps c.args.key.now) c.in-Some.ensures.steps) ∙ c.loop-tx.invariant

pub loop-tx-preserved : goal.loop-tx-preserved
loop-tx-preserved c =
    sym (part_later (writes c.args.key.now) (c.in-Some.tx.now, c.in-Some.part.now) c.next.new.self (sym c.writes_key.ensures ∙ c.if-writes_key.false))
    ∙ sym (ap (λ (ps : List (ℕ × List Entry)). holder ps c.args.key.now) c.in-Some.ensures.steps) ∙ c.loop-tx.invariant

use Rattle.std.proofs.Common.{ℕ, List, sym, ap, ◌∙◌}
use Rattle.rc_body.specs.declared.entry.Entry.{Entry}
use Rattle.rc_body.specs.Bodies.{has_key}
use Rattle.rc_protocol.specs.Shard.{reader}
use Rattle.rc_plain_shard.proofs.Rest.{part_here, part_later}
use Rattle.rc_plain_shard.proofs.parts.reader.Goals as goal

pub returns-then-has : goal.returns-then-has
returns-then-has c =
    sym (part_here (has_key c.args.key.now) (c.in-Some.tx.now, c.in-Some.part.now) c.next.new.self (sym c.has.ensures ∙ c.if-has.true))
    ∙ sym (ap (λ (ps : List (ℕ × List Entry)). reader ps c.args.key.now) c.in-Some.ensures.steps) ∙ c.loop-tx.invariant

pub loop-tx-preserved : goal.loop-tx-preserved
loop-tx-preserved c =
    sym (part_later (has_key c.args.key.now) (c.in-Some.tx.now, c.in-Some.part.now) c.next.new.self (sym c.has.ensures ∙ c.if-has.false))
    ∙ sym (ap (λ (ps : List (ℕ × List Entry)). reader ps c.args.key.now) c.in-Some.ensures.steps) ∙ c.loop-tx.invariant

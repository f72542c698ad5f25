use Rattle.std.proofs.Common.{◌==◌, List, not, ◌∙◌}
use Rattle.rc_protocol.specs.Shard.{Mark}
use Rattle.rc_locks.proofs.MoveFacts.{placed_more, placed_filter}
use Rattle.rc_locks.proofs.indexed.LocksLockTable.prepare.Goals as goal

pub invariant_of-self : goal.invariant_of-self
invariant_of-self c =
    let old = c.args.self.now in
    let ws : List Mark = old.waiting.items in
    record {
      rising = c.insert.ensures.rises;
      indexed = c.insert.ensures.indexed;
      rises = c.preempt.ensures.rises;
      txs = c.preempt.ensures.txs;
      covered = c.preempt.ensures.covered;
      placed = placed_filter (λ (m : Mark). not (m.1 == c.args.tx)) ws c.clear.new.marks.items c.preempt.new.locks.entries
          (placed_more ws old.marks.entries c.preempt.new.locks.entries old.placed (λ m had. c.preempt.ensures.places m ∙ had))
          c.clear.ensures.items;
    }

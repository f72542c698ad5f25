use Rattle.std.proofs.Common.{◌≡◌, true, false, ℕ, List, filter, ap, subst, ◌∙◌}
use Rattle.rc_protocol.specs.Shard.{Mark, is_other}
use Rattle.rc_locks.specs.Flags.{has_place, same_mark}
use Rattle.rc_locks.proofs.MoveFacts.{placed_others}
use Rattle.rc_locks.proofs.indexed.LocksLockTable.cancel.Goals as goal

pub invariant_of-self : goal.invariant_of-self
invariant_of-self c =
    let t = c.args.tx in
    let old = c.args.self.now in
    let kept =
    subst (λ (k : List ℕ). (m : Mark) → same_mark (k, t) m ≡ false → has_place old.marks.entries m ≡ true → has_place c.unlock.new.locks.entries m ≡ true)
    c.new.ensures c.unlock.ensures.kept in
    record {
      rising = old.rising;
      indexed = old.indexed;
      rises = c.unlock.ensures.rises;
      txs = c.unlock.ensures.txs;
      covered = c.unlock.ensures.covered;
      placed = placed_others old.waiting.items c.remove.new.marks.items (c.args.key.now, t) old.marks.entries c.unlock.new.locks.entries old.placed kept
          (c.remove.ensures ∙ ap (λ (k : List ℕ). filter (is_other (k, t)) old.waiting.items) c.copy.ensures);
    }

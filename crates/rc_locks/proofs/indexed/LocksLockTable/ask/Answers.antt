use Rattle.std.proofs.Common.{ℕ, List, sym, ap, ◌∙◌}
use Rattle.rc_protocol.specs.Shard.{Mark}
use Rattle.rc_locks.specs.Flags.{has_place}
use Rattle.rc_locks.proofs.MoveFacts.{placed_more, placed_asked}
use Rattle.rc_locks.proofs.indexed.LocksLockTable.ask.Goals as goal

pub invariant_of-self-in-Waits : goal.invariant_of-self-in-Waits
invariant_of-self-in-Waits c =
    let t = c.args.tx in
    let old = c.args.self.now in
    let ws : List Mark = old.waiting.items in
    let es = c.place.new.locks.entries in
    record {
      rising = old.rising;
      indexed = old.indexed;
      rises = c.place.ensures.rises;
      txs = c.place.ensures.txs;
      covered = c.place.ensures.covered;
      placed = placed_asked c.wait.result ws c.wait.new.waiting.items (c.copy.result, t) es (placed_more ws old.marks.entries es old.placed c.place.ensures.kept)
          (ap (λ (k : List ℕ). has_place es (k, t)) (c.copy.ensures ∙ sym c.new.ensures) ∙ c.in_ok-place-in-Waits.ensures.there)
          c.wait.ensures.ok c.wait.ensures.err;
    }

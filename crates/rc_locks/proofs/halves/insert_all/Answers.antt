use Rattle.std.proofs.Common.{ℕ, List, sym, ap, ◌∙◌}
use Rattle.rc_body.specs.declared.entry.Entry.{Entry}
use Rattle.rc_locks.specs.LockSets.{put_new}
use Rattle.rc_locks.proofs.PlaceFacts.{put_all_next}
use Rattle.rc_locks.proofs.halves.insert_all.Goals as goal

pub loop-tx-preserved : goal.loop-tx-preserved
loop-tx-preserved c = (
  c.in_ok-insert_new.ensures.ok ∙ ap (λ (ps : List (ℕ × List Entry)). put_new ps c.in-Some.tx c.in-Some.part) c.loop-tx.invariant.0
      ∙ sym (put_all_next c.args.parts.now.items c.loop-tx.yielded (c.in-Some.tx, c.in-Some.part)),
  c.in_ok-insert_new.ensures.rises,
  c.in_ok-insert_new.ensures.indexed,
)

use Rattle.std.proofs.Common.{◌&&◌, ap, ◌∙◌}
use Rattle.std.specs.Option.{option_map}
use Rattle.rc_ids.specs.Tables.{found}
use Rattle.rc_protocol.specs.Shard.{mark_cmp}
use Rattle.rc_locks.specs.Flags.{turned_where, taken_away, is_other_at, is_before}
use Rattle.rc_locks.proofs.TakeFacts.{taken_on}
use Rattle.rc_locks.proofs.flags.take_key.Goals as goal

pub loop-next-preserved : goal.loop-next-preserved
loop-next-preserved c = (
  c.take_other.ensures.rises,
  taken_on c.args.locks.now.entries c.loop-next.locks.entries c.take_other.new.locks.entries c.args.key.now c.args.taker c.in-Some.tx c.next_at-next.result
      (λ m. c.loop-next.invariant.1 m ∙ ap (λ o. option_map (turned_where (is_other_at c.args.key.now c.args.taker m && is_before o m.1) taken_away) (found mark_cmp c.args.locks.now.entries m)) c.in-Some.is)
      c.take_other.ensures.turned c.next_at-next.ensures.above c.next_at-next.ensures.none,
)

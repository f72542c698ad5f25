use Rattle.std.proofs.Common.{Some, cond, ap, ◌∙◌}
use Rattle.std.specs.BTreeMap.{BTreeMap, is_at}
use Rattle.rc_ids.specs.Tables.{found}
use Rattle.rc_protocol.specs.Shard.{Mark, mark_cmp}
use Rattle.rc_locks.specs.declared.flags.Lock.{Lock}
use Rattle.rc_locks.specs.Flags.{taken_away}
use Rattle.rc_locks.proofs.FlagFacts.{turned_there, turned_nowhere, found_is}
use Rattle.rc_locks.proofs.flags.take_away.Goals as goal

pub returns-in-Some-clause-turned : goal.returns-in-Some-clause-turned
returns-in-Some-clause-turned c =
    turned_there c.args.locks.now.entries (c.get_mut.follows.lender c.taken.result).entries c.args.mark.now c.in-Some.held.now taken_away c.in-Some.ensures.value
    (λ m. ((c.get_mut.follows.holds c.taken.result).3 (found_is _ c.in-Some.held.now c.in-Some.ensures.value)).0 m
    ∙ ap (λ (l : Lock). cond (is_at (mark_cmp c.args.mark.now) m) (Some l) (found mark_cmp c.args.locks.now.entries m)) c.taken.ensures)

pub returns-in_default-clause-turned : goal.returns-in_default-clause-turned
returns-in_default-clause-turned c =
    turned_nowhere c.args.locks.now.entries c.get_mut.follows.lender-at-none.entries c.args.mark.now taken_away
    c.in_default.ensures.value (ap (λ (m : BTreeMap Mark Lock). m.entries) c.get_mut.follows.holds-at-none)

use Rattle.std.proofs.Common.{ap}
use Rattle.std.specs.BTreeMap.{BTreeMap}
use Rattle.rc_protocol.specs.Shard.{Mark}
use Rattle.rc_locks.specs.declared.flags.Lock.{Lock}
use Rattle.rc_locks.specs.Flags.{with_plain}
use Rattle.rc_locks.proofs.FlagFacts.{turned_there, turned_nowhere, found_is}
use Rattle.rc_locks.proofs.flags.grant.Goals as goal

pub returns-in-Some-clause-turned : goal.returns-in-Some-clause-turned
returns-in-Some-clause-turned c =
    turned_there c.args.locks.now.entries (c.get_mut.follows.lender (with_plain c.in-Some.held.now)).entries c.args.mark.now c.in-Some.held.now with_plain c.in-Some.ensures.value
    ((c.get_mut.follows.holds (with_plain c.in-Some.held.now)).3 (found_is _ c.in-Some.held.now c.in-Some.ensures.value)).0

pub returns-in_default-clause-turned : goal.returns-in_default-clause-turned
returns-in_default-clause-turned c =
    turned_nowhere c.args.locks.now.entries c.get_mut.follows.lender-at-none.entries c.args.mark.now with_plain
    c.in_default.ensures.value (ap (λ (m : BTreeMap Mark Lock). m.entries) c.get_mut.follows.holds-at-none)

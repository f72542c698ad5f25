use Rattle.rc_locks.proofs.FlagFacts.{found_is}
use Rattle.rc_locks.proofs.IndexFacts.{struck}
use Rattle.rc_locks.proofs.flags.strike.Goals as goal

pub returns-in-Some : goal.returns-in-Some
returns-in-Some c =
    struck c.args.index.now.entries (c.get_mut.follows.lender c.drop_key.new.keys).entries c.args.mark.now c.in-Some.keys.now c.drop_key.new.keys c.in-Some.ensures.value
    ((c.get_mut.follows.holds c.drop_key.new.keys).3 (found_is _ c.in-Some.keys.now c.in-Some.ensures.value)).0 c.drop_key.ensures

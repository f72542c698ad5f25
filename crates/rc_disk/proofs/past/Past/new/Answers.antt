use Rattle.rc_disk.proofs.Pasts.{kept_first}
use Rattle.rc_disk.proofs.past.Past.new.Goals as goal

pub returns-clause-kept : goal.returns-clause-kept
returns-clause-kept c = kept_first c.args.first.items c.new.result.items c.new-2.result.items c.new.ensures.items c.new-2.ensures.items

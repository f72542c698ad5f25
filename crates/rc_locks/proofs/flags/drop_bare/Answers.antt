use Rattle.rc_locks.proofs.IndexFacts.{bare}
use Rattle.rc_locks.proofs.flags.drop_bare.Goals as goal

pub returns-then-is_bare : goal.returns-then-is_bare
returns-then-is_bare c =
    bare c.args.index.now.entries c.remove.new.self.entries c.args.tx (c.is_bare.ensures c.if-is_bare.true) c.remove.ensures.updates.0

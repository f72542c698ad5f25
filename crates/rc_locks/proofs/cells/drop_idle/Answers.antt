use Rattle.std.proofs.Common.{None, refl}
use Rattle.rc_locks.proofs.CellFacts.{list_idle}
use Rattle.rc_locks.proofs.cells.drop_idle.Goals as goal

pub returns-then-is_idle-clause-writers : goal.returns-then-is_idle-clause-writers
returns-then-is_idle-clause-writers c =
    list_idle (λ x. x.writers.items) c.args.cells.now.entries c.remove.new.self.entries c.args.key.now None c.remove.ensures.updates.0 refl (c.is_idle.ensures.writers c.if-is_idle.true)

pub returns-then-is_idle-clause-readers : goal.returns-then-is_idle-clause-readers
returns-then-is_idle-clause-readers c =
    list_idle (λ x. x.readers.items) c.args.cells.now.entries c.remove.new.self.entries c.args.key.now None c.remove.ensures.updates.0 refl (c.is_idle.ensures.readers c.if-is_idle.true)

use Rattle.std.proofs.Common.{ℕ, List, sym, ap, ◌∙◌}
use Rattle.std.specs.List.{slice_get}
use Rattle.rc_body.specs.Bodies.{writes}
use Rattle.rc_locks.proofs.PartFacts.{first_kept}
use Rattle.rc_locks.proofs.indexed.LocksLockTable.holder.Goals as goal

pub returns : goal.returns
returns c =
    let locks = c.args.self.now in
    c.holder.ensures ∙ ap (λ (xs : List ℕ). slice_get xs 0) (locks.indexed c.args.key.now).0 ∙ sym (first_kept (writes c.args.key.now) locks.parts.items)

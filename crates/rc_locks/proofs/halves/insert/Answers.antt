use Rattle.std.proofs.Common.{ℕ, List, if◌then◌else◌, sym, ap, ◌∙◌, subst}
use Rattle.std.specs.Ordering.{nat_cmp}
use Rattle.rc_ids.specs.Tables.{added}
use Rattle.rc_body.specs.Bodies.{has_key, writes}
use Rattle.rc_body.specs.declared.entry.Entry.{Entry}
use Rattle.rc_locks.specs.Cells.{IsRising, writers_of, readers_of}
use Rattle.rc_locks.proofs.PartFacts.{rises-put, kept_of-put}
use Rattle.rc_locks.proofs.halves.insert.Goals as goal

pub returns-clause-rises : goal.returns-clause-rises
returns-clause-rises c = subst IsRising (sym c.put.ensures) (rises-put c.args.tx c.args.part c.args.parts.now.items c.requires.rises)

pub returns-clause-indexed : goal.returns-clause-indexed
returns-clause-indexed c k = (
  c.hold.ensures.writers k ∙ ap (λ (xs : List ℕ). if writes k c.args.part then added nat_cmp xs c.args.tx else xs) (c.requires.indexed k).0
      ∙ sym (kept_of-put (writes k) c.args.tx c.args.part c.args.parts.now.items c.requires.rises c.requires.absent)
      ∙ ap (λ (ps : List (ℕ × List Entry)). writers_of ps k) (sym c.put.ensures),
  c.hold.ensures.readers k ∙ ap (λ (xs : List ℕ). if has_key k c.args.part then added nat_cmp xs c.args.tx else xs) (c.requires.indexed k).1
      ∙ sym (kept_of-put (has_key k) c.args.tx c.args.part c.args.parts.now.items c.requires.rises c.requires.absent)
      ∙ ap (λ (ps : List (ℕ × List Entry)). readers_of ps k) (sym c.put.ensures),
)

use Rattle.std.proofs.Common.{ℕ, List, if◌then◌else◌, sym, ap, ◌∙◌, subst}
use Rattle.rc_body.specs.Bodies.{has_key, writes}
use Rattle.rc_body.specs.declared.entry.Entry.{Entry}
use Rattle.rc_locks.specs.Cells.{IsRising, writers_of, readers_of, others}
use Rattle.rc_locks.proofs.PartFacts.{rises-without, left_by, writes_has, without_absent}
use Rattle.rc_locks.proofs.halves.remove.Goals as goal

pub returns-in-Some-clause-rises : goal.returns-in-Some-clause-rises
returns-in-Some-clause-rises c = subst IsRising (sym c.take.ensures.left) (rises-without c.args.tx c.args.parts.now.items c.requires.rises)

pub returns-in-Some-clause-indexed : goal.returns-in-Some-clause-indexed
returns-in-Some-clause-indexed c k = (
  c.release.ensures.writers k ∙ ap (λ (xs : List ℕ). if has_key k c.in-Some.part then others c.args.tx xs else xs) (c.requires.indexed k).0
      ∙ left_by (writes k) c.args.tx c.in-Some.part c.args.parts.now.items (has_key k c.in-Some.part) c.requires.rises c.in-Some.ensures.taken (writes_has k c.in-Some.part)
      ∙ ap (λ (ps : List (ℕ × List Entry)). writers_of ps k) (sym c.take.ensures.left),
  c.release.ensures.readers k ∙ ap (λ (xs : List ℕ). if has_key k c.in-Some.part then others c.args.tx xs else xs) (c.requires.indexed k).1
      ∙ left_by (has_key k) c.args.tx c.in-Some.part c.args.parts.now.items (has_key k c.in-Some.part) c.requires.rises c.in-Some.ensures.taken (λ none. none)
      ∙ ap (λ (ps : List (ℕ × List Entry)). readers_of ps k) (sym c.take.ensures.left),
)

pub returns-in_default-clause-rises : goal.returns-in_default-clause-rises
returns-in_default-clause-rises c = subst IsRising (sym c.take.ensures.left) (rises-without c.args.tx c.args.parts.now.items c.requires.rises)

pub returns-in_default-clause-indexed : goal.returns-in_default-clause-indexed
returns-in_default-clause-indexed c k =
    let same = without_absent c.args.tx c.args.parts.now.items (sym c.in_default.ensures.taken) ∙ sym c.take.ensures.left in (
      (c.requires.indexed k).0 ∙ ap (λ (ps : List (ℕ × List Entry)). writers_of ps k) same,
      (c.requires.indexed k).1 ∙ ap (λ (ps : List (ℕ × List Entry)). readers_of ps k) same,
    )

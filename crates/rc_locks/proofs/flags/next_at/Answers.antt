use Rattle.std.proofs.Common.{ap, sym, ◌∙◌, is_some}
use Rattle.rc_locks.proofs.IndexFacts.{after_that, first_in, first_least, first_after, below_first, other_key, not_gt}
use Rattle.rc_locks.proofs.flags.next_at.Goals as goal

pub returns-in_default-clause-none : goal.returns-in_default-clause-none
returns-in_default-clause-none c t above _ =
    ap is_some ((c.range.ensures.in_range tt).5 c.in_default.ensures.steps.0 (c.args.key.now, t) (after_that c.args.key.now c.copy.result c.args.last t c.copy.ensures above, tt))

pub returns-then-eq-clause-above : goal.returns-then-eq-clause-above
returns-then-eq-clause-above c =
    first_after c.args.key.now c.copy.result c.args.last c.in-Some.mark.now c.copy.ensures (sym c.eq.ensures ∙ c.if-eq.true)
    (first_in c.range.result _ _ _ c.in-Some.ensures.steps (c.range.ensures.in_range tt).1).0.0

pub returns-then-eq-clause-none : goal.returns-then-eq-clause-none
returns-then-eq-clause-none c t above below =
    below_first c.args.locks.now.entries c.args.key.now t c.in-Some.mark.now (sym c.eq.ensures ∙ c.if-eq.true)
    (first_least c.args.locks.now.entries c.range.result _ _ (c.args.key.now, t) c.in-Some.ensures.steps
    ((c.range.ensures.in_range tt).2 (c.args.key.now, t) (after_that c.args.key.now c.copy.result c.args.last t c.copy.ensures above, tt)))
    below

pub returns-clause-none : goal.returns-clause-none
returns-clause-none c t above _ =
    other_key c.args.locks.now.entries c.args.key.now c.copy.result c.args.last t c.in-Some.mark.now c.copy.ensures (sym c.eq.ensures ∙ c.if-eq.false)
    (not_gt _ (first_in c.range.result _ _ _ c.in-Some.ensures.steps (c.range.ensures.in_range tt).1).0.0)
    (first_least c.args.locks.now.entries c.range.result _ _ (c.args.key.now, t) c.in-Some.ensures.steps
    ((c.range.ensures.in_range tt).2 (c.args.key.now, t) (after_that c.args.key.now c.copy.result c.args.last t c.copy.ensures above, tt)))

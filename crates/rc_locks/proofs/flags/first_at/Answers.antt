use Rattle.std.proofs.Common.{ap, sym, ◌∙◌, is_some}
use Rattle.rc_locks.proofs.IndexFacts.{from_on, first_least, first_in, below_first, other_key, from_one}
use Rattle.rc_locks.proofs.flags.first_at.Goals as goal

pub returns-in_default : goal.returns-in_default
returns-in_default c t _ =
    from_one c.args.locks.now.entries c.args.key.now c.requires t
    (λ first. ap is_some ((c.range.ensures.in_range tt).5 c.in_default.ensures.steps.0 (c.args.key.now, t) (from_on c.args.key.now c.copy.result 1 t c.copy.ensures first, tt)))

pub returns-then-eq : goal.returns-then-eq
returns-then-eq c t below =
    from_one c.args.locks.now.entries c.args.key.now c.requires t
    (λ first. below_first c.args.locks.now.entries c.args.key.now t c.in-Some.mark.now (sym c.eq.ensures ∙ c.if-eq.true)
    (first_least c.args.locks.now.entries c.range.result _ _ (c.args.key.now, t) c.in-Some.ensures.steps
    ((c.range.ensures.in_range tt).2 (c.args.key.now, t) (from_on c.args.key.now c.copy.result 1 t c.copy.ensures first, tt)))
    below)

pub returns : goal.returns
returns c t _ =
    from_one c.args.locks.now.entries c.args.key.now c.requires t
    (λ first. other_key c.args.locks.now.entries c.args.key.now c.copy.result 1 t c.in-Some.mark.now c.copy.ensures (sym c.eq.ensures ∙ c.if-eq.false)
    (first_in c.range.result _ _ _ c.in-Some.ensures.steps (c.range.ensures.in_range tt).1).0.0
    (first_least c.args.locks.now.entries c.range.result _ _ (c.args.key.now, t) c.in-Some.ensures.steps
    ((c.range.ensures.in_range tt).2 (c.args.key.now, t) (from_on c.args.key.now c.copy.result 1 t c.copy.ensures first, tt))))

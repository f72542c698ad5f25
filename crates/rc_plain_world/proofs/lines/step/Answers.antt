use Rattle.std.proofs.Common.{◌≡◌, ℕ, suc, ◌+◌, ◌-◌, None, Some, sym, ◌∙◌, ap, arith}
use Rattle.rc_runs.specs.declared.event.Event.TheVariants.{Deliver}
use Rattle.rc_runs.specs.Script.{LineDone, oldest, steps, then_line, by_event, idle, unless_halted}
use Rattle.rc_plain_world.proofs.LineFacts.{bare, steps-zero, steps-none, steps-some, goes, stops, idles, ends_so, performs_so}
use Rattle.rc_plain_world.proofs.lines.step.Goals as goal

pub returns-in_default-clause-done : goal.returns-in_default-clause-done
returns-in_default-clause-done c =
    let l = c.loop-taken in
    let none : oldest l.session.world ≡ None = (cc) in
    performs_so (then_line l.lines (idle l.session)) _ l.session l.lines
    (sym (ap (λ (d : LineDone). bare (then_line l.lines d)) (steps-none (c.args.count - l.taken) l.session none)) ∙ l.invariant)
    (idles l.session l.lines)

pub returns-in-Err-clause-ended : goal.returns-in-Err-clause-ended
returns-in-Err-clause-ended c =
    let l = c.loop-taken in
    let some : oldest l.session.world ≡ Some c.in-Some.number = (cc) in
    let fuel : suc (c.args.count - (l.taken + 1)) ≡ c.args.count - l.taken = omega arith in
    ends_so c.in-Err.fault _ (then_line l.lines (unless_halted (by_event l.session (Deliver c.in-Some.number)) (steps (c.args.count - (l.taken + 1))))) _
    (sym (ap (λ (d : LineDone). bare (then_line l.lines d)) (steps-some (c.args.count - (l.taken + 1)) l.session c.in-Some.number some)) ∙ ap (λ (f : ℕ). bare (then_line l.lines (steps f l.session))) fuel ∙ l.invariant)
    (stops c.in-Err.fault l.lines (by_event l.session (Deliver c.in-Some.number)) (steps (c.args.count - (l.taken + 1))) _ c.in-Err.ensures.ended)

pub loop-taken-preserved : goal.loop-taken-preserved
loop-taken-preserved c =
    let l = c.loop-taken in
    let some : oldest l.session.world ≡ Some c.in-Some.number = (cc) in
    let fuel : suc (c.args.count - (l.taken + 1)) ≡ c.args.count - l.taken = omega arith in
    sym (goes l.lines (by_event l.session (Deliver c.in-Some.number)) (steps (c.args.count - (l.taken + 1))) _ _ c.in_default-deliver.ensures.done)
    ∙ (sym (ap (λ (d : LineDone). bare (then_line l.lines d)) (steps-some (c.args.count - (l.taken + 1)) l.session c.in-Some.number some)) ∙ ap (λ (f : ℕ). bare (then_line l.lines (steps f l.session))) fuel ∙ l.invariant)

pub returns-clause-done : goal.returns-clause-done
returns-clause-done c =
    let l = c.loop-taken in
    let all : c.args.count - l.taken ≡ 0 = omega arith in
    performs_so (then_line l.lines (idle l.session)) _ l.session l.lines
    (sym (ap (λ (d : LineDone). bare (then_line l.lines d)) (ap (λ (f : ℕ). steps f l.session) all ∙ steps-zero l.session)) ∙ l.invariant)
    (idles l.session l.lines)

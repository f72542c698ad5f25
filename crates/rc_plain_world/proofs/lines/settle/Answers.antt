use Rattle.std.proofs.Common.{◌≡◌, ℕ, suc, ◌+◌, ◌-◌, [], ◌∷◌, ◌++◌, None, Some, sym, ◌∙◌, ap, arith}
use Rattle.std.proofs.lemmas.Result.{on_ok_weaker, IfErr-weaker}
use Rattle.std.proofs.lemmas.List.{append-nil}
use Rattle.rc_report.specs.declared.line.Line.TheVariants.{Settled}
use Rattle.rc_report.specs.declared.fault.Which.TheVariants.{Events}
use Rattle.rc_runs.specs.declared.event.Event.TheVariants.{Deliver}
use Rattle.rc_runs.specs.Script.{LineDone, oldest, settles, then_line, by_event, by_lines, unless_halted}
use Rattle.rc_plain_world.specs.declared.fault.SessionFault.TheVariants.{Limit}
use Rattle.rc_plain_world.specs.Lines.{Ended}
use Rattle.rc_plain_world.proofs.LineFacts.{bare, settles-none, settles-some, settles-end, goes, stops, ends_so, performs_so}
use Rattle.rc_plain_world.proofs.lines.settle.Goals as goal

pub returns-in_default-clause-done : goal.returns-in_default-clause-done
returns-in_default-clause-done c =
    let l = c.loop-count in
    let none : oldest l.session.world ≡ None = (cc) in
    on_ok_weaker c.settled.result
    (λ did. performs_so (then_line l.lines (by_lines l.session (Settled l.count ∷ []))) _ _ _
    (sym (ap (λ (d : LineDone). bare (then_line l.lines d)) (settles-none (2000000 - l.count) l.count l.session none)) ∙ l.invariant) did)
    c.settled.ensures.done

pub returns-in_default-clause-ended : goal.returns-in_default-clause-ended
returns-in_default-clause-ended c =
    let l = c.loop-count in
    let none : oldest l.session.world ≡ None = (cc) in
    IfErr-weaker c.settled.result (λ e. Ended e (by_lines l.session (Settled l.count ∷ [])) l.lines c.settled.new.lines) _
    (λ e ended. ends_so e _ (then_line l.lines (by_lines l.session (Settled l.count ∷ []))) _
    (sym (ap (λ (d : LineDone). bare (then_line l.lines d)) (settles-none (2000000 - l.count) l.count l.session none)) ∙ l.invariant) ended)
    c.settled.ensures.ended

pub returns-in-Err-clause-ended : goal.returns-in-Err-clause-ended
returns-in-Err-clause-ended c =
    let l = c.loop-count in
    let some : oldest l.session.world ≡ Some c.in-Some.number = (cc) in
    let fuel : suc (2000000 - (l.count + 1)) ≡ 2000000 - l.count = omega arith in
    ends_so c.in-Err.fault _ (then_line l.lines (unless_halted (by_event l.session (Deliver c.in-Some.number)) (settles (2000000 - (l.count + 1)) (l.count + 1)))) _
    (sym (ap (λ (d : LineDone). bare (then_line l.lines d)) (settles-some (2000000 - (l.count + 1)) l.count l.session c.in-Some.number some))
    ∙ ap (λ (f : ℕ). bare (then_line l.lines (settles f l.count l.session))) fuel ∙ l.invariant)
    (stops c.in-Err.fault l.lines (by_event l.session (Deliver c.in-Some.number)) (settles (2000000 - (l.count + 1)) (l.count + 1)) _ c.in-Err.ensures.ended)

pub loop-count-preserved : goal.loop-count-preserved
loop-count-preserved c =
    let l = c.loop-count in
    let some : oldest l.session.world ≡ Some c.in-Some.number = (cc) in
    let fuel : suc (2000000 - (l.count + 1)) ≡ 2000000 - l.count = omega arith in
    sym (goes l.lines (by_event l.session (Deliver c.in-Some.number)) (settles (2000000 - (l.count + 1)) (l.count + 1)) _ _ c.in_default-deliver.ensures.done)
    ∙ (sym (ap (λ (d : LineDone). bare (then_line l.lines d)) (settles-some (2000000 - (l.count + 1)) l.count l.session c.in-Some.number some))
    ∙ ap (λ (f : ℕ). bare (then_line l.lines (settles f l.count l.session))) fuel ∙ l.invariant)

pub returns-in-Some-oldest-clause-ended : goal.returns-in-Some-oldest-clause-ended
returns-in-Some-oldest-clause-ended c =
    let l = c.loop-count in
    let some : oldest l.session.world ≡ Some c.in-Some-oldest._number = (cc) in
    let none_left : 2000000 - l.count ≡ 0 = omega arith in
    ends_so (Limit Events) l.lines (then_line l.lines (settles 0 l.count l.session)) (then_line c.args.lines.now (settles 2000000 0 c.args.session.now))
    (ap (λ (f : ℕ). bare (then_line l.lines (settles f l.count l.session))) (sym none_left) ∙ l.invariant) (
      ap (λ (d : LineDone). l.lines ++ d.lines) (settles-end l.count l.session c.in-Some-oldest._number some) ∙ append-nil l.lines,
      ap (λ (d : LineDone). d.halt) (settles-end l.count l.session c.in-Some-oldest._number some),
    )

pub returns-clause-done : goal.returns-clause-done
returns-clause-done c =
    let l = c.loop-count in
    let none : oldest l.session.world ≡ None = (cc) in
    let all : l.count ≡ 2000000 = omega arith in
    on_ok_weaker c.settled-2.result
    (λ did. performs_so (then_line l.lines (by_lines l.session (Settled 2000000 ∷ []))) _ _ _
    (sym (ap (λ (d : LineDone). bare (then_line l.lines d)) (settles-none (2000000 - l.count) 2000000 l.session none)) ∙ ap (λ (k : ℕ). bare (then_line l.lines (settles (2000000 - l.count) k l.session))) (sym all) ∙ l.invariant) did)
    c.settled-2.ensures.done

pub returns-clause-ended : goal.returns-clause-ended
returns-clause-ended c =
    let l = c.loop-count in
    let none : oldest l.session.world ≡ None = (cc) in
    let all : l.count ≡ 2000000 = omega arith in
    IfErr-weaker c.settled-2.result (λ e. Ended e (by_lines l.session (Settled 2000000 ∷ [])) l.lines c.settled-2.new.lines) _
    (λ e ended. ends_so e _ (then_line l.lines (by_lines l.session (Settled 2000000 ∷ []))) _
    (sym (ap (λ (d : LineDone). bare (then_line l.lines d)) (settles-none (2000000 - l.count) 2000000 l.session none)) ∙ ap (λ (k : ℕ). bare (then_line l.lines (settles (2000000 - l.count) k l.session))) (sym all) ∙ l.invariant) ended)
    c.settled-2.ensures.ended

use Rattle.std.proofs.Common.{◌≡◌, [], length, None, sym, ap, ◌∙◌, arith}
use Rattle.std.specs.Str.Lines.{lines}
use Rattle.std.proofs.lemmas.List.{nil_from_length}
use Rattle.std.proofs.lemmas.Bool.Decides.{nat_tests}
use Rattle.rc_script.specs.Reading.{read_lines}
use Rattle.rc_script.proofs.LineLoop.{goes_on, ends, is_done, is_cut}
use Rattle.rc_script.proofs.parsing.read_lines.Goals as goal

pub returns-in_default : goal.returns-in_default
returns-in_default c =
    let so_far = rw c.first_line.ensures.lines at c.loop-rest.invariant.same in
    ends c.loop-rest.commands.items c.loop-rest.before c.loop-rest.number c.first_line.result.0.now (lines c.first_line.result.1.now) (read_lines None 1 (lines c.args.bytes.now)) (sym c.in_ok-command.ensures ∙ c.in_default.is) so_far

pub loop-rest-preserved : goal.loop-rest-preserved
loop-rest-preserved c =
    let so_far = rw c.first_line.ensures.lines at c.loop-rest.invariant.same in
    let counted = ap length c.first_line.ensures.lines in
    record {
      same = rw c.in_ok-keep.ensures (goes_on c.loop-rest.commands.items c.loop-rest.before c.loop-rest.number c.first_line.result.0.now (lines c.first_line.result.1.now) c.in-Some.command c.in-Some.after (read_lines None 1 (lines c.args.bytes.now)) (sym c.in_ok-command.ensures ∙ c.in-Some.is) so_far);
      counted = omega (arith, counted);
    }

pub returns-then-not-is_whole : goal.returns-then-not-is_whole
returns-then-not-is_whole c =
    let none : c.loop-rest.rest.now ≡ [] = nil_from_length c.loop-rest.rest.now (grind (arith, nat_tests)) in
    let so_far = rw none at c.loop-rest.invariant.same in
    is_cut c.loop-rest.commands.items c.loop-rest.before c.loop-rest.number (read_lines None 1 (lines c.args.bytes.now)) (sym c.is_whole.ensures ∙ c.if-not-is_whole.true) so_far

pub returns : goal.returns
returns c =
    let none : c.loop-rest.rest.now ≡ [] = nil_from_length c.loop-rest.rest.now (grind (arith, nat_tests)) in
    let so_far = rw none at c.loop-rest.invariant.same in
    is_done c.loop-rest.commands.items c.loop-rest.before c.loop-rest.number (read_lines None 1 (lines c.args.bytes.now)) (sym c.is_whole.ensures ∙ c.if-not-is_whole.false) so_far

use Rattle.std.proofs.Common.{◌<◌, ◌≤◌, length, Ok, sym, ◌∙◌, ap, arith}
use Rattle.std.proofs.lemmas.Result.{err_from_is_err_and}
use Rattle.rc_player.proofs.Pieces.{line_stops, line_ends, line_goes, lines_end}
use Rattle.rc_player.proofs.script.play_lines.Goals as goal

pub returns-in_err-status-clause-wrote : goal.returns-in_err-status-clause-wrote
returns-in_err-status-clause-wrote g c =
    let within : c.loop-line.line-index < length c.args.lines.now = omega arith in
    let p = err_from_is_err_and c.from_residual.result c.from_residual.ensures.1 in
    rw (p.1, p.2) (line_stops _ c.loop-line.session c.args.lines.now c.loop-line.line-index c.line-item.result c.in_err-status.field-0.0 _ _ _ within c.line-item.is c.loop-line.invariant.so_far c.in_err-status.ensures.took)

pub returns-in-Some-clause-wrote : goal.returns-in-Some-clause-wrote
returns-in-Some-clause-wrote g c =
    let within : c.loop-line.line-index < length c.args.lines.now = omega arith in
    line_ends _ c.loop-line.session c.args.lines.now c.loop-line.line-index c.line-item.result c.in-Some.status _ _ _ within c.line-item.is c.loop-line.invariant.so_far (sym c.in-Some.is ∙ c.in_ok-status.ensures.end) c.in_ok-status.ensures.took

pub loop-line-preserved : goal.loop-line-preserved
loop-line-preserved g c =
    let within : c.loop-line.line-index < length c.args.lines.now = omega arith in
    record {
      so_far = line_goes _ c.loop-line.session c.args.lines.now c.loop-line.line-index c.line-item.result c.play_line.new.session _ _ _ within c.line-item.is c.loop-line.invariant.so_far (sym c.in_default.is ∙ c.in_ok-status.ensures.end) (c.in_ok-status.ensures.after (ap Ok c.in_default.is)) c.in_ok-status.ensures.took;
      later = omega (arith, c.in_ok-status.ensures.later);
    }

pub returns-clause-wrote : goal.returns-clause-wrote
returns-clause-wrote g c =
    let past : length c.args.lines.now ≤ c.loop-line.line-index = omega arith in
    lines_end _ c.loop-line.session c.args.lines.now c.loop-line.line-index _ _ past c.loop-line.invariant.so_far

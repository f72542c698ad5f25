use Rattle.std.proofs.Common.{◌≤◌, drop}
use Rattle.rc_runs.specs.Text.{plays}
use Rattle.rc_player.proofs.Pieces.{Ahead}
use Rattle.rc_player.proofs.script.play_lines.Given as goal

abbrev pub invariant-loop-line : goal.invariant-loop-line
invariant-loop-line g l = record {
  so_far : Ahead (plays l.fn.session l.lines) (plays l.session (drop l.line-index l.lines)) (g.K.Sink.taken l.fn.sink) (g.K.Sink.taken l.sink);
  later : g.K.Sink.faults l.fn.sink ≤ g.K.Sink.faults l.sink;
}

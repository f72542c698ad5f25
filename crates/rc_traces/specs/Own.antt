-- What a line of a script prints itself, behind the lines of its events.
use Rattle.std.specs.Prelude.{List, [], ◌∷◌, length}
use Rattle.rc_ids.specs.Tables.{maybe}
use Rattle.rc_report.specs.declared.line.Line.{Line}
use Rattle.rc_report.specs.declared.line.Line.TheVariants.{Settled, Order as OrderLine}
use Rattle.rc_script.specs.declared.command.Command.{Command}
use Rattle.rc_script.specs.declared.command.Command.TheVariants as commands
use Rattle.rc_runs.specs.World.{order}
use Rattle.rc_runs.specs.Session.{Session}
use Rattle.rc_runs.specs.Script.{LineDone, pending_lines, shown_lines}

-- nothing where the script ends in it
abbrev pub lines_unless_halted : LineDone → List Line → List Line
lines_unless_halted done lines = maybe done.halt lines (λ halt. [])

abbrev pub own_lines : Session → Command → LineDone → List Line
own_lines z commands.Settle done = lines_unless_halted done (Settled (length done.trace) ∷ [])
own_lines z commands.Pending done = lines_unless_halted done (pending_lines z.world)
own_lines z (commands.Show d) done = lines_unless_halted done (shown_lines z.world.parties d)
own_lines z commands.Order done = lines_unless_halted done (OrderLine (order z.world) ∷ [])
own_lines z c done = []

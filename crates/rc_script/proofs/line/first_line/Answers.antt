use Rattle.rc_script.proofs.LineFacts.{line_last, line_more}
use Rattle.rc_script.proofs.line.first_line.Goals as goal

pub returns-in-None-clause-lines : goal.returns-in-None-clause-lines
returns-in-None-clause-lines c = line_last c.args.bytes.now c.cut.result.0.now c.requires (rw c.in-None.is at c.cut.ensures)

pub returns-in-Some-clause-lines : goal.returns-in-Some-clause-lines
returns-in-Some-clause-lines c = rw c.without_return.ensures (line_more c.args.bytes.now c.cut.result.0.now c.in-Some.rest.now (rw c.in-Some.is at c.cut.ensures))

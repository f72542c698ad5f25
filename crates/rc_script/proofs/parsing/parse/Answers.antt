use Rattle.std.proofs.Common.{subst}
use Rattle.rc_script.specs.Reading.{Gives}
use Rattle.rc_script.proofs.Scripts.{is_found, script_again}
use Rattle.rc_script.proofs.parsing.parse.Goals as goal

pub returns-clause-found : goal.returns-clause-found
returns-clause-found c = is_found c.args.bytes.now c.read_script.result c.read_script.ensures.exact

pub returns-clause-only : goal.returns-clause-only
returns-clause-only c = λ found is. subst (λ read. Gives (λ script. script) c.read_script.result read) (script_again c.args.bytes.now found is) c.read_script.ensures.exact

use Rattle.std.proofs.Common.{◌∙◌}
use Rattle.clap.specs.Words.{found_of}
use Rattle.rc_config.proofs.Getters.{read_by_rows}
use Rattle.rc_config.proofs.command_line.text_in.Goals as goal

pub returns : goal.returns
returns c = c.get_str.ensures ∙ read_by_rows c.args.id.now (found_of c.args.matches.now)

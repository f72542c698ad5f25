use Rattle.std.proofs.Common.{sym, ◌∙◌}
use Rattle.rc_script.proofs.Spelled.{command_taken, fits_world}
use Rattle.rc_script.proofs.line.command_line.Goals as goal

pub after_command-requires : goal.after_command-requires
after_command-requires c =
    let dcs = c.sizes_of-dcs.result.0 in
    let shards = c.sizes_of-dcs.result.1 in
    let command = c.in-Some.command in
    fits_world dcs shards command (command_taken dcs shards c.args.line.now command c.sizes_of-dcs.ensures.dcs.1 c.sizes_of-dcs.ensures.shards.1 (sym c.in_ok-command.ensures ∙ c.in-Some.is)).1

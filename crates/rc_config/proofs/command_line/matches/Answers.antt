use Rattle.std.proofs.Common.{◌∙◌, ap, map}
use Rattle.clap.specs.Words.{App, takes}
use Rattle.rc_config.proofs.command_line.matches.Goals as goal

pub returns-in-Err-clause-taken : goal.returns-in-Err-clause-taken
returns-in-Err-clause-taken c = λ taken same.
    let failed = c.in-Err.ensures.passes (ap (λ (a : App). takes a (map (λ s. s.now) c.args.words.now)) c.in_ok-program.ensures ∙ taken) in
    let fault = c.fault_of.ensures failed in
    cc

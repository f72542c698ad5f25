use Rattle.std.proofs.Common.{rules}
use Rattle.rc_config.proofs.WordForms.{generate_form}
use Rattle.rc_config.proofs.words.generate_mode.Goals as goal

pub returns-clause-form : goal.returns-clause-form
returns-clause-form c = generate_form c.args.words.now c.args.number_word.now c.args.size_word.now c.in_ok-number.number c.in_ok-size.size (search rules) (search rules) (search rules)

use Rattle.std.proofs.Common.{arith, sym}
use Rattle.rc_ids.proofs.TextFacts.{all_pass}
use Rattle.rc_ids.specs.Texts.{is_key_byte}
use Rattle.rc_ids.proofs.texts.check_key.Goals as goal

pub returns-in-None-clause-ok : goal.returns-in-None-clause-ok
returns-in-None-clause-ok c = (omega arith, omega arith, all_pass is_key_byte c.args.bytes.now (sym c.in-None.ensures))

use Rattle.rc_record.proofs.Gone.{gone_test}
use Rattle.rc_record.proofs.kinds.is_gone.Goals as goal

pub returns : goal.returns
returns c = gone_test c.args.value.now c.is_gone.result c.is_gone.ensures

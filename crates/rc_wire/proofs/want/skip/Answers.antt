use Rattle.rc_wire.proofs.Numbers.{rest_whole}
use Rattle.rc_wire.proofs.want.skip.Goals as goal

pub returns : goal.returns
returns c = rest_whole c.args.count c.args.bytes.now

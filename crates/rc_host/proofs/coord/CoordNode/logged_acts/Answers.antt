use Rattle.rc_host.proofs.CoordLogging.{coord_logged}
use Rattle.rc_host.proofs.coord.CoordNode.logged_acts.Goals as goal

pub returns : goal.returns
returns g c = λ node cluster x cause has.
    coord_logged cluster c.record_laws.ensures.again x.up x.log node (c.coord_laws.ensures node cluster) x.durable x.volatile cause has

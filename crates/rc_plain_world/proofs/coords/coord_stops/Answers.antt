use Rattle.std.proofs.Common.{◌≡◌, ◌-◌}
use Rattle.rc_protocol.specs.Nodes.{coord_index}
use Rattle.rc_plain_world.specs.Acted.{stopped_coord}
use Rattle.rc_plain_world.proofs.SiteEdits.{coord_edit}
use Rattle.rc_plain_world.proofs.coords.coord_stops.Goals as goal

pub returns-clause-stopped : goal.returns-clause-stopped
returns-clause-stopped c = λ h at.
    let place : c.dc.inside.0 - 1 ≡ coord_index c.args.dc = (cc) in
    coord_edit c.args.coords.now.items _ _ c.index_mut.result.now c.stop.new.self h stopped_coord place c.index_mut.ensures.value c.stop.ensures.node c.stop.ensures.device at

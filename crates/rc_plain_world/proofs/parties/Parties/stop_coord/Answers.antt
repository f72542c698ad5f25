use Rattle.std.proofs.Common.{◌<◌, length}
use Rattle.std.proofs.lemmas.Result.{on_ok_weaker}
use Rattle.rc_protocol.specs.Nodes.{coord_index}
use Rattle.rc_plain_world.proofs.Stops.{coord_there, coord_inside, coord_stop_at}
use Rattle.rc_plain_world.proofs.parties.Parties.stop_coord.Goals as goal

pub coord_stops-requires : goal.coord_stops-requires
coord_stops-requires c = coord_inside _ _ _ _ _ _ c.args.dc c.self.view_is c.requires

pub returns : goal.returns
returns c =
    let within : coord_index c.args.dc < length c.self.inside.coords.items = coord_inside _ _ _ _ _ _ c.args.dc c.self.view_is c.requires in
    on_ok_weaker c.coord_stops.result
    (λ prints. coord_stop_at _ c.self.inside.coords.items c.coord_stops.new.coords.items _ _ _ _ c.args.dc c.args.lines.now c.coord_stops.new.lines c.self.view_is (coord_there _ _ _ _ _ _ c.args.dc c.self.view_is c.requires) within c.coord_stops.ensures.stopped prints)
    c.coord_stops.ensures.prints

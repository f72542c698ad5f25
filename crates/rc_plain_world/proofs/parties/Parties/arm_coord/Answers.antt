use Rattle.std.proofs.Common.{◌<◌, length}
use Rattle.rc_protocol.specs.Nodes.{coord_index}
use Rattle.rc_plain_world.proofs.Stops.{coord_there, coord_inside, coord_up_at, coord_arm_at}
use Rattle.rc_plain_world.proofs.parties.Parties.arm_coord.Goals as goal

pub coord_arms-requires-clause-inside : goal.coord_arms-requires-clause-inside
coord_arms-requires-clause-inside c = coord_inside _ _ _ _ _ _ c.args.dc c.self.view_is c.requires

pub coord_arms-requires-clause-up : goal.coord_arms-requires-clause-up
coord_arms-requires-clause-up c = λ h at. coord_up_at _ _ _ _ _ _ c.args.dc h c.self.view_is c.requires at

pub returns : goal.returns
returns c =
    let within : coord_index c.args.dc < length c.self.inside.coords.items = coord_inside _ _ _ _ _ _ c.args.dc c.self.view_is c.requires in
    coord_arm_at _ c.self.inside.coords.items c.coord_arms.new.coords.items _ _ _ _ c.args.dc c.args.call c.args.pick _ c.self.view_is (coord_there _ _ _ _ _ _ c.args.dc c.self.view_is c.requires) within c.coord_arms.ensures.armed

use Rattle.std.proofs.Common.{◌≡◌, ◌<◌, ◌≤◌, length, arith}
use Rattle.std.proofs.lemmas.Result.{IfOk-weaker}
use Rattle.rc_protocol.specs.Nodes.{coord_index}
use Rattle.rc_plain_world.proofs.Deeds.{dc_inside, dc_outside}
use Rattle.rc_plain_world.proofs.Stops.{coord_start_at, coord_start_outside}
use Rattle.rc_plain_world.proofs.parties.Parties.restart_coord.Goals as goal

pub returns-then-dc-dcs : goal.returns-then-dc-dcs
returns-then-dc-dcs c =
    let past : c.self.inside.cluster.dcs < c.args.dc = omega (arith, c.if-dc-dcs.true) in
    coord_start_outside c.self.inside.cluster _ _ _ _ _ c.args.dc _ _ c.self.view_is (dc_outside c.self.inside.cluster c.args.dc past) c.new.ensures

pub returns : goal.returns
returns c =
    let low : 1 ≤ c.args.dc = omega arith in
    let high : c.args.dc ≤ c.self.inside.cluster.dcs = omega arith in
    let within : coord_index c.args.dc < length c.self.inside.coords.items = omega arith in
    IfOk-weaker c.coord_starts.result _ _
    (λ out starts. coord_start_at c.self.inside.cluster c.self.inside.coords.items c.coord_starts.new.coords.items _ _ _ _ c.args.dc out _ c.self.view_is (dc_inside c.self.inside.cluster c.args.dc low high) within starts)
    c.coord_starts.ensures.started

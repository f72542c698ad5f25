use Rattle.std.proofs.Common.{◌≡◌, ◌<◌, ◌≤◌, true, false, length, arith}
use Rattle.std.proofs.lemmas.Result.{IfErr-weaker}
use Rattle.rc_ids.specs.Cluster.{is_dc}
use Rattle.rc_protocol.specs.Nodes.{coord_index}
use Rattle.rc_plain_world.specs.Hosts.{node_cause}
use Rattle.rc_plain_world.proofs.Deeds.{coord_deed_at, coord_outside, coord_refused_at, dc_inside, dc_outside, if_ok2}
use Rattle.rc_plain_world.proofs.parties.Parties.coord_acts.Goals as goal

pub returns-then-dc-dcs-clause-done : goal.returns-then-dc-dcs-clause-done
returns-then-dc-dcs-clause-done c =
    let past : c.self.inside.cluster.dcs < c.args.dc = omega (arith, c.if-dc-dcs.true) in
    coord_outside c.self.inside.cluster _ _ _ _ _ c.args.dc (node_cause c.args.sent.now c.args.event.now) _ c.args.lines.now c.self.view_is (dc_outside c.self.inside.cluster c.args.dc past) c.new.ensures

pub returns-clause-done : goal.returns-clause-done
returns-clause-done c =
    let low : 1 ≤ c.args.dc = omega arith in
    let high : c.args.dc ≤ c.self.inside.cluster.dcs = omega arith in
    let within : coord_index c.args.dc < length c.self.inside.coords.items = omega arith in
    if_ok2 c.coord_acts.result _ _ _
    (λ out idles dids. coord_deed_at c.self.inside.cluster c.self.inside.coords.items c.coord_acts.new.coords.items c.self.inside.shards.items c.self.inside.clients.entries c.self.inside.committed.items c.coord_acts.new.committed.items c.args.self.now c.args.dc
    (node_cause c.args.sent.now c.args.event.now) out c.args.lines.now c.coord_acts.new.lines c.self.view_is (dc_inside c.self.inside.cluster c.args.dc low high) within idles dids)
    c.coord_acts.ensures.idle c.coord_acts.ensures.did

pub returns-clause-refused : goal.returns-clause-refused
returns-clause-refused c =
    let low : 1 ≤ c.args.dc = omega arith in
    let high : c.args.dc ≤ c.self.inside.cluster.dcs = omega arith in
    let within : coord_index c.args.dc < length c.self.inside.coords.items = omega arith in
    IfErr-weaker c.coord_acts.result _ _
    (λ e. coord_refused_at c.self.inside.cluster c.self.inside.coords.items _ _ _ _ c.args.dc (node_cause c.args.sent.now c.args.event.now) e c.self.view_is (dc_inside c.self.inside.cluster c.args.dc low high) within)
    c.coord_acts.ensures.lacking

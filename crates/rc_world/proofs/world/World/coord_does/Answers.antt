use Rattle.std.proofs.Common.{◌≡◌, ◌<◌, ◌≤◌, ◌-◌, ℕ, length, true, refl, sym, ap, subst, arith}
use Rattle.rc_ids.specs.Cluster.{is_dc}
use Rattle.rc_ids.specs.declared.names.NodeId.TheVariants.{Coord as Coordinator}
use Rattle.rc_protocol.specs.Nodes.{coord_index}
use Rattle.rc_world.proofs.Noded.{coords_did}
use Rattle.rc_begin.proofs.Lists.{is_of_world}
use Rattle.rc_world.proofs.world.World.coord_does.Goals as goal

pub returns-then-place-len-clause-ok : goal.returns-then-place-len-clause-ok
returns-then-place-len-clause-ok g c = λ r z e is has done is_deed who named no_begin told.
    let dc : c.args.dc ≡ c.dc.inside.0 = (cc) in
    let low : 1 ≤ c.args.dc = omega (arith, dc) in
    let within : coord_index c.args.dc < length c.args.self.now.coords.items = omega (arith, dc) in
    let known : is_dc r.cluster c.args.dc ≡ true = is_of_world r.cluster c.args.dc low (subst (λ (n : ℕ). coord_index c.args.dc < n) is.parties.of_coords within) in
    coords_did _ r z _ is e named no_begin c.in_ok-event_limit.ensures.ok c.count_laws.ensures c.coord_acts.new.coords.items c.room.new.self c.note.new.order c.args.dc (Coordinator c.args.dc) c.in_ok-out.out c.in_ok-out.vote c.into_sends.result c.coord_acts.new.lines
    known c.in_ok-room.ensures.as_before c.note.ensures c.in_ok-out.ensures.count c.into_sends.ensures who
    (c.in_ok-out.ensures.ok r z e c.args.dc is.parties.layout is.carried.grammar refl known (ap (λ (n : ℕ). n - 1) (sym dc)) is.parties.hosts.of_coords done is_deed has told)

pub returns-in_err-out-clause-grew : goal.returns-in_err-out-clause-grew
returns-in_err-out-clause-grew g c = λ r told. record { coords = c.in_err-out.ensures.grew r told.coords; shards = told.shards }

pub returns-then-place-len-clause-grew : goal.returns-then-place-len-clause-grew
returns-then-place-len-clause-grew g c = λ r told. record { coords = c.in_ok-out.ensures.grew r told.coords; shards = told.shards }

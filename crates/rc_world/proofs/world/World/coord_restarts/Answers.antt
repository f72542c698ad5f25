use Rattle.std.proofs.Common.{◌≡◌, true, [], ◌∷◌, refl, sym, subst}
use Rattle.rc_ids.specs.Cluster.{Layout, is_dc}
use Rattle.rc_ids.specs.declared.names.NodeId.TheVariants.{Coord}
use Rattle.rc_report.specs.declared.line.Line.TheVariants.{Up}
use Rattle.rc_runs.specs.declared.event.Event.TheVariants.{Restart}
use Rattle.rc_world.proofs.Powered.{not_up_named, coords_rest}
use Rattle.rc_world.proofs.world.World.coord_restarts.Goals as goal

pub returns-in_ok-coord_starts-in-Some-clause-ok : goal.returns-in_ok-coord_starts-in-Some-clause-ok
returns-in_ok-coord_starts-in-Some-clause-ok g c = λ r z is fits down told.
    let known = subst (λ (l : Layout). is_dc l c.args.dc ≡ true) is.parties.cluster c.in-Some.ensures.known in
    coords_rest _ r z _ is (Restart (Coord c.args.dc)) (not_up_named z.world (Coord c.args.dc) down) refl fits c.count_laws.ensures c.coord_starts.new.coords.items c.args.dc (Coord c.args.dc) c.coord_starts.new.out c.into_sends.result (Up (Coord c.args.dc) ∷ []) known c.in_ok-coord_starts-in-Some.ensures.count c.into_sends.ensures refl
    (c.in_ok-coord_starts-in-Some.ensures.ok r z c.args.dc refl (sym is.parties.cluster) is.parties.layout known c.in-Some.ensures.place down is.parties.hosts.of_coords told.coords)

pub returns-in_ok-coord_starts-in-Some-clause-grew : goal.returns-in_ok-coord_starts-in-Some-clause-grew
returns-in_ok-coord_starts-in-Some-clause-grew g c = λ r told. record { coords = c.in_ok-coord_starts-in-Some.ensures.grew r told.coords; shards = told.shards }

pub returns-in_err-coord_starts-in-Some-clause-grew : goal.returns-in_err-coord_starts-in-Some-clause-grew
returns-in_err-coord_starts-in-Some-clause-grew g c = λ r told. record { coords = c.in_err-coord_starts-in-Some.ensures.grew r told.coords; shards = told.shards }

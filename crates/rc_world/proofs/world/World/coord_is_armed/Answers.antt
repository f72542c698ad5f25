use Rattle.std.proofs.Common.{◌≡◌, true, [], refl, subst}
use Rattle.rc_ids.specs.Cluster.{Layout, is_dc}
use Rattle.rc_ids.specs.declared.names.NodeId.TheVariants.{Coord}
use Rattle.rc_ids.specs.declared.names.Party.TheVariants.{Node}
use Rattle.rc_msg.specs.Outboxes.{new_outbox}
use Rattle.rc_runs.specs.declared.event.Event.TheVariants.{CrashAt}
use Rattle.rc_world.proofs.Powered.{up_if_wanted, coords_rest}
use Rattle.rc_world.proofs.world.World.coord_is_armed.Goals as goal

pub returns-in-Some-clause-did : goal.returns-in-Some-clause-did
returns-in-Some-clause-did g c = λ r z is fits wanted.
    let known = subst (λ (l : Layout). is_dc l c.args.dc ≡ true) is.parties.cluster c.in-Some.ensures.known in
    coords_rest _ r z _ is (CrashAt (Coord c.args.dc) c.args.k c.args.pick) wanted refl fits c.count_laws.ensures c.coord_arms.new.coords.items c.args.dc (Coord c.args.dc) (new_outbox (Node (Coord c.args.dc))) [] [] known c.coord_arms.ensures.count refl refl
    (c.coord_arms.ensures.arms r z c.args.dc is.parties.layout known c.in-Some.ensures.place (up_if_wanted z.world.parties (Coord c.args.dc) wanted) is.parties.hosts.of_coords)

pub returns-in-Some-clause-grew : goal.returns-in-Some-clause-grew
returns-in-Some-clause-grew g c = λ r told. record { coords = c.coord_arms.ensures.grew r told.coords; shards = told.shards }

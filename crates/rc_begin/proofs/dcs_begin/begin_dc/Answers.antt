use Rattle.std.proofs.Common.{ℕ, ◌-◌, [], ◌∷◌, ◌++◌, length, ap, ◌∙◌}
use Rattle.std.proofs.lemmas.Result.{on_ok_weaker}
use Rattle.rc_ids.specs.declared.names.NodeId.TheVariants.{Coord, Shard as ShardServer}
use Rattle.rc_runs.specs.Stored.{nodes_of_dc, begins_all}
use Rattle.rc_begin.specs.Beginnings.{BeginRefused}
use Rattle.rc_begin.specs.Gatherings.{are_lent}
use Rattle.rc_begin.proofs.Refusing.{given_on, if_err_weaker}
use Rattle.rc_begin.proofs.Homes.{dc_of_world, coord_refused, dc_refused}
use Rattle.rc_begin.proofs.Serving.{all_same, lendable_still, dc_serves, not_more, one_lent, none_lent}
use Rattle.rc_begin.proofs.dcs_begin.begin_dc.Goals as goal

pub returns-clause-ok : goal.returns-clause-ok
returns-clause-ok g c =
    λ r p nodes same place long lend lends are coords_told shards_told.
    on_ok_weaker c.begin_shards.result (dc_serves _ r p c.args.cluster.now nodes c.args.dc _ _ _ _)
    (c.begin_shards.ensures.ok r p (nodes ++ Coord c.args.dc ∷ []) same (ap length c.begin_coord.ensures.rest ∙ long)
    (λ sh known.
    lendable_still p r (g.F.Farm.stands c.args.farm.now) (g.F.Farm.stands c.begin_coord.new.farm) (ShardServer c.args.dc sh)
    (c.begin_coord.ensures.others (ShardServer c.args.dc sh) (λ e. cc)) (lends sh known))
    (c.in_ok-begin_coord.ensures.ok r p nodes same place lend.lends lend.starts are
    (all_same _ c.begin_shards.new.all.coords.items c.begin_coord.new.all.coords.items c.begin_shards.ensures.rest coords_told))
    shards_told)

pub returns-in_err-begin_coord-clause-lent : goal.returns-in_err-begin_coord-clause-lent
returns-in_err-begin_coord-clause-lent g c =
    c.in_err-begin_coord.ensures.not_lent
    ∙ not_more (length c.args.all.now.coords.items) (length c.begin_coord.new.all.coords.items) (ap length c.in_err-begin_coord.ensures.kept)

pub returns-in_err-begin_coord-clause-lent_shards : goal.returns-in_err-begin_coord-clause-lent_shards
returns-in_err-begin_coord-clause-lent_shards g c =
    λ sh.
    c.begin_coord.ensures.others_lent (ShardServer c.args.dc sh) (λ e. cc) ∙ c.requires.free_shards sh
    ∙ none_lent (length c.args.all.now.shards.items) (length c.begin_coord.new.all.shards.items) sh (ap length c.begin_coord.ensures.rest)

pub returns-clause-lent : goal.returns-clause-lent
returns-clause-lent g c =
    c.begin_shards.ensures.others_lent (Coord c.args.dc) (λ sh e. cc) ∙ c.in_ok-begin_coord.ensures.lent
    ∙ one_lent (length c.args.all.now.coords.items) (length c.begin_shards.new.all.coords.items)
    (ap length c.begin_shards.ensures.rest ∙ c.in_ok-begin_coord.ensures.more)

pub returns-clause-lent_shards : goal.returns-clause-lent_shards
returns-clause-lent_shards g c =
    λ sh.
    c.begin_shards.ensures.lent sh
    ∙ ap (λ (n : ℕ). are_lent (length c.begin_shards.new.all.shards.items - n) sh) (ap length c.begin_coord.ensures.rest)

pub returns-in_err-begin_coord-clause-err : goal.returns-in_err-begin_coord-clause-err
returns-in_err-begin_coord-clause-err g c =
    λ r p nodes same place long lend lends are told.
    let why = c.in_err-begin_coord.ensures.err r p same lend.lends lend.starts
    (told.home (Coord c.args.dc) (dc_of_world r c.args.cluster.now c.args.dc same c.requires.dc) c.in_err-begin_coord.ensures.not_lent) in
    given_on (λ w. BeginRefused (g.F.Farm.faults c.args.farm.now) (g.F.Farm.faults c.begin_coord.new.farm) (begins_all p r.cluster (nodes ++ nodes_of_dc c.args.cluster.now c.args.dc)) w)
    c.from_residual.result c.in_err-begin_coord.field-0.0 c.from_residual.ensures.1
    (coord_refused p r.cluster (g.F.Farm.faults c.args.farm.now) (g.F.Farm.faults c.begin_coord.new.farm) nodes c.args.dc c.args.cluster.now.shards are.begun are.is c.in_err-begin_coord.field-0.0 why)

pub returns-in_err-begin_coord-clause-grew : goal.returns-in_err-begin_coord-clause-grew
returns-in_err-begin_coord-clause-grew g c = λ r same place long told. c.begin_coord.ensures.grew r same place told

pub returns-clause-err : goal.returns-clause-err
returns-clause-err g c =
    λ r p nodes same place long lend lends are told.
    let long_still = ap length c.begin_coord.ensures.rest ∙ long in
    let before = c.begin_shards.ensures.grew r same long_still told in
    let begun = c.in_ok-begin_coord.ensures.ok r p nodes same place lend.lends lend.starts are before.of_coords in
    if_err_weaker c.begin_shards.result
    (dc_refused p r.cluster (g.F.Farm.faults c.args.farm.now) (g.F.Farm.faults c.begin_coord.new.farm) (g.F.Farm.faults c.begin_shards.new.farm) c.begin_coord.ensures.later nodes c.args.dc c.args.cluster.now.shards)
    (c.begin_shards.ensures.err r p (nodes ++ Coord c.args.dc ∷ []) same long_still
    (λ sh known.
    lendable_still p r (g.F.Farm.stands c.args.farm.now) (g.F.Farm.stands c.begin_coord.new.farm) (ShardServer c.args.dc sh)
    (c.begin_coord.ensures.others (ShardServer c.args.dc sh) (λ e. cc)) (lends sh known))
    begun told)

pub returns-clause-grew : goal.returns-clause-grew
returns-clause-grew g c =
    λ r same place long told. c.begin_coord.ensures.grew r same place (c.begin_shards.ensures.grew r same (ap length c.begin_coord.ensures.rest ∙ long) told)

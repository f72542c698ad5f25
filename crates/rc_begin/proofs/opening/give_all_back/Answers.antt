use Rattle.std.proofs.Common.{length, ◌∙◌}
use Rattle.rc_begin.proofs.Returned.{few_dcs, coord_lent, shard_lent_still, all_free, all_on, others_stand, told_back}
use Rattle.rc_begin.proofs.opening.give_all_back.Goals as goal

pub give_coords_back-requires-clause-few : goal.give_coords_back-requires-clause-few
give_coords_back-requires-clause-few g c = few_dcs (length c.args.all.coords.items) c.args.cluster.now c.dcs-dcs.ensures.layout c.requires.few

pub give_coords_back-requires-clause-lent : goal.give_coords_back-requires-clause-lent
give_coords_back-requires-clause-lent g c =
    coord_lent c.args.cluster.now (length c.args.all.coords.items) (length c.args.all.shards.items) c.requires.few c.requires.few_shards (g.F.Farm.is_lent c.args.farm.now) c.requires.lent

pub give_shards_back-requires-clause-lent : goal.give_shards_back-requires-clause-lent
give_shards_back-requires-clause-lent g c =
    shard_lent_still c.args.cluster.now (length c.args.all.coords.items) (length c.args.all.shards.items) c.requires.few c.requires.few_shards (g.F.Farm.is_lent c.args.farm.now) c.requires.lent
    (g.F.Farm.is_lent c.give_coords_back.new.farm) c.give_coords_back.ensures.others_lent

pub returns-clause-lent : goal.returns-clause-lent
returns-clause-lent g c =
    all_free c.args.cluster.now (length c.args.all.coords.items) (length c.args.all.shards.items) c.requires.few c.requires.few_shards (g.F.Farm.is_lent c.args.farm.now) c.requires.lent
    (g.F.Farm.is_lent c.give_coords_back.new.farm) c.give_coords_back.ensures.others_lent c.give_coords_back.ensures.lent (g.F.Farm.is_lent c.give_shards_back.new.farm) c.give_shards_back.ensures.lent c.give_shards_back.ensures.others_lent

pub returns-clause-told : goal.returns-clause-told
returns-clause-told g c = λ r same.
    told_back c.args.cluster.now (length c.args.all.coords.items) (length c.args.all.shards.items) c.requires.few c.requires.few_shards (g.F.Farm.is_lent c.args.farm.now) c.requires.lent
    (g.F.Farm.stands c.args.farm.now) (g.F.Farm.stands c.give_coords_back.new.farm) (g.F.Farm.stands c.give_shards_back.new.farm) c.give_coords_back.ensures.others c.give_shards_back.ensures.others
    _ c.args.all.coords.items c.args.all.shards.items r same (c.give_coords_back.ensures.told r) (c.give_shards_back.ensures.told r same)

pub returns-clause-on : goal.returns-clause-on
returns-clause-on g c =
    all_on c.args.cluster.now (length c.args.all.coords.items) (length c.args.all.shards.items) c.requires.few c.requires.few_shards (g.F.Farm.is_lent c.args.farm.now) c.requires.lent
    (g.F.Farm.stands c.args.farm.now) (g.F.Farm.stands c.give_coords_back.new.farm) (g.F.Farm.stands c.give_shards_back.new.farm) c.give_coords_back.ensures.others c.give_shards_back.ensures.others
    c.give_coords_back.ensures.on c.give_shards_back.ensures.on

pub returns-clause-others : goal.returns-clause-others
returns-clause-others g c =
    others_stand c.args.cluster.now (length c.args.all.coords.items) (length c.args.all.shards.items) c.requires.few c.requires.few_shards (g.F.Farm.is_lent c.args.farm.now) c.requires.lent
    (g.F.Farm.stands c.args.farm.now) (g.F.Farm.stands c.give_coords_back.new.farm) (g.F.Farm.stands c.give_shards_back.new.farm) c.give_coords_back.ensures.others c.give_shards_back.ensures.others

pub returns-clause-start : goal.returns-clause-start
returns-clause-start g c = λ n. c.give_shards_back.ensures.start n ∙ c.give_coords_back.ensures.start n

use Rattle.std.proofs.Common.{◌≡◌, Bool, false, length, ◌∙◌}
use Rattle.rc_disk.specs.declared.power.Power.TheVariants.{On}
use Rattle.rc_disk.specs.Places.{Standing}
use Rattle.rc_world.proofs.Closed.{few_dcs, coord_of_world, of_all, none_other, still_lent, coords_kept, shards_kept}
use Rattle.rc_world.proofs.world.World.close.Goals as goal

pub give_coords_back-requires-clause-lent : goal.give_coords_back-requires-clause-lent
give_coords_back-requires-clause-lent g c = λ place lt. c.requires _ (coord_of_world c.args.self.cluster (length c.args.self.coords.items) place c.args.self.all_coords lt)

pub give_shards_back-requires-clause-lent : goal.give_shards_back-requires-clause-lent
give_shards_back-requires-clause-lent g c =
    still_lent c.args.self.cluster (length c.args.self.coords.items) (length c.args.self.shards.items) c.args.self.all_coords c.args.self.all_shards
    (g.F.Farm.is_lent c.args.farm.now) (g.F.Farm.is_lent c.give_coords_back.new.farm) c.requires c.give_coords_back.ensures.others_lent

pub returns-clause-lent : goal.returns-clause-lent
returns-clause-lent g c =
    of_all c.args.self.cluster (length c.args.self.coords.items) (length c.args.self.shards.items) c.args.self.all_coords c.args.self.all_shards
    (λ (b : Bool). b ≡ false) (g.F.Farm.is_lent c.give_coords_back.new.farm) (g.F.Farm.is_lent c.give_shards_back.new.farm)
    c.give_coords_back.ensures.lent c.give_shards_back.ensures.lent c.give_shards_back.ensures.others_lent

pub returns-clause-on : goal.returns-clause-on
returns-clause-on g c =
    of_all c.args.self.cluster (length c.args.self.coords.items) (length c.args.self.shards.items) c.args.self.all_coords c.args.self.all_shards
    (λ (s : Standing). s.power ≡ On) (g.F.Farm.stands c.give_coords_back.new.farm) (g.F.Farm.stands c.give_shards_back.new.farm)
    c.give_coords_back.ensures.on c.give_shards_back.ensures.on c.give_shards_back.ensures.others

pub returns-clause-others_lent : goal.returns-clause-others_lent
returns-clause-others_lent g c =
    none_other c.args.self.cluster (length c.args.self.coords.items) (length c.args.self.shards.items) c.args.self.all_coords c.args.self.all_shards
    (g.F.Farm.is_lent c.args.farm.now) (g.F.Farm.is_lent c.give_coords_back.new.farm) (g.F.Farm.is_lent c.give_shards_back.new.farm)
    c.give_coords_back.ensures.others_lent c.give_shards_back.ensures.others_lent

pub returns-clause-others : goal.returns-clause-others
returns-clause-others g c =
    none_other c.args.self.cluster (length c.args.self.coords.items) (length c.args.self.shards.items) c.args.self.all_coords c.args.self.all_shards
    (g.F.Farm.stands c.args.farm.now) (g.F.Farm.stands c.give_coords_back.new.farm) (g.F.Farm.stands c.give_shards_back.new.farm)
    c.give_coords_back.ensures.others c.give_shards_back.ensures.others

pub returns-clause-told : goal.returns-clause-told
returns-clause-told g c = λ r same kept. record {
  coords = c.give_coords_back.ensures.told r
      (coords_kept c.args.self.cluster (length c.args.self.coords.items) (length c.args.self.shards.items) c.args.self.all_coords c.args.self.all_shards r same
      (g.F.Farm.stands c.give_coords_back.new.farm) (g.F.Farm.stands c.give_shards_back.new.farm) kept c.give_shards_back.ensures.others);
  shards = c.give_shards_back.ensures.told r same
      (shards_kept c.args.self.cluster (length c.args.self.coords.items) (length c.args.self.shards.items) c.args.self.all_coords c.args.self.all_shards r same
      (g.F.Farm.stands c.give_shards_back.new.farm) kept);
}

pub returns-clause-start : goal.returns-clause-start
returns-clause-start g c = λ n. c.give_shards_back.ensures.start n ∙ c.give_coords_back.ensures.start n

pub give_coords_back-requires-clause-few : goal.give_coords_back-requires-clause-few
give_coords_back-requires-clause-few g c = few_dcs c.args.self.cluster (length c.args.self.coords.items) c.dcs-dcs.ensures.layout c.args.self.all_coords

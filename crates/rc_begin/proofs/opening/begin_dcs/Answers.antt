use Rattle.std.proofs.Common.{◌≡◌, ℕ, ◌+◌, ◌*◌, ◌<◌, ◌++◌, length, refl, sym, ap, ◌∙◌, arith}
use Rattle.std.specs.List.{flat_map}
use Rattle.rc_ids.specs.Tables.{up_to}
use Rattle.rc_ids.specs.declared.names.NodeId.{NodeId}
use Rattle.rc_ids.specs.declared.names.NodeId.TheVariants.{Coord, Shard as ShardServer}
use Rattle.rc_disk.specs.Places.{Standing}
use Rattle.rc_runs.specs.Stored.{begins_all, nodes_of_dc, nodes_of}
use Rattle.rc_begin.specs.Beginnings.{BeginRefused}
use Rattle.rc_begin.proofs.Serving.{lendable_still}
use Rattle.rc_begin.proofs.Refusing.{given_on}
use Rattle.rc_begin.proofs.Homes.{later_still, server_of_world, of_world, dc_of_world}
use Rattle.rc_begin.proofs.Firsts.{more_places, next_places, none_outside, none_first, next_coord_free, next_server_free, lent_after, home_dc, first_as, fewer_before}
use Rattle.rc_begin.proofs.AllBegin.{none_gathered, no_places, none_there, none_fails, next_coord, next_servers, next_dc, with_next_dc, gathered_as, all_refused, not_the_same}
use Rattle.rc_begin.proofs.opening.begin_dcs.Goals as goal

pub loop-count-init : goal.loop-count-init
loop-count-init g c = record {
  coords = ap length c.requires.no_coords;
  shards = no_places (length c.args.all.now.shards.items) c.args.cluster.now.shards (ap length c.requires.no_shards);
  well = none_fails _ c.args.all.now.coords.items c.requires.no_coords;
  well_shards = none_fails _ c.args.all.now.shards.items c.requires.no_shards;
  lent = λ n. c.requires.free n ∙ sym (none_first c.args.cluster.now (0 * c.args.cluster.now.shards) (none_there c.args.cluster.now.shards) n);
  home = λ n free. refl;
  start = λ n. refl;
  later = omega arith;
  told = λ r same told n known. told.home n known (c.requires.free n);
  gathered = λ r p same lends told.
      none_gathered _ r p c.args.all.now.coords.items c.args.all.now.coord_logs.items c.args.all.now.shards.items c.args.all.now.shard_logs.items
      c.requires.no_coords c.requires.no_coord_logs c.requires.no_shards c.requires.no_shard_logs;
}

pub loop-count-preserved : goal.loop-count-preserved
loop-count-preserved g c =
    let n = c.loop-count.count in
    let inv = c.loop-count.invariant in
    let few : n < c.args.cluster.now.dcs = omega arith in
    let dc = next_dc c.args.cluster.now n few in
    let place = next_coord (length c.loop-count.all.coords.items) n inv.coords in
    let long = next_servers (length c.loop-count.all.shards.items) n c.args.cluster.now.shards inv.shards in
    let coords = c.in_ok-begin_dc.ensures.more ∙ ap (λ (k : ℕ). k + 1) inv.coords in
    let shards = c.in_ok-begin_dc.ensures.more_shards ∙ ap (λ (k : ℕ). k + c.args.cluster.now.shards) inv.shards ∙ sym (next_places n c.args.cluster.now.shards) in
    let lent = λ (x : NodeId).
    lent_after c.args.cluster.now (g.F.Farm.is_lent c.loop-count.farm) (g.F.Farm.is_lent c.begin_dc.new.farm) n (length c.loop-count.all.coords.items) (length c.loop-count.all.shards.items)
    (length c.begin_dc.new.all.coords.items) (length c.begin_dc.new.all.shards.items) inv.coords inv.shards inv.lent c.begin_dc.ensures.lent c.begin_dc.ensures.many c.begin_dc.ensures.few
    c.begin_dc.ensures.lent_shards c.begin_dc.ensures.many_shards c.begin_dc.ensures.few_shards c.begin_dc.ensures.others_lent x
    ∙ first_as c.args.cluster.now x _ _ _ _ coords shards in
    record {
      coords = coords;
      shards = shards;
      well = c.begin_dc.ensures.well;
      well_shards = c.begin_dc.ensures.well_shards;
      lent = lent;
      home = home_dc c.args.cluster.now n (g.F.Farm.stands c.args.farm.now) (g.F.Farm.stands c.loop-count.farm) (g.F.Farm.stands c.begin_dc.new.farm) (g.F.Farm.is_lent c.loop-count.farm) (g.F.Farm.is_lent c.begin_dc.new.farm)
          inv.lent lent c.begin_dc.ensures.others inv.home;
      start = λ x. c.begin_dc.ensures.start x ∙ inv.start x;
      later = later_still _ _ _ inv.later c.begin_dc.ensures.later;
      told = λ r same told. inv.told r same (c.begin_dc.ensures.grew r same place long told);
      gathered = λ r p same lends told.
          gathered_as _ r p (flat_map (nodes_of_dc c.args.cluster.now) (up_to n) ++ nodes_of_dc c.args.cluster.now (n + 1)) (flat_map (nodes_of_dc c.args.cluster.now) (up_to (n + 1))) _ _ _ _
          (with_next_dc c.args.cluster.now n)
          (c.in_ok-begin_dc.ensures.ok r p (flat_map (nodes_of_dc c.args.cluster.now) (up_to n)) same place long
          (lendable_still p r (g.F.Farm.stands c.args.farm.now) (g.F.Farm.stands c.loop-count.farm) (Coord (n + 1))
          (inv.home (Coord (n + 1)) (inv.lent (Coord (n + 1)) ∙ next_coord_free c.args.cluster.now n (n * c.args.cluster.now.shards)))
          (lends (Coord (n + 1)) (dc_of_world r c.args.cluster.now (n + 1) same dc)))
          (λ sh known.
          lendable_still p r (g.F.Farm.stands c.args.farm.now) (g.F.Farm.stands c.loop-count.farm) (ShardServer (n + 1) sh)
          (inv.home (ShardServer (n + 1) sh) (inv.lent (ShardServer (n + 1) sh) ∙ next_server_free c.args.cluster.now n sh))
          (lends (ShardServer (n + 1) sh) (of_world r c.args.cluster.now (n + 1) sh same dc known)))
          (inv.gathered r p same lends (c.begin_dc.ensures.grew r same place long told)) told.of_coords told.of_shards);
    }

pub returns-in_err-begin_dc-clause-lent : goal.returns-in_err-begin_dc-clause-lent
returns-in_err-begin_dc-clause-lent g c =
    let inv = c.loop-count.invariant in
    lent_after c.args.cluster.now (g.F.Farm.is_lent c.loop-count.farm) (g.F.Farm.is_lent c.begin_dc.new.farm) c.loop-count.count (length c.loop-count.all.coords.items) (length c.loop-count.all.shards.items)
    (length c.begin_dc.new.all.coords.items) (length c.begin_dc.new.all.shards.items) inv.coords inv.shards inv.lent c.begin_dc.ensures.lent c.begin_dc.ensures.many c.begin_dc.ensures.few
    c.begin_dc.ensures.lent_shards c.begin_dc.ensures.many_shards c.begin_dc.ensures.few_shards c.begin_dc.ensures.others_lent

pub returns-in_err-begin_dc-clause-grew : goal.returns-in_err-begin_dc-clause-grew
returns-in_err-begin_dc-clause-grew g c =
    λ r same told.
    c.loop-count.invariant.told r same
    (c.begin_dc.ensures.grew r same (next_coord (length c.loop-count.all.coords.items) c.loop-count.count c.loop-count.invariant.coords)
    (next_servers (length c.loop-count.all.shards.items) c.loop-count.count c.args.cluster.now.shards c.loop-count.invariant.shards) told)

pub returns-in_err-begin_dc-clause-on : goal.returns-in_err-begin_dc-clause-on
returns-in_err-begin_dc-clause-on g c =
    λ x free on.
    let n = c.loop-count.count in
    let inv = c.loop-count.invariant in
    let lent = lent_after c.args.cluster.now (g.F.Farm.is_lent c.loop-count.farm) (g.F.Farm.is_lent c.begin_dc.new.farm) n (length c.loop-count.all.coords.items) (length c.loop-count.all.shards.items)
    (length c.begin_dc.new.all.coords.items) (length c.begin_dc.new.all.shards.items) inv.coords inv.shards inv.lent c.begin_dc.ensures.lent c.begin_dc.ensures.many c.begin_dc.ensures.few
    c.begin_dc.ensures.lent_shards c.begin_dc.ensures.many_shards c.begin_dc.ensures.few_shards c.begin_dc.ensures.others_lent in
    let free_before = inv.lent x ∙ fewer_before c.args.cluster.now n _ _ _ _ inv.coords inv.shards c.begin_dc.ensures.many c.begin_dc.ensures.many_shards x (sym (lent x) ∙ free) in
    c.begin_dc.ensures.on x free (ap (λ (s : Standing). s.power) (inv.home x free_before) ∙ on)

pub returns-in_err-begin_dc-clause-others : goal.returns-in_err-begin_dc-clause-others
returns-in_err-begin_dc-clause-others g c =
    λ x out.
    let n = c.loop-count.count in
    let inv = c.loop-count.invariant in
    let few : n < c.args.cluster.now.dcs = omega arith in
    let dc = next_dc c.args.cluster.now n few in
    c.begin_dc.ensures.others x (not_the_same c.args.cluster.now x (Coord (n + 1)) out dc)
    (λ sh known. not_the_same c.args.cluster.now x (ShardServer (n + 1) sh) out (server_of_world c.args.cluster.now (n + 1) sh dc known))
    ∙ inv.home x (inv.lent x ∙ none_outside c.args.cluster.now n (n * c.args.cluster.now.shards) (omega arith) (more_places n c.args.cluster.now.dcs c.args.cluster.now.shards (omega arith)) x out)

pub returns-in_err-begin_dc-clause-err : goal.returns-in_err-begin_dc-clause-err
returns-in_err-begin_dc-clause-err g c =
    λ r p same lends told.
    let n = c.loop-count.count in
    let inv = c.loop-count.invariant in
    let few : n < c.args.cluster.now.dcs = omega arith in
    let dc = next_dc c.args.cluster.now n few in
    let place = next_coord (length c.loop-count.all.coords.items) n inv.coords in
    let long = next_servers (length c.loop-count.all.shards.items) n c.args.cluster.now.shards inv.shards in
    let why = c.in_err-begin_dc.ensures.err r p (flat_map (nodes_of_dc c.args.cluster.now) (up_to n)) same place long
    (lendable_still p r (g.F.Farm.stands c.args.farm.now) (g.F.Farm.stands c.loop-count.farm) (Coord (n + 1))
    (inv.home (Coord (n + 1)) (inv.lent (Coord (n + 1)) ∙ next_coord_free c.args.cluster.now n (n * c.args.cluster.now.shards)))
    (lends (Coord (n + 1)) (dc_of_world r c.args.cluster.now (n + 1) same dc)))
    (λ sh known.
    lendable_still p r (g.F.Farm.stands c.args.farm.now) (g.F.Farm.stands c.loop-count.farm) (ShardServer (n + 1) sh)
    (inv.home (ShardServer (n + 1) sh) (inv.lent (ShardServer (n + 1) sh) ∙ next_server_free c.args.cluster.now n sh))
    (lends (ShardServer (n + 1) sh) (of_world r c.args.cluster.now (n + 1) sh same dc known)))
    (inv.gathered r p same lends (c.begin_dc.ensures.grew r same place long told)) told in
    given_on (λ w. BeginRefused (g.F.Farm.faults c.args.farm.now) (g.F.Farm.faults c.begin_dc.new.farm) (begins_all p r.cluster (nodes_of r.cluster)) w)
    c.from_residual.result c.in_err-begin_dc.field-0.0 c.from_residual.ensures.1
    (all_refused p r c.args.cluster.now (g.F.Farm.faults c.args.farm.now) (g.F.Farm.faults c.loop-count.farm) (g.F.Farm.faults c.begin_dc.new.farm) same inv.later n few c.in_err-begin_dc.field-0.0 why)

pub returns-clause-ok : goal.returns-clause-ok
returns-clause-ok g c =
    λ r p same lends told.
    let done : c.loop-count.count ≡ c.args.cluster.now.dcs = omega arith in
    gathered_as _ r p (flat_map (nodes_of_dc c.args.cluster.now) (up_to c.loop-count.count)) (nodes_of c.args.cluster.now) _ _ _ _
    (ap (λ (k : ℕ). flat_map (nodes_of_dc c.args.cluster.now) (up_to k)) done)
    (c.loop-count.invariant.gathered r p same lends told)

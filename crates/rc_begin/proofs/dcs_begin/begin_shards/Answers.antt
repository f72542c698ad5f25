use Rattle.std.proofs.Common.{◌≡◌, ℕ, ◌+◌, ◌-◌, ◌*◌, ◌<◌, ◌++◌, length, ap, ◌∙◌, arith}
use Rattle.rc_ids.specs.declared.names.NodeId.TheVariants.{Shard as ShardServer}
use Rattle.rc_disk.specs.Places.{Standing}
use Rattle.rc_runs.specs.Stored.{begins_all}
use Rattle.rc_begin.specs.Hosts.{Runs}
use Rattle.rc_begin.specs.Beginnings.{BeginRefused}
use Rattle.rc_begin.specs.Gatherings.{are_lent, servers}
use Rattle.rc_begin.proofs.Serving.{lent_more, still_free, later_stands, front_stays, all_in_front, next_known, starts_still, one_serves, all_serve}
use Rattle.rc_begin.proofs.Refusing.{given_on}
use Rattle.rc_begin.proofs.Homes.{home_still, on_still, later_still, next_place, of_world, server_refused}
use Rattle.rc_begin.proofs.dcs_begin.begin_shards.Goals as goal

pub returns-in_err-begin_shard-clause-lent : goal.returns-in_err-begin_shard-clause-lent
returns-in_err-begin_shard-clause-lent g c =
    λ sh.
    let now : ℕ = length c.begin_shard.new.all.shards.items in
    let was : ℕ = length c.args.all.now.shards.items in
    let kept : now ≡ was + c.loop-count.count = ap length c.in_err-begin_shard.ensures.kept ∙ c.loop-count.invariant.more in
    let count : c.loop-count.count ≡ now - was = omega (arith, kept) in
    still_free (g.F.Farm.is_lent c.loop-count.farm) (g.F.Farm.is_lent c.begin_shard.new.farm) c.args.dc c.loop-count.count c.loop-count.invariant.lent
    c.in_err-begin_shard.ensures.not_lent c.begin_shard.ensures.others_lent sh
    ∙ ap (λ (k : ℕ). are_lent k sh) count

pub loop-count-preserved : goal.loop-count-preserved
loop-count-preserved g c =
    let n = c.loop-count.count in
    let inv = c.loop-count.invariant in
    let few : n < c.args.cluster.now.shards = omega arith in
    let known = next_known c.args.cluster.now n few in
    let name_of = λ (r : Runs) (same : r.cluster ≡ c.args.cluster.now) (long : length c.args.all.now.shards.items ≡ (c.args.dc - 1) * c.args.cluster.now.shards).
    next_place r c.args.cluster.now c.args.dc n (length c.args.all.now.shards.items) (length c.loop-count.all.shards.items) same c.requires.dc few inv.more long in
    record {
      lent = lent_more (g.F.Farm.is_lent c.loop-count.farm) (g.F.Farm.is_lent c.begin_shard.new.farm) c.args.dc n inv.lent c.in_ok-begin_shard.ensures.lent c.begin_shard.ensures.others_lent;
      stands = later_stands (g.F.Farm.stands c.args.farm.now) (g.F.Farm.stands c.loop-count.farm) (g.F.Farm.stands c.begin_shard.new.farm) c.args.dc n inv.stands c.begin_shard.ensures.others;
      home = home_still (g.F.Farm.stands c.args.farm.now) (g.F.Farm.stands c.loop-count.farm) (g.F.Farm.stands c.begin_shard.new.farm) (g.F.Farm.is_lent c.loop-count.farm) (g.F.Farm.is_lent c.begin_shard.new.farm)
          (ShardServer c.args.dc (n + 1)) c.in_ok-begin_shard.ensures.lent c.begin_shard.ensures.others_lent c.begin_shard.ensures.others inv.home;
      later = later_still _ _ _ inv.later c.begin_shard.ensures.later;
      told = λ r same long told. inv.told r same long (c.begin_shard.ensures.grew r same (name_of r same long) told);
      rest = c.begin_shard.ensures.rest ∙ inv.rest;
      rest_logs = c.begin_shard.ensures.rest_logs ∙ inv.rest_logs;
      more = c.in_ok-begin_shard.ensures.more ∙ ap (λ (k : ℕ). k + 1) inv.more ∙ omega arith;
      front = front_stays c.args.all.now.shards.items c.loop-count.all.shards.items c.begin_shard.new.all.shards.items n inv.more inv.front c.in_ok-begin_shard.ensures.front;
      well = c.begin_shard.ensures.well;
      others_lent = λ m ne. c.begin_shard.ensures.others_lent m (ne (n + 1)) ∙ inv.others_lent m ne;
      others = λ m ne. c.begin_shard.ensures.others m (ne (n + 1) known) ∙ inv.others m ne;
      start = λ m. c.begin_shard.ensures.start m ∙ inv.start m;
      gathered = λ r p nodes same long lendable are told.
          let here = lendable (n + 1) known in
          one_serves _ r p nodes c.args.dc n _ _ _ _
          (c.in_ok-begin_shard.ensures.ok r p (nodes ++ servers c.args.dc n) same (name_of r same long) here.lends
          (starts_still p r (g.F.Farm.stands c.args.farm.now) (g.F.Farm.stands c.loop-count.farm) (ShardServer c.args.dc (n + 1)) (inv.stands (n + 1) (omega arith)) here)
          (inv.gathered r p nodes same long lendable are (all_in_front _ c.loop-count.all.shards.items c.begin_shard.new.all.shards.items c.in_ok-begin_shard.ensures.front told))
          told);
    }

pub returns-clause-ok : goal.returns-clause-ok
returns-clause-ok g c =
    λ r p nodes same long lendable are told.
    let done : c.loop-count.count ≡ c.args.cluster.now.shards = omega arith in
    all_serve _ r p nodes c.args.dc c.loop-count.count _ _ _ _ c.args.cluster.now.shards done (c.loop-count.invariant.gathered r p nodes same long lendable are told)

pub returns-in_err-begin_shard-clause-err : goal.returns-in_err-begin_shard-clause-err
returns-in_err-begin_shard-clause-err g c =
    λ r p nodes same long lendable are told.
    let n = c.loop-count.count in
    let inv = c.loop-count.invariant in
    let few : n < c.args.cluster.now.shards = omega arith in
    let known = next_known c.args.cluster.now n few in
    let name = next_place r c.args.cluster.now c.args.dc n (length c.args.all.now.shards.items) (length c.loop-count.all.shards.items) same c.requires.dc few inv.more long in
    let here = lendable (n + 1) known in
    let before = c.begin_shard.ensures.grew r same name told in
    let begun = inv.gathered r p nodes same long lendable are before.of_shards in
    let why = c.in_err-begin_shard.ensures.err r p same here.lends
    (starts_still p r (g.F.Farm.stands c.args.farm.now) (g.F.Farm.stands c.loop-count.farm) (ShardServer c.args.dc (n + 1)) (inv.stands (n + 1) (omega arith)) here)
    (told.home (ShardServer c.args.dc (n + 1)) (of_world r c.args.cluster.now c.args.dc (n + 1) same c.requires.dc known) c.in_err-begin_shard.ensures.not_lent) in
    given_on (λ w. BeginRefused (g.F.Farm.faults c.args.farm.now) (g.F.Farm.faults c.begin_shard.new.farm) (begins_all p r.cluster (nodes ++ servers c.args.dc c.args.cluster.now.shards)) w)
    c.from_residual.result c.in_err-begin_shard.field-0.0 c.from_residual.ensures.1
    (server_refused p r.cluster (g.F.Farm.faults c.args.farm.now) (g.F.Farm.faults c.loop-count.farm) (g.F.Farm.faults c.begin_shard.new.farm) inv.later nodes c.args.dc n c.args.cluster.now.shards few begun.begun begun.is c.in_err-begin_shard.field-0.0 why)

pub returns-in_err-begin_shard-clause-grew : goal.returns-in_err-begin_shard-clause-grew
returns-in_err-begin_shard-clause-grew g c =
    λ r same long told.
    let n = c.loop-count.count in
    let inv = c.loop-count.invariant in
    let few : n < c.args.cluster.now.shards = omega arith in
    let name = next_place r c.args.cluster.now c.args.dc n (length c.args.all.now.shards.items) (length c.loop-count.all.shards.items) same c.requires.dc few inv.more long in
    inv.told r same long (c.begin_shard.ensures.grew r same name told)

pub returns-in_err-begin_shard-clause-on : goal.returns-in_err-begin_shard-clause-on
returns-in_err-begin_shard-clause-on g c =
    on_still (g.F.Farm.stands c.args.farm.now) (g.F.Farm.stands c.loop-count.farm) (g.F.Farm.stands c.begin_shard.new.farm) (g.F.Farm.is_lent c.loop-count.farm) (g.F.Farm.is_lent c.begin_shard.new.farm)
    (ShardServer c.args.dc (c.loop-count.count + 1)) c.begin_shard.ensures.others_lent c.begin_shard.ensures.others c.loop-count.invariant.home
    (c.loop-count.invariant.stands (c.loop-count.count + 1) (omega arith)) c.in_err-begin_shard.ensures.on

pub returns-in_err-begin_shard-clause-others : goal.returns-in_err-begin_shard-clause-others
returns-in_err-begin_shard-clause-others g c =
    λ m ne.
    let few : c.loop-count.count < c.args.cluster.now.shards = omega arith in
    c.begin_shard.ensures.others m (ne (c.loop-count.count + 1) (next_known c.args.cluster.now c.loop-count.count few)) ∙ c.loop-count.invariant.others m ne

pub returns-in_err-begin_shard-clause-later : goal.returns-in_err-begin_shard-clause-later
returns-in_err-begin_shard-clause-later g c = later_still _ _ _ c.loop-count.invariant.later c.begin_shard.ensures.later

pub returns-clause-on : goal.returns-clause-on
returns-clause-on g c = λ n free on. ap (λ (s : Standing). s.power) (c.loop-count.invariant.home n free) ∙ on

use Rattle.std.proofs.Common.{refl}
use Rattle.std.proofs.lemmas.Result.{on_ok_weaker}
use Rattle.rc_ids.specs.declared.names.NodeId.TheVariants.{Shard as ShardServer}
use Rattle.rc_begin.specs.Hosts.{run_at}
use Rattle.rc_begin.proofs.BehindMore.{shard_more}
use Rattle.rc_begin.proofs.Telling.{shard_told}
use Rattle.rc_begin.proofs.nodes_begin.begin_shard.Goals as goal

pub returns-clause-ok : goal.returns-clause-ok
returns-clause-ok g c =
    λ r p nodes same here lends start are told.
    on_ok_weaker c.begin_next.result
    (λ next. shard_more _ r p nodes _ _ _ _ are c.begin_next.new.hosts.items c.begin_next.new.logs.items c.args.dc c.args.shard here next told)
    (c.begin_next.ensures.ok (run_at r (ShardServer c.args.dc c.args.shard)) p refl same lends start)

pub returns-clause-err : goal.returns-clause-err
returns-clause-err g c = λ r p same lends start. c.begin_next.ensures.err (run_at r (ShardServer c.args.dc c.args.shard)) p refl same lends start

pub returns-clause-grew : goal.returns-clause-grew
returns-clause-grew g c = λ r same place told.
    shard_told r (g.F.Farm.is_lent c.args.farm.now) (g.F.Farm.is_lent c.begin_next.new.farm) (g.F.Farm.stands c.args.farm.now) (g.F.Farm.stands c.begin_next.new.farm) (ShardServer c.args.dc c.args.shard)
    c.begin_next.ensures.others_lent c.begin_next.ensures.others _ c.begin_next.result c.args.all.now.coords.items c.args.all.now.coords.items c.args.all.now.shards.items c.begin_next.new.hosts.items place
    c.begin_next.ensures.grew c.begin_next.ensures.grew_err c.begin_next.ensures.more c.begin_next.ensures.front c.begin_next.ensures.kept c.begin_next.ensures.not_lent refl told

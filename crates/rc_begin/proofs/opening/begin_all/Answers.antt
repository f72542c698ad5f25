use Rattle.std.proofs.Common.{ℕ, sym, subst}
use Rattle.rc_runs.specs.Stored.{begins_all, nodes_of}
use Rattle.rc_begin.specs.Beginnings.{BeginRefused}
use Rattle.rc_begin.proofs.Returned.{all_lent, told_all}
use Rattle.rc_begin.proofs.opening.begin_all.Goals as goal

pub returns-in-Ok-clause-lent : goal.returns-in-Ok-clause-lent
returns-in-Ok-clause-lent g c = all_lent c.args.cluster.now (g.F.Farm.is_lent c.begin_dcs.new.farm) _ _ c.in-Ok.ensures.coords c.in-Ok.ensures.shards c.begin_dcs.ensures.lent

pub returns-in-Ok-clause-ok : goal.returns-in-Ok-clause-ok
returns-in-Ok-clause-ok g c = λ r p same lend coords_told shards_told.
    c.in-Ok.ensures.ok r p same lend (told_all c.args.cluster.now (g.F.Farm.is_lent c.begin_dcs.new.farm) _ _ c.in-Ok.ensures.coords c.in-Ok.ensures.shards c.begin_dcs.ensures.lent _ _ _ _ r same coords_told shards_told)

pub returns-in-Ok-clause-grew : goal.returns-in-Ok-clause-grew
returns-in-Ok-clause-grew g c = λ r same coords_told shards_told.
    c.begin_dcs.ensures.grew r same (told_all c.args.cluster.now (g.F.Farm.is_lent c.begin_dcs.new.farm) _ _ c.in-Ok.ensures.coords c.in-Ok.ensures.shards c.begin_dcs.ensures.lent _ _ _ _ r same coords_told shards_told)

pub returns-in-Err-clause-err : goal.returns-in-Err-clause-err
returns-in-Err-clause-err g c = λ r p same lend kept.
    subst (λ (n : ℕ). BeginRefused (g.F.Farm.faults c.args.farm.now) n (begins_all p r.cluster (nodes_of r.cluster)) c.in-Err.fault) (sym c.give_all_back.ensures.faults)
    (c.in-Err.ensures.err r p same lend (c.give_all_back.ensures.told r same kept))

pub returns-in-Err-clause-grew_err : goal.returns-in-Err-clause-grew_err
returns-in-Err-clause-grew_err g c = λ r same kept. c.begin_dcs.ensures.grew r same (c.give_all_back.ensures.told r same kept)

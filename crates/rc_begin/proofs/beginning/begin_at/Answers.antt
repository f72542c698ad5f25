use Rattle.rc_begin.proofs.StartFacts.{begin_refused}
use Rattle.rc_begin.proofs.beginning.begin_at.Goals as goal

pub returns-in-Err-begin-clause-err : goal.returns-in-Err-begin-clause-err
returns-in-Err-begin-clause-err g c =
    begin_refused _ _ _ (g.F.Farm.stands c.args.farm.now) (g.F.Farm.stands c.back.new.self) (g.F.Farm.faults c.args.farm.now) (g.F.Farm.faults c.back.new.self)
    c.args.node c.args.cluster.now c.in-Ok.disk c.in-Err-begin.disk _ _ _ _ c.in-Err-begin.fault c.begin_fault.result
    c.in-Ok.ensures.disk c.back.ensures.disk c.in-Err-begin.ensures.err c.begin_fault.ensures (g.met.F.D.Disk.told_content c.in-Ok.disk)

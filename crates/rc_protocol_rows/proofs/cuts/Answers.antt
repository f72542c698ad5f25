use Rattle.rc_protocol_rows.proofs.CutRuns.{cut-1, cut-2, cut-3, cut-4}
use Rattle.rc_protocol_rows.proofs.cuts.Goals as goal

pub returns : goal.returns
returns c = record { first = cut-1; second = cut-2; third = cut-3; fourth = cut-4 }

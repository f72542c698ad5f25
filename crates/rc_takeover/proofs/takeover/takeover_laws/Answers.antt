use Rattle.rc_takeover.proofs.RowFacts.{is_take_over, told}
use Rattle.rc_takeover.proofs.takeover.takeover_laws.Goals as goal

pub returns : goal.returns
returns c = record {
  kept = is_take_over;
  told = told;
}

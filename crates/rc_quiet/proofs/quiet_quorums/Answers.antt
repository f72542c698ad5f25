use Rattle.rc_quiet.proofs.FirstLaw as laws
use Rattle.rc_quiet.proofs.quiet_quorums.Goals as goal

pub returns-clause-few : goal.returns-clause-few
returns-clause-few c = laws.few_are_needed

pub returns-clause-commits : goal.returns-clause-commits
returns-clause-commits c = laws.delivered_commits

pub returns-clause-printed : goal.returns-clause-printed
returns-clause-printed c = laws.delivered_prints

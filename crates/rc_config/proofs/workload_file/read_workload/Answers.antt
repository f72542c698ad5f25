use Rattle.std.proofs.Common.{sym, ◌∙◌}
use Rattle.toml.specs.View.{table_view}
use Rattle.rc_config.proofs.SoundFacts.{workload_fits}
use Rattle.rc_config.proofs.workload_file.read_workload.Goals as goal

pub returns-in-Some-clause-sound : goal.returns-in-Some-clause-sound
returns-in-Some-clause-sound c = workload_fits (table_view c.in_ok-table.table) c.in-Some.workload (sym c.in_ok-workload.ensures ∙ c.in-Some.is)

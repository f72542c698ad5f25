-- What a client keeps, as the step table's state.
use Rattle.std.specs.Prelude.{ℕ, List, [], Option, Some, None}
use Rattle.std.specs.Option.{option_map}
use Rattle.rc_ids.specs.Tables.{Table, maybe}
use Rattle.rc_msg.specs.Outboxes.{Outbox}
use Rattle.rc_report.specs.declared.line.Line.{Line}
use Rattle.rc_protocol.specs.Coordinator.{Standing}
use Rattle.rc_protocol.specs.Client.{Client}
use Rattle.rc_ballots.specs.Tallies.{Tally}
use Rattle.rc_client.specs.declared.progress.Progress.{Progress}
use Rattle.rc_client.specs.Phases.{phase_of}
use Rattle.rc_client.specs.Acts.{Core, Site}

-- the votes of a tally, if one came
abbrev pub votes_of : Option Tally → Table ℕ Standing
votes_of tally = maybe tally [] (λ t. t.votes)

abbrev pub weights_of : Option Tally → Option (List ℕ)
weights_of tally = option_map (λ t. t.quorum) tally

abbrev pub client_of : Progress → Client
client_of p = record { phase = phase_of p.phase; slots = p.slots; refusals = p.refusals; votes = votes_of p.votes; outcome = p.outcome }

abbrev pub core_of : Progress → Core
core_of p = record { tx = p.tx; client = client_of p; weights = weights_of p.votes }

abbrev pub site_of : Progress → Outbox → List Line → Site
site_of p out lines = record { core = core_of p; out = out; lines = lines }

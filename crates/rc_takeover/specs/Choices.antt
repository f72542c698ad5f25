-- What a take-over chooses by the datacentres that it heard, and what it then proposes.
use Rattle.std.specs.Prelude.{ℕ, Bool, List, Option, None, Some, if◌then◌else◌}
use Rattle.std.specs.List.{list_all}
use Rattle.std.specs.Ordering.{nat_cmp}
use Rattle.rc_ids.specs.Tables.{member, up_to}
use Rattle.rc_ids.specs.Cluster.{holds}
use Rattle.rc_body.specs.declared.decision.Decision.{Decision}
use Rattle.rc_body.specs.declared.decision.Decision.TheVariants.{Abort}
use Rattle.rc_protocol.specs.Coordinator.{best_or_abort}
use Rattle.rc_takeover.specs.declared.choice.Choice.{Choice}
use Rattle.rc_takeover.specs.declared.choice.Choice.TheVariants.{Nothing, Best}

-- all datacentres are members
abbrev pub has_all_dcs : ℕ → List ℕ → Bool
has_all_dcs dcs set = list_all (member nat_cmp set) (up_to dcs)

-- an eager one takes the best report once a quorum is heard
abbrev pub eager_choice : List ℕ → List ℕ → Option Choice
eager_choice weights heard = if holds weights heard then Some Best else None

-- a patient one takes nothing once a quorum reported nothing, and the best report once all are heard
abbrev pub patient_choice : ℕ → List ℕ → List ℕ → List ℕ → Option Choice
patient_choice dcs weights heard silent = if holds weights silent then Some Nothing else (if has_all_dcs dcs heard then Some Best else None)

abbrev pub choice : ℕ → List ℕ → Bool → List ℕ → List ℕ → Option Choice
choice dcs weights is_eager heard silent = if is_eager then eager_choice weights heard else patient_choice dcs weights heard silent

-- the decision of the report that is taken, and abort where none is
abbrev pub proposal : Choice → Option (ℕ × Decision) → Decision
proposal Nothing best = Abort
proposal Best best = best_or_abort best

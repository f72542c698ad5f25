-- The phases of the code as those of the protocol.
use Rattle.rc_protocol.specs.Client.{Phase as PhaseState, Open as IsOpen, Committing as IsCommitting, Proposed as IsProposed, Done as IsDone, Vanished as IsVanished}
use Rattle.rc_client.specs.declared.phase.Phase.{Phase}
use Rattle.rc_client.specs.declared.phase.Phase.TheVariants.{Open, Committing, Proposed, Done, Vanished}

abbrev pub phase_of : Phase → PhaseState
phase_of Open = IsOpen
phase_of Committing = IsCommitting
phase_of Proposed = IsProposed
phase_of Done = IsDone
phase_of Vanished = IsVanished

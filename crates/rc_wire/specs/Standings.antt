-- Where a party stands after its own entries.
use Rattle.std.specs.Prelude.{ℕ, zero, suc, ◌+◌, Bool, true, false, ◌&&◌, ◌||◌, not, List, [], ◌∷◌, map, if◌then◌else◌, Some, None, is_some}
use Rattle.std.specs.List.{list_all, list_any}
use Rattle.rc_ids.specs.declared.names.Party.{Party}
use Rattle.rc_wire.specs.declared.standing.Desk.{Desk}
use Rattle.rc_wire.specs.declared.standing.Standing.{Standing}
use Rattle.rc_wire.specs.declared.turn.Act.{Act}
use Rattle.rc_wire.specs.declared.turn.Act.TheVariants.{Took, Posted, Rested, Halted}
use Rattle.rc_wire.specs.declared.turn.StepEnd.{StepEnd}
use Rattle.rc_wire.specs.declared.turn.StepEnd.TheVariants.{Handled, Stopped, Restarted, Idle}
use Rattle.rc_wire.specs.declared.turn.Turn.{Turn}
use Rattle.rc_ids.specs.Parties.{is_same_party}
use Rattle.rc_wire.specs.Parties.{is_client}

abbrev pub turn : Party → Act → Turn
turn party act = record { party = party; act = act }

-- the entries of a party, in order
abbrev pub by : Party → List Turn → List Turn
by party [] = []
by party (t ∷ ts) = if is_same_party t.party party then t ∷ by party ts else by party ts

-- before its first entry a party has no step open, and neither waits nor has ended
abbrev pub at_first : Standing
at_first = record { unanswered = None; stopped = false; waiting = false; ended = false; halted = false }

-- a party is stopped from its post Stopped to its post Restarted
abbrev pub stopped_by : StepEnd → Bool → Bool
stopped_by Handled stopped = stopped
stopped_by Stopped stopped = true
stopped_by (Restarted kept) stopped = false
stopped_by Idle stopped = stopped

-- a take opens a step and a post ends it, and both end the waiting
abbrev pub after : Standing → Act → Standing
after s (Took number) = record { unanswered = Some number; stopped = s.stopped; waiting = false; ended = s.ended; halted = s.halted }
after s (Posted end sends) = record { unanswered = None; stopped = stopped_by end s.stopped; waiting = false; ended = s.ended; halted = s.halted }
after s (Rested true) = record { unanswered = s.unanswered; stopped = s.stopped; waiting = s.waiting; ended = true; halted = s.halted }
after s (Rested false) = record { unanswered = s.unanswered; stopped = s.stopped; waiting = true; ended = s.ended; halted = s.halted }
after s (Halted cause) = record { unanswered = s.unanswered; stopped = s.stopped; waiting = s.waiting; ended = s.ended; halted = true }

abbrev pub after_all : Standing → List Turn → Standing
after_all s [] = s
after_all s (t ∷ ts) = after_all (after s t.act) ts

-- where a party stands after its own entries
abbrev pub standing : List Turn → Standing
standing mine = after_all at_first mine

abbrev pub desk : List Turn → Party → Desk
desk turns party = record { party = party; standing = standing (by party turns) }

-- where each party stands after a history
abbrev pub desks_of : List Party → List Turn → List Desk
desks_of parties turns = map (desk turns) parties

abbrev pub parties_of : List Desk → List Party
parties_of desks = map (λ (d : Desk). d.party) desks

-- what the party at a place does, and where it stands then
abbrev pub done : Act → Desk → Desk
done act d = record { party = d.party; standing = after d.standing act }

abbrev pub stood : List Desk → ℕ → Act → List Desk
stood [] place act = []
stood (d ∷ ds) zero act = done act d ∷ ds
stood (d ∷ ds) (suc place) act = d ∷ stood ds place act

-- the entry that says so
abbrev pub noted : List Desk → ℕ → Act → List Turn
noted [] place act = []
noted (d ∷ ds) zero act = turn d.party act ∷ []
noted (d ∷ ds) (suc place) act = noted ds place act

-- no step is open, the party is not stopped, and a client waits or has ended
abbrev pub is_still : Desk → Bool
is_still d = not (is_some d.standing.unanswered) && not d.standing.stopped && (not (is_client d.party) || d.standing.waiting || d.standing.ended)

abbrev pub all_still : List Desk → Bool
all_still desks = list_all is_still desks

-- a party has halted
abbrev pub is_halted : List Desk → Bool
is_halted desks = list_any (λ (d : Desk). d.standing.halted) desks

-- how many entries that take no memory a party may make before its next take or post
abbrev pub left : Standing → ℕ
left s = (if s.ended then 0 else if s.waiting then 1 else 2) + (if s.halted then 0 else 1)

-- a command begins where no step is open, and the client neither waits nor has ended
abbrev pub may_end : Party → Standing → StepEnd → Bool
may_end party s Handled = is_some s.unanswered
may_end party s Stopped = is_some s.unanswered
may_end party s (Restarted kept) = is_some s.unanswered || s.stopped
may_end party s Idle = is_client party && not (is_some s.unanswered) && not s.waiting && not s.ended

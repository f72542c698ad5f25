-- The composed history: the happenings of the run that the history of a wire comes to. Each post is one event, which stands where the post
-- stands. Takes, rests and halts are no events.
use Rattle.std.specs.Prelude.{ℕ, zero, suc, Bool, false, List, [], ◌∷◌, ◌++◌, map, Option, Some, None, slice_get}
use Rattle.std.specs.Ordering.{nat_cmp}
use Rattle.rc_ids.specs.Tables.{added, maybe}
use Rattle.rc_ids.specs.declared.names.Party.{Party}
use Rattle.rc_ids.specs.declared.names.Party.TheVariants.{Node, Client}
use Rattle.rc_runs.specs.declared.event.Event.{Event}
use Rattle.rc_runs.specs.declared.event.Event.TheVariants.{Begin, Deliver, Restart}
use Rattle.rc_runs.specs.declared.event.Event.TheVariants as events
use Rattle.rc_runs.specs.World.{Course, Goes, Stops}
use Rattle.rc_runs.specs.Refusals.{Happening}
use Rattle.rc_wire.specs.declared.turn.Act.{Act}
use Rattle.rc_wire.specs.declared.turn.Act.TheVariants.{Posted}
use Rattle.rc_wire.specs.declared.turn.StepEnd.{StepEnd}
use Rattle.rc_wire.specs.declared.turn.StepEnd.TheVariants.{Handled, Stopped, Restarted, Idle}
use Rattle.rc_wire.specs.declared.turn.Turn.{Turn}
use Rattle.rc_wire.specs.Standings.{by, standing}
use Rattle.rc_composition.specs.declared.command.Command.{Command}
use Rattle.rc_composition.specs.declared.command.Command.TheVariants.{Read, Write, Cancel, Commit, Vanish}

-- the named operations of each client, by its number
abbrev pub Operations : Type 0
Operations = ℕ → List Command

-- an operation of a client, as an event
abbrev pub event_by : ℕ → Command → Event
event_by t (Read k) = events.Read t k
event_by t (Write k value) = events.Write t k value
event_by t (Cancel k) = events.Cancel t k
event_by t Commit = events.Commit t
event_by t Vanish = events.Vanish t

-- WHAT A PARTY'S OWN ENTRIES SAY
-- how many commands a client did
abbrev pub commands_in : List Turn → ℕ
commands_in [] = zero
commands_in (t ∷ ts) = count t.act (commands_in ts)
  where
    count : Act → ℕ → ℕ
    count (Posted Idle sends) n = suc n
    count _ n = n

-- what a restart says of the record of the step that stopped
abbrev pub restart_in : Act → Option Bool
restart_in (Posted (Restarted kept) sends) = Some kept
restart_in _ = None

-- the record is kept exactly where the next restart says so
abbrev pub is_kept : List Turn → Bool
is_kept [] = false
is_kept (t ∷ ts) = maybe (restart_in t.act) (is_kept ts) (λ kept. kept)

-- A POST AS AN EVENT, by the party's own entries before it and after it
abbrev pub delivery : Option ℕ → Course → Option Happening
delivery number course = maybe number None (λ n. Some (Deliver n, course))

abbrev pub restart_of : Party → Option Happening
restart_of (Node node) = Some (Restart node, Goes)
restart_of (Client t) = None

abbrev pub command_of : ℕ → Option Command → Option Happening
command_of t command = maybe command None (λ k. Some (event_by t k, Goes))

-- the operation of a client after so many
abbrev pub operation : Operations → Party → ℕ → Option Happening
operation ops (Node node) count = None
operation ops (Client t) count = command_of t (slice_get (ops t) count)

-- the delivery of the message that was taken, a stop inside it, a restart, or the client's next operation
abbrev pub event_of_post : Operations → Party → List Turn → StepEnd → List Turn → Option Happening
event_of_post ops p earlier Handled later = delivery (standing earlier).unanswered Goes
event_of_post ops p earlier Stopped later = delivery (standing earlier).unanswered (Stops (is_kept later))
event_of_post ops p earlier (Restarted kept) later = restart_of p
event_of_post ops p earlier Idle later = operation ops p (commands_in earlier)

abbrev pub event_of : Operations → Party → List Turn → Act → List Turn → Option Happening
event_of ops p earlier (Posted end sends) later = event_of_post ops p earlier end later
event_of ops p earlier _ later = None

-- THE HISTORY
abbrev pub if_any : Option Happening → List Happening
if_any h = maybe h [] (λ x. x ∷ [])

-- what the entries come to that stand between these earlier and these later ones
abbrev pub events_between : Operations → List Turn → List Turn → List Turn → List Happening
events_between ops earlier [] later = []
events_between ops earlier (t ∷ ts) later =
    if_any (event_of ops t.party (by t.party earlier) t.act (by t.party (ts ++ later))) ++ events_between ops (earlier ++ t ∷ []) ts later

-- the numbers of the clients, in order
abbrev pub clients_of : List Party → List ℕ
clients_of [] = []
clients_of (Node node ∷ ps) = clients_of ps
clients_of (Client t ∷ ps) = added nat_cmp (clients_of ps) t

abbrev pub begins_of : List ℕ → List Happening
begins_of ts = map (λ t. (Begin t, Goes)) ts

-- a begin of each client, and then what these entries come to, where these later ones follow
abbrev pub composed_before : Operations → List Party → List Turn → List Turn → List Happening
composed_before ops parties front later = begins_of (clients_of parties) ++ events_between ops [] front later

abbrev pub composed : Operations → List Party → List Turn → List Happening
composed ops parties turns = composed_before ops parties turns []

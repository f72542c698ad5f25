-- What is refused: wrong names first, in the order of the words, then limits.
use Rattle.std.specs.Prelude.{ℕ, ◌+◌, ◌^◌, Bool, true, false, ◌&&◌, ◌||◌, List, [], ◌∷◌, ◌++◌, Option, Some, None, nat_lt, nat_le, ◌==◌, if◌then◌else◌, is_none, is_some, length}
use Rattle.std.specs.Ordering.{nat_cmp}
use Rattle.std.specs.List.{list_any}
use Rattle.rc_ids.specs.Tables.{found, member, maybe}
use Rattle.rc_ids.specs.declared.names.NodeId.{NodeId}
use Rattle.rc_ids.specs.declared.names.NodeId.TheVariants.{Coord}
use Rattle.rc_report.specs.declared.line.Line.{Line}
use Rattle.rc_report.specs.declared.fault.Wrong.{Wrong}
use Rattle.rc_report.specs.declared.fault.Wrong.TheVariants.{NotBegun, BegunTwice, Vanished, NotOpen, TooManyKeys, Down, Up, NotSent, NotPending}
use Rattle.rc_report.specs.declared.fault.Which.{Which}
use Rattle.rc_report.specs.declared.fault.Which.TheVariants.{Transactions, Events, Messages, MessageBytes, Version, Ballots}
use Rattle.rc_runs.specs.declared.event.Event.{Event}
use Rattle.rc_runs.specs.declared.event.Event.TheVariants.{Begin, Read, Write, Commit, Cancel, Retry, Vanish, Take, Catch, Deliver, Lose, Crash, CrashAt, Restart}
use Rattle.rc_protocol.specs.Messages.{or_else}
use Rattle.rc_protocol.specs.Client.{Client, ClientRefusal, NotOpen as IsNotOpen, TooManyKeys as HasTooManyKeys, KeyWornOut, is_vanished}
use Rattle.rc_protocol.specs.Acts.{ClientCause, Reads, Writes, Commits, Cancels, Retries, Vanishes, refusal}
use Rattle.rc_runs.specs.World.{World, Parties, Deed, ByClient, ByCoord, Course, is_up, message, envelopes, bytes_of, sends_of, actor, course_deed, step, printed}

-- WRONG NAMES
-- what the client refuses, as a wrong name; a version that is worn out is a limit
abbrev pub name_of : ℕ → ClientRefusal → Option Wrong
name_of t IsNotOpen = Some (NotOpen t)
name_of t HasTooManyKeys = Some (TooManyKeys t)
name_of t KeyWornOut = None

-- what is wrong with a command of a client: it is gone, or it refuses
abbrev pub wrong_of : ℕ → Client → ClientCause → Option Wrong
wrong_of t x cause = if is_vanished x.phase then Some (Vanished t) else maybe (refusal x cause) None (name_of t)

-- a transaction that the logs name has vanished; another one has to be begun
abbrev pub named_wrongly : Parties → ℕ → ClientCause → Option Wrong
named_wrongly w t cause =
    if member nat_cmp w.start.named t then Some (Vanished t)
    else maybe (found nat_cmp w.clients t) (Some (NotBegun t)) (λ x. wrong_of t x cause)

abbrev pub is_begun : Parties → ℕ → Bool
is_begun w t = member nat_cmp w.start.named t || is_some (found nat_cmp w.clients t)

abbrev pub wants_up : Parties → NodeId → Option Wrong
wants_up w node = if is_up w node then None else Some (Down node)

abbrev pub wrong_take : Parties → ℕ → ℕ → Option Wrong
wrong_take w d t = or_else (wants_up w (Coord d)) (if is_begun w t then None else Some (NotBegun t))

abbrev pub is_pending : List ℕ → ℕ → Bool
is_pending pending n = list_any (λ (k : ℕ). k == n) pending

abbrev pub wrong : World → Event → Option Wrong
wrong w (Begin t) = if is_begun w.parties t then Some (BegunTwice t) else None
wrong w (Read t k) = named_wrongly w.parties t (Reads k)
wrong w (Write t k value) = named_wrongly w.parties t (Writes k value)
wrong w (Commit t) = named_wrongly w.parties t Commits
wrong w (Cancel t k) = named_wrongly w.parties t (Cancels k)
wrong w (Retry t) = named_wrongly w.parties t Retries
wrong w (Vanish t) = named_wrongly w.parties t Vanishes
wrong w (Take d t) = wrong_take w.parties d t
wrong w (Catch node) = wants_up w.parties node
wrong w (Deliver n) = maybe (message w.sent n) (Some (NotSent n)) (λ e. None)
wrong w (Lose n) = maybe (message w.sent n) (Some (NotSent n)) (λ e. if is_pending w.pending n then None else Some (NotPending n))
wrong w (Crash node) = wants_up w.parties node
wrong w (CrashAt node k pick) = wants_up w.parties node
wrong w (Restart node) = if is_up w.parties node then Some (Up node) else None

-- LIMITS
abbrev pub most_transactions : ℕ
most_transactions = 1024

abbrev pub most_events : ℕ
most_events = 2000000

abbrev pub most_messages : ℕ
most_messages = 4000000

abbrev pub most_message_bytes : ℕ
most_message_bytes = 2 ^ 30

abbrev pub begins : Event → Bool
begins (Begin t) = true
begins _ = false

-- an act that does nothing because a version or the ballots are used up
abbrev pub limit_of : ClientRefusal → Option Which
limit_of KeyWornOut = Some Version
limit_of _ = None

abbrev pub worn_out : Deed → Option Which
worn_out (ByClient t act) = maybe act.refused None limit_of
worn_out (ByCoord d x act) = if act.spent then Some Ballots else None
worn_out _ = None

abbrev pub too_much_sent : World → Event → Deed → Option Which
too_much_sent w e d =
    if nat_lt most_messages (length w.sent + length (sends_of d)) then Some Messages
    else (if nat_lt most_message_bytes (w.bytes + bytes_of (envelopes (actor w.sent e) (sends_of d))) then Some MessageBytes else None)

-- an event whose act is worn out sends nothing, so of the other limits it meets that of events alone
abbrev pub limit : World → Event → Course → Option Which
limit w e course =
    if begins e && nat_le most_transactions (length w.parties.clients) then Some Transactions
    else (if nat_le most_events w.events then Some Events
    else or_else (worn_out (course_deed w e course)) (too_much_sent w e (course_deed w e course)))

-- A RUN: events one after another, each with the course of its append. What names something wrongly, and an act that is worn out, is no
-- event, and changes nothing
abbrev pub Happening : Type 0
Happening = Event × Course

abbrev pub is_event : World → Happening → Bool
is_event w h = is_none (wrong w h.0) && is_none (worn_out (course_deed w h.0 h.1))

abbrev pub after_event : World → Happening → World
after_event w h = if is_event w h then step w h.0 h.1 else w

abbrev pub run : World → List Happening → World
run w [] = w
run w (h ∷ hs) = run (after_event w h) hs

-- the lines that the run prints
abbrev pub lines_at : World → Happening → List Line
lines_at w h = if is_event w h then printed w h.0 h.1 else []

abbrev pub lines : World → List Happening → List Line
lines w [] = []
lines w (h ∷ hs) = lines_at w h ++ lines (after_event w h) hs

-- The lines of a script: what each does on a session, and what it prints.
use Rattle.std.specs.Prelude.{ℕ, zero, suc, ◌+◌, List, [], ◌∷◌, ◌++◌, Option, Some, None, Ok, Err}
use Rattle.std.specs.List.{flat_map}
use Rattle.rc_ids.specs.Tables.{maybe, up_to}
use Rattle.rc_ids.specs.Texts.{gone}
use Rattle.rc_ids.specs.declared.names.NodeId.TheVariants.{Shard as ShardServer}
use Rattle.rc_report.specs.declared.line.Line.{Line}
use Rattle.rc_report.specs.declared.line.Line.TheVariants.{Settled, Order as OrderLine, Pending as PendingLine}
use Rattle.rc_report.specs.declared.fault.Which.TheVariants.{Events}
use Rattle.rc_script.specs.declared.command.Command.{Command}
use Rattle.rc_script.specs.declared.command.Command.TheVariants as commands
use Rattle.rc_runs.specs.declared.event.Event.{Event}
use Rattle.rc_runs.specs.declared.event.Event.TheVariants.{Begin, Read, Write, Commit, Cancel, Retry, Vanish, Take, Catch, Deliver, Lose, Crash, CrashAt, Restart}
use Rattle.rc_protocol.specs.Shown.{row_lines}
use Rattle.rc_runs.specs.World.{World, Parties, message, order, shard_at}
use Rattle.rc_runs.specs.Refusals.{Happening, most_events}
use Rattle.rc_runs.specs.Session.{Session, Halt, Limited, Happened, disk_change, happens, prints}

-- what a line did: the session after it, its events with the courses that the disks gave them, the lines printed, and why it ends the
-- script, if it does
pub record LineDone : Type 0 where
  pub after : Session
  pub trace : List Happening
  pub lines : List Line
  pub halt : Option Halt

abbrev pub line_done : Session → List Happening → Happened → LineDone
line_done z trace (Ok went) = record { after = went.0; trace = trace; lines = went.1; halt = None }
line_done z trace (Err halt) = record { after = z; trace = []; lines = []; halt = Some halt }

-- what was done, and then the next
abbrev pub then_line : List Line → LineDone → LineDone
then_line lines next = record next { lines = lines ++ next.lines }

abbrev pub then_trace : List Happening → LineDone → LineDone
then_trace trace next = record next { trace = trace ++ next.trace }

-- what comes after it, where the script does not end there
abbrev pub unless_halted : LineDone → (Session → LineDone) → LineDone
unless_halted done next = maybe done.halt (then_trace done.trace (then_line done.lines (next done.after))) (λ halt. done)

abbrev pub by_event : Session → Event → LineDone
by_event z e = line_done z ((e, (disk_change z e).course) ∷ []) (happens z e)

abbrev pub by_lines : Session → List Line → LineDone
by_lines z lines = line_done z [] (prints z lines)

abbrev pub idle : Session → LineDone
idle z = record { after = z; trace = []; lines = []; halt = None }

-- DELIVERIES
-- the oldest pending message
abbrev pub oldest : World → Option ℕ
oldest w = first w.pending
  where
    first : List ℕ → Option ℕ
    first [] = None
    first (n ∷ ns) = Some n

-- delivers the oldest pending message, so many times or until none is pending
unfoldable pub steps : ℕ → Session → LineDone
steps zero z = idle z
steps (suc more) z = maybe (oldest z.world) (idle z) (λ n. unless_halted (by_event z (Deliver n)) (steps more))

-- delivers the oldest pending message until none is pending, and then prints the number of deliveries. The first number bounds them: no
-- more events than the limit can follow
unfoldable pub settles : ℕ → ℕ → Session → LineDone
settles zero count z = maybe (oldest z.world) (by_lines z (Settled count ∷ [])) (λ n. record { after = z; trace = []; lines = []; halt = Some (Limited Events) })
settles (suc fuel) count z =
    maybe (oldest z.world)
    (by_lines z (Settled count ∷ []))
    (λ n. unless_halted (by_event z (Deliver n)) (settles fuel (count + 1)))

abbrev pub each : (ℕ → Event) → List ℕ → Session → LineDone
each event [] z = idle z
each event (n ∷ ns) z = unless_halted (by_event z (event n)) (each event ns)

-- WHAT IS SHOWN
abbrev pub pending_lines : World → List Line
pending_lines w = flat_map (λ (n : ℕ). maybe (message w.sent n) [] (λ e. PendingLine n e ∷ [])) w.pending

abbrev pub shown_lines : Parties → ℕ → List Line
shown_lines w d = flat_map (λ (sh : ℕ). maybe (shard_at w d sh) [] (row_lines (ShardServer d sh))) (up_to w.layout.shards)

-- A LINE, after the one that made the world
abbrev pub performs : Session → Command → LineDone
performs z (commands.World dcs shards weights) = idle z
performs z (commands.Split k) = idle z
performs z (commands.Begin t) = by_event z (Begin t)
performs z (commands.Read t k) = by_event z (Read t k)
performs z (commands.Write t k value) = by_event z (Write t k value)
performs z (commands.Delete t k) = by_event z (Write t k gone)
performs z (commands.Commit t) = by_event z (Commit t)
performs z (commands.Cancel t k) = by_event z (Cancel t k)
performs z (commands.Retry t) = by_event z (Retry t)
performs z (commands.Vanish t) = by_event z (Vanish t)
performs z (commands.Step n) = steps n z
performs z commands.Settle = settles most_events 0 z
performs z (commands.Deliver ns) = each Deliver ns z
performs z (commands.Lose ns) = each Lose ns z
performs z (commands.Crash node) = by_event z (Crash node)
performs z (commands.CrashAt node k pick) = by_event z (CrashAt node k pick)
performs z (commands.Restart node) = by_event z (Restart node)
performs z (commands.Take d t) = by_event z (Take d t)
performs z (commands.Catch node) = by_event z (Catch node)
performs z commands.Pending = by_lines z (pending_lines z.world)
performs z (commands.Show d) = by_lines z (shown_lines z.world.parties d)
performs z commands.Order = by_lines z (OrderLine (order z.world) ∷ [])

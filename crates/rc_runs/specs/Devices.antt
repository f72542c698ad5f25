-- The device calls of a run: which calls a node's disk is asked for, which of them fails, and what that makes of an append. A creation makes
-- two calls, an append four or as many as up to the first that fails, an opening one call and one read.
use Rattle.std.specs.Prelude.{ℕ, zero, suc, ◌+◌, ◌-◌, ◌^◌, Bool, true, false, ◌&&◌, ◌||◌, List, [], ◌∷◌, Option, Some, None, nat_lt, nat_le, ◌==◌, if◌then◌else◌, length}
use Rattle.std.specs.Option.{option_map}
use Rattle.std.specs.List.{list_any}
use Rattle.rc_ids.specs.Tables.{maybe}
use Rattle.rc_disk.specs.declared.power.Cause.{Cause}
use Rattle.rc_disk.specs.declared.power.Cause.TheVariants.{ByList, ByCut}
pub use Rattle.rc_log.specs.Append.{keeps}
use Rattle.rc_record.specs.declared.record.Record.{Record}
use Rattle.rc_record.specs.Spelling.{record_bytes}
use Rattle.rc_protocol.specs.Messages.{or_else}
use Rattle.rc_runs.specs.World.{Course, Goes, Stops}

-- a node's disk and the length of its log. Calls are counted from the start of the run
pub record Device : Type 0 where
  pub offset : ℕ  -- where the closed gate stands behind the last frame
  pub calls : ℕ  -- the writes, cuts and syncs made
  pub reads : ℕ
  pub failing : List ℕ  -- the calls that fail, but for those at which an armed cut falls
  pub failing_reads : List ℕ
  pub cut : Option (ℕ × ℕ)  -- the power is cut at this call from now on, with this pick
  pub is_open : Bool  -- its log was opened since its node stopped

-- an empty disk with these failing calls
abbrev pub new_device : List ℕ → List ℕ → Device
new_device failing failing_reads = record { offset = 0; calls = 0; reads = 0; failing = failing; failing_reads = failing_reads; cut = None; is_open = true }

-- THE NEXT CALL
abbrev pub is_number : ℕ → List ℕ → Bool
is_number n ns = list_any (λ (k : ℕ). k == n) ns

abbrev pub listed : List ℕ → ℕ → Option Cause
listed failing n = if is_number n failing then Some ByList else None

abbrev pub falls_now : Option (ℕ × ℕ) → Option Cause
falls_now None = None
falls_now (Some cut) = if cut.0 == 1 then Some (ByCut cut.1) else None

-- a call at which a cut falls and that fails by the list too counts as a cut
abbrev pub next_fails : Device → Option Cause
next_fails d = or_else (falls_now d.cut) (listed d.failing (d.calls + 1))

abbrev pub nearer : Option (ℕ × ℕ) → Option (ℕ × ℕ)
nearer cut = option_map (λ (c : ℕ × ℕ). (c.0 - 1, c.1)) cut

abbrev pub called : Device → Device
called d = record d { calls = d.calls + 1; cut = nearer d.cut }

abbrev pub at_offset : Device → ℕ → Device
at_offset d offset = record d { offset = offset }

-- CALLS IN A ROW: all are made, or one of them fails, counted from 1
pub data Fate : Type 0 where
  Made : Fate
  Full : Fate
  FailsAt : ℕ → Cause → Fate

abbrev pub in_a_row : ℕ → ℕ → Device → Fate × Device
in_a_row at zero d = (Made, d)
in_a_row at (suc more) d = maybe (next_fails d) (in_a_row (suc at) more (called d)) (λ cause. (FailsAt at cause, called d))

-- AN APPEND
abbrev pub most_log_bytes : ℕ
most_log_bytes = 2 ^ 28

-- a frame has its gate, four bytes of length, and the record
abbrev pub offset_after : ℕ → ℕ → ℕ
offset_after offset len = offset + 5 + len

-- with the closed gate behind it
abbrev pub is_too_long : Device → ℕ → Bool
is_too_long d len = nat_lt most_log_bytes (offset_after d.offset len + 1)

abbrev pub is_kept : Fate → Bool
is_kept Made = true
is_kept Full = false
is_kept (FailsAt at cause) = keeps at cause

-- a Full append makes no call
abbrev pub appends : Device → ℕ → Fate × Device
appends d len = if is_too_long d len then (Full, d) else in_a_row 1 4 d

abbrev pub appended : Device → ℕ → Fate × Device
appended d len = let done = appends d len in (done.0, if is_kept done.0 then at_offset done.1 (offset_after d.offset len) else done.1)

abbrev pub course_of : Fate → Course
course_of Made = Goes
course_of Full = Stops false
course_of (FailsAt at cause) = Stops (keeps at cause)

abbrev pub record_length : Record → ℕ
record_length r = length (record_bytes r)

-- A CREATION
abbrev pub created : Device → Fate × Device
created d = in_a_row 1 2 d

-- AN OPENING: one sync, and one read of all there is. The power is on again, and no cut is armed
abbrev pub powered : Device → Device
powered d = record d { cut = None; is_open = false }

abbrev pub read_once : Device → Device
read_once d = record d { reads = d.reads + 1; is_open = true }

abbrev pub read_fails : Device → Bool
read_fails d = is_number (d.reads + 1) d.failing_reads

-- none where a call fails
abbrev pub opened : Device → Option Device
opened d = maybe (next_fails d) (if read_fails d then None else Some (read_once (called d))) (λ cause. None)

-- a log that was opened at once needs no opening at the restart
abbrev pub opened_once : Device → Option Device
opened_once d = if d.is_open then Some d else opened d

-- THE ARMING OF A CUT
abbrev pub armed : Device → ℕ → ℕ → Device
armed d k pick = record d { cut = Some (k, pick) }

-- The place of a run, read off a farm: what its disks had at the start, and which calls failed, as the disks tell it when they are given
-- back. Of a disk that tells nothing nothing is read.
use Rattle.std.specs.Prelude.{◌≡◌, ℕ, ◌+◌, ◌-◌, Bool, true, false, ◌&&◌, List, [], ◌∷◌, map, Option, Some, None, IfSome, nat_lt, if◌then◌else◌}
use Rattle.rc_ids.specs.Tables.{maybe}
use Rattle.rc_ids.specs.declared.names.NodeId.{NodeId}
use Rattle.rc_disk.specs.Calls.{Told}
use Rattle.rc_disk.specs.Places.{Start, Standing}
use Rattle.rc_disk.specs.declared.power.Cause.{Cause}
use Rattle.rc_disk.specs.declared.power.Cause.TheVariants.{ByList, ByCut}
use Rattle.rc_disk.specs.declared.power.Failure.{Failure}
use Rattle.rc_ids.specs.Parties.{is_same_node}
use Rattle.rc_runs.specs.declared.event.Event.{Event}
use Rattle.rc_runs.specs.World.{deed}
use Rattle.rc_runs.specs.Devices.{Fate, FailsAt, appended}
use Rattle.rc_runs.specs.Session.{Session, Halt, device_of, append_of, happens}
use Rattle.rc_runs.specs.Stored.{Place}

-- the numbers behind the first so many, counted from there
abbrev pub numbers_since : ℕ → List ℕ → List ℕ
numbers_since start [] = []
numbers_since start (n ∷ ns) = if nat_lt start n then (n - start) ∷ numbers_since start ns else numbers_since start ns

abbrev pub is_by_list : Cause → Bool
is_by_list ByList = true
is_by_list _ = false

abbrev pub is_by_cut : Cause → Bool
is_by_cut (ByCut pick) = true
is_by_cut _ = false

-- the numbers of the failed calls with such a cause
abbrev pub failed_by : (Cause → Bool) → List Failure → List ℕ
failed_by has_cause [] = []
failed_by has_cause (f ∷ fs) = if has_cause f.cause then f.number ∷ failed_by has_cause fs else failed_by has_cause fs

-- how many calls and reads a disk had made at the start
abbrev pub calls_at : Start → ℕ
calls_at start = maybe start.made 0 (λ tally. tally.calls)

abbrev pub reads_at : Start → ℕ
reads_at start = maybe start.made 0 (λ tally. tally.reads)

-- THE PLACE, from what the disks had at the start, the counts that they had then, and how they stand at the end
pub record IsPlaceOf (content : NodeId → Option (List ℕ)) (start : NodeId → Start) (ended : NodeId → Standing) (p : Place) : Type 0 where
  pub has : (node : NodeId) → IfSome (content node) (λ bytes. p.content node ≡ bytes)
  pub calls : (node : NodeId) → IfSome (ended node).told (λ told. p.failing node ≡ numbers_since (calls_at (start node)) (failed_by is_by_list told.numbers.failed))
  pub reads : (node : NodeId) → IfSome (ended node).told (λ told. p.failing_reads node ≡ numbers_since (reads_at (start node)) told.reads.failed)

-- THE CALLS AT WHICH ARMED CUTS FELL: an event's append was made up to there
abbrev pub cut_at : Fate → List ℕ
cut_at (FailsAt at (ByCut pick)) = at ∷ []
cut_at _ = []

abbrev pub cut_of : Session → NodeId → Event → List ℕ
cut_of z node e =
    maybe (append_of (deed z.world.parties z.world.sent e)) []
    (λ a. if is_same_node a.0 node then map (λ (at : ℕ). (device_of z node).calls + at) (cut_at (appended (device_of z node) a.1).0) else [])

-- the disk tells these among its failed calls
pub record CutsAreTold (fell : NodeId → List ℕ) (start : NodeId → Start) (ended : NodeId → Standing) : Type 0 where
  pub told : (node : NodeId) → IfSome (ended node).told (λ told. numbers_since (calls_at (start node)) (failed_by is_by_cut told.numbers.failed) ≡ fell node)

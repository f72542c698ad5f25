-- The calls of a disk that tells them: how many there were, which failed, and what it has now.
use Rattle.std.specs.Prelude.{ℕ, ◌+◌, ◌-◌, ◌==◌, Bool, true, false, if◌then◌else◌, List, [], ◌∷◌, ◌++◌, length, map, take, drop}
use Rattle.rc_ports.specs.Causes.{raised}
use Rattle.rc_disk.specs.declared.power.Power.{Power}
use Rattle.rc_disk.specs.declared.power.Power.TheVariants.{On, Armed, Off}
use Rattle.rc_disk.specs.declared.power.Cause.{Cause}
use Rattle.rc_disk.specs.declared.power.Cause.TheVariants.{ByList, ByCut, WhileOff}
use Rattle.rc_disk.specs.declared.power.Failure.{Failure}

-- a write of bytes at a place, a cut of the length, and a sync: these are counted together
pub data Call : Type 0 where
  Writes : ℕ → List ℕ → Call
  Shortens : ℕ → Call
  Syncs : Call

-- how many calls there were, and those that failed, the oldest first
pub record Numbers : Type 0 where
  pub calls : ℕ
  pub failed : List Failure

-- how many reads there were, the numbers of those that failed by the list of reads, and how many failed while the power was off
pub record Reads : Type 0 where
  pub made : ℕ
  pub failed : List ℕ
  pub off : ℕ

-- what a cut of the power leaves by each pick: 0, 1, 2 and 3
pub record Images : Type 0 where
  pub synced : List ℕ
  pub plain : List ℕ
  pub full : List ℕ
  pub ones : List ℕ

pub record Told : Type 0 where
  pub numbers : Numbers
  pub reads : Reads
  pub power : Power
  pub images : Images

-- the content after a call
abbrev pub effect : Call → List ℕ → List ℕ
effect (Writes place bytes) old = take place old ++ bytes ++ drop (place + length bytes) old
effect (Shortens len) old = take len old
effect Syncs old = old

-- as many bytes, all the same
abbrev pub filled : ℕ → List ℕ → List ℕ
filled byte bytes = map (λ (b : ℕ). byte) bytes

-- the images after a call that no sync has followed: the picks 2 and 3 write other bytes
abbrev pub made : Call → Images → Images
made (Writes place bytes) im = record {
  synced = im.synced;
  plain = effect (Writes place bytes) im.plain;
  full = effect (Writes place (filled 255 bytes)) im.full;
  ones = effect (Writes place (filled 1 bytes)) im.ones;
}
made (Shortens len) im = record { synced = im.synced; plain = take len im.plain; full = take len im.full; ones = take len im.ones }
made Syncs im = im

-- all of it is on the disk
abbrev pub all_synced : List ℕ → Images
all_synced bytes = record { synced = bytes; plain = bytes; full = bytes; ones = bytes }

abbrev pub image : ℕ → Images → List ℕ
image pick im = if pick == 0 then im.synced else (if pick == 1 then im.plain else (if pick == 3 then im.ones else im.full))

-- what a read gives
abbrev pub read_bytes : Told → List ℕ
read_bytes t = t.images.plain

abbrev pub power_after : Power → Power
power_after On = On
power_after (Armed k pick) = if k == 1 then Off else Armed (k - 1) pick
power_after Off = Off

-- why a call fails, if it fails
abbrev pub cause_at : Power → Cause
cause_at On = ByList
cause_at (Armed k pick) = if k == 1 then ByCut pick else ByList
cause_at Off = WhileOff

-- the power stays on at the next call
abbrev pub holds : Power → Bool
holds On = true
holds (Armed k pick) = if k == 1 then false else true
holds Off = false

-- a read can be done
abbrev pub is_on : Power → Bool
is_on On = true
is_on (Armed k pick) = true
is_on Off = false

abbrev pub counted : Numbers → Numbers
counted n = record { calls = n.calls + 1; failed = n.failed }

abbrev pub counted_failed : Cause → Numbers → Numbers
counted_failed cause n = record { calls = n.calls + 1; failed = n.failed ++ record { number = n.calls + 1; cause = cause } ∷ [] }

abbrev pub images_done : Call → Images → Images
images_done (Writes place bytes) im = made (Writes place bytes) im
images_done (Shortens len) im = made (Shortens len) im
images_done Syncs im = all_synced im.plain

-- of the calls that fail only the one at which the power goes off changes the images: it leaves its pick's
abbrev pub images_failed : Cause → Call → Images → Images
images_failed ByList call im = im
images_failed (ByCut pick) call im = all_synced (image pick (made call im))
images_failed WhileOff call im = im

abbrev pub after_done : Call → Told → Told
after_done call t = record { numbers = counted t.numbers; reads = t.reads; power = power_after t.power; images = images_done call t.images }

abbrev pub after_failed : Call → Told → Told
after_failed call t = record {
  numbers = counted_failed (cause_at t.power) t.numbers;
  reads = t.reads;
  power = power_after t.power;
  images = images_failed (cause_at t.power) call t.images;
}

-- after a call that was done, or that failed
abbrev pub after : Call → Bool → Told → Told
after call ok t = if ok then after_done call t else after_failed call t

abbrev pub read_done : Reads → Reads
read_done r = record { made = raised r.made; failed = r.failed; off = r.off }

abbrev pub read_failed : Power → Reads → Reads
read_failed On r = record { made = raised r.made; failed = r.failed ++ raised r.made ∷ []; off = r.off }
read_failed (Armed k pick) r = record { made = raised r.made; failed = r.failed ++ raised r.made ∷ []; off = r.off }
read_failed Off r = record { made = raised r.made; failed = r.failed; off = raised r.off }

-- after a read that was done, or that failed: all else is as before
abbrev pub after_read : Bool → Told → Told
after_read ok t = record {
  numbers = t.numbers;
  reads = if ok then read_done t.reads else read_failed t.power t.reads;
  power = t.power;
  images = t.images;
}

abbrev pub armed : ℕ → ℕ → Told → Told
armed k pick t = record { numbers = t.numbers; reads = t.reads; power = Armed k pick; images = t.images }

abbrev pub powered : Told → Told
powered t = record { numbers = t.numbers; reads = t.reads; power = On; images = t.images }

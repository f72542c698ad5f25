-- A memory disk: its images, its calls and reads, and which of them fail.
use Rattle.std.specs.Prelude.{ℕ, ◌≡◌, ◌+◌, ◌≤◌, ◌<◌, ◌^◌, ◌==◌, ◌||◌, max, Bool, true, false, not, if◌then◌else◌, List, map, length, take, Option, None, Some, unwrap_or, vec_capacity}
use Rattle.rc_ports.specs.Causes.{raised, is_listed}
use Rattle.rc_disk.specs.Calls.{Images, Numbers, Reads, Told, counted, counted_failed}
use Rattle.rc_disk.specs.Past.{History}
use Rattle.rc_disk.specs.declared.power.Power.{Power}
use Rattle.rc_disk.specs.declared.power.Power.TheVariants.{On, Armed, Off}
use Rattle.rc_disk.specs.declared.power.Cause.{Cause}
use Rattle.rc_disk.specs.declared.power.Cause.TheVariants.{ByList, ByCut, WhileOff}
use Rattle.rc_disk.specs.declared.images.FourImages.{FourImages}
use Rattle.rc_disk.specs.declared.calls.CallBook.{CallBook}
use Rattle.rc_disk.specs.declared.reads.ReadBook.{ReadBook}
use Rattle.rc_disk.specs.declared.past.Past.{Past}

abbrev pub images_of : FourImages → Images
images_of im = record { synced = im.synced.items; plain = im.plain.items; full = im.full.items; ones = im.ones.items }

abbrev pub numbers_of : CallBook → Numbers
numbers_of c = record { calls = c.made; failed = c.failed.items }

abbrev pub reads_of : ReadBook → Reads
reads_of r = record { made = r.made; failed = r.failed.items; off = r.off }

abbrev pub history_of : Past → History
history_of p = record { first = p.first.items; bytes = p.bytes.items; events = p.events.items }

-- the byte that is written in place of each, or it
abbrev pub inked : Option ℕ → List ℕ → List ℕ
inked fill bytes = map (λ (b : ℕ). unwrap_or fill b) bytes

-- So many more bytes take no memory, and up to a place all images are the same.
pub record HasRoom (im : FourImages) (spare : ℕ) : Type 0 where
  pub full_len : length im.full.items ≡ length im.plain.items
  pub ones_len : length im.ones.items ≡ length im.plain.items
  pub synced_cap : max (length im.plain.items) (length im.synced.items) + spare ≤ vec_capacity im.synced
  pub plain_cap : max (length im.plain.items) (length im.synced.items) + spare ≤ vec_capacity im.plain
  pub full_cap : max (length im.plain.items) (length im.synced.items) + spare ≤ vec_capacity im.full
  pub ones_cap : max (length im.plain.items) (length im.synced.items) + spare ≤ vec_capacity im.ones
  pub clean_synced : im.clean ≤ length im.synced.items
  pub clean_plain : im.clean ≤ length im.plain.items
  pub plain_same : take im.clean im.plain.items ≡ take im.clean im.synced.items
  pub full_same : take im.clean im.full.items ≡ take im.clean im.synced.items
  pub ones_same : take im.clean im.ones.items ≡ take im.clean im.synced.items

-- so many more calls take no memory
pub record HasCalls (c : CallBook) : Type 0 where
  pub capacity : length c.failed.items + c.spare ≤ vec_capacity c.failed
  pub small : c.made + c.spare < 2 ^ 63

-- there is room for each number that is to fail
pub record HasReads (r : ReadBook) : Type 0 where
  pub capacity : length r.failed.items + length r.fails.items ≤ vec_capacity r.failed

pub record HasPast (p : Past) (calls bytes : ℕ) : Type 0 where
  pub for_events : length p.events.items + calls ≤ vec_capacity p.events
  pub for_bytes : length p.bytes.items + bytes ≤ vec_capacity p.bytes

-- whether and why the call with this number fails
abbrev pub verdict : List ℕ → ℕ → Power → Option Cause
verdict fails number On = if is_listed fails number then Some ByList else None
verdict fails number (Armed k pick) = if k == 1 then Some (ByCut pick) else (if is_listed fails number then Some ByList else None)
verdict fails number Off = Some WhileOff

-- the numbers after a call that went so
abbrev pub numbers_after : Option Cause → Numbers → Numbers
numbers_after None n = counted n
numbers_after (Some cause) n = counted_failed cause n

-- whether the read with this number is done
abbrev pub is_read : List ℕ → ℕ → Power → Bool
is_read fails number On = not (is_listed fails number)
is_read fails number (Armed k pick) = not (is_listed fails number)
is_read fails number Off = false

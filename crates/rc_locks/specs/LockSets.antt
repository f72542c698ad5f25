-- The locks of a shard, and what each call makes of them.
use Rattle.std.specs.Prelude.{◌≡◌, ℕ, List, [], ◌∷◌, filter, length, Option, Some, None, if◌then◌else◌, is_some}
use Rattle.std.specs.Ordering.{nat_cmp}
use Rattle.rc_ids.specs.Tables.{Table, found, put, without}
use Rattle.rc_ids.specs.Texts.{same_key}
use Rattle.rc_body.specs.declared.entry.Entry.{Entry}
use Rattle.rc_body.specs.declared.reason.Reason.{Reason}
use Rattle.rc_record.specs.declared.shard.ShardDurable.{ShardDurable}
use Rattle.rc_protocol.specs.Shard.{Mark, ShardVolatile, new_volatile, test, cleared, is_free, granted, waits, locks_plain, ignores_ask, on_read_cancel, preempted}
use Rattle.rc_locks.specs.declared.answers.Asked.{Asked}
use Rattle.rc_locks.specs.declared.answers.Asked.TheVariants.{Granted, Waits, Ignored}
use Rattle.rc_locks.specs.declared.answers.Answer.{Answer}
use Rattle.rc_locks.specs.declared.answers.Answer.TheVariants.{Yes, No}

-- the prepared parts of transactions, and beside them the plain locks, the marks of lost ones and the reads that wait; the place is
-- that of a shard's list of outcomes, and always 0 here
pub record LockSets : Type 0 where
  pub parts : Table ℕ (List Entry)
  pub marks : ShardVolatile

abbrev pub no_locks : LockSets
no_locks = record { parts = []; marks = new_volatile }

-- the table with this part too, unless the transaction has one
abbrev pub put_new : Table ℕ (List Entry) → ℕ → List Entry → Table ℕ (List Entry)
put_new parts t part = if is_some (found nat_cmp parts t) then parts else put nat_cmp parts t part

abbrev pub put_all : Table ℕ (List Entry) → List (ℕ × List Entry) → Table ℕ (List Entry)
put_all parts [] = parts
put_all parts (e ∷ es) = put_all (put_new parts e.0 e.1) es

-- these parts and nothing else
abbrev pub only_parts : List (ℕ × List Entry) → LockSets
only_parts entries = record { parts = put_all [] entries; marks = new_volatile }

-- the parts beside the rows of the shard
abbrev pub beside : Table ℕ (List Entry) → Table (List ℕ) (ℕ × List ℕ) → ShardDurable
beside parts rows = record { rows = rows; parts = parts; finished = [] }

-- ASKING
abbrev pub asked : LockSets → ℕ → List ℕ → Asked
asked s t k =
    if ignores_ask (beside s.parts []) s.marks t k then Ignored
    else (if is_free s.parts (k, t) then Granted else Waits)

abbrev pub after_ask : Asked → LockSets → Mark → LockSets
after_ask Granted s m = record { parts = s.parts; marks = locks_plain s.marks m }
after_ask Waits s m = record { parts = s.parts; marks = waits s.marks m }
after_ask Ignored s m = s

abbrev pub after_cancel : LockSets → ℕ → List ℕ → LockSets
after_cancel s t k = record { parts = s.parts; marks = (on_read_cancel s.marks t k).after }

-- how many reads wait for the key
abbrev pub waiting_for : LockSets → List ℕ → ℕ
waiting_for s k = length (filter (λ (m : Mark). same_key m.0 k) s.marks.waiting)

-- PREPARING
abbrev pub answer_of : Option Reason → Answer
answer_of None = Yes
answer_of (Some reason) = No reason

abbrev pub tested : LockSets → Table (List ℕ) (ℕ × List ℕ) → ℕ → List Entry → Answer
tested s rows t part = answer_of (test (beside s.parts rows) s.marks t part)

abbrev pub after_prepare : LockSets → ℕ → List Entry → LockSets
after_prepare s t part = record { parts = put nat_cmp s.parts t part; marks = preempted s.marks t part }

-- the test passes beside some versions
abbrev pub MayBePrepared : LockSets → ℕ → List Entry → Type 0
MayBePrepared s t part = (rows : Table (List ℕ) (ℕ × List ℕ)) × (tested s rows t part ≡ Yes)

-- FINISHING
abbrev pub parts_left : Table ℕ (List Entry) → List ℕ → Table ℕ (List Entry)
parts_left parts [] = parts
parts_left parts (t ∷ ts) = parts_left (without nat_cmp parts t) ts

abbrev pub cleared_all : List Mark → List ℕ → List Mark
cleared_all marks [] = marks
cleared_all marks (t ∷ ts) = cleared_all (cleared marks t) ts

-- nothing of these transactions is left
abbrev pub without_all : LockSets → List ℕ → LockSets
without_all s ts = record {
  parts = parts_left s.parts ts;
  marks = record {
    plain = cleared_all s.marks.plain ts;
    lost = cleared_all s.marks.lost ts;
    waiting = cleared_all s.marks.waiting ts;
    cursor = s.marks.cursor;
  };
}

-- the waiting reads whose key nobody holds exclusively, in order of arrival
abbrev pub freed : LockSets → List Mark
freed s = filter (is_free s.parts) s.marks.waiting

-- and each of them granted
abbrev pub after_grants : LockSets → LockSets
after_grants s = record { parts = s.parts; marks = granted (beside s.parts []) s.marks }

abbrev pub after_finish : LockSets → List ℕ → LockSets
after_finish s ts = after_grants (without_all s ts)

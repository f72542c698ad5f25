-- What a journal is to its callers, and how its calls change it.
use Rattle.std.specs.Prelude.{ℕ, ◌≡◌, ◌+◌, ◌-◌, ◌≤◌, nat_lt, Bool, true, false, if◌then◌else◌, List, [], ◌∷◌, ◌++◌, length, take, drop, Option, None, Some, IfSome, IsTrue}
use Rattle.std.specs.Option.{option_map}
use Rattle.rc_ports.specs.Causes.{Rose}
use Rattle.rc_disk.specs.declared.power.Power.{Power}
use Rattle.rc_disk.specs.declared.power.Power.TheVariants.{Armed}
use Rattle.rc_disk.specs.Calls.{Told, Writes, effect, armed, is_on}
use Rattle.rc_log.specs.Records.{size_of, behind_gate}
use Rattle.rc_log.specs.Append.{listed, append_calls, all_done, numbers_of, counted_by, power_past, AreStill, FailedAt, LeavesEither}

-- The records of a journal, where they are told: those that it was opened with or whose append was done. After an
-- append that failed its record is in hand. The size is the place of the gate behind the records. The rest is what
-- its disk tells, if it has one, and the disk's power and counts.
pub record State : Type 0 where
  pub records : Option (List (List ℕ))
  pub in_hand : Option (List ℕ)
  pub size : ℕ
  pub limit : Option ℕ
  pub count : ℕ
  pub failed : Bool
  pub content : Option (List ℕ)
  pub told : Option Told
  pub power : Option Power
  pub faults : ℕ
  pub cuts : ℕ

abbrev pub passes : Option ℕ → ℕ → Bool
passes None len = false
passes (Some limit) len = nat_lt limit len

-- a record of so many bytes would make the log longer than its limit
abbrev pub would_pass_limit : State → ℕ → Bool
would_pass_limit s n = passes s.limit (s.size + 6 + n)

-- an append that was done: the power held at each of its calls
pub record Appends (old new : State) (r : List ℕ) : Type 0 where
  pub adds : new.records ≡ option_map (λ rs. rs ++ r ∷ []) old.records
  pub in_hand : new.in_hand ≡ None
  pub grows : new.size ≡ old.size + 5 + length r
  pub same_limit : new.limit ≡ old.limit
  pub counts_it : new.count ≡ old.count + 1
  pub sound : new.failed ≡ false
  pub writes : new.content ≡ option_map (effect (Writes old.size (1 ∷ []))) (option_map (effect (Writes (old.size + 1) (behind_gate r))) old.content)
  pub calls : new.told ≡ option_map (all_done (append_calls old.size r)) old.told
  pub numbers : numbers_of new.told ≡ option_map (counted_by 4) (numbers_of old.told)
  pub power_is : new.power ≡ option_map (power_past 4) old.power
  pub on : IfSome new.power (λ p. IsTrue (is_on p))
  pub same_counts : AreStill old.faults new.faults old.cuts new.cuts

-- an append that the disk failed: the log holds the record or not
pub record Fails (old new : State) (r : List ℕ) : Type 0 where
  pub same_records : new.records ≡ old.records
  pub in_hand : new.in_hand ≡ Some r
  pub same_limit : new.limit ≡ old.limit
  pub same_count : new.count ≡ old.count
  pub failed : new.failed ≡ true
  pub holds : IfSome new.content (LeavesEither old.records r)
  pub calls : FailedAt old.told new.told old.power new.power old.records old.size r old.faults new.faults old.cuts new.cuts
  pub more_faults : Rose old.faults new.faults
  pub later_faults : old.faults ≤ new.faults
  pub later_cuts : old.cuts ≤ new.cuts

-- with a cut of the power armed
abbrev pub with_cut : ℕ → ℕ → State → State
with_cut k pick s = record s { told = option_map (armed k pick) s.told; power = option_map (λ (p : Power). Armed k pick) s.power }

-- LOGS

-- the record behind a gate
abbrev pub record_in : List ℕ → List ℕ
record_in frame = take (length frame - 5) (drop 4 frame)

-- the state of a log by its disk and its fields
abbrev pub log_state : Option (List ℕ) → Option Told → Power → ℕ → ℕ → ℕ → ℕ → ℕ → Bool → List ℕ → State
log_state content told power faults cuts end count limit failed frame = record {
  records = option_map (λ c. take count (listed c)) content;
  in_hand = if failed then Some (record_in frame) else None;
  size = end;
  limit = Some limit;
  count = count;
  failed = failed;
  content = content;
  told = told;
  power = Some power;
  faults = faults;
  cuts = cuts;
}

-- a log that was just created or opened: it has these records
pub record Begins (s : State) (rs : List (List ℕ)) (limit : ℕ) (content : Option (List ℕ)) (told : Option Told) (power : Power) : Type 0 where
  pub has : s.records ≡ option_map (λ c. rs) content
  pub none_in_hand : s.in_hand ≡ None
  pub size_is : s.size ≡ size_of rs
  pub limit_is : s.limit ≡ Some limit
  pub count_is : s.count ≡ length rs
  pub sound : s.failed ≡ false
  pub content_is : s.content ≡ content
  pub calls : s.told ≡ told
  pub power_is : s.power ≡ Some power

-- IN MEMORY

-- the state of a journal in memory by its records
abbrev pub list_state : List (List ℕ) → State
list_state rs = record {
  records = Some rs;
  in_hand = None;
  size = size_of rs;
  limit = None;
  count = length rs;
  failed = false;
  content = None;
  told = None;
  power = None;
  faults = 0;
  cuts = 0;
}

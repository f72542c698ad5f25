-- An append, as a device makes it.
use Rattle.std.proofs.Common.{◌≡◌, ℕ, zero, suc, ◌+◌, ◌-◌, ◌≤◌, ◌<◌, List, [], ◌∷◌, ◌++◌, length, refl, sym, ap, ◌∙◌, subst, Bool, true, false, cond, Option, Some, None, option_map, IfSome, IsTrue, arith, ltb}
use Rattle.rc_ids.specs.Tables.{maybe}
use Rattle.rc_disk.specs.declared.power.Power.{Power}
use Rattle.rc_disk.specs.declared.power.Power.TheVariants.{On, Armed, Off}
use Rattle.rc_disk.specs.declared.power.Cause.{Cause}
use Rattle.rc_disk.specs.declared.power.Cause.TheVariants.{ByList, ByCut, WhileOff}
use Rattle.rc_disk.specs.declared.power.Failure.{Failure}
use Rattle.std.specs.Prelude.{◌==◌}
use Rattle.rc_disk.specs.Calls.{Told, Call, Numbers, Reads, after_done, is_on, cause_at}
use Rattle.rc_disk.specs.Places.{Start}
use Rattle.rc_log.specs.Append.{append_calls, all_done, stopped_at, numbers_of, counted_by, stopped_by, power_past, cause_of_call}
use Rattle.rc_log.specs.Journals.{State, Appends, Fails, passes, would_pass_limit}
use Rattle.rc_runs.specs.Devices.{Device, Fate, Made, Full, FailsAt, appended, in_a_row, is_kept, is_too_long, offset_after, at_offset, most_log_bytes, powered}
use Rattle.rc_runs.specs.Farms.{calls_at, reads_at}
use Rattle.rc_devices.specs.Disks.{AreKept, IsKept, IsShown, ReadsAreShown, IsLog, power_of, calls_made}
use Rattle.rc_devices.specs.Laws.{IsTold, IsMade, IsFailed, AppendsAreDevices}
use Rattle.rc_devices.proofs.Numbers.{within_more, within_last}
use Rattle.rc_devices.proofs.Rows.{all_made, one_failed, failure, counts, same_list, same_reads, same_read_list, same_offset}

-- the log is too long for the device exactly where it is for itself
too_long : (begun : Start) (ended : Told) (old : State) (d : Device) (n : ℕ) → IsLog begun ended old d → would_pass_limit old n ≡ is_too_long d n
too_long begun ended old d n log =
    let e : old.size + 6 + n ≡ d.offset + 5 + n + 1 = let is : old.size ≡ d.offset = log.offset in omega arith in
    ap (λ (o : Option ℕ). passes o (old.size + 6 + n)) log.limit ∙ ap (λ (m : ℕ). ltb most_log_bytes m) e

-- what comes of calls in a row is what comes of the append, with the offset behind a kept record
abbrev behind : Device → ℕ → Fate × Device → Fate × Device
behind d n done = (done.0, cond (is_kept done.0) (at_offset done.1 (offset_after d.offset n)) done.1)

in_room : (begun : Start) (ended : Told) (old : State) (d : Device) (n : ℕ) → IsLog begun ended old d → would_pass_limit old n ≡ false → (done : Fate × Device) → in_a_row 1 4 d ≡ done → appended d n ≡ behind d n done
in_room begun ended old d n log fits done is =
    ap (behind d n) (ap (λ b. cond b (Full, d) (in_a_row 1 4 d)) (sym (too_long begun ended old d n log) ∙ fits) ∙ is)

-- what a disk tells after an append that was done
pub some_inj : {A : Type 0} (x y : A) → Some x ≡ Some y → x ≡ y
some_inj x y e = ap (λ o. maybe o x (λ z. z)) e

counted_numbers : (t u : Told) (n : ℕ) → numbers_of (Some u) ≡ option_map (counted_by n) (numbers_of (Some t)) → u.numbers ≡ counted_by n t.numbers
counted_numbers t u n is = some_inj u.numbers (counted_by n t.numbers) is

-- the same disk after calls that were done
moved_calls : (begun : Start) (ended : List Failure) (n : ℕ) (now : Numbers) (power : Power) (m : ℕ) (failed : List Failure) (d : Device) → now ≡ record { calls = m; failed = failed } → IsShown begun ended m failed power d
    → IsShown begun ended now.calls now.failed power d
moved_calls begun ended n now power m failed d is shown = subst (λ (x : Numbers). IsShown begun ended x.calls x.failed power d) (sym is) shown

module _ (begun : Start) (ended : Told) (old : State) (d : Device) (r : List ℕ) (log : IsLog begun ended old d) where
  abbrev told : Told
  told = log.told

  abbrev after_all : Told
  after_all = all_done (append_calls old.size r) told

  pub made : (new : State) → Appends old new r → would_pass_limit old (length r) ≡ false → IsTold new ended → IsMade begun ended new d (length r)
  made new appends_it fits is_told =
      let tells : new.told ≡ Some after_all = appends_it.calls ∙ ap (option_map (all_done (append_calls old.size r))) log.tells in
      let kept : IsKept after_all ended = subst (λ (o : Option Told). IfSome o (λ t. IsKept t ended)) tells is_told in
      let calls_are : after_all.numbers.calls ≡ told.numbers.calls + 4 = omega arith in
      let power_is : new.power ≡ Some (power_past 4 log.power) = appends_it.power_is ∙ ap (option_map (power_past 4)) log.has_power in
      let on : IsTrue (is_on (power_past 4 log.power)) = subst (λ (o : Option Power). IfSome o (λ p. IsTrue (is_on p))) power_is appends_it.on in
      let row = all_made 4 1 begun ended.numbers.failed told.numbers.calls told.numbers.failed log.power d log.disk.calls on (subst (λ (m : ℕ). AreKept m told.numbers.failed ended.numbers.failed) calls_are kept.calls) in
      record {
        after = at_offset (calls_made 4 d) (offset_after d.offset (length r));
        is = in_room begun ended old d (length r) log fits (Made, calls_made 4 d) row.0;
        device = record {
          told = after_all;
          tells = tells;
          power = power_past 4 log.power;
          has_power = power_is;
          disk = record {
            calls = subst (λ (m : ℕ). IsShown begun ended.numbers.failed m told.numbers.failed (power_past 4 log.power) (at_offset (calls_made 4 d) (offset_after d.offset (length r)))) (sym calls_are)
                (record { counted = row.1.counted; listed = row.1.listed; within = row.1.within; power_is = row.1.power_is });
            reads = record { counted = log.disk.reads.counted; listed = log.disk.reads.listed; within = log.disk.reads.within };
          };
          offset = appends_it.grows ∙ ap (λ (m : ℕ). m + 5 + length r) log.offset;
          limit = appends_it.same_limit ∙ log.limit;
        };
      }

  pub too_full : would_pass_limit old (length r) ≡ true → appended d (length r) ≡ (Full, d)
  too_full full = ap (behind d (length r)) (ap (λ b. cond b (Full, d) (in_a_row 1 4 d)) (sym (too_long begun ended old d (length r) log) ∙ full))

-- A CALL THAT FAILED
-- while the power is on no call fails for want of it
not_off : (power : Power) → IsTrue (is_on power) → cause_at power ≡ WhileOff → ⊥
not_off On on is = absurd (cc)
not_off (Armed k pick) on is = by_number (k == 1) is
  where
    by_number : (v : Bool) → cond v (ByCut pick) ByList ≡ WhileOff → ⊥
    by_number true never = absurd (cc)
    by_number false never = absurd (cc)
not_off Off on is = absurd (cc)

pub stops : (begun : Start) (ended : List Failure) (calls : ℕ) (failed : List Failure) (power : Power) (d : Device) (last call : ℕ) (cause : Cause) → IsShown begun ended calls failed power d → IsTrue (is_on power)
    → 1 ≤ call → call ≤ last → cause_at (power_past (call - 1) power) ≡ cause → (1 < call → IsTrue (is_on (power_past (call - 1) power)))
    → AreKept (calls + call) (failed ++ failure (calls + call) cause ∷ []) ended → in_a_row 1 last d ≡ (FailsAt call cause, calls_made call d)
stops begun ended calls failed power d last zero cause shown on low high reason held kept = absurd (omega (arith, low))
stops begun ended calls failed power d last (suc j) cause shown on low high reason held kept =
    let before : suc j - 1 ≡ j = omega arith in
    let is : cause_at (power_past j power) ≡ cause = ap (λ (m : ℕ). cause_at (power_past m power)) (sym before) ∙ reason in
    let row = one_failed j last 1 begun ended calls failed power d shown (omega (arith, high)) (not_off (power_past j power) (still j before held))
    (subst (λ (c : Cause). AreKept (calls + suc j) (failed ++ failure (calls + suc j) c ∷ []) ended) (sym is) kept) in
    let number : 1 + j ≡ suc j = omega arith in
    row ∙ ap (λ (c : Cause). (FailsAt (1 + j) c, calls_made (suc j) d)) is ∙ ap (λ (m : ℕ). (FailsAt m cause, calls_made (suc j) d)) number
  where
    still : (i : ℕ) → suc j - 1 ≡ i → (1 < suc j → IsTrue (is_on (power_past (suc j - 1) power))) → IsTrue (is_on (power_past i power))
    still zero _ _ = on
    still (suc i) is late = subst (λ (m : ℕ). IsTrue (is_on (power_past m power))) is (late (omega (arith, is)))

-- the reads are as before
pub stopped_reads : (n : ℕ) (calls : List Call) (t : Told) → (stopped_at n calls t).reads ≡ t.reads
stopped_reads zero calls t = refl
stopped_reads (suc n) [] t = refl
stopped_reads (suc zero) (call ∷ calls) t = refl
stopped_reads (suc (suc n)) (call ∷ calls) t = stopped_reads (suc n) calls (after_done call t)

-- with its power on again the disk is the device, whether its record is kept or not
pub is_still_shown : (begun : Start) (ended : List Failure) (calls : ℕ) (failed : List Failure) (power : Power) (d : Device) (n : ℕ) (cause : Cause) (kept : Bool) (offset : ℕ) → IsShown begun ended calls failed power d
    → IsShown begun ended (calls + n) (failed ++ failure (calls + n) cause ∷ []) On (powered (cond kept (at_offset (calls_made n d) offset) (calls_made n d)))
is_still_shown begun ended calls failed power d n cause kept offset shown = by_kept kept
  where
    by_kept : (b : Bool) → IsShown begun ended (calls + n) (failed ++ failure (calls + n) cause ∷ []) On (powered (cond b (at_offset (calls_made n d) offset) (calls_made n d)))
    by_kept true = record {
      counted = let was : calls ≡ calls_at begun + d.calls = shown.counted in let e : (calls_made n d).calls ≡ d.calls + n = counts n d in omega arith;
      listed = same_list n d ∙ shown.listed;
      within = within_last (calls + n) failed (failure (calls + n) cause) (within_more calls (calls + n) failed shown.within (omega arith)) (omega arith);
      power_is = refl;
    }
    by_kept false = record {
      counted = let was : calls ≡ calls_at begun + d.calls = shown.counted in let e : (calls_made n d).calls ≡ d.calls + n = counts n d in omega arith;
      listed = same_list n d ∙ shown.listed;
      within = within_last (calls + n) failed (failure (calls + n) cause) (within_more calls (calls + n) failed shown.within (omega arith)) (omega arith);
      power_is = refl;
    }

pub reads_still_shown : (begun : Start) (ended : List ℕ) (made : ℕ) (failed : List ℕ) (d : Device) (n : ℕ) (kept : Bool) (offset : ℕ) → ReadsAreShown begun ended made failed d
    → ReadsAreShown begun ended made failed (powered (cond kept (at_offset (calls_made n d) offset) (calls_made n d)))
reads_still_shown begun ended made failed d n kept offset shown = by_kept kept
  where
    by_kept : (b : Bool) → ReadsAreShown begun ended made failed (powered (cond b (at_offset (calls_made n d) offset) (calls_made n d)))
    by_kept true = record { counted = shown.counted ∙ ap (λ (m : ℕ). reads_at begun + m) (sym (same_reads n d)); listed = same_read_list n d ∙ shown.listed; within = shown.within }
    by_kept false = record { counted = shown.counted ∙ ap (λ (m : ℕ). reads_at begun + m) (sym (same_reads n d)); listed = same_read_list n d ∙ shown.listed; within = shown.within }

module _ (begun : Start) (ended : Told) (old : State) (d : Device) (r : List ℕ) (log : IsLog begun ended old d) (new : State) (fails : Fails old new r) where
  abbrev call : ℕ
  call = fails.calls.call

  abbrev cause : Cause
  cause = fails.calls.cause

  abbrev stopped : Told
  stopped = stopped_at call (append_calls old.size r) log.told

  pub failed : would_pass_limit old (length r) ≡ false → IsTold new ended → IsFailed begun ended new call cause d (length r)
  failed fits is_told =
      let tells : new.told ≡ Some stopped = fails.calls.whole_state ∙ ap (option_map (stopped_at call (append_calls old.size r))) log.tells in
      let kept : IsKept stopped ended = subst (λ (o : Option Told). IfSome o (λ t. IsKept t ended)) tells is_told in
      let numbers : stopped.numbers ≡ stopped_by call cause log.told.numbers =
      some_inj stopped.numbers (stopped_by call cause log.told.numbers) (sym (ap numbers_of tells) ∙ fails.calls.numbers ∙ ap (λ (o : Option Told). option_map (stopped_by call cause) (numbers_of o)) log.tells) in
      let calls_kept : AreKept (log.told.numbers.calls + call) (log.told.numbers.failed ++ failure (log.told.numbers.calls + call) cause ∷ []) ended.numbers.failed =
      subst (λ (x : Numbers). AreKept x.calls x.failed ended.numbers.failed) numbers kept.calls in
      let reason : cause_at (power_past (call - 1) log.power) ≡ cause =
      some_inj (cause_at (power_past (call - 1) log.power)) cause (sym (ap (option_map (cause_of_call call)) log.has_power) ∙ fails.calls.reason) in
      let held : 1 < call → IsTrue (is_on (power_past (call - 1) log.power)) = subst (λ (o : Option Power). IfSome o (λ p. 1 < call → IsTrue (is_on (power_past (call - 1) p)))) log.has_power fails.calls.held in
      let on : IsTrue (is_on log.power) = subst (λ (p : Power). IsTrue (is_on p)) (sym log.disk.calls.power_is) (at_first d.cut) in
      let row = stops begun ended.numbers.failed log.told.numbers.calls log.told.numbers.failed log.power d 4 call cause log.disk.calls on fails.calls.low fails.calls.high reason held calls_kept in
      record {
        after = cond (is_kept (FailsAt call cause)) (at_offset (calls_made call d) (offset_after d.offset (length r))) (calls_made call d);
        is = in_room begun ended old d (length r) log fits (FailsAt call cause, calls_made call d) row;
        offset = by_kept (is_kept (FailsAt call cause));
        told = stopped;
        tells = tells;
        disk = record {
          calls = subst (λ (x : Numbers). IsShown begun ended.numbers.failed x.calls x.failed On (powered (cond (is_kept (FailsAt call cause)) (at_offset (calls_made call d) (offset_after d.offset (length r))) (calls_made call d)))) (sym numbers)
              (is_still_shown begun ended.numbers.failed log.told.numbers.calls log.told.numbers.failed log.power d call cause (is_kept (FailsAt call cause)) (offset_after d.offset (length r)) log.disk.calls);
          reads = subst (λ (x : Reads). ReadsAreShown begun ended.reads.failed x.made x.failed (powered (cond (is_kept (FailsAt call cause)) (at_offset (calls_made call d) (offset_after d.offset (length r))) (calls_made call d))))
              (sym (stopped_reads call (append_calls old.size r) log.told))
              (reads_still_shown begun ended.reads.failed log.told.reads.made log.told.reads.failed d call (is_kept (FailsAt call cause)) (offset_after d.offset (length r)) log.disk.reads);
        };
      }
    where
      by_kept : (b : Bool) → (cond b (at_offset (calls_made call d) (offset_after d.offset (length r))) (calls_made call d)).offset ≡ cond b (offset_after d.offset (length r)) d.offset
      by_kept true = refl
      by_kept false = same_offset call d

      at_first : (cut : Option (ℕ × ℕ)) → IsTrue (is_on (power_of cut))
      at_first None = refl
      at_first (Some c) = refl

pub appends_are_devices : (begun : Start) (ended : Told) (old : State) (d : Device) (r : List ℕ) → IsLog begun ended old d → AppendsAreDevices begun ended old d r
appends_are_devices begun ended old d r log = record {
  done = made begun ended old d r log;
  failed = λ new fails fits told. failed begun ended old d r log new fails fits told;
  full = too_full begun ended old d r log;
}

-- Calls in a row: the device of the run makes those that the disk made, and fails where it failed.
use Rattle.std.proofs.Common.{◌≡◌, ℕ, zero, suc, ◌+◌, ◌-◌, ◌<◌, List, [], ◌∷◌, ◌++◌, refl, sym, ap, ◌∙◌, subst, Bool, true, false, cond, Option, Some, None, arith, append_assoc}
use Rattle.std.specs.Prelude.{◌==◌, ◌||◌, ◌&&◌, IsTrue}
use Rattle.std.proofs.lemmas.Bool.{eq-eqb}
use Rattle.rc_ids.specs.Tables.{maybe}
use Rattle.rc_disk.specs.declared.power.Power.{Power}
use Rattle.rc_disk.specs.declared.power.Power.TheVariants.{On, Armed, Off}
use Rattle.rc_disk.specs.declared.power.Cause.{Cause}
use Rattle.rc_disk.specs.declared.power.Cause.TheVariants.{ByList, ByCut, WhileOff}
use Rattle.rc_disk.specs.declared.power.Failure.{Failure}
use Rattle.rc_disk.specs.Calls.{power_after, cause_at, holds, is_on}
use Rattle.rc_disk.specs.Places.{Start}
use Rattle.rc_log.specs.Append.{power_past}
use Rattle.rc_runs.specs.Devices.{Device, Made, FailsAt, is_number, listed, falls_now, next_fails, nearer, called, in_a_row}
use Rattle.rc_runs.specs.Farms.{is_by_list, calls_at}
use Rattle.rc_devices.specs.Disks.{power_of, AreKept, IsShown, calls_made}
use Rattle.rc_devices.proofs.Numbers.{among, numbers_are, among_both, none_within, none_above, within_more, above_less}

-- POWER
stays_off : (n : ℕ) → power_past n Off ≡ Off
stays_off zero = refl
stays_off (suc n) = stays_off n

not_off : {A : Type 0} (n : ℕ) → IsTrue (is_on (power_past n Off)) → A
not_off n on = absurd (cc (on, ap is_on (stays_off n)))

-- a power that is on after a call held at it
pub held : (n : ℕ) (p : Power) → IsTrue (is_on (power_past n (power_after p))) → IsTrue (holds p)
held n On on = refl
held n (Armed k pick) on = by_number (k == 1) on
  where
    by_number : (v : Bool) → IsTrue (is_on (power_past n (cond v Off (Armed (k - 1) pick)))) → IsTrue (cond v false true)
    by_number true still = not_off n still
    by_number false still = refl
held n Off on = not_off n on

-- a device's cut where the power held at the call, and where it did not
held_cut : (cut : Option (ℕ × ℕ)) → IsTrue (holds (power_of cut)) → (falls_now cut ≡ None) × (power_after (power_of cut) ≡ power_of (nearer cut))
held_cut None holding = (refl, refl)
held_cut (Some c) holding = by_number (c.0 == 1) holding
  where
    by_number : (v : Bool) → IsTrue (cond v false true) → (cond v (Some (ByCut c.1)) None ≡ None) × (cond v Off (Armed (c.0 - 1) c.1) ≡ Armed (c.0 - 1) c.1)
    by_number true never = absurd (cc never)
    by_number false still = (refl, refl)

-- THE NEXT CALL
-- the first call from here is listed exactly where it is among the failed calls at the end
listed_next : (begun : Start) (ended : List Failure) (calls : ℕ) (failed : List Failure) (power : Power) (d : Device) → IsShown begun ended calls failed power d
    → is_number (d.calls + 1) d.failing ≡ among (calls + 1) ended
listed_next begun ended calls failed power d shown =
    let n : ℕ = d.calls in
    let start : ℕ = calls_at begun in
    let e : start + (n + 1) ≡ calls + 1 = let counted : calls ≡ start + n = shown.counted in omega arith in
    ap (is_number (d.calls + 1)) shown.listed ∙ numbers_are start (n + 1) ended (omega arith) ∙ ap (λ (m : ℕ). among m ended) e

-- where later calls alone failed since, it is not
not_listed : (begun : Start) (ended : List Failure) (calls later : ℕ) (failed : List Failure) (power : Power) (d : Device) → IsShown begun ended calls failed power d
    → calls < later → AreKept later failed ended → is_number (d.calls + 1) d.failing ≡ false
not_listed begun ended calls later failed power d shown more kept =
    listed_next begun ended calls failed power d shown ∙ ap (among (calls + 1)) kept.all ∙ among_both (calls + 1) failed kept.since
    ∙ ap (λ b. b || among (calls + 1) kept.since) (none_within calls (calls + 1) failed shown.within (omega arith)) ∙ none_above later (calls + 1) kept.since kept.above (omega (arith, more))

-- one more call is made
pub called_shown : (begun : Start) (ended : List Failure) (calls : ℕ) (failed : List Failure) (power : Power) (d : Device) → IsShown begun ended calls failed power d → IsTrue (holds power)
    → IsShown begun ended (calls + 1) failed (power_after power) (called d)
called_shown begun ended calls failed power d shown holding =
    let counted : calls ≡ calls_at begun + d.calls = shown.counted in
    record {
      counted = omega arith;
      listed = shown.listed;
      within = within_more calls (calls + 1) failed shown.within (omega arith);
      power_is = ap power_after shown.power_is ∙ (held_cut d.cut (subst (λ p. IsTrue (holds p)) shown.power_is holding)).1;
    }

-- CALLS THAT ARE ALL DONE
pub no_fault : (begun : Start) (ended : List Failure) (calls later : ℕ) (failed : List Failure) (power : Power) (d : Device) → IsShown begun ended calls failed power d → IsTrue (holds power)
    → calls < later → AreKept later failed ended → next_fails d ≡ None
no_fault begun ended calls later failed power d shown holding more kept =
    ap (λ (o : Option Cause). maybe o (listed d.failing (d.calls + 1)) Some) (held_cut d.cut (subst (λ p. IsTrue (holds p)) shown.power_is holding)).0
    ∙ ap (λ b. cond b (Some ByList) None) (not_listed begun ended calls later failed power d shown more kept)

-- what stands after calls in a row
abbrev pub Row : Start → List Failure → ℕ → List Failure → Power → Device → ℕ → ℕ → Type 0
Row begun ended calls failed power d at n = (in_a_row at n d ≡ (Made, calls_made n d)) × IsShown begun ended (calls + n) failed (power_past n power) (calls_made n d)

pub all_made : (n at : ℕ) (begun : Start) (ended : List Failure) (calls : ℕ) (failed : List Failure) (power : Power) (d : Device) → IsShown begun ended calls failed power d
    → IsTrue (is_on (power_past n power)) → AreKept (calls + n) failed ended → Row begun ended calls failed power d at n
all_made zero at begun ended calls failed power d shown on kept = (refl, subst (λ (m : ℕ). IsShown begun ended m failed power d) (omega arith) shown)
all_made (suc n) at begun ended calls failed power d shown on kept =
    let holding = held n power on in
    let none = no_fault begun ended calls (calls + suc n) failed power d shown holding (omega arith) kept in
    let e : calls + suc n ≡ calls + 1 + n = omega arith in
    let back : calls + 1 + n ≡ calls + suc n = omega arith in
    let rest = all_made n (suc at) begun ended (calls + 1) failed (power_after power) (called d) (called_shown begun ended calls failed power d shown holding) on (subst (λ (m : ℕ). AreKept m failed ended) e kept) in (
      ap (λ (o : Option Cause). maybe o (in_a_row (suc at) n (called d)) (λ cause. (FailsAt at cause, called d))) none ∙ rest.0,
      subst (λ (m : ℕ). IsShown begun ended m failed (power_past n (power_after power)) (calls_made n (called d))) back rest.1,
    )

-- A CALL THAT FAILED
held_before : (n : ℕ) (p : Power) → (cause_at (power_past n (power_after p)) ≡ WhileOff → ⊥) → IsTrue (holds p)
held_before n On was_on = refl
held_before n (Armed k pick) was_on = by_number (k == 1) was_on
  where
    by_number : (v : Bool) → (cause_at (power_past n (cond v Off (Armed (k - 1) pick))) ≡ WhileOff → ⊥) → IsTrue (cond v false true)
    by_number true never = absurd (never (ap cause_at (stays_off n)))
    by_number false still = refl
held_before n Off was_on = absurd (was_on (ap cause_at (stays_off n)))

fails_first : (cut : Option (ℕ × ℕ)) (number : Bool) → number ≡ is_by_list (cause_at (power_of cut)) → maybe (falls_now cut) (cond number (Some ByList) None) Some ≡ Some (cause_at (power_of cut))
fails_first None number is = ap (λ b. cond b (Some ByList) None) is
fails_first (Some c) number is = by_number (c.0 == 1) is
  where
    by_number : (v : Bool) → number ≡ is_by_list (cond v (ByCut c.1) ByList) → maybe (cond v (Some (ByCut c.1)) None) (cond number (Some ByList) None) Some ≡ Some (cond v (ByCut c.1) ByList)
    by_number true _ = refl
    by_number false is_listed = ap (λ b. cond b (Some ByList) None) is_listed

abbrev pub failure : ℕ → Cause → Failure
failure number cause = record { number = number; cause = cause }

-- the failed call is among those at the end
this_call : (n : ℕ) (cause : Cause) → among n (failure n cause ∷ []) ≡ is_by_list cause
this_call n cause = by_cause (is_by_list cause) (n == n) (eq-eqb n n refl)
  where
    by_cause : (a b : Bool) → b ≡ true → ((a && b) || false) ≡ a
    by_cause true b is = ap (λ x. x || false) is
    by_cause false b is = refl

pub next_is_told : (begun : Start) (ended : List Failure) (calls : ℕ) (failed : List Failure) (power : Power) (d : Device) → IsShown begun ended calls failed power d
    → AreKept (calls + 1) (failed ++ failure (calls + 1) (cause_at power) ∷ []) ended → next_fails d ≡ Some (cause_at power)
next_is_told begun ended calls failed power d shown kept =
    let f = failure (calls + 1) (cause_at power) in
    let n : ℕ = calls + 1 in
    let number : is_number (d.calls + 1) d.failing ≡ is_by_list (cause_at power) =
    listed_next begun ended calls failed power d shown ∙ ap (among n) kept.all ∙ among_both n (failed ++ f ∷ []) kept.since
    ∙ ap (λ b. b || among n kept.since) (among_both n failed (f ∷ []) ∙ ap (λ b. b || among n (f ∷ [])) (none_within calls n failed shown.within (omega arith)) ∙ this_call n (cause_at power))
    ∙ ap (λ b. is_by_list (cause_at power) || b) (none_above n n kept.since kept.above (omega arith)) ∙ or_false (is_by_list (cause_at power)) in
    fails_first d.cut (is_number (d.calls + 1) d.failing) (number ∙ ap (λ p. is_by_list (cause_at p)) shown.power_is) ∙ ap (λ p. Some (cause_at p)) (sym shown.power_is)
  where
    or_false : (b : Bool) → (b || false) ≡ b
    or_false true = refl
    or_false false = refl

-- a later one failed: none before it
pub kept_before : (calls later : ℕ) (failed ended : List Failure) (f : Failure) → f.number ≡ later → calls < later → AreKept later (failed ++ f ∷ []) ended → AreKept calls failed ended
kept_before calls later failed ended f is more kept = record {
  since = f ∷ kept.since;
  all = kept.all ∙ append_assoc failed (f ∷ []) kept.since;
  above = (let number : f.number ≡ later = is in let e : calls < f.number = omega arith in e, above_less calls later kept.since kept.above (let low : calls < later = more in omega arith));
}

-- the call with this number, counted from 1, failed, and those before it were done
pub one_failed : (j n at : ℕ) (begun : Start) (ended : List Failure) (calls : ℕ) (failed : List Failure) (power : Power) (d : Device) → IsShown begun ended calls failed power d → j < n
    → (cause_at (power_past j power) ≡ WhileOff → ⊥) → AreKept (calls + suc j) (failed ++ failure (calls + suc j) (cause_at (power_past j power)) ∷ []) ended
    → in_a_row at n d ≡ (FailsAt (at + j) (cause_at (power_past j power)), calls_made (suc j) d)
one_failed j zero at begun ended calls failed power d shown low was_on kept = absurd (omega (arith, low))
one_failed zero (suc n) at begun ended calls failed power d shown low was_on kept =
    let e : calls + suc 0 ≡ calls + 1 = omega arith in
    let told = next_is_told begun ended calls failed power d shown (subst (λ (m : ℕ). AreKept m (failed ++ failure m (cause_at power) ∷ []) ended) e kept) in
    let here : at ≡ at + 0 = omega arith in
    ap (λ (o : Option Cause). maybe o (in_a_row (suc at) n (called d)) (λ cause. (FailsAt at cause, called d))) told ∙ ap (λ (m : ℕ). (FailsAt m (cause_at power), called d)) here
one_failed (suc j) (suc n) at begun ended calls failed power d shown low was_on kept =
    let holding = held_before j power was_on in
    let f = failure (calls + suc (suc j)) (cause_at (power_past (suc j) power)) in
    let before : AreKept (calls + 1) failed ended = kept_before (calls + 1) (calls + suc (suc j)) failed ended f refl (omega arith) kept in
    let none = no_fault begun ended calls (calls + 1) failed power d shown holding (omega arith) before in
    let e : calls + suc (suc j) ≡ calls + 1 + suc j = omega arith in
    let there : suc at + j ≡ at + suc j = omega arith in
    let rest = one_failed j n (suc at) begun ended (calls + 1) failed (power_after power) (called d) (called_shown begun ended calls failed power d shown holding) (omega (arith, low)) was_on
    (subst (λ (m : ℕ). AreKept m (failed ++ failure m (cause_at (power_past j (power_after power))) ∷ []) ended) e kept) in
    ap (λ (o : Option Cause). maybe o (in_a_row (suc at) n (called d)) (λ cause. (FailsAt at cause, called d))) none ∙ rest
    ∙ ap (λ (m : ℕ). (FailsAt m (cause_at (power_past j (power_after power))), calls_made (suc j) (called d))) there

-- how many calls there are then, and what they change of the device
pub counts : (n : ℕ) (d : Device) → (calls_made n d).calls ≡ d.calls + n
counts zero d = omega arith
counts (suc n) d = let e : d.calls + 1 + n ≡ d.calls + suc n = let m : ℕ = d.calls in omega arith in counts n (called d) ∙ e

pub same_list : (n : ℕ) (d : Device) → (calls_made n d).failing ≡ d.failing
same_list zero d = refl
same_list (suc n) d = same_list n (called d)

pub same_reads : (n : ℕ) (d : Device) → (calls_made n d).reads ≡ d.reads
same_reads zero d = refl
same_reads (suc n) d = same_reads n (called d)

pub same_read_list : (n : ℕ) (d : Device) → (calls_made n d).failing_reads ≡ d.failing_reads
same_read_list zero d = refl
same_read_list (suc n) d = same_read_list n (called d)

pub same_offset : (n : ℕ) (d : Device) → (calls_made n d).offset ≡ d.offset
same_offset zero d = refl
same_offset (suc n) d = same_offset n (called d)

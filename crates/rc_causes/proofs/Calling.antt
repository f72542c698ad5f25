-- The calls of an append, one after another.
use Rattle.std.proofs.Common.{◌≡◌, ℕ, zero, suc, ◌+◌, ◌-◌, ◌≤◌, List, refl, sym, ap, ◌∙◌, subst, true, cond, Option, Some, None, arith, eqb-true}
use Rattle.std.specs.Prelude.{◌==◌}
use Rattle.std.specs.Option.{option_map}
use Rattle.rc_ids.specs.Tables.{maybe}
use Rattle.rc_disk.specs.declared.power.Cause.{Cause}
use Rattle.rc_disk.specs.declared.power.Cause.TheVariants.{ByList, ByCut}
use Rattle.rc_runs.specs.Devices.{Device, Fate, Made, Full, FailsAt, is_number, listed, falls_now, next_fails, nearer, called, at_offset, in_a_row, offset_after, is_too_long, is_kept, appends}
use Rattle.rc_agreement.proofs.Cases.{on_cond, on_maybe, never, some_is}
use Rattle.rc_causes.specs.Calls.{Fails, MakesCalls, AppendsAreTold}

-- the cut after so many calls
abbrev after_calls : ℕ → Option (ℕ × ℕ) → Option (ℕ × ℕ)
after_calls n cut = option_map (λ (c : ℕ × ℕ). (c.0 - n, c.1)) cut

-- x is d after so many calls
record Behind (d : Device) (n : ℕ) (x : Device) : Type 0 where
  calls : x.calls ≡ d.calls + n
  failing : x.failing ≡ d.failing
  cut : x.cut ≡ after_calls n d.cut

-- what comes of calls in a row
abbrev Row : Device → ℕ → Fate → Device → Type 0
Row d last Made y = y.calls ≡ d.calls + last
Row d last Full y = ⊥
Row d last (FailsAt at cause) y = (y.calls ≡ d.calls + at) × (1 ≤ at) × (at ≤ last) × Fails d at cause

nearer_once : (n : ℕ) (cut : Option (ℕ × ℕ)) → nearer (after_calls n cut) ≡ after_calls (suc n) cut
nearer_once n None = refl
nearer_once n (Some c) = let e : (c.0 - n) - 1 ≡ c.0 - suc n = omega arith in ap (λ (m : ℕ). Some (m, c.1)) e

-- a cut that falls at the next call is so far away now
falls_at : (n : ℕ) (cut : Option (ℕ × ℕ)) (cause : Cause) → falls_now (after_calls n cut) ≡ Some cause → (pick : ℕ) × (cause ≡ ByCut pick) × (cut ≡ Some (suc n, pick))
falls_at n None cause is = never cause is
falls_at n (Some c) cause is =
    on_cond (λ o. o ≡ Some cause → (pick : ℕ) × (cause ≡ ByCut pick) × (Some c ≡ Some (suc n, pick))) ((c.0 - n) == 1) (Some (ByCut c.1)) None
    (λ one h.
    let away : c.0 - n ≡ 1 = eqb-true (c.0 - n) 1 one in
    let far : c.0 ≡ suc n = omega arith in
    (c.1, sym (some_is (ByCut c.1) cause h), ap (λ (m : ℕ). Some (m, c.1)) far))
    (λ _ h. never cause h) is

listed_at : (failing : List ℕ) (n : ℕ) (cause : Cause) → listed failing n ≡ Some cause → (cause ≡ ByList) × (is_number n failing ≡ true)
listed_at failing n cause is =
    on_cond (λ o. o ≡ Some cause → (cause ≡ ByList) × (is_number n failing ≡ true)) (is_number n failing) (Some ByList) None
    (λ yes_is h. (sym (some_is ByList cause h), yes_is)) (λ _ h. never cause h) is

fails_next : (d : Device) (n : ℕ) (x : Device) (cause : Cause) → Behind d n x → next_fails x ≡ Some cause → Fails d (suc n) cause
fails_next d n x cause b is = go (falls_now x.cut) refl is
  where
    go : (o : Option Cause) → falls_now x.cut ≡ o → maybe o (listed x.failing (x.calls + 1)) Some ≡ Some cause → Fails d (suc n) cause
    go (Some found) falls h =
        let f = falls_at n d.cut cause (sym (ap falls_now b.cut) ∙ falls ∙ h) in
        subst (Fails d (suc n)) (sym f.1) f.2
    go None falls h =
        let l = listed_at x.failing (x.calls + 1) cause h in
        let calls : x.calls ≡ d.calls + n = b.calls in
        let e : x.calls + 1 ≡ d.calls + suc n = omega arith in
        subst (Fails d (suc n)) (sym l.0) (sym (ap (λ (m : ℕ). is_number m d.failing) e) ∙ ap (λ (fs : List ℕ). is_number (x.calls + 1) fs) (sym b.failing) ∙ l.1)

called_behind : (d : Device) (n : ℕ) (x : Device) → Behind d n x → Behind d (suc n) (called x)
called_behind d n x b =
    let calls : x.calls ≡ d.calls + n = b.calls in
    let e : x.calls + 1 ≡ d.calls + suc n = omega arith in
    record { calls = e; failing = b.failing; cut = ap nearer b.cut ∙ nearer_once n d.cut }

row : (d : Device) (n more : ℕ) (x : Device) → Behind d n x → Row d (n + more) (in_a_row (suc n) more x).0 (in_a_row (suc n) more x).1
row d n zero x b = let calls : x.calls ≡ d.calls + n = b.calls in let e : x.calls ≡ d.calls + (n + 0) = omega arith in e
row d n (suc more) x b =
    on_maybe (λ (p : Fate × Device). Row d (n + suc more) p.0 p.1) (next_fails x) (in_a_row (suc (suc n)) more (called x)) (λ cause. (FailsAt (suc n) cause, called x))
    (λ _.
    let e : suc n + more ≡ n + suc more = omega arith in
    subst (λ (m : ℕ). Row d m (in_a_row (suc (suc n)) more (called x)).0 (in_a_row (suc (suc n)) more (called x)).1) e (row d (suc n) more (called x) (called_behind d n x b)))
    (λ cause is.
    let calls : x.calls ≡ d.calls + n = b.calls in
    let e : x.calls + 1 ≡ d.calls + suc n = omega arith in
    (e, omega arith, omega arith, fails_next d n x cause b is))

-- the place of a frame that is kept changes no call
told : (d : Device) (len : ℕ) (fate : Fate) (y : Device) (place : ℕ) → MakesCalls d len fate y → MakesCalls d len fate (cond (is_kept fate) (at_offset y place) y)
told d len Made y place h = h
told d len Full y place h = h
told d len (FailsAt at cause) y place h =
    on_cond (λ (z : Device). MakesCalls d len (FailsAt at cause) z) (is_kept (FailsAt at cause)) (at_offset y place) y (λ _. h) (λ _. h)

made_calls : (d : Device) (len : ℕ) (fate : Fate) (y : Device) → Row d 4 fate y → MakesCalls d len fate y
made_calls d len Made y h = h
made_calls d len Full y h = absurd h
made_calls d len (FailsAt at cause) y h = h

no_calls : (cut : Option (ℕ × ℕ)) → cut ≡ after_calls 0 cut
no_calls None = refl
no_calls (Some c) = let e : c.0 ≡ c.0 - 0 = omega arith in ap (λ (m : ℕ). Some (m, c.1)) e

at_first : (d : Device) → Behind d 0 d
at_first d = record { calls = let n : ℕ = d.calls in let e : n ≡ n + 0 = omega arith in e; failing = refl; cut = no_calls d.cut }

pub appends_are_told : (d : Device) → AppendsAreTold d
appends_are_told d len = told d len (appends d len).0 (appends d len).1 (offset_after d.offset len) whole
  where
    whole : MakesCalls d len (appends d len).0 (appends d len).1
    whole =
        on_cond (λ (p : Fate × Device). MakesCalls d len p.0 p.1) (is_too_long d len) (Full, d) (in_a_row 1 4 d)
        (λ long. (refl, long)) (λ _. made_calls d len (in_a_row 1 4 d).0 (in_a_row 1 4 d).1 (row d 0 4 d (at_first d)))

-- What the calls leave that create a log.
use Rattle.std.proofs.Common.{◌≡◌, ℕ, ◌+◌, ◌≤◌, true, false, List, [], ◌∷◌, length, Option, None, Some, option_map, IfSome, Ok, refl, sym, ap, ◌∙◌, subst, arith}
use Rattle.std.specs.Option.{ForSome}
use Rattle.rc_disk.specs.declared.power.Power.{Power}
use Rattle.rc_disk.specs.declared.power.Cause.{Cause}
use Rattle.rc_disk.specs.Calls.{Told, Call, Writes, Syncs, effect, after, cause_at, power_after}
use Rattle.rc_disk.specs.Counts.{AreCounted}
use Rattle.rc_log.specs.Records.{records, size_of}
use Rattle.rc_log.specs.Append.{listed, listed_in, create_calls, stopped_at, stopped_by, numbers_of, power_past, cause_of_call}
use Rattle.rc_log.specs.Opening.{FailsToBegin}
use Rattle.rc_log.proofs.Crashes.{same_some}
use Rattle.rc_log.proofs.Frames.{records_from-shut}
use Rattle.rc_log.proofs.Stops.{Went, count_next, counted_as, with_calls, fuse}

abbrev gate : Call
gate = Writes 0 (0 ∷ [])

-- a closed gate alone stands for no record
pub records_begun : records (0 ∷ []) ≡ Ok []
records_begun = records_from-shut 0 0 [] (omega arith)

listed_begun : listed (0 ∷ []) ≡ []
listed_begun = ap listed_in records_begun

pub none_begun : (old new : Option (List ℕ)) → new ≡ option_map (λ (c : List ℕ). 0 ∷ []) old → option_map listed new ≡ option_map (λ (c : List ℕ). []) old
none_begun None new is = ap (option_map listed) is
none_begun (Some c) new is = ap (option_map listed) is ∙ ap Some listed_begun

pub begun : (old : Option (List ℕ)) (c : List ℕ) → option_map (λ (c : List ℕ). 0 ∷ []) old ≡ Some c → c ≡ 0 ∷ []
begun None c is = absurd (cc)
begun (Some d) c is = sym (same_some (0 ∷ []) c is)

pub whole_begun : (old new : Option (List ℕ)) → new ≡ option_map (λ (c : List ℕ). 0 ∷ []) old → ForSome new (λ c. records c ≡ Ok (listed c))
whole_begun old new is c at =
    let only = begun old c (sym is ∙ at) in
    subst (λ (l : List ℕ). records l ≡ Ok (listed l)) (sym only) (records_begun ∙ ap Ok (sym listed_begun))

pub place_begun : (old new : Option (List ℕ)) → new ≡ option_map (λ (c : List ℕ). 0 ∷ []) old → ForSome new (λ c. 0 ≡ size_of (listed c))
place_begun old new is c at =
    let only = begun old c (sym is ∙ at) in
    subst (λ (l : List ℕ). 0 ≡ size_of (listed l)) (sym only) (ap size_of (sym listed_begun))

fails : (before now : Option Told) (n f f' k k' : ℕ) (p p' : Power) (cause_of : Power → Cause) → IfSome before (λ t. t.power ≡ p) → AreCounted (cause_of p) false f f' k k' → cause_of p ≡ cause_of_call n p → p' ≡ power_past n p
    → 1 ≤ n → n ≤ 2 → now ≡ option_map (stopped_at n create_calls) before → ((t : Told) → (stopped_at n create_calls t).numbers ≡ stopped_by n (cause_of t.power) t.numbers) → FailsToBegin before now p p' f f' k k'
fails None now n f f' k k' p p' cause_of told_power counts reason past low high is numbers =
    record { call = n; cause = cause_of p; low = low; high = high; reason = reason; power_is = past; whole_state = is; counts = counts; numbers = ap numbers_of is }
fails (Some t) now n f f' k k' p p' cause_of told_power counts reason past low high is numbers = record {
  call = n;
  cause = cause_of p;
  low = low;
  high = high;
  reason = reason;
  power_is = past;
  whole_state = is;
  counts = counts;
  numbers = ap numbers_of is ∙ ap Some (numbers t ∙ ap (λ (q : Power). stopped_by n (cause_of q) t.numbers) told_power);
}

module _ (start before now : Option Told) (p0 p p' : Power) (f0 f f' k0 k k' : ℕ) (same : before ≡ start) (same_p : p ≡ p0) (same_f : f ≡ f0) (same_k : k ≡ k0) (told_power : IfSome before (λ t. t.power ≡ p)) where
  from_start : FailsToBegin before now p p' f f' k k' → FailsToBegin start now p0 p' f0 f' k0 k'
  from_start it =
      subst (λ (o : Option Told). FailsToBegin o now p0 p' f0 f' k0 k') same
      (subst (λ (q : Power). FailsToBegin before now q p' f0 f' k0 k') same_p
      (subst (λ (a : ℕ). FailsToBegin before now p p' a f' k0 k') same_f (subst (λ (a : ℕ). FailsToBegin before now p p' f f' a k') same_k it)))

  pub fails1 : Went false gate before now p p' f f' k k' → FailsToBegin start now p0 p' f0 f' k0 k'
  unfolding with_calls
  fails1 one = from_start (fails before now 1 f f' k k' p p' cause_at told_power one.counts refl one.power (omega arith) (omega arith) one.told (λ t. counted_as (t.numbers.calls + 1) 1 (cause_at t.power) t.numbers refl))

  pub fails2 : (o1 : Option Told) (p1 : Power) (f1 k1 : ℕ) → Went true gate before o1 p p1 f f1 k k1 → Went false Syncs o1 now p1 p' f1 f' k1 k' → FailsToBegin start now p0 p' f0 f' k0 k'
  unfolding with_calls
  fails2 o1 p1 f1 k1 one two =
      from_start (fails before now 2 f f' k k' p p' (λ q. cause_at (power_after q)) told_power
      (count_next _ _ f f1 f' k k1 k' one.counts (subst (λ (q : Power). AreCounted (cause_at q) false f1 f' k1 k') one.power two.counts))
      refl (two.power ∙ ap power_after one.power) (omega arith) (omega arith)
      (two.told ∙ ap (option_map (after Syncs false)) one.told ∙ fuse _ _ before) (λ t. counted_as (t.numbers.calls + 1 + 1) 2 (cause_at (power_after t.power)) t.numbers (omega arith)))

pub content_begun : (content : Option (List ℕ)) (len : ℕ) → len ≡ 0 → IfSome content (λ c. len ≡ length c) → option_map (effect (Writes 0 (0 ∷ []))) content ≡ option_map (λ (c : List ℕ). 0 ∷ []) content
content_begun None len none size = refl
content_begun (Some []) len none size = refl
content_begun (Some (b ∷ c)) len none size = absurd (omega arith)

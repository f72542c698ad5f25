-- What a crash leaves at each moment of an append.
use Rattle.std.proofs.Common.{◌≡◌, inl, ℕ, ◌+◌, ◌^◌, ◌<◌, List, length, Option, None, Some, option_map, Result, Ok, Err, OnErr, ap, ◌∙◌, subst}
use Rattle.rc_disk.specs.Calls.{Told, effect, Writes}
use Rattle.rc_disk.specs.Crashes.{Patches, Stems, AddsNone, IsDurable, TakesTime, AtEachMoment}
use Rattle.rc_log.specs.Records.{behind_gate}
use Rattle.rc_log.specs.Append.{listed, IsSettled, LeavesEither, Leaves}
use Rattle.rc_log.proofs.Crashes.{rest_crash, first_crash, second_crash}
use Rattle.rc_log.proofs.Moments.{at_start, one_more}

pub either : (old : Option (List (List ℕ))) (r left : List ℕ) → Leaves old left → LeavesEither old r left
either None r left is = tt
either (Some rs) r left is = inl is

-- a clause that holds of each result
pub on_err : {T E : Type 0} (result : Result T E) (P : Type 0) → P → OnErr result P
on_err (Ok v) P holds = tt
on_err (Err e) P holds = holds

module _ (content : Option (List ℕ)) (ml0 : List ℕ → Type 0) (told : Option Told) (len place : ℕ) (r : List ℕ) (s : IsSettled content ml0 told len place) (short : length r < 2 ^ 32) where
  abbrev pub Allowed : List ℕ → Type 0
  Allowed = LeavesEither (option_map listed content) r

  pub crash1 : (n : ℕ) (ml1 : List ℕ → Type 0) → Stems (Patches (place + 1) n) ml0 ml1 → (left : List ℕ) → ml1 left → Allowed left
  crash1 n ml1 stems left may = either (option_map listed content) r left (first_crash content ml0 ml1 told len place r n s short stems left may)

  pub crash2 : (n : ℕ) (ml1 ml2 : List ℕ → Type 0) → Stems (Patches (place + 1) n) ml0 ml1 → AddsNone ml1 ml2 → (left : List ℕ) → ml2 left → Allowed left
  crash2 n ml1 ml2 stems none left may = crash1 n ml1 stems left (none.source left may)

  pub crash3 : (w : List ℕ) (c1 : Option (List ℕ)) (ml2 ml3 : List ℕ → Type 0) → w ≡ behind_gate r → c1 ≡ option_map (effect (Writes (place + 1) w)) content → IsDurable c1 ml2 → Stems (Patches place 1) ml2 ml3
      → (left : List ℕ) → ml3 left → Allowed left
  crash3 w c1 ml2 ml3 frame is durable stems left may =
      second_crash content ml0 ml2 ml3 told len place r s short
      (subst (λ (o : Option (List ℕ)). IsDurable o ml2) (is ∙ ap (λ (b : List ℕ). option_map (effect (Writes (place + 1) b)) content) frame) durable) stems left may

  pub crash4 : (w : List ℕ) (c1 : Option (List ℕ)) (ml2 ml3 ml4 : List ℕ → Type 0) → w ≡ behind_gate r → c1 ≡ option_map (effect (Writes (place + 1) w)) content → IsDurable c1 ml2 → Stems (Patches place 1) ml2 ml3
      → AddsNone ml3 ml4 → (left : List ℕ) → ml4 left → Allowed left
  crash4 w c1 ml2 ml3 ml4 frame is durable stems none left may = crash3 w c1 ml2 ml3 frame is durable stems left (none.source left may)

  pub run0 : (t0 : ℕ) (l0 : ℕ → List ℕ → Type 0) → ((left : List ℕ) → l0 t0 left → ml0 left) → AtEachMoment t0 t0 l0 l0 Allowed
  run0 t0 l0 none = at_start t0 l0 Allowed (λ left was. either (option_map listed content) r left (rest_crash content ml0 told len place s left (none left was)))

-- ONE CALL AFTER THE OTHER

module _ (t0 : ℕ) (l0 : ℕ → List ℕ → Type 0) (P : List ℕ → Type 0) (run : AtEachMoment t0 t0 l0 l0 P) where
  pub run1 : (t1 : ℕ) (l1 : ℕ → List ℕ → Type 0) (ml1 : List ℕ → Type 0) → TakesTime t0 t1 l0 l1 ml1 → ((left : List ℕ) → ml1 left → P left) → AtEachMoment t0 t1 l0 l1 P
  run1 t1 l1 ml1 time here = one_more t0 t0 t1 l0 l0 l1 P ml1 run time here

  pub run2 : (t1 t2 : ℕ) (l1 l2 : ℕ → List ℕ → Type 0) (ml1 ml2 : List ℕ → Type 0) → TakesTime t0 t1 l0 l1 ml1 → ((left : List ℕ) → ml1 left → P left) → TakesTime t1 t2 l1 l2 ml2 → ((left : List ℕ) → ml2 left → P left) → AtEachMoment t0 t2 l0 l2 P
  run2 t1 t2 l1 l2 ml1 ml2 time1 here1 time2 here2 = one_more t0 t1 t2 l0 l1 l2 P ml2 (run1 t1 l1 ml1 time1 here1) time2 here2

  pub run3 : (t1 t2 t3 : ℕ) (l1 l2 l3 : ℕ → List ℕ → Type 0) (ml1 ml2 ml3 : List ℕ → Type 0) → TakesTime t0 t1 l0 l1 ml1 → ((left : List ℕ) → ml1 left → P left) → TakesTime t1 t2 l1 l2 ml2 → ((left : List ℕ) → ml2 left → P left) → TakesTime t2 t3 l2 l3 ml3 → ((left : List ℕ) → ml3 left → P left) → AtEachMoment t0 t3 l0 l3 P
  run3 t1 t2 t3 l1 l2 l3 ml1 ml2 ml3 time1 here1 time2 here2 time3 here3 = one_more t0 t2 t3 l0 l2 l3 P ml3 (run2 t1 t2 l1 l2 ml1 ml2 time1 here1 time2 here2) time3 here3

  pub run4 : (t1 t2 t3 t4 : ℕ) (l1 l2 l3 l4 : ℕ → List ℕ → Type 0) (ml1 ml2 ml3 ml4 : List ℕ → Type 0) → TakesTime t0 t1 l0 l1 ml1 → ((left : List ℕ) → ml1 left → P left) → TakesTime t1 t2 l1 l2 ml2 → ((left : List ℕ) → ml2 left → P left) → TakesTime t2 t3 l2 l3 ml3 → ((left : List ℕ) → ml3 left → P left) → TakesTime t3 t4 l3 l4 ml4 → ((left : List ℕ) → ml4 left → P left) → AtEachMoment t0 t4 l0 l4 P
  run4 t1 t2 t3 t4 l1 l2 l3 l4 ml1 ml2 ml3 ml4 time1 here1 time2 here2 time3 here3 time4 here4 = one_more t0 t3 t4 l0 l3 l4 P ml4 (run3 t1 t2 t3 l1 l2 l3 ml1 ml2 ml3 time1 here1 time2 here2 time3 here3) time4 here4

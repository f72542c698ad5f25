-- What an append leaves of a disk that tells its calls.
use Rattle.std.proofs.Common.{◌≡◌, ℕ, ◌+◌, ◌-◌, ◌^◌, ◌<◌, ◌≤◌, ◌==◌, ◌||◌, Bool, true, false, if◌then◌else◌, List, [], ◌∷◌, ◌++◌, length, drop, Option, None, Some, option_map, IfSome, IsTrue, Ok, refl, sym, ap, ◌∙◌, subst, arith}
use Rattle.std.specs.Option.{ForSome}
use Rattle.std.proofs.lemmas.Bool.Decides.{nat_tests}
use Rattle.std.proofs.lemmas.List.Sums.{sum_by-append}
use Rattle.rc_disk.specs.declared.power.Power.{Power}
use Rattle.rc_disk.specs.declared.power.Cause.{Cause}
use Rattle.rc_disk.specs.declared.power.Cause.TheVariants.{ByList, ByCut, WhileOff}
use Rattle.rc_disk.specs.Calls.{Told, Images, Numbers, Call, Writes, Syncs, effect, filled, image, made, all_synced, read_bytes, images_failed, after_done, after, cause_at, power_after, is_on}
use Rattle.rc_disk.specs.Counts.{AreCounted}
use Rattle.rc_log.specs.Records.{records, size_of, behind_gate}
use Rattle.rc_log.specs.Append.{listed, listed_in, IsSettled, FailedAt, AreStill, append_calls, all_done, stopped_at, numbers_of, counted_by, stopped_by, power_past, cause_of_call, keeps, with_or_without}
use Rattle.rc_log.proofs.Frames.{Parts, parts_of}
use Rattle.rc_log.proofs.Images.{still, gated}
use Rattle.rc_log.proofs.Crashes.{same_some}

-- the bytes that a cut of the power leaves, by tests of its pick
by_pick : (im : Images) (rs : Bool → List (List ℕ)) (a b d : Bool) → (a ≡ true → (b || d) ≡ false) → records im.synced ≡ Ok (rs false) → records im.plain ≡ Ok (rs true) → records im.ones ≡ Ok (rs true) → records im.full ≡ Ok (rs false)
    → records (if a then im.synced else (if b then im.plain else (if d then im.ones else im.full))) ≡ Ok (rs (b || d))
by_pick im rs true b d none synced plain ones full = synced ∙ ap (λ (t : Bool). Ok (rs t)) (sym (none refl))
by_pick im rs false true d none synced plain ones full = plain
by_pick im rs false false true none synced plain ones full = ones
by_pick im rs false false false none synced plain ones full = full

picked : (im : Images) (rs : Bool → List (List ℕ)) (pick : ℕ) → records im.synced ≡ Ok (rs false) → records im.plain ≡ Ok (rs true) → records im.ones ≡ Ok (rs true) → records im.full ≡ Ok (rs false)
    → records (image pick im) ≡ Ok (rs ((pick == 1) || (pick == 3)))
picked im rs pick synced plain ones full = by_pick im rs (pick == 0) (pick == 1) (pick == 3) (zero_only pick) synced plain ones full
  where
    zero_only : (k : ℕ) → (k == 0) ≡ true → ((k == 1) || (k == 3)) ≡ false
    zero_only k h = grind (arith, nat_tests)

module _ (c : List ℕ) (rs : List (List ℕ)) (r : List ℕ) (place : ℕ) (whole : records c ≡ Ok rs) (at : place ≡ size_of rs) (short : length r < 2 ^ 32) where
  abbrev first : Call
  first = Writes (place + 1) (behind_gate r)

  abbrev gate : Call
  gate = Writes place (1 ∷ [])

  abbrev c1 : List ℕ
  c1 = effect first c

  parts : Parts c rs
  parts = parts_of c rs whole

  behind_shut : (bytes : List ℕ) → records (effect (Writes (place + 1) bytes) c) ≡ Ok rs
  behind_shut bytes = still c rs r place parts at short bytes (drop (place + 1 + length bytes) c)

  pub with_gate : (m : ℕ) → records (effect (Writes place (m ∷ [])) c1) ≡ Ok (with_or_without (m == 1) rs r)
  with_gate m = gated c rs r place parts at short m

  first_image : (pick : ℕ) → records (image pick (made first (all_synced c))) ≡ Ok rs
  first_image pick = picked (made first (all_synced c)) (λ (t : Bool). rs) pick whole (behind_shut (behind_gate r)) (behind_shut (filled 1 (behind_gate r))) (behind_shut (filled 255 (behind_gate r)))

  gate_image : (pick : ℕ) → records (image pick (made gate (all_synced c1))) ≡ Ok (with_or_without ((pick == 1) || (pick == 3)) rs r)
  gate_image pick = picked (made gate (all_synced c1)) (λ (t : Bool). with_or_without t rs r) pick (behind_shut (behind_gate r)) (with_gate 1) (with_gate 1) (with_gate 255)

  pub kept1 : (cause : Cause) → records (images_failed cause first (all_synced c)).plain ≡ Ok (with_or_without (keeps 1 cause) rs r)
  kept1 ByList = whole
  kept1 (ByCut pick) = first_image pick
  kept1 WhileOff = whole

  pub kept2 : (cause : Cause) → records (images_failed cause Syncs (made first (all_synced c))).plain ≡ Ok (with_or_without (keeps 2 cause) rs r)
  kept2 ByList = behind_shut (behind_gate r)
  kept2 (ByCut pick) = first_image pick
  kept2 WhileOff = behind_shut (behind_gate r)

  pub kept3 : (cause : Cause) → records (images_failed cause gate (all_synced c1)).plain ≡ Ok (with_or_without (keeps 3 cause) rs r)
  kept3 ByList = behind_shut (behind_gate r)
  kept3 (ByCut pick) = gate_image pick
  kept3 WhileOff = behind_shut (behind_gate r)

  pub kept4 : (cause : Cause) → records (images_failed cause Syncs (made gate (all_synced c1))).plain ≡ Ok (with_or_without (keeps 4 cause) rs r)
  kept4 ByList = with_gate 1
  kept4 (ByCut pick) = gate_image pick
  kept4 WhileOff = with_gate 1

pub fuse : {A B C : Type 0} (f : B → C) (g : A → B) (o : Option A) → option_map f (option_map g o) ≡ option_map (λ a. f (g a)) o
fuse f g None = refl
fuse f g (Some a) = refl

-- one call of a disk, as it went
pub record Went (ok : Bool) (call : Call) (o now : Option Told) (p p' : Power) (f f' k k' : ℕ) : Type 0 where
  pub told : now ≡ option_map (after call ok) o
  pub power : p' ≡ power_after p
  pub counts : AreCounted (cause_at p) ok f f' k k'

-- a call that was done moves no count
pub count_next : (c0 c : Cause) (f0 f f' k0 k k' : ℕ) → AreCounted c0 true f0 f k0 k → AreCounted c false f f' k k' → AreCounted c false f0 f' k0 k'
count_next c0 c f0 f f' k0 k k' done failed =
    subst (λ (g : ℕ). AreCounted c false f0 f' g k') done.of_cuts (subst (λ (g : ℕ). AreCounted c false g f' k k') done.all_faults failed)

pub still_next : (c0 : Cause) (f0 f f' k0 k k' : ℕ) → AreCounted c0 true f0 f k0 k → AreStill f f' k k' → AreStill f0 f' k0 k'
still_next c0 f0 f f' k0 k k' done rest = record { same_faults = rest.same_faults ∙ done.all_faults; same_cuts = rest.same_cuts ∙ done.of_cuts }

pub still_one : (c : Cause) (f f' k k' : ℕ) → AreCounted c true f f' k k' → AreStill f f' k k'
still_one c f f' k k' done = record { same_faults = done.all_faults; same_cuts = done.of_cuts }

-- a call fails
stop : (content : Option (List ℕ)) (ml : List ℕ → Type 0) (before now : Option Told) (len place : ℕ) (r : List ℕ) (n f f' k k' : ℕ) (p p' : Power) (cause_of : Power → Cause)
    → IfSome before (λ t. t.power ≡ p) → AreCounted (cause_of p) false f f' k k' → cause_of_call n p ≡ cause_of p → (1 < n → IsTrue (is_on (power_past (n - 1) p))) → p' ≡ power_past n p
    → IsSettled content ml before len place → IfSome before (λ t. content ≡ Some (read_bytes t)) → 1 ≤ n → n ≤ 4
    → now ≡ option_map (stopped_at n (append_calls place r)) before
    → ((t : Told) → (stopped_at n (append_calls place r) t).numbers ≡ stopped_by n (cause_of t.power) t.numbers)
    → ((c : List ℕ) → records c ≡ Ok (listed c) → place ≡ size_of (listed c) → (t : Told) → t.images ≡ all_synced c → records (read_bytes (stopped_at n (append_calls place r) t)) ≡ Ok (with_or_without (keeps n (cause_of t.power)) (listed c) r))
    → FailedAt before now (Some p) (Some p') (option_map listed content) place r f f' k k'
stop content ml None now len place r n f f' k k' p p' cause_of told_power counts reason held past s law low high is numbers kept = record {
  call = n;
  cause = cause_of p;
  low = low;
  high = high;
  reason = ap Some reason;
  held = held;
  power_is = ap Some past;
  whole_state = is;
  counts = counts;
  numbers = ap numbers_of is;
  kept = subst (λ (o : Option Told). IfSome o (λ t. IfSome (option_map listed content) (λ rs. records (read_bytes t) ≡ Ok (with_or_without (keeps n (cause_of p)) rs r)))) (sym is) tt;
}
stop content ml (Some t) now len place r n f f' k k' p p' cause_of told_power counts reason held past s law low high is numbers kept =
    let c = t.images.plain in
    let whole : records c ≡ Ok (listed c) = s.whole c law in
    let at : place ≡ size_of (listed c) = s.place_is c law in
    let left : records (read_bytes (stopped_at n (append_calls place r) t)) ≡ Ok (with_or_without (keeps n (cause_of p)) (listed c) r) =
    kept c whole at t (s.synced t refl) ∙ ap (λ (q : Power). Ok (with_or_without (keeps n (cause_of q)) (listed c) r)) told_power in
    record {
      call = n;
      cause = cause_of p;
      low = low;
      high = high;
      reason = ap Some reason;
      held = held;
      power_is = ap Some past;
      whole_state = is;
      counts = counts;
      numbers = ap numbers_of is ∙ ap Some (numbers t ∙ ap (λ (q : Power). stopped_by n (cause_of q) t.numbers) told_power);
      kept = subst (λ (o : Option Told). IfSome o (λ u. IfSome (option_map listed content) (λ rs. records (read_bytes u) ≡ Ok (with_or_without (keeps n (cause_of p)) rs r)))) (sym is)
          (subst (λ (o : Option (List ℕ)). IfSome (option_map listed o) (λ rs. records (read_bytes (stopped_at n (append_calls place r) t)) ≡ Ok (with_or_without (keeps n (cause_of p)) rs r))) (sym law) left);
    }

unfoldable pub with_calls : ℕ → Cause → Numbers → Numbers
with_calls calls cause n = record { calls = calls; failed = n.failed ++ record { number = calls; cause = cause } ∷ [] }

pub counted_as : (calls k : ℕ) (cause : Cause) (n : Numbers) → calls ≡ n.calls + k → with_calls calls cause n ≡ stopped_by k cause n
unfolding with_calls
counted_as calls k cause n is = ap (λ (m : ℕ). with_calls m cause n) is

module _ (content : Option (List ℕ)) (ml : List ℕ → Type 0) (before now : Option Told) (len place : ℕ) (r : List ℕ) (s : IsSettled content ml before len place) (law : IfSome before (λ t. content ≡ Some (read_bytes t))) (short : length r < 2 ^ 32) (p p' : Power) (told_power : IfSome before (λ t. t.power ≡ p)) (f f' k k' : ℕ) where
  abbrev Fails : Type 0
  Fails = FailedAt before now (Some p) (Some p') (option_map listed content) place r f f' k k'

  abbrev write : Call
  write = Writes (place + 1) (behind_gate r)

  abbrev open_gate : Call
  open_gate = Writes place (1 ∷ [])

  pub fails1 : Went false write before now p p' f f' k k' → Fails
  unfolding with_calls
  fails1 one = stop content ml before now len place r 1 f f' k k' p p' cause_at told_power one.counts refl (λ late. absurd (omega (arith, late))) one.power s law (omega arith) (omega arith) one.told
      (λ t. counted_as (t.numbers.calls + 1) 1 (cause_at t.power) t.numbers refl)
      (λ c whole at t im. ap (λ (i : Images). records (images_failed (cause_at t.power) write i).plain) im ∙ kept1 c (listed c) r place whole at short (cause_at t.power))

  pub fails2 : (o1 : Option Told) (p1 : Power) (f1 k1 : ℕ) → Went true write before o1 p p1 f f1 k k1 → Went false Syncs o1 now p1 p' f1 f' k1 k' → IsTrue (is_on p1) → Fails
  unfolding with_calls
  fails2 o1 p1 f1 k1 one two on = stop content ml before now len place r 2 f f' k k' p p' (λ q. cause_at (power_after q)) told_power
      (count_next _ _ f f1 f' k k1 k' one.counts (subst (λ (q : Power). AreCounted (cause_at q) false f1 f' k1 k') one.power two.counts))
      refl (λ late. subst (λ (q : Power). IsTrue (is_on q)) one.power on) (two.power ∙ ap power_after one.power) s law (omega arith) (omega arith)
      (two.told ∙ ap (option_map (after Syncs false)) one.told ∙ fuse _ _ before)
      (λ t. counted_as (t.numbers.calls + 1 + 1) 2 (cause_at (power_after t.power)) t.numbers (omega arith))
      (λ c whole at t im. ap (λ (i : Images). records (images_failed (cause_at (power_after t.power)) Syncs (made write i)).plain) im ∙ kept2 c (listed c) r place whole at short (cause_at (power_after t.power)))

  pub fails3 : (o1 o2 : Option Told) (p1 p2 : Power) (f1 f2 k1 k2 : ℕ) → Went true write before o1 p p1 f f1 k k1 → Went true Syncs o1 o2 p1 p2 f1 f2 k1 k2 → Went false open_gate o2 now p2 p' f2 f' k2 k' → IsTrue (is_on p2) → Fails
  unfolding with_calls
  fails3 o1 o2 p1 p2 f1 f2 k1 k2 one two three on =
      let past2 : p2 ≡ power_after (power_after p) = two.power ∙ ap power_after one.power in
      stop content ml before now len place r 3 f f' k k' p p' (λ q. cause_at (power_after (power_after q))) told_power
      (count_next _ _ f f1 f' k k1 k' one.counts (count_next _ _ f1 f2 f' k1 k2 k' two.counts (subst (λ (q : Power). AreCounted (cause_at q) false f2 f' k2 k') past2 three.counts)))
      refl (λ late. subst (λ (q : Power). IsTrue (is_on q)) past2 on) (three.power ∙ ap power_after past2) s law (omega arith) (omega arith)
      (three.told ∙ ap (option_map (after open_gate false)) (two.told ∙ ap (option_map (after Syncs true)) one.told ∙ fuse _ _ before) ∙ fuse _ _ before)
      (λ t. counted_as (t.numbers.calls + 1 + 1 + 1) 3 (cause_at (power_after (power_after t.power))) t.numbers (omega arith))
      (λ c whole at t im. ap (λ (i : Images). records (images_failed (cause_at (power_after (power_after t.power))) open_gate (all_synced (made write i).plain)).plain) im
      ∙ kept3 c (listed c) r place whole at short (cause_at (power_after (power_after t.power))))

  pub fails4 : (o1 o2 o3 : Option Told) (p1 p2 p3 : Power) (f1 f2 f3 k1 k2 k3 : ℕ) → Went true write before o1 p p1 f f1 k k1 → Went true Syncs o1 o2 p1 p2 f1 f2 k1 k2 → Went true open_gate o2 o3 p2 p3 f2 f3 k2 k3
      → Went false Syncs o3 now p3 p' f3 f' k3 k' → IsTrue (is_on p3) → Fails
  unfolding with_calls
  fails4 o1 o2 o3 p1 p2 p3 f1 f2 f3 k1 k2 k3 one two three four on =
      let past3 : p3 ≡ power_after (power_after (power_after p)) = three.power ∙ ap power_after (two.power ∙ ap power_after one.power) in
      stop content ml before now len place r 4 f f' k k' p p' (λ q. cause_at (power_after (power_after (power_after q)))) told_power
      (count_next _ _ f f1 f' k k1 k' one.counts (count_next _ _ f1 f2 f' k1 k2 k' two.counts (count_next _ _ f2 f3 f' k2 k3 k' three.counts (subst (λ (q : Power). AreCounted (cause_at q) false f3 f' k3 k') past3 four.counts))))
      refl (λ late. subst (λ (q : Power). IsTrue (is_on q)) past3 on) (four.power ∙ ap power_after past3) s law (omega arith) (omega arith)
      (four.told ∙ ap (option_map (after Syncs false)) (three.told ∙ ap (option_map (after open_gate true)) (two.told ∙ ap (option_map (after Syncs true)) one.told ∙ fuse _ _ before) ∙ fuse _ _ before) ∙ fuse _ _ before)
      (λ t. counted_as (t.numbers.calls + 1 + 1 + 1 + 1) 4 (cause_at (power_after (power_after (power_after t.power)))) t.numbers (omega arith))
      (λ c whole at t im. ap (λ (i : Images). records (images_failed (cause_at (power_after (power_after (power_after t.power)))) Syncs (made open_gate (all_synced (made write i).plain))).plain) im
      ∙ kept4 c (listed c) r place whole at short (cause_at (power_after (power_after (power_after t.power)))))

pub whole_run : (before now o1 o2 o3 : Option Told) (place : ℕ) (r : List ℕ) → o1 ≡ option_map (after (Writes (place + 1) (behind_gate r)) true) before → o2 ≡ option_map (after Syncs true) o1
    → o3 ≡ option_map (after (Writes place (1 ∷ [])) true) o2 → now ≡ option_map (after Syncs true) o3 → now ≡ option_map (all_done (append_calls place r)) before
whole_run before now o1 o2 o3 place r is1 is2 is3 is =
    is ∙ ap (option_map (after Syncs true)) (is3 ∙ ap (option_map (after (Writes place (1 ∷ [])) true)) (is2 ∙ ap (option_map (after Syncs true)) is1 ∙ fuse _ _ before) ∙ fuse _ _ before) ∙ fuse _ _ before

abbrev with_sum : ℕ → Numbers → Numbers
with_sum m n = record { calls = m; failed = n.failed }

-- all calls of an append are counted
pub all_counted : (before now : Option Told) (place : ℕ) (r : List ℕ) → now ≡ option_map (all_done (append_calls place r)) before → numbers_of now ≡ option_map (counted_by 4) (numbers_of before)
all_counted None now place r is = ap numbers_of is
all_counted (Some t) now place r is = ap numbers_of is ∙ ap (λ (m : ℕ). Some (with_sum m t.numbers)) (omega arith)

-- after a sync nothing is pending
pub nothing_pending : (o now : Option Told) → now ≡ option_map (after Syncs true) o → ForSome now (λ t. t.images ≡ all_synced t.images.plain)
nothing_pending o now is = subst (λ (x : Option Told). ForSome x (λ t. t.images ≡ all_synced t.images.plain)) (sym is) (at_sync o)
  where
    at_sync : (o : Option Told) → ForSome (option_map (after Syncs true) o) (λ t. t.images ≡ all_synced t.images.plain)
    at_sync None t is = absurd (cc)
    at_sync (Some u) t is = let same : after_done Syncs u ≡ t = cc in subst (λ (v : Told). v.images ≡ all_synced v.images.plain) same refl

-- an append that was done
pub record Grew (old new : Option (List ℕ)) (place : ℕ) (r : List ℕ) : Type 0 where
  pub records_are : option_map listed new ≡ option_map (λ (rs : List (List ℕ)). rs ++ r ∷ []) (option_map listed old)
  pub whole : ForSome new (λ c. records c ≡ Ok (listed c))
  pub place_is : ForSome new (λ c. place + 5 + length r ≡ size_of (listed c))

grew_in : (c c2 : List ℕ) (place : ℕ) (r : List ℕ) → place ≡ size_of (listed c) → records c2 ≡ Ok (listed c ++ r ∷ []) → Grew (Some c) (Some c2) place r
grew_in c c2 place r at is =
    let listed_is : listed c2 ≡ listed c ++ r ∷ [] = ap listed_in is in
    record {
      records_are = ap Some listed_is;
      whole = λ d same. let e = same_some c2 d same in subst (λ (l : List ℕ). records l ≡ Ok (listed l)) e (is ∙ ap Ok (sym listed_is));
      place_is = λ d same.
          let e = same_some c2 d same in
          subst (λ (l : List ℕ). place + 5 + length r ≡ size_of (listed l)) e
          (omega (arith, at, sum_by-append (λ (l : List ℕ). length l + 5) (listed c) (r ∷ []), ap size_of listed_is));
    }

pub grew : (old new : Option (List ℕ)) (ml : List ℕ → Type 0) (told : Option Told) (len place : ℕ) (r : List ℕ) → IsSettled old ml told len place → length r < 2 ^ 32
    → new ≡ option_map (effect (Writes place (1 ∷ []))) (option_map (effect (Writes (place + 1) (behind_gate r))) old) → Grew old new place r
grew None new ml told len place r s short is = subst (λ (o : Option (List ℕ)). Grew None o place r) (sym is) nothing
  where
    nothing : Grew None None place r
    nothing = record { records_are = refl; whole = λ d same. absurd (cc (same)); place_is = λ d same. absurd (cc (same)) }
grew (Some c) new ml told len place r s short is =
    subst (λ (o : Option (List ℕ)). Grew (Some c) o place r) (sym is)
    (grew_in c (effect (Writes place (1 ∷ [])) (effect (Writes (place + 1) (behind_gate r)) c)) place r (s.place_is c refl) (with_gate c (listed c) r place (s.whole c refl) (s.place_is c refl) short 1))

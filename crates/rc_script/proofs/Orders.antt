-- The order of the commands, as a walk from world to world and as a grammar.
use Rattle.std.proofs.Common.{◌≡◌, ℕ, ◌-◌, ◌≤◌, eqb, ltb, Bool, true, ◌&&◌, List, [], ◌∷◌, ◌++◌, length, map, Option, Some, None, refl, sym, ap, ◌∙◌, subst, arith}
use Rattle.std.specs.Prelude.{IsTrue}
use Rattle.std.specs.List.{AllByRecursion}
use Rattle.std.specs.Ordering.{is_lt}
use Rattle.std.proofs.lemmas.Bool.{eqb-true, eq-eqb, ltb-true, lt-ltb}
use Rattle.std.proofs.lemmas.List.{nil_from_length}
use Rattle.std.proofs.lemmas.Option.{none-some, same_Some}
use Rattle.rc_ids.specs.Cluster.{rise, rise_after}
use Rattle.rc_ids.specs.Texts.{IsKey, key_cmp}
use Rattle.rc_script.specs.declared.command.Command.{Command}
use Rattle.rc_script.specs.declared.command.Command.TheVariants as commands
use Rattle.rc_script.specs.Words.{only_if}
use Rattle.rc_script.specs.Spelling.{IsCommandOf}
use Rattle.rc_script.specs.Stages.{World, is_above, after_command, is_whole, dcs_of, shards_of}
use Rattle.rc_script.specs.Grammar.{IsOther, MayFollow, IsScript}
use Rattle.rc_script.proofs.Steps.{only_if_some, and_second}
use Rattle.rc_script.proofs.Texts.{and_first}

-- each command may stand where it does, and no split is missing at the end
abbrev pub Follow : Option World → List Command → Type 0
Follow before [] = IsTrue (is_whole before)
Follow before (c ∷ cs) = (after : World) × (after_command before c ≡ Some after) × IsCommandOf (dcs_of before) (shards_of before) c × Follow (Some after) cs

abbrev pub Bounded : Option World → Type 0
Bounded before = (dcs_of before ≤ 7) × (shards_of before ≤ 8)

-- ---- from the walk

abbrev rise_from : Option (List ℕ) → List (List ℕ) → Bool
rise_from None keys = rise keys
rise_from (Some last) keys = rise_after last keys

rise_none : (last : Option (List ℕ)) → rise_from last [] ≡ true
rise_none None = refl
rise_none (Some last) = refl

rise_more : (last : Option (List ℕ)) (key : List ℕ) (keys : List (List ℕ)) → is_above last key ≡ true → rise_after key keys ≡ true → rise_from last (key ∷ keys) ≡ true
rise_more None key keys first more = more
rise_more (Some last) key keys first more = rw (first, more) refl

rise_parts : (last : Option (List ℕ)) (key : List ℕ) (keys : List (List ℕ)) → rise_from last (key ∷ keys) ≡ true → (is_above last key ≡ true) × (rise_after key keys ≡ true)
rise_parts None key keys rising = (refl, rising)
rise_parts (Some last) key keys rising = (and_first (is_lt (key_cmp last key)) (rise_after key keys) rising, and_second (is_lt (key_cmp last key)) (rise_after key keys) rising)

-- what stands behind a world whose splits are read so far
record Behind (w : World) (cs : List Command) : Type 0 where
  splits : List (List ℕ)
  others : List Command
  parts : cs ≡ map commands.Split splits ++ others
  number : length splits ≡ w.missing
  rising : rise_from w.last splits ≡ true
  keys : AllByRecursion IsKey splits
  rest : AllByRecursion (MayFollow w.dcs w.shards) others

abbrev with_split : World → List ℕ → World
with_split w key = record { dcs = w.dcs; shards = w.shards; missing = w.missing - 1; last = Some key }

split_first : (w : World) (key : List ℕ) (cs : List Command) → ((v : World) → Follow (Some v) cs → Behind v cs) → Follow (Some w) (commands.Split key ∷ cs) → Behind w (commands.Split key ∷ cs)
split_first w key cs behind f =
    let b = only_if_some (ltb 0 w.missing && is_above w.last key) (with_split w key) f.0 f.1 in
    let more = behind (with_split w key) (subst (λ (v : World). Follow (Some v) cs) (sym b.1) f.3) in
    let some = ltb-true 0 w.missing (and_first (ltb 0 w.missing) (is_above w.last key) b.0) in
    record {
      splits = key ∷ more.splits;
      others = more.others;
      parts = ap (λ (xs : List Command). commands.Split key ∷ xs) more.parts;
      number = omega (arith, more.number);
      rising = rise_more w.last key more.splits (and_second (ltb 0 w.missing) (is_above w.last key) b.0) more.rising;
      keys = (f.2, more.keys);
      rest = more.rest;
    }

other_first : (w : World) (c : Command) (cs : List Command) → IsOther c → after_command (Some w) c ≡ only_if (eqb w.missing 0) w → ((v : World) → Follow (Some v) cs → Behind v cs) → Follow (Some w) (c ∷ cs) → Behind w (c ∷ cs)
other_first w c cs other step behind f =
    let b = only_if_some (eqb w.missing 0) w f.0 (sym step ∙ f.1) in
    let more = behind w (subst (λ (v : World). Follow (Some v) cs) (sym b.1) f.3) in
    let none = eqb-true w.missing 0 b.0 in
    let no_split : more.splits ≡ [] = nil_from_length more.splits (more.number ∙ none) in
    record {
      splits = [];
      others = c ∷ more.others;
      parts = ap (λ (xs : List Command). c ∷ xs) (more.parts ∙ ap (λ (keys : List (List ℕ)). map commands.Split keys ++ more.others) no_split);
      number = sym none;
      rising = rise_none w.last;
      keys = tt;
      rest = ((other, f.2), more.rest);
    }

behind_of : (cs : List Command) (w : World) → Follow (Some w) cs → Behind w cs
behind_of [] w f = record { splits = []; others = []; parts = refl; number = sym (eqb-true w.missing 0 f); rising = rise_none w.last; keys = tt; rest = tt }
behind_of (commands.World n s weights ∷ cs) w f = absurd (none-some f.0 f.1)
behind_of (commands.Split key ∷ cs) w f = split_first w key cs (λ v g. behind_of cs v g) f
behind_of (commands.Begin tx ∷ cs) w f = other_first w (commands.Begin tx) cs tt refl (λ v g. behind_of cs v g) f
behind_of (commands.Read tx key ∷ cs) w f = other_first w (commands.Read tx key) cs tt refl (λ v g. behind_of cs v g) f
behind_of (commands.Write tx key val ∷ cs) w f = other_first w (commands.Write tx key val) cs tt refl (λ v g. behind_of cs v g) f
behind_of (commands.Delete tx key ∷ cs) w f = other_first w (commands.Delete tx key) cs tt refl (λ v g. behind_of cs v g) f
behind_of (commands.Commit tx ∷ cs) w f = other_first w (commands.Commit tx) cs tt refl (λ v g. behind_of cs v g) f
behind_of (commands.Cancel tx key ∷ cs) w f = other_first w (commands.Cancel tx key) cs tt refl (λ v g. behind_of cs v g) f
behind_of (commands.Retry tx ∷ cs) w f = other_first w (commands.Retry tx) cs tt refl (λ v g. behind_of cs v g) f
behind_of (commands.Vanish tx ∷ cs) w f = other_first w (commands.Vanish tx) cs tt refl (λ v g. behind_of cs v g) f
behind_of (commands.Step count ∷ cs) w f = other_first w (commands.Step count) cs tt refl (λ v g. behind_of cs v g) f
behind_of (commands.Settle ∷ cs) w f = other_first w commands.Settle cs tt refl (λ v g. behind_of cs v g) f
behind_of (commands.Deliver numbers ∷ cs) w f = other_first w (commands.Deliver numbers) cs tt refl (λ v g. behind_of cs v g) f
behind_of (commands.Lose numbers ∷ cs) w f = other_first w (commands.Lose numbers) cs tt refl (λ v g. behind_of cs v g) f
behind_of (commands.Crash node ∷ cs) w f = other_first w (commands.Crash node) cs tt refl (λ v g. behind_of cs v g) f
behind_of (commands.CrashAt node call pick ∷ cs) w f = other_first w (commands.CrashAt node call pick) cs tt refl (λ v g. behind_of cs v g) f
behind_of (commands.Restart node ∷ cs) w f = other_first w (commands.Restart node) cs tt refl (λ v g. behind_of cs v g) f
behind_of (commands.Take dc tx ∷ cs) w f = other_first w (commands.Take dc tx) cs tt refl (λ v g. behind_of cs v g) f
behind_of (commands.Catch node ∷ cs) w f = other_first w (commands.Catch node) cs tt refl (λ v g. behind_of cs v g) f
behind_of (commands.Pending ∷ cs) w f = other_first w commands.Pending cs tt refl (λ v g. behind_of cs v g) f
behind_of (commands.Show dc ∷ cs) w f = other_first w (commands.Show dc) cs tt refl (λ v g. behind_of cs v g) f
behind_of (commands.Order ∷ cs) w f = other_first w commands.Order cs tt refl (λ v g. behind_of cs v g) f

pub follow_taken : (cs : List Command) → Follow None cs → IsScript cs
follow_taken [] f = tt
follow_taken (commands.World n s weights ∷ cs) f =
    let made : World = record { dcs = n; shards = s; missing = s - 1; last = None } in
    let more = behind_of cs made (subst (λ (v : World). Follow (Some v) cs) (sym (same_Some made f.0 f.1)) f.3) in
    (f.2, record { splits = more.splits; others = more.others; parts = more.parts; number = omega (arith, more.number, f.2.2.0); rising = more.rising; keys = more.keys; rest = more.rest })
follow_taken (commands.Split key ∷ cs) f = absurd (none-some f.0 f.1)
follow_taken (commands.Begin tx ∷ cs) f = absurd (none-some f.0 f.1)
follow_taken (commands.Read tx key ∷ cs) f = absurd (none-some f.0 f.1)
follow_taken (commands.Write tx key val ∷ cs) f = absurd (none-some f.0 f.1)
follow_taken (commands.Delete tx key ∷ cs) f = absurd (none-some f.0 f.1)
follow_taken (commands.Commit tx ∷ cs) f = absurd (none-some f.0 f.1)
follow_taken (commands.Cancel tx key ∷ cs) f = absurd (none-some f.0 f.1)
follow_taken (commands.Retry tx ∷ cs) f = absurd (none-some f.0 f.1)
follow_taken (commands.Vanish tx ∷ cs) f = absurd (none-some f.0 f.1)
follow_taken (commands.Step count ∷ cs) f = absurd (none-some f.0 f.1)
follow_taken (commands.Settle ∷ cs) f = absurd (none-some f.0 f.1)
follow_taken (commands.Deliver numbers ∷ cs) f = absurd (none-some f.0 f.1)
follow_taken (commands.Lose numbers ∷ cs) f = absurd (none-some f.0 f.1)
follow_taken (commands.Crash node ∷ cs) f = absurd (none-some f.0 f.1)
follow_taken (commands.CrashAt node call pick ∷ cs) f = absurd (none-some f.0 f.1)
follow_taken (commands.Restart node ∷ cs) f = absurd (none-some f.0 f.1)
follow_taken (commands.Take dc tx ∷ cs) f = absurd (none-some f.0 f.1)
follow_taken (commands.Catch node ∷ cs) f = absurd (none-some f.0 f.1)
follow_taken (commands.Pending ∷ cs) f = absurd (none-some f.0 f.1)
follow_taken (commands.Show dc ∷ cs) f = absurd (none-some f.0 f.1)
follow_taken (commands.Order ∷ cs) f = absurd (none-some f.0 f.1)

-- ---- to the walk

next_other : (w : World) (c : Command) (cs : List Command) → w.missing ≡ 0 → after_command (Some w) c ≡ only_if (eqb w.missing 0) w → IsCommandOf w.dcs w.shards c → Follow (Some w) cs → Follow (Some w) (c ∷ cs)
next_other w c cs none step fits more = let all : eqb w.missing 0 ≡ true = eq-eqb _ _ none in (w, step ∙ ap (λ (t : Bool). only_if t w) all, fits, more)

others_follow : (cs : List Command) (w : World) → w.missing ≡ 0 → AllByRecursion (MayFollow w.dcs w.shards) cs → Follow (Some w) cs
others_follow [] w none fits = eq-eqb _ _ none
others_follow (commands.World n s weights ∷ cs) w none fits = absurd fits.0.0
others_follow (commands.Split key ∷ cs) w none fits = absurd fits.0.0
others_follow (commands.Begin tx ∷ cs) w none fits = next_other w (commands.Begin tx) cs none refl fits.0.1 (others_follow cs w none fits.1)
others_follow (commands.Read tx key ∷ cs) w none fits = next_other w (commands.Read tx key) cs none refl fits.0.1 (others_follow cs w none fits.1)
others_follow (commands.Write tx key val ∷ cs) w none fits = next_other w (commands.Write tx key val) cs none refl fits.0.1 (others_follow cs w none fits.1)
others_follow (commands.Delete tx key ∷ cs) w none fits = next_other w (commands.Delete tx key) cs none refl fits.0.1 (others_follow cs w none fits.1)
others_follow (commands.Commit tx ∷ cs) w none fits = next_other w (commands.Commit tx) cs none refl fits.0.1 (others_follow cs w none fits.1)
others_follow (commands.Cancel tx key ∷ cs) w none fits = next_other w (commands.Cancel tx key) cs none refl fits.0.1 (others_follow cs w none fits.1)
others_follow (commands.Retry tx ∷ cs) w none fits = next_other w (commands.Retry tx) cs none refl fits.0.1 (others_follow cs w none fits.1)
others_follow (commands.Vanish tx ∷ cs) w none fits = next_other w (commands.Vanish tx) cs none refl fits.0.1 (others_follow cs w none fits.1)
others_follow (commands.Step count ∷ cs) w none fits = next_other w (commands.Step count) cs none refl fits.0.1 (others_follow cs w none fits.1)
others_follow (commands.Settle ∷ cs) w none fits = next_other w commands.Settle cs none refl fits.0.1 (others_follow cs w none fits.1)
others_follow (commands.Deliver numbers ∷ cs) w none fits = next_other w (commands.Deliver numbers) cs none refl fits.0.1 (others_follow cs w none fits.1)
others_follow (commands.Lose numbers ∷ cs) w none fits = next_other w (commands.Lose numbers) cs none refl fits.0.1 (others_follow cs w none fits.1)
others_follow (commands.Crash node ∷ cs) w none fits = next_other w (commands.Crash node) cs none refl fits.0.1 (others_follow cs w none fits.1)
others_follow (commands.CrashAt node call pick ∷ cs) w none fits = next_other w (commands.CrashAt node call pick) cs none refl fits.0.1 (others_follow cs w none fits.1)
others_follow (commands.Restart node ∷ cs) w none fits = next_other w (commands.Restart node) cs none refl fits.0.1 (others_follow cs w none fits.1)
others_follow (commands.Take dc tx ∷ cs) w none fits = next_other w (commands.Take dc tx) cs none refl fits.0.1 (others_follow cs w none fits.1)
others_follow (commands.Catch node ∷ cs) w none fits = next_other w (commands.Catch node) cs none refl fits.0.1 (others_follow cs w none fits.1)
others_follow (commands.Pending ∷ cs) w none fits = next_other w commands.Pending cs none refl fits.0.1 (others_follow cs w none fits.1)
others_follow (commands.Show dc ∷ cs) w none fits = next_other w (commands.Show dc) cs none refl fits.0.1 (others_follow cs w none fits.1)
others_follow (commands.Order ∷ cs) w none fits = next_other w commands.Order cs none refl fits.0.1 (others_follow cs w none fits.1)

splits_follow : (keys : List (List ℕ)) (others : List Command) (w : World) → length keys ≡ w.missing → rise_from w.last keys ≡ true → AllByRecursion IsKey keys → AllByRecursion (MayFollow w.dcs w.shards) others → Follow (Some w) (map commands.Split keys ++ others)
splits_follow [] others w number rising of_keys rest = others_follow others w (sym number) rest
splits_follow (key ∷ keys) others w number rising of_keys rest =
    let parts = rise_parts w.last key keys rising in
    let some : ltb 0 w.missing ≡ true = lt-ltb _ _ (omega arith) in
    let fewer : length keys ≡ w.missing - 1 = omega arith in
    let step : after_command (Some w) (commands.Split key) ≡ Some (with_split w key) = ap (λ (t : Bool). only_if (t && is_above w.last key) (with_split w key)) some ∙ ap (λ (t : Bool). only_if t (with_split w key)) parts.0 in
    (with_split w key, step, of_keys.0, splits_follow keys others (with_split w key) fewer parts.1 of_keys.1 rest)

pub script_follows : (cs : List Command) → IsScript cs → Follow None cs
script_follows [] ordered = refl
script_follows (commands.World n s weights ∷ cs) ordered =
    let made : World = record { dcs = n; shards = s; missing = s - 1; last = None } in
    let number : length ordered.1.splits ≡ s - 1 = omega (arith, ordered.1.number) in
    let more = splits_follow ordered.1.splits ordered.1.others made number ordered.1.rising ordered.1.keys ordered.1.rest in
    (made, refl, ordered.0, subst (λ (xs : List Command). Follow (Some made) xs) (sym ordered.1.parts) more)
script_follows (commands.Split key ∷ cs) ordered = absurd ordered
script_follows (commands.Begin tx ∷ cs) ordered = absurd ordered
script_follows (commands.Read tx key ∷ cs) ordered = absurd ordered
script_follows (commands.Write tx key val ∷ cs) ordered = absurd ordered
script_follows (commands.Delete tx key ∷ cs) ordered = absurd ordered
script_follows (commands.Commit tx ∷ cs) ordered = absurd ordered
script_follows (commands.Cancel tx key ∷ cs) ordered = absurd ordered
script_follows (commands.Retry tx ∷ cs) ordered = absurd ordered
script_follows (commands.Vanish tx ∷ cs) ordered = absurd ordered
script_follows (commands.Step count ∷ cs) ordered = absurd ordered
script_follows (commands.Settle ∷ cs) ordered = absurd ordered
script_follows (commands.Deliver numbers ∷ cs) ordered = absurd ordered
script_follows (commands.Lose numbers ∷ cs) ordered = absurd ordered
script_follows (commands.Crash node ∷ cs) ordered = absurd ordered
script_follows (commands.CrashAt node call pick ∷ cs) ordered = absurd ordered
script_follows (commands.Restart node ∷ cs) ordered = absurd ordered
script_follows (commands.Take dc tx ∷ cs) ordered = absurd ordered
script_follows (commands.Catch node ∷ cs) ordered = absurd ordered
script_follows (commands.Pending ∷ cs) ordered = absurd ordered
script_follows (commands.Show dc ∷ cs) ordered = absurd ordered
script_follows (commands.Order ∷ cs) ordered = absurd ordered

-- ---- the sizes stay small

after_same : (w v : World) (test : Bool) → only_if test w ≡ Some v → Bounded (Some w) → Bounded (Some v)
after_same w v test e small = let b = only_if_some test w v e in subst (λ (x : World). Bounded (Some x)) b.1 small

pub after_bounded : (before : Option World) (c : Command) (after : World) → Bounded before → IsCommandOf (dcs_of before) (shards_of before) c → after_command before c ≡ Some after → Bounded (Some after)
after_bounded None (commands.World n s weights) after small fits e = subst (λ (x : World). Bounded (Some x)) (same_Some _ _ e) (fits.1.1, fits.2.1)
after_bounded None (commands.Split key) after small fits e = absurd (none-some after e)
after_bounded None (commands.Begin tx) after small fits e = absurd (none-some after e)
after_bounded None (commands.Read tx key) after small fits e = absurd (none-some after e)
after_bounded None (commands.Write tx key val) after small fits e = absurd (none-some after e)
after_bounded None (commands.Delete tx key) after small fits e = absurd (none-some after e)
after_bounded None (commands.Commit tx) after small fits e = absurd (none-some after e)
after_bounded None (commands.Cancel tx key) after small fits e = absurd (none-some after e)
after_bounded None (commands.Retry tx) after small fits e = absurd (none-some after e)
after_bounded None (commands.Vanish tx) after small fits e = absurd (none-some after e)
after_bounded None (commands.Step count) after small fits e = absurd (none-some after e)
after_bounded None commands.Settle after small fits e = absurd (none-some after e)
after_bounded None (commands.Deliver numbers) after small fits e = absurd (none-some after e)
after_bounded None (commands.Lose numbers) after small fits e = absurd (none-some after e)
after_bounded None (commands.Crash node) after small fits e = absurd (none-some after e)
after_bounded None (commands.CrashAt node call pick) after small fits e = absurd (none-some after e)
after_bounded None (commands.Restart node) after small fits e = absurd (none-some after e)
after_bounded None (commands.Take dc tx) after small fits e = absurd (none-some after e)
after_bounded None (commands.Catch node) after small fits e = absurd (none-some after e)
after_bounded None commands.Pending after small fits e = absurd (none-some after e)
after_bounded None (commands.Show dc) after small fits e = absurd (none-some after e)
after_bounded None commands.Order after small fits e = absurd (none-some after e)
after_bounded (Some w) (commands.World n s weights) after small fits e = absurd (none-some after e)
after_bounded (Some w) (commands.Split key) after small fits e = after_same (with_split w key) after (ltb 0 w.missing && is_above w.last key) e small
after_bounded (Some w) (commands.Begin tx) after small fits e = after_same w after (eqb w.missing 0) e small
after_bounded (Some w) (commands.Read tx key) after small fits e = after_same w after (eqb w.missing 0) e small
after_bounded (Some w) (commands.Write tx key val) after small fits e = after_same w after (eqb w.missing 0) e small
after_bounded (Some w) (commands.Delete tx key) after small fits e = after_same w after (eqb w.missing 0) e small
after_bounded (Some w) (commands.Commit tx) after small fits e = after_same w after (eqb w.missing 0) e small
after_bounded (Some w) (commands.Cancel tx key) after small fits e = after_same w after (eqb w.missing 0) e small
after_bounded (Some w) (commands.Retry tx) after small fits e = after_same w after (eqb w.missing 0) e small
after_bounded (Some w) (commands.Vanish tx) after small fits e = after_same w after (eqb w.missing 0) e small
after_bounded (Some w) (commands.Step count) after small fits e = after_same w after (eqb w.missing 0) e small
after_bounded (Some w) commands.Settle after small fits e = after_same w after (eqb w.missing 0) e small
after_bounded (Some w) (commands.Deliver numbers) after small fits e = after_same w after (eqb w.missing 0) e small
after_bounded (Some w) (commands.Lose numbers) after small fits e = after_same w after (eqb w.missing 0) e small
after_bounded (Some w) (commands.Crash node) after small fits e = after_same w after (eqb w.missing 0) e small
after_bounded (Some w) (commands.CrashAt node call pick) after small fits e = after_same w after (eqb w.missing 0) e small
after_bounded (Some w) (commands.Restart node) after small fits e = after_same w after (eqb w.missing 0) e small
after_bounded (Some w) (commands.Take dc tx) after small fits e = after_same w after (eqb w.missing 0) e small
after_bounded (Some w) (commands.Catch node) after small fits e = after_same w after (eqb w.missing 0) e small
after_bounded (Some w) commands.Pending after small fits e = after_same w after (eqb w.missing 0) e small
after_bounded (Some w) (commands.Show dc) after small fits e = after_same w after (eqb w.missing 0) e small
after_bounded (Some w) commands.Order after small fits e = after_same w after (eqb w.missing 0) e small

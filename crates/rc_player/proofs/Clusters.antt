-- The cluster of a script's world: its split keys stand in the later lines, and there is such a cluster.
use Rattle.std.proofs.Common.{◌≡◌, ℕ, zero, suc, ◌+◌, ◌%◌, ◌<◌, ◌≤◌, leb, Bool, true, ◌&&◌, List, [], ◌∷◌, ◌++◌, length, map, get_or, take, Option, None, Some, refl, sym, ap, ◌∙◌, subst, arith}
use Rattle.std.specs.Prelude.{replicate}
use Rattle.std.specs.List.{AllByRecursion, list_all}
use Rattle.std.proofs.lemmas.Bool.{eq-eqb, le-leb}
use Rattle.std.proofs.lemmas.List.{take_more, length-replicate}
use Rattle.std.proofs.lemmas.Grind.{flat_map-append}
use Rattle.std.proofs.lemmas.Bool.Decides.{nat_tests}
use Rattle.rc_ids.specs.Cluster.{Layout, layout, cluster_fault, equal_weights, is_dc_count, is_shard_count, is_weight, are_weights, are_splits, rise}
use Rattle.rc_script.specs.declared.command.Command.{Command}
use Rattle.rc_script.specs.declared.command.Command.TheVariants as commands
use Rattle.rc_script.specs.declared.script.NumberedCommand.{NumberedCommand}
use Rattle.rc_script.specs.Spelling.{IsIn, AreWeights, IsCommandOf}
use Rattle.rc_script.specs.Grammar.{IsOther, MayFollow, FollowsWorld, commands_of}
use Rattle.rc_runs.specs.Text.{split_keys}

-- ---- split keys

abbrev key_of : Command → List (List ℕ)
key_of (commands.Split key) = key ∷ []
key_of _ = []

pub splits_more : (cs : List NumberedCommand) (i : ℕ) (c : NumberedCommand) → i < length cs → c ≡ get_or cs i c → split_keys (take (i + 1) cs) ≡ split_keys (take i cs) ++ split_keys (c ∷ [])
splits_more cs i c within is =
    ap split_keys (take_more cs i c within ∙ ap (λ (x : NumberedCommand). take i cs ++ (x ∷ [])) (sym is)) ∙ flat_map-append (λ (x : NumberedCommand). key_of x.command) (take i cs) (c ∷ [])

abbrev keys_of : List Command → List (List ℕ)
keys_of [] = []
keys_of (c ∷ cs) = key_of c ++ keys_of cs

one_key : (number : ℕ) (c : Command) → split_keys (record { number = number; command = c } ∷ []) ≡ key_of c
one_key number (commands.Split key) = refl
one_key number _ = refl

all_keys : (cs : List NumberedCommand) → split_keys cs ≡ keys_of (commands_of cs)
all_keys [] = refl
all_keys (c ∷ cs) =
    flat_map-append (λ (x : NumberedCommand). key_of x.command) (c ∷ []) cs ∙ ap (λ (keys : List (List ℕ)). keys ++ split_keys cs) (one_key c.number c.command) ∙ ap (λ (keys : List (List ℕ)). key_of c.command ++ keys) (all_keys cs)

other_key : (c : Command) → IsOther c → key_of c ≡ []
other_key (commands.World dcs shards weights) other = absurd other
other_key (commands.Split key) other = absurd other
other_key _ other = refl

other_keys : (n s : ℕ) (cs : List Command) → AllByRecursion (MayFollow n s) cs → keys_of cs ≡ []
other_keys n s [] all = refl
other_keys n s (c ∷ cs) all = ap (λ (keys : List (List ℕ)). keys ++ keys_of cs) (other_key c all.0.0) ∙ other_keys n s cs all.1

keys_before : (keys : List (List ℕ)) (others : List Command) → keys_of others ≡ [] → keys_of (map commands.Split keys ++ others) ≡ keys
keys_before [] others none = none
keys_before (key ∷ keys) others none = ap (λ (later : List (List ℕ)). key ∷ later) (keys_before keys others none)

found_splits : (n s : ℕ) (cs : List NumberedCommand) (follows : FollowsWorld n s (commands_of cs)) → split_keys cs ≡ follows.splits
found_splits n s cs follows = all_keys cs ∙ ap keys_of follows.parts ∙ keys_before follows.splits follows.others (other_keys n s follows.others follows.rest)

-- ---- the cluster

dc_count : (n : ℕ) → n % 2 ≡ 1 → n ≤ 7 → is_dc_count n ≡ true
dc_count n odd small = grind (arith, nat_tests)

shard_count : (s : ℕ) → 1 ≤ s → s ≤ 8 → is_shard_count s ≡ true
shard_count s some few = ap (λ (t : Bool). t && leb s 8) (le-leb 1 s some) ∙ le-leb s 8 few

all_weights : (ws : List ℕ) → AllByRecursion (IsIn 1 9) ws → list_all is_weight ws ≡ true
all_weights [] all = refl
all_weights (w ∷ ws) all =
    ap (λ (t : Bool). (t && leb w 9) && list_all is_weight ws) (le-leb 1 w all.0.0) ∙ ap (λ (t : Bool). t && list_all is_weight ws) (le-leb w 9 all.0.1) ∙ all_weights ws all.1

weights_fit : (n : ℕ) (ws : List ℕ) → AreWeights n ws → are_weights n ws ≡ true
weights_fit n ws fit = ap (λ (t : Bool). t && list_all is_weight ws) (eq-eqb (length ws) n fit.0) ∙ all_weights ws fit.1

ones : (n : ℕ) → AllByRecursion (IsIn 1 9) (replicate n 1)
ones zero = tt
ones (suc n) = ((omega arith, omega arith), ones n)

equal_fit : (n : ℕ) → AreWeights n (equal_weights n)
equal_fit n = (length-replicate n 1, ones n)

splits_fit : (s : ℕ) (splits : List (List ℕ)) → length splits + 1 ≡ s → rise splits ≡ true → are_splits s splits ≡ true
splits_fit s splits number rising =
    let same : suc (length splits) ≡ s = omega arith in
    ap (λ (t : Bool). t && rise splits) (eq-eqb (suc (length splits)) s same) ∙ rising

there_is : (c : Layout) → is_dc_count c.dcs ≡ true → is_shard_count c.shards ≡ true → are_splits c.shards c.splits ≡ true → are_weights c.dcs c.weights ≡ true → cluster_fault c ≡ None
there_is c dcs shards splits weights = rw (dcs, shards, splits, weights) refl

world_there : (n s : ℕ) (weights : Option (List ℕ)) (cs : List NumberedCommand) (splits : List (List ℕ)) (ws : List ℕ) → IsCommandOf 0 0 (commands.World n s weights) → FollowsWorld n s (commands_of cs)
    → splits ≡ split_keys cs → AreWeights n ws → cluster_fault (layout n s splits ws) ≡ None
world_there n s weights cs splits ws world follows is fit =
    let same : splits ≡ follows.splits = is ∙ found_splits n s cs follows in
    let fitting : are_splits s splits ≡ true = subst (λ (keys : List (List ℕ)). are_splits s keys ≡ true) (sym same) (splits_fit s follows.splits follows.number follows.rising) in
    there_is (layout n s splits ws) (dc_count n world.0 world.1.1) (shard_count s world.2.0 world.2.1) fitting (weights_fit n ws fit)

-- without weights
pub equal_there : (n s : ℕ) (weights : Option (List ℕ)) (cs : List NumberedCommand) (splits : List (List ℕ)) → IsCommandOf 0 0 (commands.World n s weights) → FollowsWorld n s (commands_of cs)
    → splits ≡ split_keys cs → cluster_fault (layout n s splits (equal_weights n)) ≡ None
equal_there n s weights cs splits world follows is = world_there n s weights cs splits (equal_weights n) world follows is (equal_fit n)

-- with weights
pub weighted_there : (n s : ℕ) (weights ws : List ℕ) (cs : List NumberedCommand) (splits : List (List ℕ)) → IsCommandOf 0 0 (commands.World n s (Some weights)) → FollowsWorld n s (commands_of cs)
    → splits ≡ split_keys cs → ws ≡ weights → cluster_fault (layout n s splits ws) ≡ None
weighted_there n s weights ws cs splits world follows is same =
    world_there n s (Some weights) cs splits ws world follows is (subst (λ (l : List ℕ). AreWeights n l) (sym same) world.3)

-- What the grammar gives of a script's commands: their world is a layout, and their keys and values are no longer than keys and values.
use Rattle.std.proofs.Common.{◌≡◌, ℕ, zero, suc, ◌+◌, ◌%◌, ◌≤◌, List, [], ◌∷◌, ◌++◌, refl, sym, ap, ◌∙◌, subst, arith, leb, Bool, true, ◌&&◌, Option, Some, None}
use Rattle.std.specs.Prelude.{length, map, replicate, Ok}
use Rattle.std.specs.List.{list_all, flat_map, AllByRecursion}
use Rattle.std.proofs.lemmas.Bool.{eq-eqb, le-leb}
use Rattle.std.proofs.lemmas.List.{length-replicate}
use Rattle.std.proofs.lemmas.Bool.Decides.{nat_tests}
use Rattle.rc_ids.specs.Cluster.{IsLayout, equal_weights, is_dc_count, is_shard_count, is_key, is_weight, are_weights, are_splits, rise}
use Rattle.rc_ids.specs.Texts.{IsKey, is_key_byte}
use Rattle.rc_ids.specs.Tables.{maybe}
use Rattle.rc_script.specs.declared.command.Command.{Command}
use Rattle.rc_script.specs.declared.command.Command.TheVariants as commands
use Rattle.rc_script.specs.declared.script.NumberedCommand.{NumberedCommand}
use Rattle.rc_script.specs.Spelling.{IsIn, IsTx, AreWeights, IsCommandOf}
use Rattle.rc_script.specs.Grammar.{IsOther, MayFollow, FollowsWorld, IsScript, commands_of}
use Rattle.rc_script.specs.Reading.{script_of}
use Rattle.rc_script.proofs.Scripts.{is_found}
use Rattle.rc_runs.specs.Text.{split_keys, layout_of}

-- SIZES of what a command names
abbrev pub Sized : Command → Type 0
Sized (commands.Begin t) = IsTx t
Sized (commands.Read t k) = length k ≤ 64
Sized (commands.Write t k value) = (length k ≤ 64) × (length value ≤ 1024)
Sized (commands.Delete t k) = length k ≤ 64
Sized _ = Unit {0}

sized_command : (n s : ℕ) (c : Command) → IsCommandOf n s c → Sized c
sized_command n s (commands.Begin t) h = h
sized_command n s (commands.Read t k) h = h.1.1
sized_command n s (commands.Write t k value) h = (h.1.1, h.2.0)
sized_command n s (commands.Delete t k) h = h.1.1
sized_command n s _ h = tt

abbrev pub AllSized : List NumberedCommand → Type 0
AllSized [] = Unit {0}
AllSized (c ∷ cs) = Sized c.command × AllSized cs

sized_list : (cs : List NumberedCommand) → AllByRecursion Sized (commands_of cs) → AllSized cs
sized_list [] h = tt
sized_list (c ∷ cs) h = (h.0, sized_list cs h.1)

sized_others : (n s : ℕ) (cs : List Command) → AllByRecursion (MayFollow n s) cs → AllByRecursion Sized cs
sized_others n s [] h = tt
sized_others n s (c ∷ cs) h = (sized_command n s c h.0.1, sized_others n s cs h.1)

sized_splits : (n s : ℕ) (keys : List (List ℕ)) (cs : List Command) → AllByRecursion (MayFollow n s) cs → AllByRecursion Sized (map commands.Split keys ++ cs)
sized_splits n s [] cs h = sized_others n s cs h
sized_splits n s (k ∷ keys) cs h = (tt, sized_splits n s keys cs h)

-- SPLIT KEYS
abbrev key_in : Command → List (List ℕ)
key_in (commands.Split key) = key ∷ []
key_in _ = []

abbrev keys_in : List Command → List (List ℕ)
keys_in cs = flat_map key_in cs

all_keys : (cs : List NumberedCommand) → split_keys cs ≡ keys_in (commands_of cs)
all_keys [] = refl
all_keys (c ∷ cs) = go c.command (all_keys cs)
  where
    go : (x : Command) → split_keys cs ≡ keys_in (commands_of cs) → split_keys (record { number = c.number; command = x } ∷ cs) ≡ key_in x ++ keys_in (commands_of cs)
    go (commands.Split key) e = ap (λ (ks : List (List ℕ)). key ∷ ks) e
    go _ e = e

other_key : (c : Command) → IsOther c → key_in c ≡ []
other_key (commands.World dcs shards weights) other = absurd other
other_key (commands.Split key) other = absurd other
other_key _ other = refl

other_keys : (n s : ℕ) (cs : List Command) → AllByRecursion (MayFollow n s) cs → keys_in cs ≡ []
other_keys n s [] all = refl
other_keys n s (c ∷ cs) all = ap (λ (keys : List (List ℕ)). keys ++ keys_in cs) (other_key c all.0.0) ∙ other_keys n s cs all.1

keys_before : (keys : List (List ℕ)) (others : List Command) → keys_in others ≡ [] → keys_in (map commands.Split keys ++ others) ≡ keys
keys_before [] others none = none
keys_before (key ∷ keys) others none = ap (λ (later : List (List ℕ)). key ∷ later) (keys_before keys others none)

splits_are : (n s : ℕ) (cs : List NumberedCommand) (follows : FollowsWorld n s (commands_of cs)) → split_keys cs ≡ follows.splits
splits_are n s cs follows = all_keys cs ∙ (ap keys_in follows.parts ∙ keys_before follows.splits follows.others (other_keys n s follows.others follows.rest))

-- THE LAYOUT
dc_count : (n : ℕ) → n % 2 ≡ 1 → n ≤ 7 → is_dc_count n ≡ true
dc_count n odd small = grind (arith, nat_tests)

shard_count : (s : ℕ) → 1 ≤ s → s ≤ 8 → is_shard_count s ≡ true
shard_count s some few = ap (λ (t : Bool). t && leb s 8) (le-leb 1 s some) ∙ le-leb s 8 few

all_weights : (ws : List ℕ) → AllByRecursion (IsIn 1 9) ws → list_all is_weight ws ≡ true
all_weights [] all = refl
all_weights (w ∷ ws) all =
    ap (λ (t : Bool). (t && leb w 9) && list_all is_weight ws) (le-leb 1 w all.0.0) ∙ (ap (λ (t : Bool). t && list_all is_weight ws) (le-leb w 9 all.0.1) ∙ all_weights ws all.1)

weights_fit : (n : ℕ) (ws : List ℕ) → AreWeights n ws → are_weights n ws ≡ true
weights_fit n ws fit = ap (λ (t : Bool). t && list_all is_weight ws) (eq-eqb (length ws) n fit.0) ∙ all_weights ws fit.1

ones : (n : ℕ) → AllByRecursion (IsIn 1 9) (replicate n 1)
ones zero = tt
ones (suc n) = ((omega arith, omega arith), ones n)

weights_are : (n : ℕ) (weights : Option (List ℕ)) → IsCommandOf 0 0 (commands.World n 1 weights) → AreWeights n (maybe weights (equal_weights n) (λ ws. ws))
weights_are n None h = (length-replicate n 1, ones n)
weights_are n (Some ws) h = h.3

splits_fit : (s : ℕ) (splits : List (List ℕ)) → length splits + 1 ≡ s → rise splits ≡ true → are_splits s splits ≡ true
splits_fit s splits number rising =
    let same : suc (length splits) ≡ s = omega (arith, number) in
    ap (λ (t : Bool). t && rise splits) (eq-eqb (suc (length splits)) s same) ∙ rising

keys_fit : (keys : List (List ℕ)) → AllByRecursion IsKey keys → list_all is_key keys ≡ true
keys_fit [] h = refl
keys_fit (k ∷ keys) h =
    let a = le-leb 1 (length k) h.0.0 in
    let b = le-leb (length k) 64 h.0.1 in
    let d : list_all is_key_byte k ≡ true = h.0.2 in
    let more = keys_fit keys h.1 in
    rw (a, b, d, more)

pub record ScriptHas (dcs shards : ℕ) (weights : Option (List ℕ)) (rest : List NumberedCommand) : Type 0 where
  pub layout : IsLayout (layout_of dcs shards weights rest)
  pub sized : AllSized rest

script_has : (dcs shards : ℕ) (weights : Option (List ℕ)) (rest : List NumberedCommand) → IsCommandOf 0 0 (commands.World dcs shards weights) → FollowsWorld dcs shards (commands_of rest) → ScriptHas dcs shards weights rest
script_has dcs shards weights rest world follows =
    let is = splits_are dcs shards rest follows in
    record {
      layout = record {
        dcs = dc_count dcs world.0 world.1.1;
        shards = shard_count shards world.2.0 world.2.1;
        splits = subst (λ (ks : List (List ℕ)). are_splits shards ks ≡ true) (sym is) (splits_fit shards follows.splits follows.number follows.rising);
        keys = subst (λ (ks : List (List ℕ)). list_all is_key ks ≡ true) (sym is) (keys_fit follows.splits follows.keys);
        weights = weights_fit dcs _ (weights_are dcs weights (world.0, world.1, (omega arith, omega arith), world.3));
      };
      sized = sized_list rest (subst (AllByRecursion Sized) (sym follows.parts) (sized_splits dcs shards follows.splits follows.others follows.rest));
    }

pub facts_of : (bytes : List ℕ) (first : NumberedCommand) (rest : List NumberedCommand) (dcs shards : ℕ) (weights : Option (List ℕ)) → script_of bytes ≡ Ok (first ∷ rest) → first.command ≡ commands.World dcs shards weights
    → ScriptHas dcs shards weights rest
facts_of bytes first rest dcs shards weights script world =
    let is = is_found bytes (Ok (first ∷ rest)) script in
    let ordered = subst (λ (c : Command). IsScript (c ∷ commands_of rest)) world is.ordered in
    script_has dcs shards weights rest ordered.0 ordered.1

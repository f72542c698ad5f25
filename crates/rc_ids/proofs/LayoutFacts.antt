-- What holds of layouts.
use Rattle.std.proofs.Common.{◌≡◌, ℕ, suc, ◌+◌, ◌<◌, ◌≤◌, true, false, cond, List, [], ◌∷◌, length, refl, sym, ◌∙◌, arith, get_or, take, drop, add-one}
use Rattle.std.proofs.Math.Seq.{drop-cons}
use Rattle.std.proofs.lemmas.List.{get_or_default, take_more}
use Rattle.std.proofs.lemmas.List.Folds.{list_all-append}
use Rattle.std.specs.List.{list_all}
use Rattle.std.specs.Prelude.{◌&&◌}
use Rattle.std.specs.Ordering.{is_lt}
use Rattle.rc_ids.specs.Texts.{IsKey, key_cmp}
use Rattle.rc_ids.specs.Cluster.{Layout, IsLayout, is_dc_count, shard_from, rise_after, is_key}

-- how many datacentres there may be
pub dc_count_range : (n : ℕ) → is_dc_count n ≡ true → (1 ≤ n) × (n ≤ 7)
dc_count_range n is = (grind arith, grind arith)

-- a key passes the test of keys
pub is_key-true : (k : List ℕ) → IsKey k → is_key k ≡ true
is_key-true k h = grind (arith, h)

-- one step along rising keys
pub rise_after-drop : (k : List ℕ) (i : ℕ) (ks : List (List ℕ)) → i < length ks
    → rise_after k (drop i ks) ≡ (is_lt (key_cmp k (get_or ks i [])) && rise_after (get_or ks i []) (drop (i + 1) ks))
rise_after-drop k i ks lt = rw (add-one i, drop-cons ks i [] lt) refl

-- one step along the split keys
pub shard_from-drop : (k : List ℕ) (i : ℕ) (ks : List (List ℕ)) → i < length ks
    → shard_from (drop i ks) k ≡ cond (is_lt (key_cmp k (get_or ks i []))) 0 1 + shard_from (drop (i + 1) ks) k
shard_from-drop k i ks lt = rw (add-one i, drop-cons ks i [] lt) refl

-- the split keys are one fewer than the shards
pub splits_count : (c : Layout) → IsLayout c → (suc (length c.splits) ≡ c.shards) × (c.shards ≤ 8)
splits_count c h = (grind (arith, h.splits), grind (arith, h.shards))

-- an element read with any default is read with none
item_is : (ks : List (List ℕ)) (i : ℕ) (item : List ℕ) → i < length ks → item ≡ get_or ks i item → item ≡ get_or ks i []
item_is ks i item lt is = is ∙ get_or_default ks i item [] lt

-- where a key is not above the one before, the list does not rise
pub rise_stops : (first last item : List ℕ) (i : ℕ) (ks : List (List ℕ)) → i < length ks → item ≡ get_or ks i item
    → is_lt (key_cmp last item) ≡ false → rise_after last (drop i ks) ≡ rise_after first ks → false ≡ rise_after first ks
rise_stops first last item i ks lt is falls e =
    let here = item_is ks i item lt is in
    let down : is_lt (key_cmp last (get_or ks i [])) ≡ false = rw (← here) falls in
    let step = rise_after-drop last i ks lt in
    let none : rise_after last (drop i ks) ≡ false = rw (step, down) refl in
    sym none ∙ e

-- where it is above, the rest decides
pub rise_goes : (first last item : List ℕ) (i : ℕ) (ks : List (List ℕ)) → i < length ks → item ≡ get_or ks i item
    → is_lt (key_cmp last item) ≡ true → rise_after last (drop i ks) ≡ rise_after first ks
    → rise_after item (drop (i + 1) ks) ≡ rise_after first ks
rise_goes first last item i ks lt is up e =
    let here = item_is ks i item lt is in
    let above : is_lt (key_cmp last (get_or ks i [])) ≡ true = rw (← here) up in
    let step = rise_after-drop last i ks lt in
    let rest : rise_after last (drop i ks) ≡ rise_after item (drop (i + 1) ks) = rw (step, above, here) refl in
    sym rest ∙ e

-- one key more
pub keys_more : (item : List ℕ) (i : ℕ) (ks : List (List ℕ)) → i < length ks → item ≡ get_or ks i item → IsKey item
    → list_all is_key (take i ks) ≡ true → list_all is_key (take (i + 1) ks) ≡ true
keys_more item i ks lt is key all =
    let here = item_is ks i item lt is in
    let fine : is_key (get_or ks i []) ≡ true = rw (← here) (is_key-true item key) in
    rw (take_more ks i [] lt, list_all-append is_key (take i ks) (get_or ks i [] ∷ []), all, fine) refl

-- What a transaction may still cost: the keys that it has not read yet, and the bytes of its body.
use Rattle.std.proofs.Common.{◌≡◌, ℕ, suc, ◌+◌, ◌-◌, ◌*◌, ◌≤◌, List, [], ◌∷◌, ◌++◌, refl, ap, ◌∙◌, arith, Bool, true, false, cond, Option, Some, None}
use Rattle.std.specs.Prelude.{length, is_some, not, ◌&&◌}
use Rattle.std.specs.List.{flat_map}
use Rattle.std.proofs.lemmas.List.Sums.{sum_by-cons}
use Rattle.rc_ids.specs.Tables.{maybe, up_to}
use Rattle.rc_ids.specs.Texts.{same_key}
use Rattle.rc_ids.specs.Cluster.{Layout, IsLayout}
use Rattle.rc_ids.proofs.LayoutFacts.{dc_count_range, splits_count}
use Rattle.rc_fields.specs.Spelling.{key_bytes, u64_bytes, u16_bytes}
use Rattle.rc_body.specs.Spelling.{held_bytes, entry_bytes, body_bytes}
use Rattle.rc_serial.specs.OneMap.{Map}
use Rattle.rc_claims.specs.Calm.{Touched, touched_of, touched_set, in_shard, shards_held, read_deliveries, commit_deliveries}
use Rattle.rc_calm_batches.proofs.ReadDrains.{length_both}
use Rattle.rc_calm.proofs.Layouts.{layout_least}
use Rattle.rc_calm.proofs.Frames.{fewer}
use Rattle.rc_calm.proofs.Touching.{body_from, entry_from}
use Rattle.rc_calm.proofs.Counts.{unread_count}
use Rattle.rc_calm.proofs.Starting.{length_up}

-- KEYS READ
abbrev pub reads : List Touched → ℕ
reads [] = 0
reads (x ∷ xs) = cond x.is_read 1 0 + reads xs

pub reads_low : (xs : List Touched) → reads xs ≤ length xs
reads_low [] = omega arith
reads_low (x ∷ xs) = go x.is_read (reads_low xs)
  where
    go : (v : Bool) → reads xs ≤ length xs → cond v 1 0 + reads xs ≤ suc (length xs)
    go true h = omega (arith, h)
    go false h = omega (arith, h)

pub reads_write : (xs : List Touched) (n : Touched) → n.is_read ≡ maybe (touched_of xs n.key) false (λ x. x.is_read) → reads (touched_set xs n) ≡ reads xs
reads_write [] n h = ap (λ (v : Bool). cond v 1 0 + 0) h
reads_write (x ∷ xs) n h = go (same_key x.key n.key) h (reads_write xs n)
  where
    go : (v : Bool) → n.is_read ≡ maybe (cond v (Some x) (touched_of xs n.key)) false (λ x. x.is_read) → (n.is_read ≡ maybe (touched_of xs n.key) false (λ x. x.is_read) → reads (touched_set xs n) ≡ reads xs)
        → reads (cond v (n ∷ xs) (x ∷ touched_set xs n)) ≡ cond x.is_read 1 0 + reads xs
    go true e more = ap (λ (v : Bool). cond v 1 0 + reads xs) e
    go false e more = ap (λ (k : ℕ). cond x.is_read 1 0 + k) (more e)

pub reads_new : (xs : List Touched) (n : Touched) → touched_of xs n.key ≡ None → n.is_read ≡ true → reads (touched_set xs n) ≡ suc (reads xs)
reads_new [] n h r = ap (λ (v : Bool). cond v 1 0 + 0) r
reads_new (x ∷ xs) n h r = go (same_key x.key n.key) h (reads_new xs n)
  where
    go : (v : Bool) → cond v (Some x) (touched_of xs n.key) ≡ None → (touched_of xs n.key ≡ None → n.is_read ≡ true → reads (touched_set xs n) ≡ suc (reads xs))
        → reads (cond v (n ∷ xs) (x ∷ touched_set xs n)) ≡ suc (cond x.is_read 1 0 + reads xs)
    go true e more = absurd (cc)
    go false e more = let m = more e r in omega (arith, m)

pub unread_low : (xs : List Touched) → unread_count xs + reads xs ≤ length xs
unread_low [] = omega arith
unread_low (x ∷ xs) =
    let c = sum_by-cons (λ (k : Touched). cond (is_some k.write && not k.is_read) 1 0) x xs in
    let m = unread_low xs in
    let n = go (is_some x.write) x.is_read in omega (arith, c, m, n)
  where
    go : (w v : Bool) → cond (w && not v) 1 0 + cond v 1 0 ≤ 1
    go true true = omega arith
    go true false = omega arith
    go false true = omega arith
    go false false = omega arith

-- BYTES OF THE BODY
abbrev pub held_weight : Option (List ℕ) → ℕ
held_weight None = 0
held_weight (Some value) = length value

abbrev pub entry_weight : Touched → ℕ
entry_weight x = 12 + length x.key + held_weight x.write

abbrev pub weight_of : List Touched → ℕ
weight_of [] = 0
weight_of (x ∷ xs) = entry_weight x + weight_of xs

pub weight_set : (xs : List Touched) (n : Touched) → weight_of (touched_set xs n) ≤ weight_of xs + entry_weight n
weight_set [] n = omega arith
weight_set (x ∷ xs) n = go (same_key x.key n.key) (weight_set xs n)
  where
    go : (v : Bool) → weight_of (touched_set xs n) ≤ weight_of xs + entry_weight n → weight_of (cond v (n ∷ xs) (x ∷ touched_set xs n)) ≤ entry_weight x + weight_of xs + entry_weight n
    go true h = omega arith
    go false h = omega (arith, h)

held_is : (w : Option (List ℕ)) → length (held_bytes w) ≤ 3 + held_weight w
held_is None = omega arith
held_is (Some value) = let l = length_both (u16_bytes (length value)) value in let k : length (u16_bytes (length value)) ≡ 2 = refl in omega (arith, l, k)

entry_is : (m : Map) (x : Touched) → length (entry_bytes (entry_from m x)) ≤ entry_weight x
entry_is m x =
    let h = held_is x.write in
    let e = entry_from m x in
    let a = length_both (key_bytes x.key ++ u64_bytes e.version) (held_bytes x.write) in
    let b = length_both (key_bytes x.key) (u64_bytes e.version) in
    let n : length (u64_bytes e.version) ≡ 8 = refl in
    omega (arith, h, a, b, n)

entries_are : (m : Map) (xs : List Touched) → length (flat_map entry_bytes (body_from m xs)) ≤ weight_of xs
entries_are m [] = omega arith
entries_are m (x ∷ xs) = let now = entry_is m x in let more = entries_are m xs in let l = length_both (entry_bytes (entry_from m x)) (flat_map entry_bytes (body_from m xs)) in omega (arith, now, more, l)

pub body_weight : (m : Map) (xs : List Touched) → length (body_bytes (body_from m xs)) ≤ 1 + weight_of xs
body_weight m xs = let h = entries_are m xs in omega (arith, h)

-- DELIVERIES
pub times : (a b x y : ℕ) → a ≤ x → b ≤ y → a * b ≤ x * y
times a b x y h k =
    let e : x ≡ a + (x - a) = omega (arith, h) in
    let f : y ≡ b + (y - b) = omega (arith, k) in
    let z : x * y ≡ (a + (x - a)) * (b + (y - b)) = ap (λ (n : ℕ). n * y) e ∙ ap (λ (n : ℕ). (a + (x - a)) * n) f in
    let w : (a + (x - a)) * (b + (y - b)) ≡ a * b + (a * (y - b) + (x - a) * (b + (y - b))) = grind (arith) in
    omega (arith, z, w)

pub layout_small : (c : Layout) → IsLayout c → (c.dcs ≤ 7) × (c.shards ≤ 8)
layout_small c h = ((dc_count_range c.dcs h.dcs).1, (splits_count c h).1)

pub read_small : (c : Layout) → IsLayout c → read_deliveries c ≤ 20
read_small c h = let a = (layout_small c h).0 in let q = (layout_least c h).low in omega (arith, a, q)

held_small : (c : Layout) (xs : List Touched) → shards_held c xs ≤ c.shards
held_small c xs = let f = fewer (in_shard c xs) (up_to c.shards) in let u = length_up c.shards in omega (arith, f, u)

pub rest_small : (n p : ℕ) → n ≤ 7 → p ≤ 8 → n + 3 * p * n + n * (n + 1) ≤ 231
rest_small n p a b =
    let x = times (3 * p) n 24 7 (omega (arith, b)) a in
    let y = times n (n + 1) 7 8 a (omega (arith, a)) in
    omega (arith, x, y, a)

pub commit_small : (c : Layout) → IsLayout c → (xs : List Touched) → length xs ≤ 32 → commit_deliveries c xs ≤ 20 * (32 - reads xs) + 231
commit_small c h xs few =
    let a = layout_small c h in
    let s = held_small c xs in
    let a1 = a.1 in
    let r = rest_small c.dcs (shards_held c xs) a.0 (omega (arith, s, a1)) in
    let u = unread_low xs in
    let k = times (unread_count xs) (read_deliveries c) (32 - reads xs) 20 (omega (arith, u, few)) (read_small c h) in
    let z : (32 - reads xs) * 20 ≡ 20 * (32 - reads xs) = grind (arith) in
    omega (arith, r, k, z)

-- No log is full: where each log at rest is short enough, so is each log of the world, and there are no others.
use Rattle.std.proofs.Common.{◌≡◌, ℕ, zero, suc, ◌+◌, ◌-◌, ◌*◌, ◌≤◌, ◌<◌, List, [], ◌∷◌, refl, sym, ap, ◌∙◌, subst, arith, Some, ⊎_elim}
use Rattle.std.specs.Prelude.{slice_get, slice_set, length}
use Rattle.rc_ids.specs.Cluster.{Layout}
use Rattle.rc_msg.specs.declared.msg.Envelope.{Envelope}
use Rattle.rc_report.specs.declared.line.Line.{Line}
use Rattle.rc_runs.specs.Devices.{most_log_bytes}
use Rattle.rc_protocol.specs.Nodes.{CoordNode, ShardNode, coord_index, shard_index}
use Rattle.rc_runs.specs.World.{Parties, Deed, Idle, ByClient, ByCoord, ByShard, CoordStops, ShardStops, parties_after}
use Rattle.rc_calm_batches.proofs.Passes.{Drains, Empty, Next, deed_of}
use Rattle.rc_calm_batches.proofs.Indices.{compare}
use Rattle.rc_calm_batches.proofs.Sizes.{log_bytes, most_frame}
use Rattle.rc_calm_batches.proofs.Stages.{Shards, shard_is}
use Rattle.rc_calm_batches.proofs.Coords.{Coords}
use Rattle.rc_calm.proofs.Logs.{HasRoom}
use Rattle.rc_calm_batches.proofs.Slots.{some_is}

-- 1,024 transactions with two records each
pub short : (n : ℕ) → n ≤ 1024 → 701 + most_frame * (n + n) ≤ most_log_bytes
short n h = omega (arith, h)

length_set : {X : Type 0} (xs : List X) (i : ℕ) (x : X) → length (slice_set xs i x) ≡ length xs
length_set [] i x = refl
length_set (y ∷ xs) zero x = refl
length_set (y ∷ xs) (suc i) x = ap suc (length_set xs i x)

pub get_low : {X : Type 0} (xs : List X) (i : ℕ) (x : X) → slice_get xs i ≡ Some x → i < length xs
get_low [] i x h = absurd (cc)
get_low (y ∷ xs) zero x h = omega arith
get_low (y ∷ xs) (suc i) x h = let k = get_low xs i x h in omega (arith, k)

-- NODES stay in number
pub record SameSizes (p r : Parties) : Type 0 where
  pub coords : length r.coords ≡ length p.coords
  pub shards : length r.shards ≡ length p.shards

deed_sizes : (p : Parties) (d : Deed) → SameSizes p (parties_after p d)
deed_sizes p Idle = record { coords = refl; shards = refl }
deed_sizes p (ByClient t act) = record { coords = refl; shards = refl }
deed_sizes p (ByCoord d x act) = record { coords = length_set p.coords (coord_index d) _; shards = refl }
deed_sizes p (ByShard d s x act) = record { coords = refl; shards = length_set p.shards (shard_index p.layout d s) _ }
deed_sizes p (CoordStops d x kept) = record { coords = length_set p.coords (coord_index d) _; shards = refl }
deed_sizes p (ShardStops d s x kept) = record { coords = refl; shards = length_set p.shards (shard_index p.layout d s) _ }

pub drains_sizes : (p : Parties) (q : List Envelope) (r : Parties) (ls : List Line) (ds : List Envelope) → Drains p q r ls ds → SameSizes p r
drains_sizes p q r ls ds (Empty p') = record { coords = refl; shards = refl }
drains_sizes p q r ls ds (Next p' e q' r' ls' ds' worn rest) =
    let more = drains_sizes (parties_after p' (deed_of p' e)) _ r' ls' ds' rest in
    let now = deed_sizes p' (deed_of p' e) in
    record { coords = more.coords ∙ now.coords; shards = more.shards ∙ now.shards }

-- ROOM
pub coords_room : (c : Layout) (C : ℕ → CoordNode → Type 0) (cs : List CoordNode) → length cs ≡ c.dcs → Coords c C cs → ((d : ℕ) (x : CoordNode) → C d x → 701 + log_bytes x.log ≤ most_log_bytes) → HasRoom (λ (x : CoordNode). x.log) cs
coords_room c C cs len all h i y at =
    let low = get_low cs i y at in
    let z = all (suc i) (omega arith) (omega (arith, low, len)) in
    let index : coord_index (suc i) ≡ i = omega arith in
    let same : z.0 ≡ y = some_is z.0 y (sym z.1 ∙ (ap (slice_get cs) index ∙ at)) in
    subst (λ (w : CoordNode). 701 + log_bytes w.log ≤ most_log_bytes) same (h (suc i) z.0 z.2)

pub record AtIndex (n k i : ℕ) : Type 0 where
  pub d : ℕ
  pub s : ℕ
  pub d1 : 1 ≤ d
  pub d2 : d ≤ n
  pub s1 : 1 ≤ s
  pub s2 : s ≤ k
  pub is : i ≡ (d - 1) * k + (s - 1)

at_index : (n k i : ℕ) → i < n * k → AtIndex n k i
at_index zero k i h = absurd (let z : 0 * k ≡ 0 = grind (arith) in omega (arith, h, z))
at_index (suc n) k i h = ⊎_elim
    (λ (l : i < n * k). let z = at_index n k i l in record { d = z.d; s = z.s; d1 = z.d1; d2 = let w = z.d2 in omega (arith, w); s1 = z.s1; s2 = z.s2; is = z.is })
    (λ w. let l : n * k ≤ i = ⊎_elim (λ (e : i ≡ n * k). omega (arith, e)) (λ (g : n * k < i). omega (arith, g)) w in
    let z : suc n * k ≡ n * k + k = grind (arith) in
    let e : suc n - 1 ≡ n = omega arith in
    let f : (suc n - 1) * k ≡ n * k = ap (λ (x : ℕ). x * k) e in
    record { d = suc n; s = suc (i - n * k); d1 = omega arith; d2 = omega arith; s1 = omega arith; s2 = omega (arith, h, z, l); is = omega (arith, f, l) }) (compare i (n * k))

pub shards_room : (S : ℕ → ℕ → ShardNode → Type 0) (p : Parties) → length p.shards ≡ p.layout.dcs * p.layout.shards → Shards S p → ((d s : ℕ) (x : ShardNode) → S d s x → 701 + log_bytes x.log ≤ most_log_bytes) → HasRoom (λ (x : ShardNode). x.log) p.shards
shards_room S p len all h i y at =
    let low = get_low p.shards i y at in
    let k = at_index p.layout.dcs p.layout.shards i (omega (arith, low, len)) in
    let z = all k.d k.s k.d1 k.d2 k.s1 k.s2 in
    let there : slice_get p.shards i ≡ Some z.0 = ap (slice_get p.shards) k.is ∙ (sym (shard_is p k.d k.s k.d1 k.d2 k.s1 k.s2) ∙ z.1) in
    subst (λ (w : ShardNode). 701 + log_bytes w.log ≤ most_log_bytes) (some_is z.0 y (sym there ∙ at)) (h k.d k.s z.0 z.2)

-- all nodes of the layout are there, and no others
pub record Complete (c : Layout) (p : Parties) : Type 0 where
  pub coords : length p.coords ≡ c.dcs
  pub shards : length p.shards ≡ c.dcs * c.shards

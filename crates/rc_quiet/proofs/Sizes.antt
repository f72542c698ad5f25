-- The nodes of the layout are there, in every life.
use Rattle.std.proofs.Common.{◌≡◌, ℕ, zero, suc, ◌+◌, ◌-◌, ◌*◌, ◌<◌, ◌≤◌, List, [], ◌∷◌, refl, sym, ap, ◌∙◌, true, Some, arith, length}
use Rattle.std.specs.Prelude.{slice_get}
use Rattle.std.proofs.lemmas.List.{length-replicate, length-map}
use Rattle.std.proofs.Math.Nat.{mul-le-mul_right}
use Rattle.rc_ids.specs.Cluster.{Layout, is_dc, is_shard}
use Rattle.rc_protocol.specs.Nodes.{ShardNode, shard_index, shard_started, shard_after, shard_stopped}
use Rattle.rc_runs.specs.World.{World, shard_at, new_world}
use Rattle.rc_agreement.proofs.Places.{dc_range}
use Rattle.rc_agreement.proofs.PlainLives.{IsPlainLife, First, Next, reopened}
use Rattle.rc_agreement.proofs.Scenes.{Scene, scene, shard_in, shard_act_of, Keeps, run_keeps}
use Rattle.rc_starts.proofs.Sizes.{set_length}

pub record Filled (c : Layout) (s : Scene) : Type 0 where
  pub layout : s.parties.layout ≡ c
  pub many : length s.parties.shards ≡ c.dcs * c.shards

pub filled_kept : (c : Layout) → Keeps (Filled c)
filled_kept c =
    record {
      turns = λ s d k there due p. record { layout = p.layout; many = p.many };
      stops = λ s d r there half p. record { layout = p.layout; many = p.many };
      starts = λ s d there p. record { layout = p.layout; many = p.many };
      serves = λ s d sh k there due p. record { layout = p.layout; many = set_length s.parties.shards (shard_index s.parties.layout d sh) (shard_after (shard_in s d sh) (shard_act_of s d sh k)) ∙ p.many };
      halts = λ s d sh r there half p. record { layout = p.layout; many = set_length s.parties.shards (shard_index s.parties.layout d sh) (shard_stopped (shard_in s d sh) r) ∙ p.many };
      wakes = λ s d sh there p. record { layout = p.layout; many = set_length s.parties.shards (shard_index s.parties.layout d sh) (shard_started (shard_in s d sh).log) ∙ p.many };
      begins = λ s u new p. record { layout = p.layout; many = p.many };
      clients = λ s u x k is due p. record { layout = p.layout; many = p.many };
    }

pub life_filled : (c : Layout) (earlier : List World) (w : World) → IsPlainLife c earlier w → Filled c (scene w)
life_filled c _ _ (First hs) = run_keeps (Filled c) (filled_kept c) (new_world c) hs (record { layout = refl; many = length-replicate (c.dcs * c.shards) (shard_started []) })
life_filled c _ _ (Next earlier v start hs before is_start) =
    let p = life_filled c earlier v before in
    run_keeps (Filled c) (filled_kept c) (reopened v start) hs (record { layout = p.layout; many = length-map v.parties.shards (λ (x : ShardNode). shard_started x.log) ∙ p.many })

there_below : {A : Type 0} (xs : List A) (i : ℕ) → i < length xs → (x : A) × (slice_get xs i ≡ Some x)
there_below [] i lt = absurd (omega (arith, lt))
there_below (y ∷ xs) zero lt = (y, refl)
there_below (y ∷ xs) (suc i) lt = there_below xs i (omega (arith, lt))

shard_bounds : (c : Layout) (s : ℕ) → is_shard c s ≡ true → (1 ≤ s) × (s ≤ c.shards)
shard_bounds c s is = (grind arith, grind arith)

index_below : (d s n m : ℕ) → 1 ≤ d → d ≤ n → 1 ≤ s → s ≤ m → (d - 1) * m + (s - 1) < n * m
index_below d s n m low high sl sh =
    let step : (d - 1 + 1) * m ≤ n * m = mul-le-mul_right m (omega arith) in
    let more : (d - 1 + 1) * m ≡ (d - 1) * m + m = grind (arith) in
    omega (arith, step, more, sl, sh)

pub shard_there_is : (c : Layout) (w : World) → Filled c (scene w) → (d sh : ℕ) → is_dc w.parties.layout d ≡ true → is_shard w.parties.layout sh ≡ true → (x : ShardNode) × (shard_at w.parties d sh ≡ Some x)
shard_there_is c w f d sh dc is =
    let a = dc_range w.parties.layout d dc in
    let b = shard_bounds w.parties.layout sh is in
    let lt = index_below d sh w.parties.layout.dcs w.parties.layout.shards a.0 a.1 b.0 b.1 in
    let many : length w.parties.shards ≡ w.parties.layout.dcs * w.parties.layout.shards = f.many ∙ ap (λ (l : Layout). l.dcs * l.shards) (sym f.layout) in
    let r = there_below w.parties.shards (shard_index w.parties.layout d sh) (omega (arith, lt, many)) in
    (r.0, let g = r.1 in rw (dc, is, g) refl)

-- A gather by its shards is the gather of the rows.
use Rattle.std.proofs.Common.{◌≡◌, ℕ, ◌≤◌, ◌&&◌, not, max, IsTrue, [], refl, sym, ap, ◌∙◌, arith}
use Rattle.std.specs.Ordering.{nat_cmp}
use Rattle.rc_ids.specs.Tables.{member}
use Rattle.rc_ids.specs.Cluster.{Layout, is_shard}
use Rattle.rc_body.specs.Bodies.{touches, touched}
use Rattle.rc_protocol.specs.Coordinator.{GatherState}
use Rattle.rc_vote.specs.Gathers.{IsGather, by_shards, shard_gather, waits_for}
use Rattle.rc_vote.proofs.ShardFacts.{member-passing, member-filter}

at_first : (b : ℕ) → b ≡ max 0 b
at_first b = grind arith

within : (c : Layout) (s : ℕ) → IsTrue (is_shard c s) → (1 ≤ s) × (s ≤ c.shards)
within c s is = (grind arith, grind arith)

waited : (c : Layout) (g : GatherState) (s : ℕ) → IsTrue (is_shard c s)
    → (touches c g.body s && not (member nat_cmp g.yes s)) ≡ waits_for (by_shards c g) s
waited c g s is =
    let bounds = within c s is in
    ap (λ b. b && not (member nat_cmp g.yes s)) (sym (member-passing (touches c g.body) c.shards s bounds.0 bounds.1))

pub is_gather : (c : Layout) → IsGather c
is_gather c = record {
  made = λ v t b body none. rw none (ap (λ (n : ℕ). shard_gather (touched c body) n []) (at_first b));
  again = λ v t b body g there. rw there refl;
  all = λ g. refl;
  yes = λ g s. refl;
  waits = λ g s is. waited c g s is;
  asks = λ g s is. waited c g s is ∙ sym (member-filter (λ x. not (member nat_cmp g.yes x)) (touched c g.body) s);
}

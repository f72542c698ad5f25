use Rattle.std.proofs.Common.{◌≡◌, ◌+◌, ◌-◌, ◌*◌, ◌<◌, ℕ, subst, sym}
use Rattle.rc_begin.proofs.Lists.{place_within}
use Rattle.rc_world.proofs.shards.place_of.Goals as goal

pub returns-clause-within : goal.returns-clause-within
returns-clause-within c =
    let dcs = c.args.cluster.now.dcs in
    let shards = c.args.cluster.now.shards in
    let dc : c.args.dc ≡ c.dc.inside.0 = (cc) in
    let shard : c.args.shard ≡ c.shard.inside.0 = (cc) in
    let count : shards ≡ c.shards.result = sym c.shards.ensures.shards in
    subst (λ (n : ℕ). (c.dc.inside.0 - 1) * n + (c.shard.inside.0 - 1) < dcs * shards) count
    (subst (λ (n : ℕ). (n - 1) * shards + (c.shard.inside.0 - 1) < dcs * shards) dc (subst (λ (n : ℕ). (c.args.dc - 1) * shards + (n - 1) < dcs * shards) shard (place_within c.args.cluster.now c.args.dc c.args.shard c.requires)))

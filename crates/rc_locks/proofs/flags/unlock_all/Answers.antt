use Rattle.std.proofs.Common.{List, ℕ, drop, sym, ap, ◌∙◌}
use Rattle.rc_ids.specs.Tables.{found}
use Rattle.rc_protocol.specs.Shard.{mark_cmp}
use Rattle.rc_locks.specs.Flags.{given_back, turned_where, is_one_of, without_plain}
use Rattle.rc_locks.proofs.Rest.{rest_end}
use Rattle.rc_locks.proofs.FlagFacts.{same_lock, turned_alike, given_back-is}
use Rattle.rc_locks.proofs.flags.unlock_all.Goals as goal

pub returns-clause-turned : goal.returns-clause-turned
returns-clause-turned c m =
    let t = c.args.tx in
    let keys : List (List ℕ) = c.args.keys.now in
    let none = rest_end keys c.loop-key.key-index c.loop-key-test.false in
    sym (same_lock (given_back t m (drop c.loop-key.key-index keys)) (λ l. ap (λ (ks : List (List ℕ)). given_back t m ks l) none) (found mark_cmp c.loop-key.locks.entries m))
    ∙ c.loop-key.invariant.1 m
    ∙ turned_alike (given_back t m keys) (turned_where (is_one_of t keys m) without_plain) (given_back-is t m keys) (found mark_cmp c.args.locks.now.entries m)

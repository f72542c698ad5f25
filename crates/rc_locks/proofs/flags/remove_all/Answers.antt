use Rattle.std.proofs.Common.{List, ℕ, sym, ap, ◌∙◌}
use Rattle.rc_ids.specs.Tables.{found}
use Rattle.rc_protocol.specs.Shard.{mark_cmp}
use Rattle.rc_locks.specs.Flags.{let_go}
use Rattle.rc_locks.proofs.Rest.{rest_end}
use Rattle.rc_locks.proofs.FlagFacts.{let_go-is}
use Rattle.rc_locks.proofs.flags.remove_all.Goals as goal

pub returns-clause-left : goal.returns-clause-left
returns-clause-left c m =
    let t = c.args.tx in
    let keys : List (List ℕ) = c.args.keys.now in
    sym (ap (λ (ks : List (List ℕ)). let_go t m ks (found mark_cmp c.loop-key.locks.entries m)) (rest_end keys c.loop-key.key-index c.loop-key-test.false))
    ∙ c.loop-key.invariant.1 m
    ∙ let_go-is t m keys (found mark_cmp c.args.locks.now.entries m)

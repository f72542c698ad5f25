use Rattle.std.proofs.Common.{◌≡◌, ℕ, List, ◌++◌, map}
use Rattle.rc_plain_shard.proofs.shown.row_keys.Given as goal

abbrev pub invariant-loop-key : goal.invariant-loop-key
invariant-loop-key l =
    l.keys.keys ++ map (λ (row : List ℕ × (ℕ × List ℕ)). row.0) l.key-iterator ≡ map (λ (row : List ℕ × (ℕ × List ℕ)). row.0) l.rows

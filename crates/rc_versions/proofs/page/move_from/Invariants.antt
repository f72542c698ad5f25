use Rattle.std.proofs.Common.{◌≡◌, ◌+◌, ◌≤◌, ◌++◌, reverse, vec_len, vec_capacity}
use Rattle.rc_versions.proofs.page.move_from.Given as goal

abbrev pub invariant-loop-others : goal.invariant-loop-others
invariant-loop-others l =
    (l.rows.items ++ reverse l.others.items ≡ l.fn.rows.items)
    × (l.place ≤ vec_len l.rows)
    × (vec_len l.others + vec_len l.rows ≡ vec_len l.fn.rows)
    × (vec_capacity l.rows ≡ vec_capacity l.fn.rows)
    × (vec_capacity l.others ≡ vec_capacity l.fn.others)

abbrev pub decreases-loop-others : goal.decreases-loop-others
decreases-loop-others l = vec_len l.rows

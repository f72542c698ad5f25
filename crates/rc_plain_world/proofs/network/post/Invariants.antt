use Rattle.std.proofs.Common.{◌≡◌, ◌+◌, ◌≤◌, ◌++◌, length}
use Rattle.rc_plain_world.specs.Networks.{numbers_of}
use Rattle.rc_plain_world.proofs.network.post.Given as goal

-- what is posted and what is left to post are all
abbrev pub invariant-loop-letter : goal.invariant-loop-letter
invariant-loop-letter l = record {
  sent : l.sent.items ++ l.letters.items ≡ l.initial.sent.items ++ l.initial.letters.items;
  pending : l.pending.items ++ numbers_of (length l.sent.items) l.letters.items ≡ l.initial.pending.items ++ numbers_of (length l.initial.sent.items) l.initial.letters.items;
  room : length l.sent.items + length l.letters.items ≤ 4000000;
}

abbrev pub decreases-loop-letter : goal.decreases-loop-letter
decreases-loop-letter l = length l.letters.items

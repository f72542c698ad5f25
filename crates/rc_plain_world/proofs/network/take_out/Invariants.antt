use Rattle.std.proofs.Common.{◌≡◌, ◌++◌, length, take, drop}
use Rattle.rc_runs.specs.World.{taken_out}
use Rattle.rc_plain_world.proofs.network.take_out.Given as goal

-- nothing was taken yet, and the number does not stand before the place
abbrev pub invariant-loop-place : goal.invariant-loop-place
invariant-loop-place l = record {
  same : l.pending ≡ l.initial.pending;
  end : l.place-end ≡ length l.pending.items;
  passed : taken_out l.pending.items l.number ≡ take l.place l.pending.items ++ taken_out (drop l.place l.pending.items) l.number;
}

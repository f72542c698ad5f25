use Rattle.std.proofs.Common.{◌≡◌, ◌≤◌, ◌+◌, ◌++◌, length, take, drop, vec_capacity}
use Rattle.rc_disk.specs.Memory.{inked}
use Rattle.rc_disk.proofs.images.overwrite.Given as goal

abbrev pub invariant-loop-i : goal.invariant-loop-i
invariant-loop-i l = record {
  items : l.bytes.items ≡ take l.place l.fn.bytes.items ++ inked l.fill (take l.i l.written) ++ drop (l.place + l.i) l.fn.bytes.items;
  capacity : vec_capacity l.fn.bytes ≤ vec_capacity l.bytes;
}

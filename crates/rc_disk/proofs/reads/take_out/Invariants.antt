use Rattle.std.proofs.Common.{◌≡◌, false, take}
use Rattle.rc_ports.specs.Causes.{is_listed}
use Rattle.rc_disk.proofs.reads.take_out.Given as goal

abbrev pub invariant-loop-i : goal.invariant-loop-i
invariant-loop-i l = (is_listed (take l.i l.list.items) l.number ≡ false) × (l.list.items ≡ l.fn.list.items)

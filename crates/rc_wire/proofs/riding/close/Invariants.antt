use Rattle.std.proofs.Common.{◌≡◌, ◌+◌, length}
use Rattle.rc_wire.proofs.riding.close.Given as goal

abbrev pub invariant-loop-rider : goal.invariant-loop-rider
invariant-loop-rider g l = record {
  can : (goal.iterator-loop-rider g).can_next l.rider-iterator;
  ends : (goal.iterator-loop-rider g).is_finite l.rider-iterator;
  count : length l.passes + length l.rider-iterator.rest.items ≡ length g.W.WireName.names.parties;
}

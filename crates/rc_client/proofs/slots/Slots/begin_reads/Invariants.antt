use Rattle.std.proofs.Common.{◌≡◌, take, drop}
use Rattle.rc_protocol.specs.Client.{reads_begun}
use Rattle.rc_client.proofs.slots.Slots.begin_reads.Given as goal

abbrev pub invariant-loop-slot : goal.invariant-loop-slot
invariant-loop-slot l = record {
  done : take l.slot-index l.slot-items ≡ reads_begun (take l.slot-index l.initial.slot-items);
  left : drop l.slot-index l.slot-items ≡ drop l.slot-index l.initial.slot-items;
}

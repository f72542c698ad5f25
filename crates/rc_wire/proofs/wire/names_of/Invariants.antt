use Rattle.std.proofs.Common.{◌≡◌, ◌≤◌, length, take, vec_len, vec_capacity}
use Rattle.rc_wire.proofs.wire.names_of.Given as goal

abbrev pub invariant-loop-party : goal.invariant-loop-party
invariant-loop-party l = record {
  copies : l.copies.items ≡ take l.party-index l.parties;
  len : vec_len l.copies ≡ l.party-index;
  room : length l.parties ≤ vec_capacity l.copies;
}

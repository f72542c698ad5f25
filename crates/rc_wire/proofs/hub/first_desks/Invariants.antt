use Rattle.std.proofs.Common.{◌≡◌, ◌≤◌, [], length, take, vec_len, vec_capacity}
use Rattle.rc_wire.specs.Standings.{desks_of}
use Rattle.rc_wire.proofs.hub.first_desks.Given as goal

abbrev pub invariant-loop-party : goal.invariant-loop-party
invariant-loop-party l = record {
  desks : l.desks.items ≡ desks_of (take l.party-index l.parties) [];
  len : vec_len l.desks ≡ l.party-index;
  room : length l.parties ≤ vec_capacity l.desks;
}

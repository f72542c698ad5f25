use Rattle.std.proofs.Common.{◌≡◌, true}
use Rattle.rc_wire.specs.Parties.{is_client}
use Rattle.rc_wire.specs.Standings.{at_first, standing}
use Rattle.rc_wire.proofs.riding.Rider.work.Given as goal

abbrev pub invariant-loop : goal.invariant-loop
invariant-loop g l = record {
  client : is_client l.self.pass.party ≡ true;
  first : standing l.self.pass.mine ≡ at_first;
}

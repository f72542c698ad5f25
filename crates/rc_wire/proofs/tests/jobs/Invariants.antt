use Rattle.std.proofs.Common.{◌≡◌, ◌+◌, length, vec_len}
use Rattle.std.specs.Prelude.{All}
use Rattle.rc_wire.proofs.Riders.{IsNewClient}
use Rattle.rc_wire.proofs.tests.jobs.Given as goal

abbrev pub invariant-loop-place : goal.invariant-loop-place
invariant-loop-place g l = record {
  clients : All IsNewClient l.passes;
  count : length l.passes + vec_len l.jobs ≡ length l.fn.passes;
}

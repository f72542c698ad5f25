use Rattle.std.proofs.Common.{◌≡◌, drop}
use Rattle.rc_protocol.specs.Shard.{reader}
use Rattle.rc_locks.proofs.parts.reader.Given as goal

abbrev pub invariant-loop-entry : goal.invariant-loop-entry
invariant-loop-entry l =
    reader (drop l.entry-index l.parts) l.key ≡ reader l.parts l.key

use Rattle.std.proofs.Common.{◌≡◌, drop}
use Rattle.rc_protocol.specs.Shard.{holder}
use Rattle.rc_locks.proofs.parts.holder.Given as goal

abbrev pub invariant-loop-entry : goal.invariant-loop-entry
invariant-loop-entry l =
    holder (drop l.entry-index l.parts) l.key ≡ holder l.parts l.key

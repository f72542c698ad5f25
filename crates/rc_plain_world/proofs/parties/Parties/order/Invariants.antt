use Rattle.std.proofs.Common.{◌≡◌, ℕ, List, take}
use Rattle.std.specs.Prelude.{map}
use Rattle.rc_body.specs.declared.entry.Entry.{Entry}
use Rattle.rc_plain_world.proofs.parties.Parties.order.Given as goal

abbrev pub invariant-loop-tx : goal.invariant-loop-tx
invariant-loop-tx l = l.txs.items ≡ map (λ (x : ℕ × List Entry). x.0) (take l.tx-index l.tx-items)

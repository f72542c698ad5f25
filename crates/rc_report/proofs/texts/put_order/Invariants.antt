use Rattle.std.proofs.Common.{◌≡◌, ◌++◌, take}
use Rattle.std.specs.List.{flat_map}
use Rattle.rc_report.specs.Names.{space, tx_text}
use Rattle.rc_report.proofs.texts.put_order.Given as goal

abbrev pub invariant-loop-tx : goal.invariant-loop-tx
invariant-loop-tx l = l.out ≡ l.initial.out ++ flat_map (λ t. space ++ tx_text t) (take l.tx-index l.txs)

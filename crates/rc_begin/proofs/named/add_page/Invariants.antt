use Rattle.std.proofs.Common.{◌≡◌, drop}
use Rattle.rc_protocol.specs.Nodes.{with_txs}
use Rattle.rc_begin.proofs.named.add_page.Given as goal

abbrev pub invariant-loop-index : goal.invariant-loop-index
invariant-loop-index l = with_txs l.named.keys (drop l.index l.page) ≡ with_txs l.initial.named.keys l.page

use Rattle.std.proofs.Common.{sym, ◌∙◌}
use Rattle.rc_plain_client.proofs.RowFacts.{voted-row}
use Rattle.rc_plain_client.proofs.client.Client.handle.Goals as goal

pub returns-in_ok-on_voted-in-Voted-clause-done : goal.returns-in_ok-on_voted-in-Voted-clause-done
returns-in_ok-on_voted-in-Voted-clause-done c =
    rw c.in-Voted.is
    (voted-row c.args.cluster.now c.args.tx c.in-Voted.of c.args.self.now c.on_voted.new.self c.in-Voted.ballot c.in-Voted.dc c.in-Voted.decision
    c.args.out.now c.args.lines.now c.on_voted.new.lines (sym c.concerns-in-Voted.ensures ∙ c.if-not-concerns-2.false)
    c.in_ok-on_voted-in-Voted.ensures.0 c.in_ok-on_voted-in-Voted.ensures.1)

use Rattle.std.proofs.lemmas.Result.{on_ok_weaker}
use Rattle.rc_plain_coord.proofs.VoteFacts.{counted_there}
use Rattle.rc_plain_coord.proofs.votes.Votes.count.Goals as goal

pub returns-in-Some : goal.returns-in-Some
returns-in-Some c =
    on_ok_weaker c.add.result
    (λ vote. counted_there c.self.inside.map.entries c.args.self.now c.args.tx c.args.ballot c.args.dc c.args.decision.now c.in-Some.tally.now c.add.new.self _
    c.self.view_is c.get_mut.ensures.ordered c.in-Some.ensures.value (c.get_mut.follows.holds c.add.new.self).0 vote)
    c.add.ensures

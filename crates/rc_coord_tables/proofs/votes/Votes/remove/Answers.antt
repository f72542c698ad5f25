use Rattle.std.proofs.Common.{ap, ◌∙◌}
use Rattle.std.specs.Ordering.{nat_cmp}
use Rattle.rc_ids.specs.Tables.{without}
use Rattle.rc_node.proofs.NumberFacts.{differ-distinct}
use Rattle.rc_coord_tables.specs.Votes.{VoteTable, vote_table, votes_in, IsOf}
use Rattle.rc_coord_tables.proofs.MapFacts.{shown-less, keeps-less}
use Rattle.rc_coord_tables.proofs.votes.Votes.remove.Goals as goal

pub invariant_of-self : goal.invariant_of-self
invariant_of-self c =
    keeps-less (IsOf c.self.inside.quorum) c.self.inside.list.entries c.swap_remove-tally.new.self.entries c.args.tx c.self.invariant
    (differ-distinct c.swap_remove-tally.new.self.entries c.swap_remove-tally.ensures.unique) (λ q. c.swap_remove-tally.ensures.updates.0 q)

pub returns : goal.returns
returns c =
    ap (vote_table c.self.inside.quorum)
    (shown-less votes_in c.self.inside.list.entries c.swap_remove-tally.new.self.entries c.args.tx c.self.invariant.apart
    (differ-distinct c.swap_remove-tally.new.self.entries c.swap_remove-tally.ensures.unique) (λ q. c.swap_remove-tally.ensures.updates.0 q))
    ∙ ap (λ (v : VoteTable). vote_table v.weights (without nat_cmp v.table c.args.tx)) c.self.view_is

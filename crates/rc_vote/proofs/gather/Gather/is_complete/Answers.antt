use Rattle.std.proofs.Common.{ℕ, ◌==◌, length, ap, ◌∙◌}
use Rattle.std.specs.Ordering.{nat_cmp}
use Rattle.rc_ids.specs.Tables.{member}
use Rattle.rc_vote.specs.Gathers.{ShardGather, is_complete}
use Rattle.rc_vote.proofs.ShardFacts.{none_left}
use Rattle.rc_vote.proofs.gather.Gather.is_complete.Goals as goal

pub returns : goal.returns
returns c =
    ap (λ (n : ℕ). n == 0) (c.len.ensures.len ∙ ap length c.left_of.ensures)
    ∙ none_left (member nat_cmp c.self.inside.yes) c.self.inside.touched
    ∙ ap (λ (g : ShardGather). is_complete g) c.self.view_is

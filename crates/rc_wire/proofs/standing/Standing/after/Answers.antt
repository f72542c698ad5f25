use Rattle.std.proofs.Common.{sym, ap, ◌∙◌}
use Rattle.rc_wire.specs.Standings.{after}
use Rattle.rc_wire.proofs.standing.Standing.after.Goals as goal

pub returns-in-Posted : goal.returns-in-Posted
returns-in-Posted c = c.after_post.ensures c.in-Posted.sends ∙ ap (after c.args.self) (sym c.in-Posted.is)

use Rattle.rc_composition.proofs.Cutting.{events_are_cut, parts_are_cut}
use Rattle.rc_composition.proofs.cuts_compose.Goals as goal

pub returns-clause-events : goal.returns-clause-events
returns-clause-events c = events_are_cut

pub returns-clause-parts : goal.returns-clause-parts
returns-clause-parts c = parts_are_cut

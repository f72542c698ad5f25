use Rattle.std.proofs.Common.{true, ap, ◌∙◌}
use Rattle.rc_wire.specs.declared.turn.Act.TheVariants.{Rested}
use Rattle.rc_wire.specs.Standings.{after, standing}
use Rattle.rc_wire.proofs.Riders.{stands}
use Rattle.rc_wire.proofs.riding.Rider.end.Goals as goal

pub returns-in_err-note : goal.returns-in_err-note
returns-in_err-note g c = ap (λ p. standing p.mine) c.note.ensures ∙ stands _ _ _ _ c.rest.ensures.rests.adds ∙ ap (λ s. after s (Rested true)) c.requires

pub returns : goal.returns
returns g c = ap (λ p. standing p.mine) c.note.ensures ∙ stands _ _ _ _ c.rest.ensures.rests.adds ∙ ap (λ s. after s (Rested true)) c.requires

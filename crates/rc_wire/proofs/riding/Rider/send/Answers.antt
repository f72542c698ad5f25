use Rattle.std.proofs.Common.{ap, ◌∙◌}
use Rattle.rc_wire.specs.declared.turn.Act.TheVariants.{Posted}
use Rattle.rc_wire.specs.declared.turn.StepEnd.TheVariants.{Idle}
use Rattle.rc_wire.specs.Standings.{after, standing}
use Rattle.rc_wire.proofs.Riders.{stands}
use Rattle.rc_wire.proofs.riding.Rider.send.Goals as goal

pub returns-in_err-note-clause-first : goal.returns-in_err-note-clause-first
returns-in_err-note-clause-first g c = ap (λ p. standing p.mine) c.note.ensures ∙ stands _ _ _ _ c.in_ok-post.ensures.ok.adds ∙ ap (λ s. after s (Posted Idle c.args.out.now)) c.requires.first

pub returns-clause-first : goal.returns-clause-first
returns-clause-first g c = ap (λ p. standing p.mine) c.note.ensures ∙ stands _ _ _ _ c.in_ok-post.ensures.ok.adds ∙ ap (λ s. after s (Posted Idle c.args.out.now)) c.requires.first

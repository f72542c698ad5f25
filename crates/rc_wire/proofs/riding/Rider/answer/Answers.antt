use Rattle.std.proofs.Common.{ap, ◌∙◌}
use Rattle.std.specs.Prelude.{is_some}
use Rattle.rc_wire.specs.declared.turn.Act.TheVariants.{Posted}
use Rattle.rc_wire.specs.declared.turn.StepEnd.TheVariants.{Handled}
use Rattle.rc_wire.specs.Standings.{after, standing}
use Rattle.rc_wire.proofs.Riders.{stands, answered}
use Rattle.rc_wire.proofs.riding.Rider.answer.Goals as goal

pub post-requires : goal.post-requires
post-requires g c = ap (λ s. is_some s.unanswered) (stands _ _ _ _ c.in-Mail.ensures.taken.adds)

pub returns-in_err-post-clause-halted : goal.returns-in_err-post-clause-halted
returns-in_err-post-clause-halted g c = ap (λ m. (standing m).halted) c.in_err-post.ensures.err ∙ ap (λ s. s.halted) (stands _ _ _ _ c.in-Mail.ensures.taken.adds)

pub returns-in_err-note-clause-halted : goal.returns-in_err-note-clause-halted
returns-in_err-note-clause-halted g c =
    ap (λ p. (standing p.mine).halted) c.note.ensures
    ∙ ap (λ s. s.halted) (stands _ _ _ _ c.in_ok-post.ensures.ok.adds)
    ∙ ap (λ s. s.halted) (stands _ _ _ _ c.in-Mail.ensures.taken.adds)

pub returns-in_err-note-2-clause-halted : goal.returns-in_err-note-2-clause-halted
returns-in_err-note-2-clause-halted g c =
    ap (λ p. (standing p.mine).halted) (c.note-2.ensures ∙ c.note.ensures)
    ∙ ap (λ s. s.halted) (stands _ _ _ _ c.in_ok-post.ensures.ok.adds)
    ∙ ap (λ s. s.halted) (stands _ _ _ _ c.in-Mail.ensures.taken.adds)

pub returns-clause-same : goal.returns-clause-same
returns-clause-same g c =
    ap (λ p. standing p.mine) (c.note-2.ensures ∙ c.note.ensures)
    ∙ stands _ _ _ _ c.in_ok-post.ensures.ok.adds
    ∙ ap (λ s. after s (Posted Handled c.args.nothing.now)) (stands _ _ _ _ c.in-Mail.ensures.taken.adds)
    ∙ answered (standing c.args.self.now.pass.mine) c.in-Mail.number c.args.nothing.now c.requires.0 c.requires.1

pub returns-clause-halted : goal.returns-clause-halted
returns-clause-halted g c =
    ap (λ p. (standing p.mine).halted) (c.note-2.ensures ∙ c.note.ensures)
    ∙ ap (λ s. s.halted) (stands _ _ _ _ c.in_ok-post.ensures.ok.adds)
    ∙ ap (λ s. s.halted) (stands _ _ _ _ c.in-Mail.ensures.taken.adds)

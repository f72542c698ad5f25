use Rattle.std.proofs.Common.{List, [], ◌∷◌, ◌++◌, refl, sym, ap, ◌∙◌}
use Rattle.rc_report.specs.declared.line.Line.{Line}
use Rattle.rc_report.specs.declared.line.Line.TheVariants.{Up}
use Rattle.rc_world.proofs.Powered.{happened_as}
use Rattle.rc_world.proofs.world.World.restart.Goals as goal

pub returns-clause-ok : goal.returns-clause-ok
returns-clause-ok g c = λ r z is told.
    happened_as _ r z _ _ _ _ _ refl (c.in_ok-push.ensures.ok ∙ ap (λ (ls : List Line). ls ++ Up c.args.node.now ∷ []) c.requires.lines) c.node_restarts.result
    (c.node_restarts.ensures.ok r z is c.in_ok-event_limit.ensures.ok (sym (c.is_up.ensures r z is) ∙ c.if-is_up.false) told)

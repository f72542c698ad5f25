use Rattle.std.proofs.Common.{◌∙◌, sym, ap, List, [], ◌∷◌, ◌++◌}
use Rattle.rc_ids.specs.declared.names.NodeId.{NodeId}
use Rattle.rc_ids.specs.declared.names.Party.TheVariants.{Node as NodeParty}
use Rattle.rc_msg.specs.Outboxes.{new_outbox}
use Rattle.rc_report.specs.declared.line.Line.{Line}
use Rattle.rc_report.specs.declared.line.Line.TheVariants.{Stopped}
use Rattle.rc_host.specs.declared.host.Course.TheVariants.{Goes, Stops}
use Rattle.rc_world.proofs.Turning.{turned, refused}
use Rattle.rc_world.proofs.turns.turn.Goals as goal

pub returns-in-Ok-Goes-clause-ok : goal.returns-in-Ok-Goes-clause-ok
returns-in-Ok-Goes-clause-ok g c = λ run x d named up host logged told.
    turned _ _ run _ x d _ c.in-Ok-Goes.field-0 Goes c.new-out.result _ c.cut.new.self c.in-Ok-Goes.field-0-is (c.new-out.ensures ∙ ap (λ (n : NodeId). new_outbox (NodeParty n)) (sym named)) c.cut.ensures
    (c.in-Ok-Goes.ensures.ok run x d up host logged told)

pub returns-in-Ok-Stops-clause-ok : goal.returns-in-Ok-Stops-clause-ok
returns-in-Ok-Stops-clause-ok g c = λ run x d named up host logged told.
    turned _ _ run _ x d _ c.in-Ok-Stops.field-0 (Stops c.in-Ok-Stops.kept) c.new-out.result _ c.push.new.self c.in-Ok-Stops.field-0-is (c.new-out.ensures ∙ ap (λ (n : NodeId). new_outbox (NodeParty n)) (sym named)) (c.in_ok-push.ensures.ok ∙ ap (λ (ls : List Line). ls ++ Stopped c.args.node.now ∷ []) c.requires.lines ∙ ap (λ (n : NodeId). Stopped n ∷ []) (sym named))
    (c.in-Ok-Stops.ensures.ok run x d up host logged told)

pub returns-in-Err-clause-err : goal.returns-in-Err-clause-err
returns-in-Err-clause-err g c = λ run x d named up host logged told.
    refused _ _ run _ x d _ c.in-Err.fault c.world_fault.result _ _ c.world_fault.ensures (c.in-Err.ensures.err run x d up host logged told)

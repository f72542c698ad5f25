use Rattle.std.proofs.Common.{refl, ◌∙◌}
use Rattle.std.proofs.lemmas.Result.{on_ok_weaker}
use Rattle.rc_record.specs.declared.coord.CoordDurable.{CoordDurable}
use Rattle.rc_record.specs.CoordState.{new_durable}
use Rattle.rc_protocol.specs.Coordinator.{CoordVolatile, do_take}
use Rattle.rc_protocol.specs.Nodes.{CoordNode, coord_replayed}
use Rattle.rc_plain_coord.proofs.HandledFacts.{act_of, handled}
use Rattle.rc_plain_coord.proofs.coord.Coord.take.Goals as goal

pub returns-clause-done : goal.returns-clause-done
returns-clause-done c =
    let start : CoordNode = record {
      up = c.self.inside.up;
      log = c.self.inside.log.items;
      durable = coord_replayed new_durable c.self.inside.log.items;
      volatile = c.self.inside.volatile;
    } in
    on_ok_weaker c.end.result
    (λ ended. handled _ _ c.take-done.result c.args.self.now start c.end.new.self c.take-done.new.volatile c.args.out.now c.take-done.new.out
    (act_of (λ (d : CoordDurable) (v : CoordVolatile). do_take c.args.cluster.now c.args.dc d v c.args.tx) c.in_ok-durable.durable c.self.inside.volatile
    c.args.self.now start c.in_ok-durable.ensures.value refl (c.self.view_is ∙ c.in_ok-durable.ensures.same))
    (c.self.view_is ∙ c.in_ok-durable.ensures.same) c.take-done.ensures.ok ended)
    c.end.ensures.ok

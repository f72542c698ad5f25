use Rattle.std.proofs.Common.{ap, ◌∙◌}
use Rattle.rc_ids.specs.declared.names.Party.{Party}
use Rattle.rc_runs.specs.World.{received}
use Rattle.rc_world.proofs.Received.{node_receives}
use Rattle.rc_world.proofs.world.World.receive.Goals as goal

pub returns-in-Client-clause-ok : goal.returns-in-Client-clause-ok
returns-in-Client-clause-ok g c = λ r z e is spelled done is_deed who named no_begin coords_told shards_told.
    c.hear.ensures.ok r z e is done (is_deed ∙ ap (λ (p : Party). received z.world.parties c.args.envelope.now p) c.in-Client.is) (who ∙ c.in-Client.is) named no_begin

pub returns-in-Node-clause-ok : goal.returns-in-Node-clause-ok
returns-in-Node-clause-ok g c = λ r z e is spelled done is_deed who named no_begin coords_told shards_told.
    c.node_does.ensures.ok r z e is (spelled.from, spelled.msg) done (is_deed ∙ node_receives z.world.parties c.args.envelope.now c.in-Node.node c.in-Node.is) (who ∙ c.in-Node.is) named no_begin coords_told shards_told

use Rattle.std.proofs.Common.{◌≡◌, ◌++◌, sym, subst, ◌∙◌}
use Rattle.std.specs.Prelude.{OnOk}
use Rattle.std.specs.List.{flat_map}
use Rattle.rc_ids.specs.Tables.{up_to}
use Rattle.rc_ids.specs.Cluster.{Layout}
use Rattle.rc_world.specs.Shown.{shown_at}
use Rattle.rc_world.proofs.ShownFacts.{are_same}
use Rattle.rc_world.proofs.world.World.show.Goals as goal

pub returns : goal.returns
returns g c = λ r z is.
    subst
    (λ (k : Layout). OnOk c.show_all.result (c.show_all.new.lines ≡ c.args.lines.now ++ flat_map (shown_at k z.world.parties.shards c.args.dc) (up_to k.shards)))
    (is.parties.cluster ∙ sym is.parties.layout)
    (c.show_all.ensures r z.world.parties.shards z.shards
    (are_same _ c.args.self.now.shards.items c.as_slice.result.now z.world.parties.shards z.shards c.as_slice.ensures.value is.parties.hosts.of_shards))

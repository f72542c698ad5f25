use Rattle.std.proofs.Common.{ℕ}
use Rattle.rc_ids.specs.declared.names.NodeId.TheVariants.{Coord}
use Rattle.rc_plain_world.specs.Starts.{coord_site, Begins}
use Rattle.rc_plain_world.proofs.NewSessions.{sites_more, one_more}
use Rattle.rc_plain_world.proofs.starts.new_coords.Goals as goal

pub loop-count-preserved : goal.loop-count-preserved
loop-count-preserved c = record {
  sites = rw c.in_ok-push.ensures.items (sites_more (coord_site c.args.cluster.now) c.loop-count.count c.loop-count.hosts.items c.in_ok-new_coord.field-0 c.loop-count.invariant.sites c.in_ok-new_coord.ensures.site);
  begin = one_more (λ (d : ℕ). Begins c.args.cluster.now (Coord d)) c.loop-count.count c.loop-count.invariant.begin c.in_ok-new_coord.ensures.begins;
}

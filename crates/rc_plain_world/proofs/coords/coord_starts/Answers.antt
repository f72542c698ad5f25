use Rattle.std.proofs.Common.{◌≡◌, ◌-◌}
use Rattle.rc_protocol.specs.Nodes.{coord_index}
use Rattle.rc_plain_world.proofs.SiteEdits.{coord_begins}
use Rattle.rc_plain_world.proofs.coords.coord_starts.Goals as goal

pub returns-clause-started : goal.returns-clause-started
returns-clause-started c = λ h at.
    let place : c.dc.inside.0 - 1 ≡ coord_index c.args.dc = (cc) in
    coord_begins _ _ c.args.coords.now.items _ c.index_mut.result.now c.restart.new.self h c.new-out.result _ place c.index_mut.ensures.value c.in_ok-restart.ensures.node c.in_ok-restart.ensures.device c.new-out.ensures c.in_ok-restart.ensures.sends at

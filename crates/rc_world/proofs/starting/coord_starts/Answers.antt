use Rattle.std.proofs.Common.{◌≡◌, ℕ, ◌<◌, List, length, Some, refl, sym, ap, subst, ◌∙◌}
use Rattle.std.specs.Prelude.{slice_get, slice_set}
use Rattle.std.proofs.lemmas.Option.{slice_get_read}
use Rattle.rc_ids.specs.declared.names.NodeId.{NodeId}
use Rattle.rc_ids.specs.declared.names.NodeId.TheVariants.{Coord}
use Rattle.rc_runs.specs.declared.event.Event.TheVariants.{Restart}
use Rattle.rc_runs.specs.Devices.{Device}
use Rattle.rc_world.specs.Turns.{start_fault}
use Rattle.rc_ids.specs.declared.names.Party.TheVariants.{Node}
use Rattle.rc_msg.specs.Outboxes.{new_outbox}
use Rattle.rc_protocol.specs.Nodes.{coord_index}
use Rattle.rc_log.specs.contracts.log.LogJournal.TheImpl.{ghosts}
use Rattle.rc_host.specs.AnyNode.{coord_seen}
use Rattle.rc_host.specs.Standing.{coord_standing}
use Rattle.rc_host.specs.Hosts.{sight}
use Rattle.rc_begin.specs.Places.{coord_name, AreAt}
use Rattle.rc_begin.specs.Hosts.{run_at, IsCoord}
use Rattle.rc_world.proofs.CoordHosts.{name_is}
use Rattle.rc_world.proofs.CoordTurns.{coords_told}
use Rattle.rc_world.proofs.CoordStops as changes
use Rattle.rc_world.proofs.CoordStops.{refused_as}
use Rattle.rc_world.proofs.Wellness.{well_at, well_set}
use Rattle.rc_world.proofs.starting.coord_starts.Goals as goal

pub returns-in-Ok-clause-ok : goal.returns-in-Ok-clause-ok
returns-in-Ok-clause-ok g c = λ r z dc is_node cluster layout there spot down are told.
    let hosts = c.args.coords.now.items in
    let h = c.index_mut.result.now in
    let place = coord_index dc in
    let name = name_is r.cluster dc there in
    let within : place < length hosts = subst (λ (i : ℕ). i < length hosts) spot c.requires.within in
    let at : slice_get hosts place ≡ Some h = subst (λ (i : ℕ). slice_get hosts i ≡ Some h) spot (slice_get_read hosts (length hosts) c.args.place h refl c.requires.within c.index_mut.ensures.value) in
    let x = changes.x _ r hosts z are layout dc there within h c.rejoin.new.host at in
    let device = changes.device_there _ r hosts z are layout dc there within h c.rejoin.new.host at in
    let was = changes.host _ r hosts z are layout dc there within h c.rejoin.new.host at in
    let told_here = changes.told_here _ r hosts z are layout dc there within h c.rejoin.new.host at c.args.place spot told in
    let down_here = changes.up_here _ r hosts z are layout dc there within h c.rejoin.new.host at ∙ down in
    changes.restarts _ r hosts z are layout dc there within h c.rejoin.new.host at c.args.place c.args.out.now c.rejoin.new.out spot (c.requires.empty ∙ ap (λ (n : NodeId). new_outbox (Node n)) is_node) name
    (c.in-Ok.ensures.ok (run_at r (coord_name (coord_index dc))) (coord_standing x) device.0 (name ∙ sym is_node) cluster down_here was.host told_here)

pub returns-in-Err-clause-err : goal.returns-in-Err-clause-err
returns-in-Err-clause-err g c = λ r z dc is_node cluster layout there spot down are told.
    let hosts = c.args.coords.now.items in
    let h = c.index_mut.result.now in
    let place = coord_index dc in
    let name = name_is r.cluster dc there in
    let within : place < length hosts = subst (λ (i : ℕ). i < length hosts) spot c.requires.within in
    let at : slice_get hosts place ≡ Some h = subst (λ (i : ℕ). slice_get hosts i ≡ Some h) spot (slice_get_read hosts (length hosts) c.args.place h refl c.requires.within c.index_mut.ensures.value) in
    let x = changes.x _ r hosts z are layout dc there within h c.rejoin.new.host at in
    let device = changes.device_there _ r hosts z are layout dc there within h c.rejoin.new.host at in
    let was = changes.host _ r hosts z are layout dc there within h c.rejoin.new.host at in
    let told_here = changes.told_here _ r hosts z are layout dc there within h c.rejoin.new.host at c.args.place spot told in
    let down_here = changes.up_here _ r hosts z are layout dc there within h c.rejoin.new.host at ∙ down in
    let why = changes.stays_down _ r hosts z are layout dc there within h c.rejoin.new.host at c.in-Err.fault c.args.place spot (c.in-Err.ensures.err (run_at r (coord_name (coord_index dc))) (coord_standing x) device.0 (name ∙ sym is_node) cluster down_here was.host told_here) in
    let s = sight coord_seen (ghosts g.row.D g.D.Disk g.D.Disk-dict g.D.Destruct-dict).state g.D.Disk.told g.D.Disk.content g.D.Disk.power in
    refused_as z (Restart (Coord dc)) (λ (devices : List Device). AreAt (IsCoord s r) (slice_set hosts c.args.place c.rejoin.new.host) z.world.parties.coords devices) (start_fault c.in-Err.fault) c.world_fault.result c.world_fault.ensures why

pub returns-in-Ok-clause-grew : goal.returns-in-Ok-clause-grew
returns-in-Ok-clause-grew g c = λ r told.
    let hosts = c.args.coords.now.items in
    let h = c.index_mut.result.now in
    let at : slice_get hosts c.args.place ≡ Some h = slice_get_read hosts (length hosts) c.args.place h refl c.requires.within c.index_mut.ensures.value in
    coords_told (sight coord_seen (ghosts g.row.D g.D.Disk g.D.Disk-dict g.D.Destruct-dict).state g.D.Disk.told g.D.Disk.content g.D.Disk.power) r hosts c.args.place h c.rejoin.new.host at
    (c.in-Ok.ensures.grew (r.ended (coord_name c.args.place))) told

pub returns-in-Err-clause-grew : goal.returns-in-Err-clause-grew
returns-in-Err-clause-grew g c = λ r told.
    let hosts = c.args.coords.now.items in
    let h = c.index_mut.result.now in
    let at : slice_get hosts c.args.place ≡ Some h = slice_get_read hosts (length hosts) c.args.place h refl c.requires.within c.index_mut.ensures.value in
    coords_told (sight coord_seen (ghosts g.row.D g.D.Disk g.D.Disk-dict g.D.Destruct-dict).state g.D.Disk.told g.D.Disk.content g.D.Disk.power) r hosts c.args.place h c.rejoin.new.host at
    (c.in-Err.ensures.grew (r.ended (coord_name c.args.place))) told

pub returns-in-Ok-clause-well : goal.returns-in-Ok-clause-well
returns-in-Ok-clause-well g c =
    let fine = well_at (λ n. n.stopped) c.args.coords.now.items c.args.place c.index_mut.result.now c.requires.well c.requires.within c.index_mut.ensures.value in
    well_set (λ n. n.stopped) c.args.coords.now.items c.args.place c.rejoin.new.host c.requires.well (c.in-Ok.ensures.there fine.0) c.in-Ok.ensures.up

pub returns-in-Err-clause-well : goal.returns-in-Err-clause-well
returns-in-Err-clause-well g c =
    let fine = well_at (λ n. n.stopped) c.args.coords.now.items c.args.place c.index_mut.result.now c.requires.well c.requires.within c.index_mut.ensures.value in
    well_set (λ n. n.stopped) c.args.coords.now.items c.args.place c.rejoin.new.host c.requires.well (c.in-Err.ensures.there fine.0) c.in-Err.ensures.up

use Rattle.std.proofs.Common.{◌≡◌, ℕ, ◌<◌, length, Some, refl, subst, ◌∙◌}
use Rattle.std.specs.Prelude.{slice_get}
use Rattle.std.proofs.lemmas.Option.{slice_get_read}
use Rattle.rc_protocol.specs.Nodes.{coord_index}
use Rattle.rc_log.specs.contracts.log.LogJournal.TheImpl.{ghosts}
use Rattle.rc_host.specs.AnyNode.{coord_seen}
use Rattle.rc_host.specs.Standing.{coord_standing}
use Rattle.rc_host.specs.Hosts.{sight}
use Rattle.rc_begin.specs.Places.{coord_name}
use Rattle.rc_begin.specs.Hosts.{run_at}
use Rattle.rc_world.proofs.CoordTurns.{coords_told}
use Rattle.rc_world.proofs.CoordStops as changes
use Rattle.rc_world.proofs.Wellness.{well_at, well_set}
use Rattle.rc_world.proofs.stopping.coord_arms.Goals as goal

pub returns-clause-arms : goal.returns-clause-arms
returns-clause-arms g c = λ r z dc layout there spot up are.
    let hosts = c.args.coords.now.items in
    let h = c.index_mut.result.now in
    let place = coord_index dc in
    let within : place < length hosts = subst (λ (i : ℕ). i < length hosts) spot c.requires.within in
    let at : slice_get hosts place ≡ Some h = subst (λ (i : ℕ). slice_get hosts i ≡ Some h) spot (slice_get_read hosts (length hosts) c.args.place h refl c.requires.within c.index_mut.ensures.value) in
    let x = changes.x _ r hosts z are layout dc there within h c.arm.new.host at in
    let v = changes.v _ r hosts z are layout dc there within h c.arm.new.host at in
    let was = changes.host _ r hosts z are layout dc there within h c.arm.new.host at in
    changes.arms _ r hosts z are layout dc there within h c.arm.new.host at c.args.place c.args.k c.args.pick spot (c.arm.ensures.arms (run_at r (coord_name (coord_index dc))) (coord_standing x) v (changes.up_here _ r hosts z are layout dc there within h c.arm.new.host at ∙ up) was.host)

pub returns-clause-grew : goal.returns-clause-grew
returns-clause-grew g c = λ r told.
    let hosts = c.args.coords.now.items in
    let h = c.index_mut.result.now in
    let at : slice_get hosts c.args.place ≡ Some h = slice_get_read hosts (length hosts) c.args.place h refl c.requires.within c.index_mut.ensures.value in
    coords_told (sight coord_seen (ghosts g.row.D g.D.Disk g.D.Disk-dict g.D.Destruct-dict).state g.D.Disk.told g.D.Disk.content g.D.Disk.power) r hosts c.args.place h c.arm.new.host at
    (c.arm.ensures.grew (r.ended (coord_name c.args.place))) told

pub returns-clause-well : goal.returns-clause-well
returns-clause-well g c =
    let fine = well_at (λ n. n.stopped) c.args.coords.now.items c.args.place c.index_mut.result.now c.requires.well c.requires.within c.index_mut.ensures.value in
    well_set (λ n. n.stopped) c.args.coords.now.items c.args.place c.arm.new.host c.requires.well (c.arm.ensures.there fine.0) c.arm.ensures.up

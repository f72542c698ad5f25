use Rattle.std.proofs.Common.{◌≡◌, ℕ, ◌<◌, length, Some, refl, subst, ◌∙◌, sym}
use Rattle.std.specs.Prelude.{slice_get}
use Rattle.std.proofs.lemmas.Option.{slice_get_read}
use Rattle.rc_protocol.specs.Nodes.{coord_index}
use Rattle.rc_log.specs.contracts.log.LogJournal.TheImpl.{ghosts}
use Rattle.rc_host.specs.AnyNode.{coord_seen}
use Rattle.rc_host.specs.Causes.{cause_of}
use Rattle.rc_host.specs.Hosts.{sight}
use Rattle.rc_begin.specs.Places.{coord_name}
use Rattle.rc_begin.specs.Hosts.{run_at}
use Rattle.rc_world.proofs.CoordHosts.{name_is}
use Rattle.rc_world.proofs.CoordTurns as turns
use Rattle.rc_world.proofs.CoordTurns.{acts_at, refuses_if, logs_spelled, coords_told}
use Rattle.rc_world.proofs.Wellness.{well_at, well_set}
use Rattle.rc_world.proofs.coords.coord_acts.Goals as goal

pub returns-clause-ok : goal.returns-clause-ok
returns-clause-ok g c = λ r z e dc layout grammar node there spot are done is_deed has told.
    let hosts = c.args.coords.now.items in
    let h = c.index_mut.result.now in
    let new = c.host_acts.new.host in
    let own = c.host_acts.new.lines in
    let place = coord_index dc in
    let name = name_is r.cluster dc there in
    let within : place < length hosts = subst (λ (i : ℕ). i < length hosts) spot c.requires.within in
    let at : slice_get hosts place ≡ Some h = subst (λ (i : ℕ). slice_get hosts i ≡ Some h) spot (slice_get_read hosts (length hosts) c.args.place h refl c.requires.within c.index_mut.ensures.value) in
    let cause = cause_of c.args.cause.now in
    let x = turns.x _ r hosts z are layout dc there name within cause e done is_deed h new at own in
    let device = turns.device_there _ r hosts z are layout dc there name within cause e done is_deed h new at own in
    let is = turns.host _ r hosts z are layout dc there name within cause e done is_deed h new at own in
    let spelled = logs_spelled _ r hosts z are layout dc there name within cause e done is_deed h new at own c.coords_speak.ensures grammar has in
    let told_here = turns.told_here _ r hosts z are layout dc there name within cause e done is_deed h new at own c.args.place spot told in
    acts_at _ r hosts z are layout dc there name within cause e done is_deed h new at own c.host_acts.result c.args.place c.args.node.now spot node
    (λ is_up up. c.host_acts.ensures.ok (run_at r (coord_name place)) dc x device.0 (name ∙ sym node) name up is_up is.host spelled told_here)
    c.host_acts.ensures.idle

pub returns-clause-err : goal.returns-clause-err
returns-clause-err g c = λ r z e dc layout grammar node there spot are done is_deed has told.
    let hosts = c.args.coords.now.items in
    let h = c.index_mut.result.now in
    let new = c.host_acts.new.host in
    let own = c.host_acts.new.lines in
    let place = coord_index dc in
    let name = name_is r.cluster dc there in
    let within : place < length hosts = subst (λ (i : ℕ). i < length hosts) spot c.requires.within in
    let at : slice_get hosts place ≡ Some h = subst (λ (i : ℕ). slice_get hosts i ≡ Some h) spot (slice_get_read hosts (length hosts) c.args.place h refl c.requires.within c.index_mut.ensures.value) in
    let cause = cause_of c.args.cause.now in
    let x = turns.x _ r hosts z are layout dc there name within cause e done is_deed h new at own in
    let device = turns.device_there _ r hosts z are layout dc there name within cause e done is_deed h new at own in
    let is = turns.host _ r hosts z are layout dc there name within cause e done is_deed h new at own in
    let spelled = logs_spelled _ r hosts z are layout dc there name within cause e done is_deed h new at own c.coords_speak.ensures grammar has in
    let told_here = turns.told_here _ r hosts z are layout dc there name within cause e done is_deed h new at own c.args.place spot told in
    refuses_if _ r hosts z are layout dc there name within cause e done is_deed h new at own c.host_acts.result c.args.place c.args.node.now spot
    (λ is_up. c.host_acts.ensures.err (run_at r (coord_name place)) x device.0 (name ∙ sym node) is_up is.host spelled told_here)
    c.host_acts.ensures.idle

pub returns-clause-grew : goal.returns-clause-grew
returns-clause-grew g c = λ r told.
    let hosts = c.args.coords.now.items in
    let h = c.index_mut.result.now in
    let at : slice_get hosts c.args.place ≡ Some h = slice_get_read hosts (length hosts) c.args.place h refl c.requires.within c.index_mut.ensures.value in
    coords_told (sight coord_seen (ghosts g.row.D g.D.Disk g.D.Disk-dict g.D.Destruct-dict).state g.D.Disk.told g.D.Disk.content g.D.Disk.power) r hosts c.args.place h c.host_acts.new.host at
    (c.host_acts.ensures.grew (r.ended (coord_name c.args.place))) told

pub returns-clause-well : goal.returns-clause-well
returns-clause-well g c =
    let fine = well_at (λ n. n.stopped) c.args.coords.now.items c.args.place c.index_mut.result.now c.requires.well c.requires.within c.index_mut.ensures.value in
    well_set (λ n. n.stopped) c.args.coords.now.items c.args.place c.host_acts.new.host c.requires.well (c.host_acts.ensures.there fine.0) c.host_acts.ensures.up

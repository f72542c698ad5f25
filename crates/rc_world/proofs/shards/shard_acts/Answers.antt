use Rattle.std.proofs.Common.{◌≡◌, ℕ, ◌<◌, length, Some, refl, sym, subst, ◌∙◌}
use Rattle.std.specs.Prelude.{slice_get}
use Rattle.std.proofs.lemmas.Option.{slice_get_read}
use Rattle.rc_protocol.specs.Nodes.{shard_index}
use Rattle.rc_host.specs.Causes.{cause_of}
use Rattle.rc_host.specs.Standing.{shard_standing}
use Rattle.rc_begin.specs.Places.{shard_name}
use Rattle.rc_begin.specs.Hosts.{run_at}
use Rattle.rc_world.proofs.ShardTurns as turns
use Rattle.rc_begin.proofs.Lists.{name_is}
use Rattle.rc_log.specs.contracts.log.LogJournal.TheImpl.{ghosts}
use Rattle.rc_host.specs.AnyNode.{shard_seen}
use Rattle.rc_host.specs.Hosts.{sight}
use Rattle.rc_world.proofs.ShardTurns.{acts_named, refuses_at, logs_spelled, shards_told}
use Rattle.rc_world.proofs.Wellness.{well_at, well_set}
use Rattle.rc_world.proofs.shards.shard_acts.Goals as goal

pub returns-in-Ok-clause-ok : goal.returns-in-Ok-clause-ok
returns-in-Ok-clause-ok g c = λ r z e dc shard cluster layout grammar node there spot are done is_deed has told.
    let hosts = c.args.shards.now.items in
    let h = c.index_mut.result.now in
    let new = c.turn.new.host in
    let own = c.turn.new.lines in
    let place = shard_index r.cluster dc shard in
    let name = name_is r.cluster dc shard there in
    let within : place < length hosts = subst (λ (i : ℕ). i < length hosts) spot c.requires.within in
    let at : slice_get hosts place ≡ Some h = subst (λ (i : ℕ). slice_get hosts i ≡ Some h) spot (slice_get_read hosts (length hosts) c.args.place h refl c.requires.within c.index_mut.ensures.value) in
    let cause = cause_of c.args.cause.now in
    let x = turns.x _ r hosts z are layout dc shard there name within cause e done is_deed h new at own in
    let device = turns.device_there _ r hosts z are layout dc shard there name within cause e done is_deed h new at own in
    let is = turns.host _ r hosts z are layout dc shard there name within cause e done is_deed h new at own in
    let spelled = logs_spelled _ r hosts z are layout dc shard there name within cause e done is_deed h new at own c.shards_speak.ensures grammar has in
    let told_here = turns.told_here _ r hosts z are layout dc shard there name within cause e done is_deed h new at own c.args.place spot told in
    acts_named _ r hosts z are layout dc shard there name within cause e done is_deed h new at own c.in-Ok.out c.in-Ok.field-0-1 c.args.place c.args.node.now spot node
    (λ up. c.in-Ok.ensures.ok (run_at r (shard_name r.cluster place)) (shard_standing x) device.0 (name ∙ sym node) up is.host spelled told_here)
    (λ down. let k = c.in-Ok.ensures.idle down in (k.0, k.1, k.2.0))

pub returns-in-Err-clause-err : goal.returns-in-Err-clause-err
returns-in-Err-clause-err g c = λ r z e dc shard cluster layout grammar node there spot are done is_deed has told.
    let hosts = c.args.shards.now.items in
    let h = c.index_mut.result.now in
    let new = c.turn.new.host in
    let own = c.turn.new.lines in
    let place = shard_index r.cluster dc shard in
    let name = name_is r.cluster dc shard there in
    let within : place < length hosts = subst (λ (i : ℕ). i < length hosts) spot c.requires.within in
    let at : slice_get hosts place ≡ Some h = subst (λ (i : ℕ). slice_get hosts i ≡ Some h) spot (slice_get_read hosts (length hosts) c.args.place h refl c.requires.within c.index_mut.ensures.value) in
    let cause = cause_of c.args.cause.now in
    let x = turns.x _ r hosts z are layout dc shard there name within cause e done is_deed h new at own in
    let device = turns.device_there _ r hosts z are layout dc shard there name within cause e done is_deed h new at own in
    let is = turns.host _ r hosts z are layout dc shard there name within cause e done is_deed h new at own in
    let spelled = logs_spelled _ r hosts z are layout dc shard there name within cause e done is_deed h new at own c.shards_speak.ensures grammar has in
    let told_here = turns.told_here _ r hosts z are layout dc shard there name within cause e done is_deed h new at own c.args.place spot told in
    refuses_at _ r hosts z are layout dc shard there name within cause e done is_deed h new at own c.in-Err.fault c.args.place spot
    (λ up. c.in-Err.ensures.err (run_at r (shard_name r.cluster place)) (shard_standing x) device.0 (name ∙ sym node) up is.host spelled told_here)
    (λ down. let k = c.in-Err.ensures.idle down in (k.0, k.3))

pub returns-in-Ok-clause-grew : goal.returns-in-Ok-clause-grew
returns-in-Ok-clause-grew g c = λ r told.
    let hosts = c.args.shards.now.items in
    let h = c.index_mut.result.now in
    let at : slice_get hosts c.args.place ≡ Some h = slice_get_read hosts (length hosts) c.args.place h refl c.requires.within c.index_mut.ensures.value in
    shards_told (sight shard_seen (ghosts g.row.D g.D.Disk g.D.Disk-dict g.D.Destruct-dict).state g.D.Disk.told g.D.Disk.content g.D.Disk.power) r hosts c.args.place h c.turn.new.host at
    (c.in-Ok.ensures.grew (r.ended (shard_name r.cluster c.args.place))) told

pub returns-in-Err-clause-grew : goal.returns-in-Err-clause-grew
returns-in-Err-clause-grew g c = λ r told.
    let hosts = c.args.shards.now.items in
    let h = c.index_mut.result.now in
    let at : slice_get hosts c.args.place ≡ Some h = slice_get_read hosts (length hosts) c.args.place h refl c.requires.within c.index_mut.ensures.value in
    shards_told (sight shard_seen (ghosts g.row.D g.D.Disk g.D.Disk-dict g.D.Destruct-dict).state g.D.Disk.told g.D.Disk.content g.D.Disk.power) r hosts c.args.place h c.turn.new.host at
    (c.in-Err.ensures.grew (r.ended (shard_name r.cluster c.args.place))) told

pub returns-in-Ok-clause-well : goal.returns-in-Ok-clause-well
returns-in-Ok-clause-well g c =
    let fine = well_at (λ n. n.stopped) c.args.shards.now.items c.args.place c.index_mut.result.now c.requires.well c.requires.within c.index_mut.ensures.value in
    well_set (λ n. n.stopped) c.args.shards.now.items c.args.place c.turn.new.host c.requires.well (c.in-Ok.ensures.there fine.0) c.in-Ok.ensures.up

pub returns-in-Err-clause-well : goal.returns-in-Err-clause-well
returns-in-Err-clause-well g c =
    let fine = well_at (λ n. n.stopped) c.args.shards.now.items c.args.place c.index_mut.result.now c.requires.well c.requires.within c.index_mut.ensures.value in
    well_set (λ n. n.stopped) c.args.shards.now.items c.args.place c.turn.new.host c.requires.well (c.in-Err.ensures.there fine.0) c.in-Err.ensures.up

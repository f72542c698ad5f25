use Rattle.std.proofs.Common.{◌≡◌, ℕ, ◌<◌, length, Some, refl, subst, ◌∙◌}
use Rattle.std.specs.Prelude.{slice_get}
use Rattle.std.proofs.lemmas.Option.{slice_get_read}
use Rattle.rc_protocol.specs.Nodes.{shard_index}
use Rattle.rc_log.specs.contracts.log.LogJournal.TheImpl.{ghosts}
use Rattle.rc_host.specs.AnyNode.{shard_seen}
use Rattle.rc_host.specs.Standing.{shard_standing}
use Rattle.rc_host.specs.Hosts.{sight}
use Rattle.rc_begin.specs.Places.{shard_name}
use Rattle.rc_begin.specs.Hosts.{run_at}
use Rattle.rc_world.proofs.ShardTurns.{shards_told}
use Rattle.rc_world.proofs.ShardStops as changes
use Rattle.rc_world.proofs.Wellness.{well_at, well_set, down_is_fine}
use Rattle.rc_world.proofs.stopping.shard_stops.Goals as goal

pub returns-clause-stops : goal.returns-clause-stops
returns-clause-stops g c = λ r z dc shard layout there spot up are.
    let hosts = c.args.shards.now.items in
    let h = c.index_mut.result.now in
    let place = shard_index r.cluster dc shard in
    let within : place < length hosts = subst (λ (i : ℕ). i < length hosts) spot c.requires.within in
    let at : slice_get hosts place ≡ Some h = subst (λ (i : ℕ). slice_get hosts i ≡ Some h) spot (slice_get_read hosts (length hosts) c.args.place h refl c.requires.within c.index_mut.ensures.value) in
    let x = changes.x _ r hosts z are layout dc shard there within h c.crash.new.host at in
    let v = changes.v _ r hosts z are layout dc shard there within h c.crash.new.host at in
    let was = changes.host _ r hosts z are layout dc shard there within h c.crash.new.host at in
    changes.stops _ r hosts z are layout dc shard there within h c.crash.new.host at c.args.place spot (c.crash.ensures.stops (run_at r (shard_name r.cluster (shard_index r.cluster dc shard))) (shard_standing x) v (changes.up_here _ r hosts z are layout dc shard there within h c.crash.new.host at ∙ up) was.host)

pub returns-clause-grew : goal.returns-clause-grew
returns-clause-grew g c = λ r told.
    let hosts = c.args.shards.now.items in
    let h = c.index_mut.result.now in
    let at : slice_get hosts c.args.place ≡ Some h = slice_get_read hosts (length hosts) c.args.place h refl c.requires.within c.index_mut.ensures.value in
    shards_told (sight shard_seen (ghosts g.row.D g.D.Disk g.D.Disk-dict g.D.Destruct-dict).state g.D.Disk.told g.D.Disk.content g.D.Disk.power) r hosts c.args.place h c.crash.new.host at
    (c.crash.ensures.grew (r.ended (shard_name r.cluster c.args.place))) told

pub returns-clause-well : goal.returns-clause-well
returns-clause-well g c =
    let fine = well_at (λ n. n.stopped) c.args.shards.now.items c.args.place c.index_mut.result.now c.requires.well c.requires.within c.index_mut.ensures.value in
    well_set (λ n. n.stopped) c.args.shards.now.items c.args.place c.crash.new.host c.requires.well (c.crash.ensures.there fine.0) (down_is_fine (λ n. n.stopped) c.crash.new.host c.crash.ensures.down)

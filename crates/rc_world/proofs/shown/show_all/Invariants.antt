use Rattle.std.proofs.Common.{◌≡◌, ◌++◌, ◌-◌, List}
use Rattle.std.specs.List.{flat_map}
use Rattle.rc_ids.specs.Tables.{up_to}
use Rattle.rc_protocol.specs.Nodes.{ShardNode}
use Rattle.rc_runs.specs.Devices.{Device}
use Rattle.rc_log.specs.declared.log.Log.{Log}
use Rattle.rc_log.specs.Journals.{log_state}
use Rattle.rc_host.specs.AnyNode.{shard_seen}
use Rattle.rc_host.specs.Hosts.{sight}
use Rattle.rc_begin.specs.Places.{AreAt}
use Rattle.rc_begin.specs.Hosts.{Runs, IsShard}
use Rattle.rc_world.specs.Shown.{shown_at}
use Rattle.rc_world.proofs.shown.show_all.Given as goal

abbrev pub invariant-loop-shard : goal.invariant-loop-shard
invariant-loop-shard g l =
    let state = (λ (l : Log g.row.D.Denot g.D.Disk). log_state (g.D.Disk.content l.disk) (g.D.Disk.told l.disk) (g.D.Disk.power l.disk) (g.D.Disk.faults l.disk) (g.D.Disk.cuts l.disk) l.end l.count l.limit l.failed l.frame.items) in
    (r : Runs) (nodes : List ShardNode) (devices : List Device) → AreAt (IsShard (sight shard_seen state g.D.Disk.told g.D.Disk.content g.D.Disk.power) r) l.shards nodes devices
    → l.lines ≡ l.initial.lines ++ flat_map (shown_at l.cluster nodes l.dc) (up_to (l.shard - 1))

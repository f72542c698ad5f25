use Rattle.std.proofs.Common.{◌≡◌, ℕ, ◌+◌, ◌-◌, ◌*◌, ◌<◌, ◌≤◌, false, List, length, take, ◌++◌, IsTrue}
use Rattle.std.specs.Prelude.{◌≢◌}
use Rattle.std.specs.List.{list_all}
use Rattle.rc_ids.specs.Cluster.{is_shard}
use Rattle.rc_ids.specs.declared.names.NodeId.{NodeId}
use Rattle.rc_ids.specs.declared.names.NodeId.TheVariants.{Shard as ShardServer}
use Rattle.rc_log.specs.declared.log.Log.{Log}
use Rattle.rc_log.specs.Journals.{log_state}
use Rattle.rc_runs.specs.Stored.{Place}
use Rattle.rc_begin.specs.Wells.{is_well}
use Rattle.rc_begin.specs.Hosts.{Runs, ShardsAreTold}
use Rattle.rc_begin.specs.Hosts.{views}
use Rattle.rc_begin.specs.Starts.{AllAreTold}
use Rattle.rc_begin.specs.Gatherings.{AreGathered, IsLendable, are_lent, servers}
use Rattle.rc_begin.proofs.dcs_begin.begin_shards.Given as goal

abbrev pub invariant-loop-count : goal.invariant-loop-count
invariant-loop-count g l =
    let state = (λ (l : Log g.row.F-D.Denot g.F.D.Disk). log_state (g.F.D.Disk.content l.disk) (g.F.D.Disk.told l.disk) (g.F.D.Disk.power l.disk) (g.F.D.Disk.faults l.disk) (g.F.D.Disk.cuts l.disk) l.end l.count l.limit l.failed l.frame.items) in
    record {
      lent : (sh : ℕ) → g.F.Farm.is_lent l.farm (ShardServer l.dc sh) ≡ are_lent l.count sh;
      stands : (sh : ℕ) → l.count < sh → g.F.Farm.stands l.farm (ShardServer l.dc sh) ≡ g.F.Farm.stands l.initial.farm (ShardServer l.dc sh);
      home : (n : NodeId) → g.F.Farm.is_lent l.farm n ≡ false → g.F.Farm.stands l.farm n ≡ g.F.Farm.stands l.initial.farm n;
      later : g.F.Farm.faults l.initial.farm ≤ g.F.Farm.faults l.farm;
      told : (r : Runs) → r.cluster ≡ l.cluster → length l.initial.all.shards.items ≡ (l.dc - 1) * l.cluster.shards
          → AllAreTold (views state g.F.D.Disk.told g.F.D.Disk.content g.F.D.Disk.power) r (g.F.Farm.is_lent l.farm) (g.F.Farm.stands l.farm) l.all.coords.items l.all.shards.items
          → AllAreTold (views state g.F.D.Disk.told g.F.D.Disk.content g.F.D.Disk.power) r (g.F.Farm.is_lent l.initial.farm) (g.F.Farm.stands l.initial.farm) l.initial.all.coords.items l.initial.all.shards.items;
      rest : l.all.coords.items ≡ l.initial.all.coords.items;
      rest_logs : l.all.coord_logs.items ≡ l.initial.all.coord_logs.items;
      more : length l.all.shards.items ≡ length l.initial.all.shards.items + l.count;
      front : take (length l.initial.all.shards.items) l.all.shards.items ≡ l.initial.all.shards.items;
      well : IsTrue (list_all (is_well (λ n. n.stopped)) l.all.shards.items);
      others_lent : (n : NodeId) → ((sh : ℕ) → n ≢ ShardServer l.dc sh) → g.F.Farm.is_lent l.farm n ≡ g.F.Farm.is_lent l.initial.farm n;
      others : (n : NodeId) → ((sh : ℕ) → IsTrue (is_shard l.cluster sh) → n ≢ ShardServer l.dc sh) → g.F.Farm.stands l.farm n ≡ g.F.Farm.stands l.initial.farm n;
      start : (n : NodeId) → g.F.Farm.start l.farm n ≡ g.F.Farm.start l.initial.farm n;
      gathered : (r : Runs) (p : Place) (nodes : List NodeId) → r.cluster ≡ l.cluster → length l.initial.all.shards.items ≡ (l.dc - 1) * l.cluster.shards
          → ((sh : ℕ) → IsTrue (is_shard l.cluster sh) → IsLendable p r (g.F.Farm.stands l.initial.farm) (ShardServer l.dc sh))
          → AreGathered (views state g.F.D.Disk.told g.F.D.Disk.content g.F.D.Disk.power) r p nodes l.initial.all.coords.items l.initial.all.coord_logs.items l.initial.all.shards.items l.initial.all.shard_logs.items
          → ShardsAreTold (views state g.F.D.Disk.told g.F.D.Disk.content g.F.D.Disk.power).shards r l.all.shards.items
          → AreGathered (views state g.F.D.Disk.told g.F.D.Disk.content g.F.D.Disk.power) r p (nodes ++ servers l.dc l.count) l.all.coords.items l.all.coord_logs.items l.all.shards.items l.all.shard_logs.items;
    }

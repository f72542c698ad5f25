use Rattle.std.proofs.Common.{◌≡◌, ◌*◌, ◌≤◌, false, length, IsTrue}
use Rattle.std.specs.List.{list_all, flat_map}
use Rattle.rc_ids.specs.Tables.{up_to}
use Rattle.rc_ids.specs.declared.names.NodeId.{NodeId}
use Rattle.rc_log.specs.declared.log.Log.{Log}
use Rattle.rc_log.specs.Journals.{log_state}
use Rattle.rc_runs.specs.Stored.{Place, nodes_of_dc}
use Rattle.rc_begin.specs.Wells.{is_well}
use Rattle.rc_begin.specs.Hosts.{Runs}
use Rattle.rc_begin.specs.Hosts.{views}
use Rattle.rc_begin.specs.Gatherings.{AreGathered}
use Rattle.rc_begin.specs.Starts.{AreLendable, AllStandKept, AllAreTold, AreLentFirst}
use Rattle.rc_begin.proofs.opening.begin_dcs.Given as goal

abbrev pub invariant-loop-count : goal.invariant-loop-count
invariant-loop-count g l =
    let state = (λ (l : Log g.row.F-D.Denot g.F.D.Disk). log_state (g.F.D.Disk.content l.disk) (g.F.D.Disk.told l.disk) (g.F.D.Disk.power l.disk) (g.F.D.Disk.faults l.disk) (g.F.D.Disk.cuts l.disk) l.end l.count l.limit l.failed l.frame.items) in
    record {
      coords : length l.all.coords.items ≡ l.count;
      shards : length l.all.shards.items ≡ l.count * l.cluster.shards;
      well : IsTrue (list_all (is_well (λ n. n.stopped)) l.all.coords.items);
      well_shards : IsTrue (list_all (is_well (λ n. n.stopped)) l.all.shards.items);
      lent : AreLentFirst (g.F.Farm.is_lent l.farm) l.cluster l.count (l.count * l.cluster.shards);
      home : (n : NodeId) → g.F.Farm.is_lent l.farm n ≡ false → g.F.Farm.stands l.farm n ≡ g.F.Farm.stands l.initial.farm n;
      start : (n : NodeId) → g.F.Farm.start l.farm n ≡ g.F.Farm.start l.initial.farm n;
      later : g.F.Farm.faults l.initial.farm ≤ g.F.Farm.faults l.farm;
      told : (r : Runs) → r.cluster ≡ l.cluster
          → AllAreTold (views state g.F.D.Disk.told g.F.D.Disk.content g.F.D.Disk.power) r (g.F.Farm.is_lent l.farm) (g.F.Farm.stands l.farm) l.all.coords.items l.all.shards.items
          → AllStandKept r (g.F.Farm.stands l.initial.farm);
      gathered : (r : Runs) (p : Place) → r.cluster ≡ l.cluster → AreLendable p r (g.F.Farm.stands l.initial.farm)
          → AllAreTold (views state g.F.D.Disk.told g.F.D.Disk.content g.F.D.Disk.power) r (g.F.Farm.is_lent l.farm) (g.F.Farm.stands l.farm) l.all.coords.items l.all.shards.items
          → AreGathered (views state g.F.D.Disk.told g.F.D.Disk.content g.F.D.Disk.power) r p (flat_map (nodes_of_dc l.cluster) (up_to l.count)) l.all.coords.items l.all.coord_logs.items l.all.shards.items l.all.shard_logs.items;
    }

use Rattle.std.proofs.Common.{◌≡◌, length, ◌++◌, IsTrue}
use Rattle.std.specs.List.{list_all}
use Rattle.rc_ids.specs.declared.names.NodeId.{NodeId}
use Rattle.rc_log.specs.declared.log.Log.{Log}
use Rattle.rc_log.specs.Journals.{log_state}
use Rattle.rc_host.specs.AnyNode.{coord_seen}
use Rattle.rc_host.specs.Hosts.{IsToldBy, sight}
use Rattle.rc_begin.specs.Wells.{is_well}
use Rattle.rc_begin.specs.Places.{coord_name}
use Rattle.rc_begin.proofs.GivenBack.{HaveBack}
use Rattle.rc_begin.proofs.closing.give_coords_back.Given as goal

abbrev pub invariant-loop-coord : goal.invariant-loop-coord
invariant-loop-coord g l =
    let state = (λ (l : Log g.row.F-D.Denot g.F.D.Disk). log_state (g.F.D.Disk.content l.disk) (g.F.D.Disk.told l.disk) (g.F.D.Disk.power l.disk) (g.F.D.Disk.faults l.disk) (g.F.D.Disk.cuts l.disk) l.end l.count l.limit l.failed l.frame.items) in
    record {
      count : l.dc ≡ length l.yielded;
      all : l.yielded ++ l.coord-iterator.rest.items ≡ l.fn.coords.items;
      well : IsTrue (list_all (is_well (λ n. n.stopped)) l.coord-iterator.rest.items);
      back : HaveBack (IsToldBy (sight coord_seen state g.F.D.Disk.told g.F.D.Disk.content g.F.D.Disk.power)) coord_name
          (g.F.Farm.is_lent l.initial.farm) (g.F.Farm.is_lent l.farm) (g.F.Farm.stands l.initial.farm) (g.F.Farm.stands l.farm) l.yielded;
      start : (n : NodeId) → g.F.Farm.start l.farm n ≡ g.F.Farm.start l.initial.farm n;
      faults : g.F.Farm.faults l.farm ≡ g.F.Farm.faults l.initial.farm;
    }

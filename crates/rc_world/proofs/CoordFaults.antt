-- Why a coordinator did not act in an event.
use Rattle.std.proofs.Common.{◌≡◌, ℕ, Bool, true, List, [], Option, None, Some, refl, ◌∙◌, ap}
use Rattle.std.specs.Prelude.{slice_get, if◌then◌else◌}
use Rattle.rc_ids.specs.Cluster.{is_dc}
use Rattle.rc_record.specs.declared.record.Record.{Record}
use Rattle.rc_report.specs.declared.fault.Which.{Which}
use Rattle.rc_report.specs.declared.fault.Which.TheVariants.{Ballots}
use Rattle.rc_runs.specs.declared.event.Event.{Event}
use Rattle.rc_protocol.specs.Coordinator.{CoordAct}
use Rattle.rc_protocol.specs.Nodes.{CoordNode, coord_index}
use Rattle.rc_runs.specs.World.{ByCoord, Goes, Stops, along, deed, sends_of}
use Rattle.rc_runs.specs.Refusals.{worn_out}
use Rattle.rc_runs.specs.Devices.{Device}
use Rattle.rc_runs.specs.Session.{Session, with_change}
use Rattle.rc_host.specs.AnyNode.{NodeDurable, of_coord}
use Rattle.rc_host.specs.Standing.{Standing}
use Rattle.rc_host.specs.Hosts.{Sight, Run, IsHost}
use Rattle.rc_host.specs.declared.host.Host.{Host}
use Rattle.rc_node.specs.Acts.{coord_does}
use Rattle.rc_begin.specs.declared.fault.WorldFault.{WorldFault}
use Rattle.rc_begin.specs.declared.fault.WorldFault.TheVariants.{NoMemory, Farm, Log, Limit, Naming}
use Rattle.rc_world.specs.Steps.{IsDone, deed_change}
use Rattle.rc_world.specs.Turns.{TurnRefused, Unturned, Stays, Lost}
use Rattle.rc_world.specs.Refused.{ActRefused, Unacted, AsBefore, FarmFailed}
use Rattle.rc_world.proofs.Courses.{course_for, device_for}
use Rattle.rc_world.proofs.CoordActs.{coord_disk}
use Rattle.rc_world.proofs.Refusals.{stopped_inside, farm_failed, is_spent}

abbrev act_with : Option Record → CoordAct → CoordAct
act_with logs act = record { logs = logs; after = act.after; sends = act.sends; spent = act.spent }

module _ (z : Session) (d : ℕ) (x : CoordNode) (v : Device) (inside : is_dc z.world.parties.layout d ≡ true) (at : slice_get z.world.parties.coords (coord_index d) ≡ Some x)
    (on : slice_get z.coords (coord_index d) ≡ Some v) (e : Event) (done : IsDone z e) (act : CoordAct) (is_deed : deed z.world.parties z.world.sent e ≡ ByCoord d x act) (empty : act.spent ≡ true → act.logs ≡ None) where
  course_is : (logs : Option Record) → (deed_change z (ByCoord d x (act_with logs act))).course ≡ course_for logs v
  course_is None = refl
  course_is (Some r) = rw (coord_disk z d x v inside at on) refl

  sends_none : (logs : Option Record) (kept : Bool) → course_for logs v ≡ Stops kept → sends_of (along (Stops kept) (ByCoord d x (act_with logs act))) ≡ []
  sends_none None kept is = cc
  sends_none (Some r) kept is = refl

  whole : (logs : Option Record) (kept : Bool) → course_for logs v ≡ Stops kept → worn_out (along (Stops kept) (ByCoord d x (act_with logs act))) ≡ None
  whole None kept is = cc
  whole (Some r) kept is = refl

  no_device : (logs : Option Record) → device_for logs v ≡ None → with_change z (deed_change z (ByCoord d x (act_with logs act))) ≡ None
  no_device None is = cc
  no_device (Some r) is = rw (coord_disk z d x v inside at on) (rw is refl)

  stopped : (Before : Type 0) (kept : Bool) → course_for act.logs v ≡ Stops kept → Unacted z e Before
  stopped Before kept is = stopped_inside z e (ByCoord d x act) is_deed done Before kept (course_is act.logs ∙ is)

  failed : (kept : Bool) → course_for act.logs v ≡ Stops kept → device_for act.logs v ≡ None → FarmFailed z e
  failed kept is lost = farm_failed z e (ByCoord d x act) is_deed done kept (course_is act.logs ∙ is) (sends_none act.logs kept is) (whole act.logs kept is) (no_device act.logs lost)

  goes : act.logs ≡ None → course_for act.logs v ≡ Goes
  goes none = ap (λ (o : Option Record). course_for o v) none

  module _ {C J D : Type 0} (s : Sight C J D) (gives : List (List ℕ) → NodeDurable → Type 0) (run : Run) (new : Host C J D) (y : Standing) (Before : Type 0) (as_before : IsHost s gives run new y v → Before) where
    unacted : Unturned s gives run new y v (of_coord (coord_does x.durable act)) → Unacted z e Before
    unacted (Stays is) = AsBefore (as_before is)
    unacted (Lost stops) = stopped Before stops.kept stops.comes

    pub coord_refused : (fault : WorldFault) → TurnRefused s gives run fault new y v (of_coord (coord_does x.durable act)) → ActRefused z e Before fault
    coord_refused NoMemory why = unacted why
    coord_refused Farm why = failed why.0.kept why.0.comes why.1
    coord_refused (Limit which) why =
        (why.1, is_spent z e (ByCoord d x act) is_deed done (course_is act.logs ∙ goes (empty why.0)) (ap (λ (b : Bool). let o : Option Which = if b then Some Ballots else None in o) why.0))
    coord_refused (Log node fault) why = absurd why
    coord_refused (Naming name) why = absurd why

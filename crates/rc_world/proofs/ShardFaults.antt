-- Why a shard server did not act in an event.
use Rattle.std.proofs.Common.{◌≡◌, ℕ, Bool, true, false, List, [], Option, None, Some, refl, ◌∙◌, ap}
use Rattle.std.specs.Prelude.{slice_get, if◌then◌else◌}
use Rattle.rc_ids.specs.Tables.{maybe}
use Rattle.rc_ids.specs.Cluster.{Layout}
use Rattle.rc_record.specs.declared.record.Record.{Record}
use Rattle.rc_runs.specs.declared.event.Event.{Event}
use Rattle.rc_protocol.specs.Shard.{ShardAct}
use Rattle.rc_protocol.specs.Acts.{NodeCause, shard_act}
use Rattle.rc_protocol.specs.Nodes.{ShardNode, shard_index}
use Rattle.rc_runs.specs.World.{Deed, Idle, ByShard, Course, Goes, Stops, along, is_shard_of, shard_at, by_shard, shard_does as shard_does_at, deed, course_deed, sends_of}
use Rattle.rc_runs.specs.Refusals.{worn_out}
use Rattle.rc_runs.specs.Devices.{Device}
use Rattle.rc_runs.specs.Session.{Session, with_change}
use Rattle.rc_host.specs.AnyNode.{NodeDurable, of_shard}
use Rattle.rc_host.specs.Standing.{Standing}
use Rattle.rc_host.specs.Hosts.{Sight, Run, IsHost}
use Rattle.rc_host.specs.declared.host.Host.{Host}
use Rattle.rc_node.specs.Acts.{shard_does}
use Rattle.rc_begin.specs.declared.fault.WorldFault.{WorldFault}
use Rattle.rc_begin.specs.declared.fault.WorldFault.TheVariants.{NoMemory, Farm, Log, Limit, Naming}
use Rattle.rc_world.specs.Steps.{IsDone, deed_change}
use Rattle.rc_world.specs.Turns.{TurnRefused, Unturned, Stays, Lost}
use Rattle.rc_world.specs.Refused.{ActRefused, Unacted, AsBefore, FarmFailed}
use Rattle.rc_world.proofs.Courses.{course_for, device_for}
use Rattle.rc_world.proofs.ShardActs.{shard_disk}
use Rattle.rc_world.proofs.Refusals.{stopped_inside, farm_failed}

abbrev act_with : Option Record → ShardAct → ShardAct
act_with logs act = record { logs = logs; after = act.after; sends = act.sends }

-- no limit can be met by the act of a shard server
never_worn : (k : Course) (d sh : ℕ) (x : ShardNode) (logs : Option Record) (act : ShardAct) → worn_out (along k (ByShard d sh x (act_with logs act))) ≡ None
never_worn Goes d sh x logs act = refl
never_worn (Stops kept) d sh x None act = refl
never_worn (Stops kept) d sh x (Some r) act = refl

never_worn_idle : (k : Course) → worn_out (along k Idle) ≡ None
never_worn_idle Goes = refl
never_worn_idle (Stops kept) = refl

by_node : (k : Course) (c : Layout) (d sh : ℕ) (cause : NodeCause) (o : Option ShardNode) → worn_out (along k (maybe o Idle (λ x. if x.up then by_shard c d sh x cause else Idle))) ≡ None
by_node k c d sh cause None = never_worn_idle k
by_node k c d sh cause (Some x) = by_up x.up
  where
    by_up : (b : Bool) → worn_out (along k (if b then by_shard c d sh x cause else Idle)) ≡ None
    by_up true = let act : ShardAct = shard_act c d sh x.durable x.volatile cause in never_worn k d sh x act.logs act
    by_up false = never_worn_idle k

pub shard_never_worn : (z : Session) (e : Event) (d sh : ℕ) (cause : NodeCause) (k : Course) → deed z.world.parties z.world.sent e ≡ shard_does_at z.world.parties d sh cause → worn_out (course_deed z.world e k) ≡ None
shard_never_worn z e d sh cause k is = ap (λ (dd : Deed). worn_out (along k dd)) is ∙ by_node k z.world.parties.layout d sh cause (shard_at z.world.parties d sh)

module _ (z : Session) (d sh : ℕ) (x : ShardNode) (v : Device) (inside : is_shard_of z.world.parties.layout d sh ≡ true) (at : slice_get z.world.parties.shards (shard_index z.world.parties.layout d sh) ≡ Some x)
    (on : slice_get z.shards (shard_index z.world.parties.layout d sh) ≡ Some v) (e : Event) (done : IsDone z e) (act : ShardAct) (is_deed : deed z.world.parties z.world.sent e ≡ ByShard d sh x act) where
  course_is : (logs : Option Record) → (deed_change z (ByShard d sh x (act_with logs act))).course ≡ course_for logs v
  course_is None = refl
  course_is (Some r) = rw (shard_disk z d sh x v inside at on) refl

  sends_none : (logs : Option Record) (kept : Bool) → course_for logs v ≡ Stops kept → sends_of (along (Stops kept) (ByShard d sh x (act_with logs act))) ≡ []
  sends_none None kept is = cc
  sends_none (Some r) kept is = refl

  whole : (logs : Option Record) (kept : Bool) → course_for logs v ≡ Stops kept → worn_out (along (Stops kept) (ByShard d sh x (act_with logs act))) ≡ None
  whole None kept is = cc
  whole (Some r) kept is = refl

  no_device : (logs : Option Record) → device_for logs v ≡ None → with_change z (deed_change z (ByShard d sh x (act_with logs act))) ≡ None
  no_device None is = cc
  no_device (Some r) is = rw (shard_disk z d sh x v inside at on) (rw is refl)

  stopped : (Before : Type 0) (kept : Bool) → course_for act.logs v ≡ Stops kept → Unacted z e Before
  stopped Before kept is = stopped_inside z e (ByShard d sh x act) is_deed done Before kept (course_is act.logs ∙ is)

  failed : (kept : Bool) → course_for act.logs v ≡ Stops kept → device_for act.logs v ≡ None → FarmFailed z e
  failed kept is lost = farm_failed z e (ByShard d sh x act) is_deed done kept (course_is act.logs ∙ is) (sends_none act.logs kept is) (whole act.logs kept is) (no_device act.logs lost)

  module _ {S J D : Type 0} (s : Sight S J D) (gives : List (List ℕ) → NodeDurable → Type 0) (run : Run) (new : Host S J D) (y : Standing) (Before : Type 0) (as_before : IsHost s gives run new y v → Before) where
    unacted : Unturned s gives run new y v (of_shard (shard_does x.durable act)) → Unacted z e Before
    unacted (Stays is) = AsBefore (as_before is)
    unacted (Lost stops) = stopped Before stops.kept stops.comes

    pub shard_refused : (fault : WorldFault) → TurnRefused s gives run fault new y v (of_shard (shard_does x.durable act)) → ActRefused z e Before fault
    shard_refused NoMemory why = unacted why
    shard_refused Farm why = failed why.0.kept why.0.comes why.1
    shard_refused (Limit which) why = absurd (let e : false ≡ true = why.0 in cc)
    shard_refused (Log node fault) why = absurd why
    shard_refused (Naming name) why = absurd why

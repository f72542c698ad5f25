-- A coordinator acts in an event: what the event makes of the session, from how its append went on its disk.
use Rattle.std.proofs.Common.{◌≡◌, ℕ, Bool, true, false, List, [], ◌∷◌, ◌++◌, Option, None, Some, refl, sym, ◌∙◌, ap}
use Rattle.std.specs.Prelude.{slice_get, slice_set, if◌then◌else◌}
use Rattle.rc_ids.specs.Tables.{maybe}
use Rattle.rc_ids.specs.Cluster.{is_dc}
use Rattle.rc_ids.specs.declared.names.NodeId.TheVariants.{Coord}
use Rattle.rc_record.specs.declared.record.Record.{Record}
use Rattle.rc_report.specs.declared.line.Line.{Line}
use Rattle.rc_report.specs.declared.line.Line.TheVariants.{Stopped, Up}
use Rattle.rc_runs.specs.declared.event.Event.{Event}
use Rattle.rc_runs.specs.declared.event.Event.TheVariants.{Crash, CrashAt, Restart}
use Rattle.rc_protocol.specs.Coordinator.{CoordAct}
use Rattle.rc_protocol.specs.Acts.{NodeCause, Catches, coord_act}
use Rattle.rc_protocol.specs.Nodes.{CoordNode, coord_index, coord_after, coord_started, coord_stopped}
use Rattle.rc_runs.specs.World.{Parties, Deed, Idle, ByCoord, CoordStops, Course, Goes, Stops, along, after_begin, parties_after, sends_of, lines_of, with_coord, coord_at, by_coord, coord_does, deed, stops, restarts, kept_record, restart_lines}
use Rattle.rc_runs.specs.Refusals.{worn_out}
use Rattle.rc_runs.specs.Devices.{Device, powered, armed, opened_once}
use Rattle.rc_runs.specs.Session.{Session, DiskChange, no_device, device_in, device_of, with_device, change_on, disk_change, with_change}
use Rattle.rc_world.specs.Steps.{EventActed, with_disks, deed_change}
use Rattle.rc_begin.proofs.Lists.{set_same}
use Rattle.rc_world.proofs.Courses.{course_for, device_for, record_left, sends_left, lines_left}

-- what an act leaves of the coordinator
abbrev pub coord_left : CoordNode → CoordAct → Course → CoordNode
coord_left x act Goes = coord_after x act
coord_left x act (Stops kept) = maybe act.logs (coord_after x act) (λ r. coord_stopped x (kept_record kept r))

abbrev act_with : Option Record → CoordAct → CoordAct
act_with logs act = record { logs = logs; after = act.after; sends = act.sends; spent = act.spent }

along_parties : (p : Parties) (d : ℕ) (x : CoordNode) (logs : Option Record) (act : CoordAct) (k : Course)
    → parties_after p (along k (ByCoord d x (act_with logs act))) ≡ with_coord p d (coord_left x (act_with logs act) k) (record_left logs k)
along_parties p d x logs act Goes = refl
along_parties p d x None act (Stops kept) = refl
along_parties p d x (Some r) act (Stops kept) = refl

along_sends : (d : ℕ) (x : CoordNode) (logs : Option Record) (act : CoordAct) (k : Course) → sends_of (along k (ByCoord d x (act_with logs act))) ≡ sends_left logs act.sends k
along_sends d x logs act Goes = refl
along_sends d x None act (Stops kept) = refl
along_sends d x (Some r) act (Stops kept) = refl

along_lines : (d : ℕ) (x : CoordNode) (logs : Option Record) (act : CoordAct) (k : Course) → lines_of (along k (ByCoord d x (act_with logs act))) ≡ lines_left (Coord d) logs k
along_lines d x logs act Goes = refl
along_lines d x None act (Stops kept) = refl
along_lines d x (Some r) act (Stops kept) = refl

along_whole : (d : ℕ) (x : CoordNode) (logs : Option Record) (act : CoordAct) (k : Course) → act.spent ≡ false → worn_out (along k (ByCoord d x (act_with logs act))) ≡ None
along_whole d x logs act Goes left = rw left refl
along_whole d x None act (Stops kept) left = rw left refl
along_whole d x (Some r) act (Stops kept) left = refl

module _ (z : Session) (d : ℕ) (x : CoordNode) (v : Device) (inside : is_dc z.world.parties.layout d ≡ true) (at : slice_get z.world.parties.coords (coord_index d) ≡ Some x)
    (on : slice_get z.coords (coord_index d) ≡ Some v) where
  abbrev p : Parties
  p = z.world.parties

  pub coord_here : coord_at p d ≡ Some x
  coord_here = ap (λ (b : Bool). let o : Option CoordNode = if b then slice_get p.coords (coord_index d) else None in o) inside ∙ at

  pub coord_disk : device_of z (Coord d) ≡ v
  coord_disk = ap (λ (b : Bool). if b then device_in z.coords (coord_index d) else no_device) inside ∙ ap (λ (o : Option Device). maybe o no_device (λ x. x)) on

  pub coord_devices : (w : Device) → with_device z (Coord d) w ≡ with_disks z (slice_set z.coords (coord_index d) w) z.shards
  coord_devices w = ap (λ (b : Bool). let y : Session = if b then record z { coords = slice_set z.coords (coord_index d) w } else z in y) inside

  same_devices : with_disks z (slice_set z.coords (coord_index d) v) z.shards ≡ z
  same_devices = ap (λ (ds : List Device). with_disks z ds z.shards) (set_same z.coords (coord_index d) v on)

  -- a coordinator that is up does its part
  pub does : (cause : NodeCause) → x.up ≡ true → coord_does p d cause ≡ by_coord p.layout d x cause
  does cause up =
      ap (λ (o : Option CoordNode). maybe o Idle (λ y. if y.up then by_coord p.layout d y cause else Idle)) coord_here
      ∙ ap (λ (b : Bool). if b then by_coord p.layout d x cause else Idle) up

  change_course : (logs : Option Record) (act : CoordAct) → (deed_change z (ByCoord d x (act_with logs act))).course ≡ course_for logs v
  change_course None act = refl
  change_course (Some r) act = rw coord_disk refl

  change_device : (logs : Option Record) (act : CoordAct) (w : Device) → device_for logs v ≡ Some w
      → with_change z (deed_change z (ByCoord d x (act_with logs act))) ≡ Some (with_disks z (slice_set z.coords (coord_index d) w) z.shards)
  change_device None act w left = let e : v ≡ w = (cc) in ap Some (sym same_devices ∙ ap (λ (u : Device). with_disks z (slice_set z.coords (coord_index d) u) z.shards) e)
  change_device (Some r) act w left = rw coord_disk (rw left (ap Some (coord_devices w)))

  -- the coordinator does an act in the event
  pub coord_acted : (e : Event) (act : CoordAct) (w : Device) → deed p z.world.sent e ≡ ByCoord d x act → disk_change z e ≡ deed_change z (deed p z.world.sent e) → after_begin p e ≡ p → restart_lines e ≡ []
      → act.spent ≡ false → device_for act.logs v ≡ Some w
      → let k = course_for act.logs v in
      EventActed z e (with_coord p d (coord_left x act k) (record_left act.logs k)) (slice_set z.coords (coord_index d) w) z.shards (sends_left act.logs act.sends k) (lines_left (Coord d) act.logs k)
  coord_acted e act w is change begins prints left device =
      let k : Course = course_for act.logs v in
      let change_is : disk_change z e ≡ deed_change z (ByCoord d x act) = change ∙ ap (deed_change z) is in
      let course_is : (disk_change z e).course ≡ k = ap (λ (c : DiskChange). c.course) change_is ∙ change_course act.logs act in
      let deed_is : along (disk_change z e).course (deed p z.world.sent e) ≡ along k (ByCoord d x act) = ap (λ (c : Course). along c (deed p z.world.sent e)) course_is ∙ ap (along k) is in
      record {
        parties = sym (ap (λ (q : Parties). parties_after q (along (disk_change z e).course (deed p z.world.sent e))) begins ∙ ap (parties_after p) deed_is ∙ along_parties p d x act.logs act k);
        disks = ap (with_change z) change_is ∙ change_device act.logs act w device;
        sends = sym (ap sends_of deed_is ∙ along_sends d x act.logs act k);
        prints = sym (ap (λ (ls : List Line). ls ++ lines_of (along (disk_change z e).course (deed p z.world.sent e))) prints ∙ ap lines_of deed_is ∙ along_lines d x act.logs act k);
        whole = ap worn_out deed_is ∙ along_whole d x act.logs act k left;
      }

  -- its disk is changed
  changes : (o : Option Device) (w : Device) → o ≡ Some w → with_change z (change_on (Coord d) o) ≡ Some (with_disks z (slice_set z.coords (coord_index d) w) z.shards)
  changes o w is = ap (λ (u : Option Device). with_change z (change_on (Coord d) u)) is ∙ ap Some (coord_devices w)

  abbrev stopped_deed : Deed
  stopped_deed = CoordStops d x None

  pub coord_stops : EventActed z (Crash (Coord d)) (with_coord p d (coord_stopped x None) None) (slice_set z.coords (coord_index d) (powered v)) z.shards [] (Stopped (Coord d) ∷ [])
  coord_stops =
      let is : stops p (Coord d) ≡ stopped_deed = ap (λ (o : Option CoordNode). maybe o Idle (λ y. CoordStops d y None)) coord_here in
      record {
        parties = sym (ap (parties_after p) is);
        disks = changes (Some (powered (device_of z (Coord d)))) (powered v) (ap (λ (u : Device). Some (powered u)) coord_disk);
        sends = sym (ap sends_of is);
        prints = sym (ap lines_of is);
        whole = ap worn_out is;
      }

  pub coord_arms : (k pick : ℕ) → EventActed z (CrashAt (Coord d) k pick) p (slice_set z.coords (coord_index d) (armed v k pick)) z.shards [] []
  coord_arms k pick = record {
    parties = refl;
    disks = changes (Some (armed (device_of z (Coord d)) k pick)) (armed v k pick) (ap (λ (u : Device). Some (armed u k pick)) coord_disk);
    sends = refl;
    prints = refl;
    whole = refl;
  }

  -- what a coordinator does that starts from its log
  abbrev pub starting : CoordAct
  starting = coord_act p.layout d (coord_started x.log).durable (coord_started x.log).volatile Catches

  pub coord_restarts : (w : Device) → opened_once v ≡ Some w
      → EventActed z (Restart (Coord d)) (with_coord p d (coord_after (coord_started x.log) starting) None) (slice_set z.coords (coord_index d) w) z.shards starting.sends (Up (Coord d) ∷ [])
  coord_restarts w opens =
      let is : restarts p (Coord d) ≡ ByCoord d (coord_started x.log) starting = ap (λ (o : Option CoordNode). maybe o Idle (λ y. by_coord p.layout d (coord_started y.log) Catches)) coord_here in
      record {
        parties = sym (ap (parties_after p) is);
        disks = changes (opened_once (device_of z (Coord d))) w (ap opened_once coord_disk ∙ opens);
        sends = sym (ap sends_of is);
        prints = sym (ap (λ (dd : Deed). Up (Coord d) ∷ lines_of dd) is);
        whole = ap worn_out is;
      }

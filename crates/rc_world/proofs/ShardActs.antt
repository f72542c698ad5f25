-- A shard server acts in an event: what the event makes of the session, from how its append went on its disk.
use Rattle.std.proofs.Common.{◌≡◌, ℕ, Bool, true, List, [], ◌∷◌, ◌++◌, Option, None, Some, refl, sym, ◌∙◌, ap}
use Rattle.std.specs.Prelude.{slice_get, slice_set, if◌then◌else◌}
use Rattle.rc_ids.specs.Tables.{maybe}
use Rattle.rc_ids.specs.declared.names.NodeId.TheVariants.{Shard as ShardServer}
use Rattle.rc_record.specs.declared.record.Record.{Record}
use Rattle.rc_report.specs.declared.line.Line.{Line}
use Rattle.rc_report.specs.declared.line.Line.TheVariants.{Stopped, Up}
use Rattle.rc_runs.specs.declared.event.Event.{Event}
use Rattle.rc_runs.specs.declared.event.Event.TheVariants.{Crash, CrashAt, Restart}
use Rattle.rc_protocol.specs.Shard.{ShardAct}
use Rattle.rc_protocol.specs.Acts.{NodeCause, Catches, shard_act}
use Rattle.rc_protocol.specs.Nodes.{ShardNode, shard_index, shard_after, shard_started, shard_stopped}
use Rattle.rc_runs.specs.World.{Parties, Deed, Idle, ByShard, ShardStops, Course, Goes, Stops, along, after_begin, parties_after, sends_of, lines_of, with_shard, shard_at, by_shard, shard_does, is_shard_of, deed, stops, restarts, kept_record, restart_lines}
use Rattle.rc_runs.specs.Refusals.{worn_out}
use Rattle.rc_runs.specs.Devices.{Device, powered, armed, opened_once}
use Rattle.rc_runs.specs.Session.{Session, DiskChange, no_device, device_in, device_of, with_device, change_on, disk_change, with_change}
use Rattle.rc_world.specs.Steps.{EventActed, with_disks, deed_change}
use Rattle.rc_begin.proofs.Lists.{set_same}
use Rattle.rc_world.proofs.Courses.{course_for, device_for, sends_left, lines_left}

-- what an act leaves of the shard server
abbrev pub shard_left : ShardNode → ShardAct → Course → ShardNode
shard_left x act Goes = shard_after x act
shard_left x act (Stops kept) = maybe act.logs (shard_after x act) (λ r. shard_stopped x (kept_record kept r))

abbrev act_with : Option Record → ShardAct → ShardAct
act_with logs act = record { logs = logs; after = act.after; sends = act.sends }

along_parties : (p : Parties) (d sh : ℕ) (x : ShardNode) (logs : Option Record) (act : ShardAct) (k : Course)
    → parties_after p (along k (ByShard d sh x (act_with logs act))) ≡ with_shard p d sh (shard_left x (act_with logs act) k)
along_parties p d sh x logs act Goes = refl
along_parties p d sh x None act (Stops kept) = refl
along_parties p d sh x (Some r) act (Stops kept) = refl

along_sends : (d sh : ℕ) (x : ShardNode) (logs : Option Record) (act : ShardAct) (k : Course) → sends_of (along k (ByShard d sh x (act_with logs act))) ≡ sends_left logs act.sends k
along_sends d sh x logs act Goes = refl
along_sends d sh x None act (Stops kept) = refl
along_sends d sh x (Some r) act (Stops kept) = refl

along_lines : (d sh : ℕ) (x : ShardNode) (logs : Option Record) (act : ShardAct) (k : Course) → lines_of (along k (ByShard d sh x (act_with logs act))) ≡ lines_left (ShardServer d sh) logs k
along_lines d sh x logs act Goes = refl
along_lines d sh x None act (Stops kept) = refl
along_lines d sh x (Some r) act (Stops kept) = refl

along_whole : (d sh : ℕ) (x : ShardNode) (logs : Option Record) (act : ShardAct) (k : Course) → worn_out (along k (ByShard d sh x (act_with logs act))) ≡ None
along_whole d sh x logs act Goes = refl
along_whole d sh x None act (Stops kept) = refl
along_whole d sh x (Some r) act (Stops kept) = refl

module _ (z : Session) (d sh : ℕ) (x : ShardNode) (v : Device) (inside : is_shard_of z.world.parties.layout d sh ≡ true) (at : slice_get z.world.parties.shards (shard_index z.world.parties.layout d sh) ≡ Some x)
    (on : slice_get z.shards (shard_index z.world.parties.layout d sh) ≡ Some v) where
  abbrev p : Parties
  p = z.world.parties

  pub shard_here : shard_at p d sh ≡ Some x
  shard_here = ap (λ (b : Bool). let o : Option ShardNode = if b then slice_get p.shards (shard_index z.world.parties.layout d sh) else None in o) inside ∙ at

  pub shard_disk : device_of z (ShardServer d sh) ≡ v
  shard_disk = ap (λ (b : Bool). if b then device_in z.shards (shard_index z.world.parties.layout d sh) else no_device) inside ∙ ap (λ (o : Option Device). maybe o no_device (λ x. x)) on

  pub shard_devices : (w : Device) → with_device z (ShardServer d sh) w ≡ with_disks z z.coords (slice_set z.shards (shard_index z.world.parties.layout d sh) w)
  shard_devices w = ap (λ (b : Bool). let y : Session = if b then record z { shards = slice_set z.shards (shard_index z.world.parties.layout d sh) w } else z in y) inside

  same_devices : with_disks z z.coords (slice_set z.shards (shard_index z.world.parties.layout d sh) v) ≡ z
  same_devices = ap (λ (ds : List Device). with_disks z z.coords ds) (set_same z.shards (shard_index z.world.parties.layout d sh) v on)

  -- a shard server that is up does its part
  pub does : (cause : NodeCause) → x.up ≡ true → shard_does p d sh cause ≡ by_shard p.layout d sh x cause
  does cause up =
      ap (λ (o : Option ShardNode). maybe o Idle (λ y. if y.up then by_shard p.layout d sh y cause else Idle)) shard_here
      ∙ ap (λ (b : Bool). if b then by_shard p.layout d sh x cause else Idle) up

  change_course : (logs : Option Record) (act : ShardAct) → (deed_change z (ByShard d sh x (act_with logs act))).course ≡ course_for logs v
  change_course None act = refl
  change_course (Some r) act = rw shard_disk refl

  change_device : (logs : Option Record) (act : ShardAct) (w : Device) → device_for logs v ≡ Some w
      → with_change z (deed_change z (ByShard d sh x (act_with logs act))) ≡ Some (with_disks z z.coords (slice_set z.shards (shard_index z.world.parties.layout d sh) w))
  change_device None act w left = let e : v ≡ w = (cc) in ap Some (sym same_devices ∙ ap (λ (u : Device). with_disks z z.coords (slice_set z.shards (shard_index z.world.parties.layout d sh) u)) e)
  change_device (Some r) act w left = rw shard_disk (rw left (ap Some (shard_devices w)))

  -- the shard server does an act in the event
  pub shard_acted : (e : Event) (act : ShardAct) (w : Device) → deed p z.world.sent e ≡ ByShard d sh x act → disk_change z e ≡ deed_change z (deed p z.world.sent e) → after_begin p e ≡ p → restart_lines e ≡ []
      → device_for act.logs v ≡ Some w
      → let k = course_for act.logs v in
      EventActed z e (with_shard p d sh (shard_left x act k)) z.coords (slice_set z.shards (shard_index z.world.parties.layout d sh) w) (sends_left act.logs act.sends k) (lines_left (ShardServer d sh) act.logs k)
  shard_acted e act w is change begins prints device =
      let k : Course = course_for act.logs v in
      let change_is : disk_change z e ≡ deed_change z (ByShard d sh x act) = change ∙ ap (deed_change z) is in
      let course_is : (disk_change z e).course ≡ k = ap (λ (c : DiskChange). c.course) change_is ∙ change_course act.logs act in
      let deed_is : along (disk_change z e).course (deed p z.world.sent e) ≡ along k (ByShard d sh x act) = ap (λ (c : Course). along c (deed p z.world.sent e)) course_is ∙ ap (along k) is in
      record {
        parties = sym (ap (λ (q : Parties). parties_after q (along (disk_change z e).course (deed p z.world.sent e))) begins ∙ ap (parties_after p) deed_is ∙ along_parties p d sh x act.logs act k);
        disks = ap (with_change z) change_is ∙ change_device act.logs act w device;
        sends = sym (ap sends_of deed_is ∙ along_sends d sh x act.logs act k);
        prints = sym (ap (λ (ls : List Line). ls ++ lines_of (along (disk_change z e).course (deed p z.world.sent e))) prints ∙ ap lines_of deed_is ∙ along_lines d sh x act.logs act k);
        whole = ap worn_out deed_is ∙ along_whole d sh x act.logs act k;
      }

  -- its disk is changed
  changes : (o : Option Device) (w : Device) → o ≡ Some w → with_change z (change_on (ShardServer d sh) o) ≡ Some (with_disks z z.coords (slice_set z.shards (shard_index z.world.parties.layout d sh) w))
  changes o w is = ap (λ (u : Option Device). with_change z (change_on (ShardServer d sh) u)) is ∙ ap Some (shard_devices w)

  abbrev stopped_deed : Deed
  stopped_deed = ShardStops d sh x None

  pub shard_stops : EventActed z (Crash (ShardServer d sh)) (with_shard p d sh (shard_stopped x None)) z.coords (slice_set z.shards (shard_index z.world.parties.layout d sh) (powered v)) [] (Stopped (ShardServer d sh) ∷ [])
  shard_stops =
      let is : stops p (ShardServer d sh) ≡ stopped_deed = ap (λ (o : Option ShardNode). maybe o Idle (λ y. ShardStops d sh y None)) shard_here in
      record {
        parties = sym (ap (parties_after p) is);
        disks = changes (Some (powered (device_of z (ShardServer d sh)))) (powered v) (ap (λ (u : Device). Some (powered u)) shard_disk);
        sends = sym (ap sends_of is);
        prints = sym (ap lines_of is);
        whole = ap worn_out is;
      }

  pub shard_arms : (k pick : ℕ) → EventActed z (CrashAt (ShardServer d sh) k pick) p z.coords (slice_set z.shards (shard_index z.world.parties.layout d sh) (armed v k pick)) [] []
  shard_arms k pick = record {
    parties = refl;
    disks = changes (Some (armed (device_of z (ShardServer d sh)) k pick)) (armed v k pick) (ap (λ (u : Device). Some (armed u k pick)) shard_disk);
    sends = refl;
    prints = refl;
    whole = refl;
  }

  -- what a shard server does that starts from its log
  abbrev pub starting : ShardAct
  starting = shard_act p.layout d sh (shard_started x.log).durable (shard_started x.log).volatile Catches

  pub shard_restarts : (w : Device) → opened_once v ≡ Some w
      → EventActed z (Restart (ShardServer d sh)) (with_shard p d sh (shard_after (shard_started x.log) starting)) z.coords (slice_set z.shards (shard_index z.world.parties.layout d sh) w) starting.sends (Up (ShardServer d sh) ∷ [])
  shard_restarts w opens =
      let is : restarts p (ShardServer d sh) ≡ ByShard d sh (shard_started x.log) starting = ap (λ (o : Option ShardNode). maybe o Idle (λ y. by_shard p.layout d sh (shard_started y.log) Catches)) shard_here in
      record {
        parties = sym (ap (parties_after p) is);
        disks = changes (opened_once (device_of z (ShardServer d sh))) w (ap opened_once shard_disk ∙ opens);
        sends = sym (ap sends_of is);
        prints = sym (ap (λ (dd : Deed). Up (ShardServer d sh) ∷ lines_of dd) is);
        whole = ap worn_out is;
      }

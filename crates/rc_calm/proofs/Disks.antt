-- Devices that fail nothing take all that is appended while a queue is delivered, where the logs at its end still have room.
use Rattle.std.proofs.Common.{◌≡◌, ℕ, ◌+◌, List, [], ◌∷◌, ◌++◌, refl, sym, ap, ◌∙◌, subst, arith, Bool, Option, Some, None, ◌⊎◌}
use Rattle.std.specs.Prelude.{slice_set, length, if◌then◌else◌}
use Rattle.rc_ids.specs.Tables.{maybe}
use Rattle.rc_ids.specs.declared.names.NodeId.{NodeId}
use Rattle.rc_ids.specs.declared.names.NodeId.TheVariants.{Coord, Shard as ShardServer}
use Rattle.rc_msg.specs.declared.msg.Envelope.{Envelope}
use Rattle.rc_report.specs.declared.line.Line.{Line}
use Rattle.rc_report.specs.declared.line.Line.TheVariants.{Settled}
use Rattle.rc_record.specs.declared.record.Record.{Record}
use Rattle.rc_runs.specs.declared.event.Event.TheVariants.{Deliver}
use Rattle.rc_protocol.specs.Nodes.{CoordNode, ShardNode, coord_index, shard_index, coord_after, shard_after, logged}
use Rattle.rc_runs.specs.World.{Parties, Deed, Idle, ByClient, ByCoord, ByShard, CoordStops, ShardStops, Goes, received, parties_after}
use Rattle.rc_runs.specs.Devices.{Device, Made, appended, record_length}
use Rattle.rc_runs.specs.Session.{Session, DiskChange, append_of, append_change, no_change, no_device, device_in, device_of, disk_change, with_change}
use Rattle.rc_runs.specs.Script.{settles}
use Rattle.rc_calm_batches.proofs.Passes.{Drains, Empty, Next, deed_of}
use Rattle.rc_calm_batches.proofs.Indices.{get_set_same}
use Rattle.rc_calm.proofs.Queue.{Queued, number, message_is, parties_is}
use Rattle.rc_calm.proofs.Settles.{Takes, SettledAs, MeetsLimit, settles_drains}
use Rattle.rc_calm_batches.proofs.Sizes.{log_bytes, bytes_end}
use Rattle.rc_calm.proofs.Logs.{Fit, fit_set, fit_keep, HasRoom, makes, Takes as TakesMore, Sound, received_sound, LogsGrow, drains_grow}

abbrev coord_log : CoordNode → List Record
coord_log x = x.log

abbrev shard_log : ShardNode → List Record
shard_log x = x.log

-- all devices are fit, and the logs of r have room
pub record DisksFit (z : Session) (r : Parties) : Type 0 where
  pub coords : Fit (λ (x : CoordNode). x.log) z.coords z.world.parties.coords
  pub shards : Fit (λ (x : ShardNode). x.log) z.shards z.world.parties.shards
  pub coords_room : HasRoom (λ (x : CoordNode). x.log) r.coords
  pub shards_room : HasRoom (λ (x : ShardNode). x.log) r.shards

abbrev change_of : Session → Deed → DiskChange
change_of z d = maybe (append_of d) no_change (λ (a : NodeId × ℕ). append_change a.0 (appended (device_of z a.0) a.1))

abbrev change_made : NodeId → Device → DiskChange
change_made node w = record { course = Goes; node = Some node; device = Some w }

some_change : (z : Session) (d : Deed) (node : NodeId) (len : ℕ) (dev w : Device) → append_of d ≡ Some (node, len) → device_of z node ≡ dev → appended dev len ≡ (Made, w) → change_of z d ≡ change_made node w
some_change z d node len dev w a e m =
    ap (λ (o : Option (NodeId × ℕ)). maybe o no_change (λ (a : NodeId × ℕ). append_change a.0 (appended (device_of z a.0) a.1))) a
    ∙ (ap (λ (x : Device). append_change node (appended x len)) e ∙ ap (append_change node) m)

pub record Changes (z : Session) (d : Deed) : Type 0 where
  pub session : Session
  pub course : (change_of z d).course ≡ Goes
  pub change : with_change z (change_of z d) ≡ Some session
  pub text : session.text ≡ z.text
  pub coords : Fit (λ (x : CoordNode). x.log) session.coords (parties_after z.world.parties d).coords
  pub shards : Fit (λ (x : ShardNode). x.log) session.shards (parties_after z.world.parties d).shards

changes : (z : Session) (r : Parties) (d : Deed) → Sound z.world.parties d → LogsGrow (parties_after z.world.parties d) r → DisksFit z r → Changes z d
changes z r Idle s g h = record { session = z; course = refl; change = refl; text = refl; coords = h.coords; shards = h.shards }
changes z r (ByClient t act) s g h = record { session = z; course = refl; change = refl; text = refl; coords = h.coords; shards = h.shards }
changes z r (ByCoord d x act) s g h = go act.logs refl
  where
    go : (o : Option Record) → act.logs ≡ o → Changes z (ByCoord d x act)
    go None k =
        let is : change_of z (ByCoord d x act) ≡ no_change = ap (λ (o : Option Record). maybe (maybe o None (λ r. Some (Coord d, record_length r))) no_change (λ (a : NodeId × ℕ). append_change a.0 (appended (device_of z a.0) a.1))) k in
        record {
          session = z;
          course = ap (λ (w : DiskChange). w.course) is;
          change = ap (with_change z) is;
          text = refl;
          coords = fit_keep coord_log z.coords z.world.parties.coords (coord_index d) x (coord_after x act) h.coords s.1 (ap (logged x.log) (sym k));
          shards = h.shards;
        }
    go (Some rec) k =
        let a = h.coords (coord_index d) x s.1 in
        let later = g.0 (coord_index d) (coord_after x act) (get_set_same z.world.parties.coords (coord_index d) x (coord_after x act) s.1) in
        let room = h.coords_room (coord_index d) later.0 later.1 in
        let grown : log_bytes (logged x.log act.logs) ≡ log_bytes x.log + (5 + record_length rec) = ap (λ (o : Option Record). log_bytes (logged x.log o)) k ∙ bytes_end x.log rec in
        let le = later.2 in
        let made = makes coord_log a.0 (log_bytes x.log) (record_length rec) a.2 (omega (arith, room, grown, le)) in
        let dev : device_of z (Coord d) ≡ a.0 = ap (λ (v : Bool). if v then device_in z.coords (coord_index d) else no_device) s.0 ∙ ap (λ (o : Option Device). maybe o no_device (λ x. x)) a.1 in
        let is = some_change z (ByCoord d x act) (Coord d) (record_length rec) a.0 made.0 (ap (λ (o : Option Record). maybe o None (λ r. Some (Coord d, record_length r))) k) dev made.1 in
        record {
          session = record z { coords = slice_set z.coords (coord_index d) made.0 };
          course = ap (λ (w : DiskChange). w.course) is;
          change = ap (with_change z) is ∙ ap (λ (v : Bool). Some (if v then record z { coords = slice_set z.coords (coord_index d) made.0 } else z)) s.0;
          text = refl;
          coords = fit_set coord_log z.coords z.world.parties.coords (coord_index d) x (coord_after x act) made.0 h.coords s.1 (subst (TakesMore coord_log made.0) (sym grown) made.2);
          shards = h.shards;
        }
changes z r (ByShard d n x act) s g h = go act.logs refl
  where
    go : (o : Option Record) → act.logs ≡ o → Changes z (ByShard d n x act)
    go None k =
        let is : change_of z (ByShard d n x act) ≡ no_change = ap (λ (o : Option Record). maybe (maybe o None (λ r. Some (ShardServer d n, record_length r))) no_change (λ (a : NodeId × ℕ). append_change a.0 (appended (device_of z a.0) a.1))) k in
        record {
          session = z;
          course = ap (λ (w : DiskChange). w.course) is;
          change = ap (with_change z) is;
          text = refl;
          coords = h.coords;
          shards = fit_keep shard_log z.shards z.world.parties.shards (shard_index z.world.parties.layout d n) x (shard_after x act) h.shards s.1 (ap (logged x.log) (sym k));
        }
    go (Some rec) k =
        let a = h.shards (shard_index z.world.parties.layout d n) x s.1 in
        let later = g.1 (shard_index z.world.parties.layout d n) (shard_after x act) (get_set_same z.world.parties.shards (shard_index z.world.parties.layout d n) x (shard_after x act) s.1) in
        let room = h.shards_room (shard_index z.world.parties.layout d n) later.0 later.1 in
        let grown : log_bytes (logged x.log act.logs) ≡ log_bytes x.log + (5 + record_length rec) = ap (λ (o : Option Record). log_bytes (logged x.log o)) k ∙ bytes_end x.log rec in
        let le = later.2 in
        let made = makes shard_log a.0 (log_bytes x.log) (record_length rec) a.2 (omega (arith, room, grown, le)) in
        let dev : device_of z (ShardServer d n) ≡ a.0 = ap (λ (v : Bool). if v then device_in z.shards (shard_index z.world.parties.layout d n) else no_device) s.0 ∙ ap (λ (o : Option Device). maybe o no_device (λ x. x)) a.1 in
        let is = some_change z (ByShard d n x act) (ShardServer d n) (record_length rec) a.0 made.0 (ap (λ (o : Option Record). maybe o None (λ r. Some (ShardServer d n, record_length r))) k) dev made.1 in
        record {
          session = record z { shards = slice_set z.shards (shard_index z.world.parties.layout d n) made.0 };
          course = ap (λ (w : DiskChange). w.course) is;
          change = ap (with_change z) is ∙ ap (λ (v : Bool). Some (if v then record z { shards = slice_set z.shards (shard_index z.world.parties.layout d n) made.0 } else z)) s.0;
          text = refl;
          coords = h.coords;
          shards = fit_set shard_log z.shards z.world.parties.shards (shard_index z.world.parties.layout d n) x (shard_after x act) made.0 h.shards s.1 (subst (TakesMore shard_log made.0) (sym grown) made.2);
        }
changes z r (CoordStops d x kept) s g h = absurd s
changes z r (ShardStops d n x kept) s g h = absurd s

-- after the first delivery
abbrev AfterFirst : Parties → List Envelope → Parties → Type 0
AfterFirst p [] r = Unit {0}
AfterFirst p (e ∷ q) r = LogsGrow (parties_after p (deed_of p e)) r

after_first : (p : Parties) (q : List Envelope) (r : Parties) (ls : List Line) (ds : List Envelope) → Drains p q r ls ds → AfterFirst p q r
after_first p q r ls ds (Empty p') = tt
after_first p q r ls ds (Next p' e q' r' ls' ds' worn rest) = drains_grow (parties_after p' (deed_of p' e)) _ r' ls' ds' rest

pub disks_take : (z : Session) (e : Envelope) (q : List Envelope) (r : Parties) (ls : List Line) (ds : List Envelope) (h : Queued z.world (e ∷ q)) → DisksFit z r → Drains z.world.parties (e ∷ q) r ls ds
    → Takes DisksFit z (Deliver (number z.world e q h)) r
disks_take z e q r ls ds h fit d =
    let p = z.world.parties in
    let w = changes z r (deed_of p e) (received_sound p e e.to) (after_first p (e ∷ q) r ls ds d) fit in
    let is : disk_change z (Deliver (number z.world e q h)) ≡ change_of z (deed_of p e) =
    ap (λ (o : Option Envelope). change_of z (maybe o Idle (λ f. received p f f.to))) (message_is z.world e q h) in
    let there = sym (parties_is z.world e q h) in
    record {
      session = w.session;
      course = ap (λ (x : DiskChange). x.course) is ∙ w.course;
      change = ap (with_change z) is ∙ w.change;
      text = w.text;
      kept = λ text. record {
        coords = subst (λ (x : Parties). Fit (λ (y : CoordNode). y.log) w.session.coords x.coords) there w.coords;
        shards = subst (λ (x : Parties). Fit (λ (y : ShardNode). y.log) w.session.shards x.shards) there w.shards;
        coords_room = fit.coords_room;
        shards_room = fit.shards_room;
      };
    }

-- A SETTLE with such devices: a limit is met, or the queue is delivered and the number of deliveries is printed
pub settles_with_disks : (p : Parties) (q : List Envelope) (r : Parties) (ls : List Line) (ds : List Envelope) → Drains p q r ls ds → (fuel count : ℕ) (z : Session) → z.world.parties ≡ p → Queued z.world q → DisksFit z r
    → MeetsLimit z fuel q ds (ls ++ Settled (count + length ds) ∷ []) (settles fuel count z) ⊎ SettledAs DisksFit z q ds r (ls ++ Settled (count + length ds) ∷ []) (settles fuel count z)
settles_with_disks =
    settles_drains DisksFit (λ z r text h. record { coords = h.coords; shards = h.shards; coords_room = h.coords_room; shards_room = h.shards_room }) disks_take

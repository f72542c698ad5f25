-- A coordinator among all stops between two messages, has a cut armed, or starts again: what its event makes of the session.
use Rattle.std.proofs.Common.{◌≡◌, ℕ, ◌<◌, true, false, List, [], ◌∷◌, length, Option, None, Some, refl, sym, ◌∙◌, ap, subst, ⊎_elim}
use Rattle.std.specs.Prelude.{slice_get, slice_set}
use Rattle.rc_ids.specs.Tables.{maybe}
use Rattle.rc_ids.specs.Cluster.{Layout, is_dc}
use Rattle.rc_ids.specs.declared.names.NodeId.TheVariants.{Coord}
use Rattle.rc_ids.specs.declared.names.Party.TheVariants.{Node}
use Rattle.rc_ids.specs.declared.names.NodeId.{NodeId}
use Rattle.rc_record.specs.CoordState.{CoordDurable, new_durable}
use Rattle.rc_protocol.specs.Coordinator.{CoordAct}
use Rattle.rc_msg.specs.Outboxes.{Outbox, new_outbox}
use Rattle.rc_msg.specs.Posts.{posted_all}
use Rattle.rc_report.specs.declared.line.Line.{Line}
use Rattle.rc_report.specs.declared.line.Line.TheVariants.{Stopped, Up}
use Rattle.rc_runs.specs.declared.event.Event.{Event}
use Rattle.rc_runs.specs.declared.event.Event.TheVariants.{Crash, CrashAt, Restart}
use Rattle.rc_protocol.specs.Messages.{Posts}
use Rattle.rc_protocol.specs.Acts.{Catches}
use Rattle.rc_protocol.specs.Nodes.{CoordNode, coord_index, coord_stopped, coord_started, coord_after, coord_replayed}
use Rattle.rc_runs.specs.World.{Parties, is_up, with_coord}
use Rattle.rc_runs.specs.Devices.{Device, powered, armed, opened_once}
use Rattle.rc_runs.specs.Session.{Session, change_on, with_change}
use Rattle.rc_host.specs.AnyNode.{AnyAct, NodeDurable, OfCoord, node_act, new_volatile, coord_back}
use Rattle.rc_host.specs.Standing.{Standing, coord_standing, stopped, after_act}
use Rattle.rc_host.specs.Hosts.{Sight, Run, IsHost, IsToldBy, is_up as is_host_up}
use Rattle.rc_host.specs.declared.host.Host.{Host}
use Rattle.rc_host.specs.declared.restarts.RestartFault.{RestartFault}
use Rattle.rc_host.specs.declared.restarts.RestartFault.TheVariants.{NoMemory, DiskFailed, Refused}
use Rattle.rc_host.specs.Restarts.{HasRejoined, HasNotRejoined}
use Rattle.rc_begin.specs.declared.fault.WorldFault.{WorldFault}
use Rattle.rc_begin.specs.Places.{coord_name, AreAt}
use Rattle.rc_begin.specs.Hosts.{Runs, run_at, IsCoord, CoordsAreTold}
use Rattle.rc_world.specs.Steps.{EventActed}
use Rattle.rc_world.specs.Turns.{start_fault}
use Rattle.rc_world.specs.Refused.{StillDown, StartRefused}
use Rattle.rc_world.specs.CoordActed.{CoordsActed}
use Rattle.rc_begin.proofs.Lists.{set_same, set_at, stands, one_changes}
use Rattle.rc_world.proofs.CoordActs as acts
use Rattle.rc_world.proofs.CoordActs.{coord_here}
use Rattle.rc_world.proofs.ShardTurns.{up_is}

-- a fault in other words
pub refused_as : (z : Session) (e : Event) (Hosts : List Device → Type 0) (fault as_fault : WorldFault) → as_fault ≡ fault → StartRefused z e Hosts fault → StartRefused z e Hosts as_fault
refused_as z e Hosts fault as_fault same why = subst (StartRefused z e Hosts) (sym same) why

module _ {C J D : Type 0} (s : Sight C J D) (r : Runs) (hosts : List (Host C J D)) (z : Session) (are : AreAt (IsCoord s r) hosts z.world.parties.coords z.coords) (layout : z.world.parties.layout ≡ r.cluster) (d : ℕ)
    (there : is_dc r.cluster d ≡ true) (within : coord_index d < length hosts) (h new : Host C J D) (at_host : slice_get hosts (coord_index d) ≡ Some h) where
  abbrev p : Parties
  p = z.world.parties

  abbrev place : ℕ
  place = coord_index d

  abbrev pub run : Run
  run = run_at r (coord_name place)

  abbrev gives : List (List ℕ) → NodeDurable → Type 0
  gives = coord_back (coord_name place) r.cluster

  pub node_there : (x : CoordNode) × (slice_get p.coords place ≡ Some x)
  node_there = stands p.coords place (subst (λ (n : ℕ). place < n) (sym are.as_nodes) within)

  pub device_there : (v : Device) × (slice_get z.coords place ≡ Some v)
  device_there = stands z.coords place (subst (λ (n : ℕ). place < n) (sym are.as_devices) within)

  abbrev pub x : CoordNode
  x = node_there.0

  abbrev pub v : Device
  v = device_there.0

  pub host : IsCoord s r place h x v
  host = are.each place h x v at_host node_there.1 device_there.1

  there_p : is_dc p.layout d ≡ true
  there_p = ap (λ (c : Layout). is_dc c d) layout ∙ there

  -- its host is up where it is
  pub up_here : is_host_up h ≡ is_up p (Coord d)
  up_here =
      sym (up_is s gives run h (coord_standing x) v host.host)
      ∙ sym (ap (λ (o : Option CoordNode). maybe o false (λ y. y.up)) (coord_here z d x v there_p node_there.1 device_there.1))

  -- what its disk tells is told at the end still
  pub told_here : (i : ℕ) → i ≡ place → CoordsAreTold s r (slice_set hosts i new) → IsToldBy s new (r.ended (coord_name place))
  told_here i spot told = subst (λ (n : ℕ). CoordsAreTold s r (slice_set hosts n new)) spot told place new (set_at hosts place new within)

  -- it changes in an event, and its device with it
  pub changed : (e : Event) (y : CoordNode) (w : Device) (out : Outbox) (sends : Posts) (own : List Line) → EventActed z e (with_coord p d y None) (slice_set z.coords place w) z.shards sends own → y.log ≡ x.log
      → IsCoord s r place new y w → out ≡ posted_all (new_outbox (Node (Coord d))) sends → CoordsActed s r z e d (Coord d) (slice_set hosts place new) out own None
  changed e y w out sends own acted log is posts = record {
    before = x;
    after = y;
    left = None;
    devices = slice_set z.coords place w;
    sends = sends;
    stood = node_there.1;
    log = log;
    acted = acted;
    hosts = one_changes (IsCoord s r) hosts p.coords z.coords are place new y w within is;
    posted = posts;
    votes = refl;
  }

  -- at the place where it stands
  at_place : (e : Event) (out : Outbox) (own : List Line) (i : ℕ) → i ≡ place → CoordsActed s r z e d (Coord d) (slice_set hosts place new) out own None → CoordsActed s r z e d (Coord d) (slice_set hosts i new) out own None
  at_place e out own i spot did = subst (λ (k : ℕ). CoordsActed s r z e d (Coord d) (slice_set hosts k new) out own None) (sym spot) did

  -- IT STOPS
  pub stops : (i : ℕ) → i ≡ place → IsHost s gives run new (stopped (coord_standing x)) (powered v)
      → CoordsActed s r z (Crash (Coord d)) d (Coord d) (slice_set hosts i new) (new_outbox (Node (Coord d))) (Stopped (Coord d) ∷ []) None
  stops i spot is =
      at_place (Crash (Coord d)) (new_outbox (Node (Coord d))) (Stopped (Coord d) ∷ []) i spot
      (changed (Crash (Coord d)) (coord_stopped x None) (powered v) (new_outbox (Node (Coord d))) [] (Stopped (Coord d) ∷ []) (acts.coord_stops z d x v there_p node_there.1 device_there.1) refl
      (record { host = is; replay = host.replay }) refl)

  -- A CUT IS ARMED
  as_it_was : with_coord p d x None ≡ p
  as_it_was = ap (λ (xs : List CoordNode). let q : Parties = record p { coords = xs } in q) (set_same p.coords place x node_there.1)

  pub arms : (i k pick : ℕ) → i ≡ place → IsHost s gives run new (coord_standing x) (armed v k pick)
      → CoordsActed s r z (CrashAt (Coord d) k pick) d (Coord d) (slice_set hosts i new) (new_outbox (Node (Coord d))) [] None
  arms i k pick spot is =
      at_place (CrashAt (Coord d) k pick) (new_outbox (Node (Coord d))) [] i spot
      (changed (CrashAt (Coord d) k pick) x (armed v k pick) (new_outbox (Node (Coord d))) [] []
      (subst (λ (q : Parties). EventActed z (CrashAt (Coord d) k pick) q (slice_set z.coords place (armed v k pick)) z.shards [] []) (sym as_it_was) (acts.coord_arms z d x v there_p node_there.1 device_there.1 k pick)) refl
      (record { host = is; replay = host.replay }) refl)

  -- IT STARTS AGAIN
  -- what it does then, by its name, the cluster and what its log gives back
  abbrev starts_as : NodeId → Layout → CoordDurable → AnyAct
  starts_as n c u = node_act c n (OfCoord u) (new_volatile (OfCoord u)) Catches

  abbrev standing_as : NodeId → Layout → CoordDurable → Standing
  standing_as n c u = after_act (record { up = true; log = x.log; durable = OfCoord u; volatile = new_volatile (OfCoord u) }) (starts_as n c u)

  abbrev starts : CoordAct
  starts = acts.starting z d x v there_p node_there.1 device_there.1

  abbrev again : CoordNode
  again = coord_after (coord_started x.log) starts

  same_as : {X : Type 0} (f : NodeId → Layout → CoordDurable → X) → coord_name place ≡ (Coord d) → f (coord_name place) r.cluster x.durable ≡ f (Coord d) p.layout (coord_replayed new_durable x.log)
  same_as f named = ap (λ (n : NodeId). f n r.cluster x.durable) named ∙ ap (λ (c : Layout). f (Coord d) c x.durable) (sym layout) ∙ ap (λ (u : CoordDurable). f (Coord d) p.layout u) host.replay

  same_standing : coord_name place ≡ (Coord d) → standing_as (coord_name place) r.cluster x.durable ≡ coord_standing again
  same_standing named = same_as standing_as named

  posts : (before out : Outbox) → out ≡ posted_all before (starts_as (coord_name place) r.cluster x.durable).sends → before ≡ new_outbox (Node (Coord d)) → coord_name place ≡ (Coord d) → out ≡ posted_all (new_outbox (Node (Coord d))) starts.sends
  posts before out sent empty named = sent ∙ ap (λ (o : Outbox). posted_all o (starts_as (coord_name place) r.cluster x.durable).sends) empty ∙ ap (λ (ms : Posts). posted_all (new_outbox (Node (Coord d))) ms) (same_as (λ n c u. (starts_as n c u).sends) named)

  pub restarts : (i : ℕ) (before out : Outbox) → i ≡ place → before ≡ new_outbox (Node (Coord d)) → coord_name place ≡ (Coord d) → HasRejoined s gives run new before out (coord_standing x) v
      → CoordsActed s r z (Restart (Coord d)) d (Coord d) (slice_set hosts i new) out (Up (Coord d) ∷ []) None
  restarts i before out spot empty named its =
      at_place (Restart (Coord d)) out (Up (Coord d) ∷ []) i spot
      (changed (Restart (Coord d)) again its.device out starts.sends (Up (Coord d) ∷ []) (acts.coord_restarts z d x v there_p node_there.1 device_there.1 its.device its.opens) refl
      (record { host = subst (λ (y : Standing). IsHost s gives run new y its.device) (same_standing named) its.asked.host; replay = refl }) (posts before out its.asked.sends empty named))

  -- IT DOES NOT START
  abbrev Hosts : ℕ → List Device → Type 0
  Hosts i devices = AreAt (IsCoord s r) (slice_set hosts i new) p.coords devices

  on_disk : (i : ℕ) (w : Device) → i ≡ place → IsHost s gives run new (coord_standing x) w → StillDown (Hosts i)
  on_disk i w spot is = record {
    devices = slice_set z.coords place w;
    hosts = subst (λ (k : ℕ). AreAt (IsCoord s r) (slice_set hosts k new) p.coords (slice_set z.coords place w)) (sym spot)
        (subst (λ (xs : List CoordNode). AreAt (IsCoord s r) (slice_set hosts place new) xs (slice_set z.coords place w)) (set_same p.coords place x node_there.1)
        (one_changes (IsCoord s r) hosts p.coords z.coords are place new x w within (record { host = is; replay = host.replay })));
  }

  pub stays_down : (fault : RestartFault) (i : ℕ) → i ≡ place → HasNotRejoined s gives run fault new (coord_standing x) v → StartRefused z (Restart (Coord d)) (Hosts i) (start_fault fault)
  stays_down NoMemory i spot why = ⊎_elim (λ still. on_disk i still.device spot still.host) (λ was. on_disk i (powered was.device) spot was.host) why
  stays_down DiskFailed i spot why = ap (λ (o : Option Device). with_change z (change_on (Coord d) o)) (ap opened_once (acts.coord_disk z d x v there_p node_there.1 device_there.1) ∙ why.0)
  stays_down (Refused fault) i spot why = absurd why

-- A shard server among all stops between two messages, has a cut armed, or starts again: what its event makes of the session.
use Rattle.std.proofs.Common.{◌≡◌, ℕ, ◌<◌, true, false, List, [], ◌∷◌, length, Option, None, Some, refl, sym, ◌∙◌, ap, subst, ⊎_elim}
use Rattle.std.specs.Prelude.{slice_get, slice_set}
use Rattle.rc_ids.specs.Tables.{maybe}
use Rattle.rc_ids.specs.Cluster.{Layout}
use Rattle.rc_ids.specs.declared.names.NodeId.TheVariants.{Shard as ShardServer}
use Rattle.rc_ids.specs.declared.names.Party.TheVariants.{Node}
use Rattle.rc_ids.specs.declared.names.NodeId.{NodeId}
use Rattle.rc_record.specs.ShardState.{new_durable}
use Rattle.rc_protocol.specs.Shard.{ShardAct, ShardDurable}
use Rattle.rc_msg.specs.Outboxes.{Outbox, new_outbox}
use Rattle.rc_msg.specs.Posts.{posted_all}
use Rattle.rc_report.specs.declared.line.Line.{Line}
use Rattle.rc_report.specs.declared.line.Line.TheVariants.{Stopped, Up}
use Rattle.rc_runs.specs.declared.event.Event.{Event}
use Rattle.rc_runs.specs.declared.event.Event.TheVariants.{Crash, CrashAt, Restart}
use Rattle.rc_protocol.specs.Messages.{Posts}
use Rattle.rc_protocol.specs.Acts.{Catches}
use Rattle.rc_protocol.specs.Nodes.{ShardNode, shard_index, shard_stopped, shard_started, shard_after, shard_replayed}
use Rattle.rc_runs.specs.World.{Parties, is_up, is_shard_of}
use Rattle.rc_runs.specs.Devices.{Device, powered, armed, opened_once}
use Rattle.rc_runs.specs.Session.{Session, change_on, with_change}
use Rattle.rc_host.specs.AnyNode.{AnyAct, NodeDurable, OfShard, node_act, new_volatile, shard_back}
use Rattle.rc_host.specs.Standing.{Standing, shard_standing, stopped, after_act}
use Rattle.rc_host.specs.Hosts.{Sight, Run, IsHost, IsToldBy, is_up as is_host_up}
use Rattle.rc_host.specs.declared.host.Host.{Host}
use Rattle.rc_host.specs.declared.restarts.RestartFault.{RestartFault}
use Rattle.rc_host.specs.declared.restarts.RestartFault.TheVariants.{NoMemory, DiskFailed, Refused}
use Rattle.rc_host.specs.Restarts.{HasRejoined, HasNotRejoined}
use Rattle.rc_begin.specs.Places.{shard_name, AreAt}
use Rattle.rc_begin.specs.Hosts.{Runs, run_at, IsShard, ShardsAreTold}
use Rattle.rc_world.specs.Steps.{EventActed}
use Rattle.rc_world.specs.Turns.{start_fault}
use Rattle.rc_world.specs.Refused.{StillDown, StartRefused}
use Rattle.rc_world.specs.Acted.{ShardsActed, with_shards}
use Rattle.rc_begin.proofs.Lists.{set_same, set_at, stands, one_changes}
use Rattle.rc_world.proofs.ShardActs as acts
use Rattle.rc_world.proofs.ShardActs.{shard_here}
use Rattle.rc_world.proofs.ShardTurns.{up_is}

module _ {S J D : Type 0} (s : Sight S J D) (r : Runs) (hosts : List (Host S J D)) (z : Session) (are : AreAt (IsShard s r) hosts z.world.parties.shards z.shards) (layout : z.world.parties.layout ≡ r.cluster) (d sh : ℕ)
    (there : is_shard_of r.cluster d sh ≡ true) (within : shard_index r.cluster d sh < length hosts) (h new : Host S J D) (at_host : slice_get hosts (shard_index r.cluster d sh) ≡ Some h) where
  abbrev p : Parties
  p = z.world.parties

  abbrev place : ℕ
  place = shard_index r.cluster d sh

  abbrev pub run : Run
  run = run_at r (shard_name r.cluster place)

  abbrev gives : List (List ℕ) → NodeDurable → Type 0
  gives = shard_back (shard_name r.cluster place) r.cluster

  pub node_there : (x : ShardNode) × (slice_get p.shards place ≡ Some x)
  node_there = stands p.shards place (subst (λ (n : ℕ). place < n) (sym are.as_nodes) within)

  pub device_there : (v : Device) × (slice_get z.shards place ≡ Some v)
  device_there = stands z.shards place (subst (λ (n : ℕ). place < n) (sym are.as_devices) within)

  abbrev pub x : ShardNode
  x = node_there.0

  abbrev pub v : Device
  v = device_there.0

  pub host : IsShard s r place h x v
  host = are.each place h x v at_host node_there.1 device_there.1

  there_p : is_shard_of p.layout d sh ≡ true
  there_p = ap (λ (c : Layout). is_shard_of c d sh) layout ∙ there

  spot_p : shard_index p.layout d sh ≡ place
  spot_p = ap (λ (c : Layout). shard_index c d sh) layout

  node_p : slice_get p.shards (shard_index p.layout d sh) ≡ Some x
  node_p = ap (slice_get p.shards) spot_p ∙ node_there.1

  device_p : slice_get z.shards (shard_index p.layout d sh) ≡ Some v
  device_p = ap (slice_get z.shards) spot_p ∙ device_there.1

  -- its host is up where it is
  pub up_here : is_host_up h ≡ is_up p (ShardServer d sh)
  up_here =
      sym (up_is s gives run h (shard_standing x) v host.host)
      ∙ sym (ap (λ (o : Option ShardNode). maybe o false (λ y. y.up)) (shard_here z d sh x v there_p node_p device_p))

  -- what its disk tells is told at the end still
  pub told_here : (i : ℕ) → i ≡ place → ShardsAreTold s r (slice_set hosts i new) → IsToldBy s new (r.ended (shard_name r.cluster place))
  told_here i spot told = subst (λ (n : ℕ). ShardsAreTold s r (slice_set hosts n new)) spot told place new (set_at hosts place new within)

  -- it changes in an event, and its device with it
  pub changed : (e : Event) (y : ShardNode) (w : Device) (out : Outbox) (sends : Posts) (own : List Line)
      → EventActed z e (with_shards p (slice_set p.shards (shard_index p.layout d sh) y)) z.coords (slice_set z.shards (shard_index p.layout d sh) w) sends own
      → IsShard s r place new y w → out ≡ posted_all (new_outbox (Node (ShardServer d sh))) sends → ShardsActed s r z e (ShardServer d sh) (slice_set hosts place new) out own
  changed e y w out sends own acted is posts = record {
    shards = slice_set p.shards place y;
    devices = slice_set z.shards place w;
    sends = sends;
    acted = subst (λ (i : ℕ). EventActed z e (with_shards p (slice_set p.shards i y)) z.coords (slice_set z.shards i w) sends own) spot_p acted;
    hosts = one_changes (IsShard s r) hosts p.shards z.shards are place new y w within is;
    posted = posts;
  }

  -- at the place where it stands
  at_place : (e : Event) (out : Outbox) (own : List Line) (i : ℕ) → i ≡ place → ShardsActed s r z e (ShardServer d sh) (slice_set hosts place new) out own → ShardsActed s r z e (ShardServer d sh) (slice_set hosts i new) out own
  at_place e out own i spot did = subst (λ (k : ℕ). ShardsActed s r z e (ShardServer d sh) (slice_set hosts k new) out own) (sym spot) did

  -- IT STOPS
  pub stops : (i : ℕ) → i ≡ place → IsHost s gives run new (stopped (shard_standing x)) (powered v)
      → ShardsActed s r z (Crash (ShardServer d sh)) (ShardServer d sh) (slice_set hosts i new) (new_outbox (Node (ShardServer d sh))) (Stopped (ShardServer d sh) ∷ [])
  stops i spot is =
      at_place (Crash (ShardServer d sh)) (new_outbox (Node (ShardServer d sh))) (Stopped (ShardServer d sh) ∷ []) i spot
      (changed (Crash (ShardServer d sh)) (shard_stopped x None) (powered v) (new_outbox (Node (ShardServer d sh))) [] (Stopped (ShardServer d sh) ∷ []) (acts.shard_stops z d sh x v there_p node_p device_p)
      (record { host = is; replay = host.replay }) refl)

  -- A CUT IS ARMED
  as_it_was : with_shards p (slice_set p.shards (shard_index p.layout d sh) x) ≡ p
  as_it_was = ap (λ (xs : List ShardNode). with_shards p xs) (set_same p.shards (shard_index p.layout d sh) x node_p)

  pub arms : (i k pick : ℕ) → i ≡ place → IsHost s gives run new (shard_standing x) (armed v k pick)
      → ShardsActed s r z (CrashAt (ShardServer d sh) k pick) (ShardServer d sh) (slice_set hosts i new) (new_outbox (Node (ShardServer d sh))) []
  arms i k pick spot is =
      at_place (CrashAt (ShardServer d sh) k pick) (new_outbox (Node (ShardServer d sh))) [] i spot
      (changed (CrashAt (ShardServer d sh) k pick) x (armed v k pick) (new_outbox (Node (ShardServer d sh))) [] []
      (subst (λ (q : Parties). EventActed z (CrashAt (ShardServer d sh) k pick) q z.coords (slice_set z.shards (shard_index p.layout d sh) (armed v k pick)) [] []) (sym as_it_was) (acts.shard_arms z d sh x v there_p node_p device_p k pick))
      (record { host = is; replay = host.replay }) refl)

  -- IT STARTS AGAIN
  -- what it does then, by its name, the cluster and what its log gives back
  abbrev starts_as : NodeId → Layout → ShardDurable → AnyAct
  starts_as n c u = node_act c n (OfShard u) (new_volatile (OfShard u)) Catches

  abbrev standing_as : NodeId → Layout → ShardDurable → Standing
  standing_as n c u = after_act (record { up = true; log = x.log; durable = OfShard u; volatile = new_volatile (OfShard u) }) (starts_as n c u)

  abbrev starts : ShardAct
  starts = acts.starting z d sh x v there_p node_p device_p

  abbrev again : ShardNode
  again = shard_after (shard_started x.log) starts

  same_as : {X : Type 0} (f : NodeId → Layout → ShardDurable → X) → shard_name r.cluster place ≡ (ShardServer d sh) → f (shard_name r.cluster place) r.cluster x.durable ≡ f (ShardServer d sh) p.layout (shard_replayed new_durable x.log)
  same_as f named = ap (λ (n : NodeId). f n r.cluster x.durable) named ∙ ap (λ (c : Layout). f (ShardServer d sh) c x.durable) (sym layout) ∙ ap (λ (u : ShardDurable). f (ShardServer d sh) p.layout u) host.replay

  same_standing : shard_name r.cluster place ≡ (ShardServer d sh) → standing_as (shard_name r.cluster place) r.cluster x.durable ≡ shard_standing again
  same_standing named = same_as standing_as named

  posts : (before out : Outbox) → out ≡ posted_all before (starts_as (shard_name r.cluster place) r.cluster x.durable).sends → before ≡ new_outbox (Node (ShardServer d sh)) → shard_name r.cluster place ≡ (ShardServer d sh) → out ≡ posted_all (new_outbox (Node (ShardServer d sh))) starts.sends
  posts before out sent empty named = sent ∙ ap (λ (o : Outbox). posted_all o (starts_as (shard_name r.cluster place) r.cluster x.durable).sends) empty ∙ ap (λ (ms : Posts). posted_all (new_outbox (Node (ShardServer d sh))) ms) (same_as (λ n c u. (starts_as n c u).sends) named)

  pub restarts : (i : ℕ) (before out : Outbox) → i ≡ place → before ≡ new_outbox (Node (ShardServer d sh)) → shard_name r.cluster place ≡ (ShardServer d sh) → HasRejoined s gives run new before out (shard_standing x) v
      → ShardsActed s r z (Restart (ShardServer d sh)) (ShardServer d sh) (slice_set hosts i new) out (Up (ShardServer d sh) ∷ [])
  restarts i before out spot empty named its =
      at_place (Restart (ShardServer d sh)) out (Up (ShardServer d sh) ∷ []) i spot
      (changed (Restart (ShardServer d sh)) again its.device out starts.sends (Up (ShardServer d sh) ∷ []) (acts.shard_restarts z d sh x v there_p node_p device_p its.device its.opens)
      (record { host = subst (λ (y : Standing). IsHost s gives run new y its.device) (same_standing named) its.asked.host; replay = refl }) (posts before out its.asked.sends empty named))

  -- IT DOES NOT START
  abbrev Hosts : ℕ → List Device → Type 0
  Hosts i devices = AreAt (IsShard s r) (slice_set hosts i new) p.shards devices

  on_disk : (i : ℕ) (w : Device) → i ≡ place → IsHost s gives run new (shard_standing x) w → StillDown (Hosts i)
  on_disk i w spot is = record {
    devices = slice_set z.shards place w;
    hosts = subst (λ (k : ℕ). AreAt (IsShard s r) (slice_set hosts k new) p.shards (slice_set z.shards place w)) (sym spot)
        (subst (λ (xs : List ShardNode). AreAt (IsShard s r) (slice_set hosts place new) xs (slice_set z.shards place w)) (set_same p.shards place x node_there.1)
        (one_changes (IsShard s r) hosts p.shards z.shards are place new x w within (record { host = is; replay = host.replay })));
  }

  pub stays_down : (fault : RestartFault) (i : ℕ) → i ≡ place → HasNotRejoined s gives run fault new (shard_standing x) v → StartRefused z (Restart (ShardServer d sh)) (Hosts i) (start_fault fault)
  stays_down NoMemory i spot why = ⊎_elim (λ still. on_disk i still.device spot still.host) (λ was. on_disk i (powered was.device) spot was.host) why
  stays_down DiskFailed i spot why = ap (λ (o : Option Device). with_change z (change_on (ShardServer d sh) o)) (ap opened_once (acts.shard_disk z d sh x v there_p node_p device_p) ∙ why.0)
  stays_down (Refused fault) i spot why = absurd why

-- A shard server among all takes its turn: what its event makes of the session.
use Rattle.std.proofs.Common.{◌≡◌, ℕ, ◌<◌, Bool, true, false, List, [], length, Option, None, Some, IfSome, IsTrue, refl, sym, ◌∙◌, ap, subst}
use Rattle.std.specs.Prelude.{slice_get, slice_set, if◌then◌else◌, ◌&&◌}
use Rattle.rc_ids.specs.Tables.{maybe}
use Rattle.rc_ids.specs.Cluster.{Layout, IsLayout, is_dc, is_shard}
use Rattle.rc_ids.specs.declared.names.NodeId.{NodeId}
use Rattle.rc_ids.specs.declared.names.NodeId.TheVariants.{Shard as ShardServer}
use Rattle.rc_ids.specs.declared.names.Party.TheVariants.{Node}
use Rattle.rc_record.specs.declared.record.Record.{Record}
use Rattle.rc_record.specs.Spelling.{HasRecord}
use Rattle.rc_msg.specs.Outboxes.{Outbox, new_outbox}
use Rattle.rc_msg.specs.Posts.{posted_all}
use Rattle.rc_report.specs.declared.line.Line.{Line}
use Rattle.rc_runs.specs.declared.event.Event.{Event}
use Rattle.rc_protocol.specs.Shard.{ShardAct, ShardDurable, ShardVolatile}
use Rattle.rc_protocol.specs.Acts.{NodeCause, shard_act}
use Rattle.rc_protocol.specs.Nodes.{ShardNode, shard_index}
use Rattle.rc_runs.specs.World.{Parties, Idle, ByShard, deed, shard_does, by_shard, is_shard_of}
use Rattle.rc_runs.specs.Devices.{Device}
use Rattle.rc_runs.specs.Session.{Session}
use Rattle.rc_host.specs.AnyNode.{AnyAct, NodeDurable, node_act, shard_back, OfShard, OfShardNow}
use Rattle.rc_host.specs.Standing.{Standing, shard_standing}
use Rattle.rc_host.specs.Hosts.{Sight, Run, IsHost, IsToldBy, is_up, course_in}
use Rattle.rc_host.specs.declared.host.Host.{Host}
use Rattle.rc_host.specs.declared.host.Host.TheVariants.{Up, Opened, Down, Lent}
use Rattle.rc_host.specs.declared.host.Course.{Course}
use Rattle.rc_host.specs.declared.host.Course.TheVariants.{Goes, Stops}
use Rattle.rc_grammar.specs.Acts.{HasNodeCause}
use Rattle.rc_grammar.specs.Shards.{HasShardDurable, HasShardVolatile, HasShardNode, ShardSpeaks}
use Rattle.rc_grammar.specs.Worlds.{HasWorld}
use Rattle.rc_begin.specs.Places.{shard_name, AreAt}
use Rattle.rc_begin.specs.Hosts.{Runs, run_at, IsShard, ShardsAreTold}
use Rattle.rc_world.specs.Steps.{EventActed, IsDone}
use Rattle.rc_world.specs.Turns.{Turned, TurnRefused, lines_of}
use Rattle.rc_world.specs.Refused.{ActRefused, AsBefore}
use Rattle.rc_begin.specs.declared.fault.WorldFault.{WorldFault}
use Rattle.rc_begin.specs.declared.fault.WorldFault.TheVariants.{NoMemory}
use Rattle.rc_world.specs.Acted.{ShardsActed, with_shards}
use Rattle.rc_begin.proofs.Lists.{set_same, set_at, stands, all_at, all_before, one_changes}
use Rattle.rc_world.proofs.Courses.{course_for, lines_left, sends_left}
use Rattle.rc_world.proofs.ClientActs.{idles}
use Rattle.rc_world.proofs.ShardActs.{shard_left, shard_here, does}
use Rattle.rc_world.proofs.ShardFaults.{shard_refused}
use Rattle.rc_world.proofs.ShardHosts.{shard_went}

split : (a b : Bool) → (a && b) ≡ true → IsTrue a × IsTrue b
split true true is = (refl, refl)
split true false is = cc
split false b is = cc

-- a host is up where its node is
pub up_is : {N J D : Type 0} (s : Sight N J D) (gives : List (List ℕ) → NodeDurable → Type 0) (run : Run) (h : Host N J D) (x : Standing) (d : Device) → IsHost s gives run h x d → x.up ≡ is_up h
up_is s gives run (Up node) x d is = is.up
up_is s gives run (Opened journal blobs) x d is = is.down
up_is s gives run (Down disk) x d is = is.down
up_is s gives run Lent x d is = absurd is

-- the line of a stop, as the event has it
pub lines_are : (node : NodeId) (logs : Option Record) (d : Device) (course : Course) → course_for logs d ≡ course_in course → lines_of node course ≡ lines_left node logs (course_in course)
lines_are node logs d Goes is = refl
lines_are node None d (Stops kept) is = cc
lines_are node (Some r) d (Stops kept) is = refl

-- what was told before the turn, where its host could be read
pub shards_told : {S J D : Type 0} (s : Sight S J D) (r : Runs) (hosts : List (Host S J D)) (i : ℕ) (h g : Host S J D) → slice_get hosts i ≡ Some h
    → (IsToldBy s g (r.ended (shard_name r.cluster i)) → IsToldBy s h (r.ended (shard_name r.cluster i))) → ShardsAreTold s r (slice_set hosts i g) → ShardsAreTold s r hosts
shards_told s r hosts i h g at back told = all_before (λ place h. IsToldBy s h (r.ended (shard_name r.cluster place))) hosts i h g at back told

module _ {S J D : Type 0} (s : Sight S J D) (r : Runs) (hosts : List (Host S J D)) (z : Session) (are : AreAt (IsShard s r) hosts z.world.parties.shards z.shards) (layout : z.world.parties.layout ≡ r.cluster) (d sh : ℕ)
    (there : is_shard_of r.cluster d sh ≡ true) (named : shard_name r.cluster (shard_index r.cluster d sh) ≡ ShardServer d sh) (within : shard_index r.cluster d sh < length hosts) (cause : NodeCause) (e : Event) (done : IsDone z e)
    (is_deed : deed z.world.parties z.world.sent e ≡ shard_does z.world.parties d sh cause) (h new : Host S J D) (at_host : slice_get hosts (shard_index r.cluster d sh) ≡ Some h) (own : List Line) where
  abbrev p : Parties
  p = z.world.parties

  abbrev place : ℕ
  place = shard_index r.cluster d sh

  abbrev run : Run
  run = run_at r (shard_name r.cluster place)

  abbrev gives : List (List ℕ) → NodeDurable → Type 0
  gives = shard_back (shard_name r.cluster place) r.cluster

  pub node_there : (x : ShardNode) × (slice_get p.shards place ≡ Some x)
  node_there = stands p.shards place (subst (λ (n : ℕ). place < n) (sym are.as_nodes) within)

  pub device_there : (v : Device) × (slice_get z.shards place ≡ Some v)
  device_there = stands z.shards place (subst (λ (n : ℕ). place < n) (sym are.as_devices) within)

  abbrev pub x : ShardNode
  x = node_there.0

  abbrev pub v : Device
  v = device_there.0

  pub host : IsShard s r place h x v
  host = are.each place h x v at_host node_there.1 device_there.1

  pub act_is : node_act r.cluster (shard_name r.cluster place) (OfShard x.durable) (OfShardNow x.volatile) cause ≡ node_act r.cluster (ShardServer d sh) (OfShard x.durable) (OfShardNow x.volatile) cause
  act_is = ap (λ (n : NodeId). node_act r.cluster n (OfShard x.durable) (OfShardNow x.volatile) cause) named

  there_p : is_shard_of p.layout d sh ≡ true
  there_p = ap (λ (c : Layout). is_shard_of c d sh) layout ∙ there

  node_p : slice_get p.shards (shard_index p.layout d sh) ≡ Some x
  node_p = ap (λ (c : Layout). slice_get p.shards (shard_index c d sh)) layout ∙ node_there.1

  device_p : slice_get z.shards (shard_index p.layout d sh) ≡ Some v
  device_p = ap (λ (c : Layout). slice_get z.shards (shard_index c d sh)) layout ∙ device_there.1

  -- a shard server that is up
  up_acts : (out : Outbox) (course : Course) → is_up h ≡ true → Turned s gives run new out course own (shard_standing x) v (node_act r.cluster (shard_name r.cluster place) (OfShard x.durable) (OfShardNow x.volatile) cause) → ShardsActed s r z e (ShardServer d sh) (slice_set hosts place new) out own
  up_acts out course up turned =
      let went = shard_went s r hosts z are layout d sh there named h x v within at_host node_there.1 device_there.1 cause e course new (new_outbox (Node (shard_name r.cluster place))) out
      (up_is s gives run h (shard_standing x) v host.host ∙ up) done is_deed turned.went in
      let act : ShardAct = shard_act r.cluster d sh x.durable x.volatile cause in
      let lines : own ≡ lines_left (ShardServer d sh) act.logs (course_in course) =
      turned.prints ∙ ap (λ (n : NodeId). lines_of n course) named ∙ lines_are (ShardServer d sh) act.logs v course went.course_is in
      let spot : shard_index p.layout d sh ≡ place = ap (λ (c : Layout). shard_index c d sh) layout in
      record {
        shards = slice_set p.shards place (shard_left x act (course_in course));
        devices = slice_set z.shards place went.device;
        sends = sends_left act.logs act.sends (course_in course);
        acted = subst (λ (ls : List Line). EventActed z e (with_shards p (slice_set p.shards place (shard_left x act (course_in course)))) z.coords (slice_set z.shards place went.device) (sends_left act.logs act.sends (course_in course)) ls) (sym lines)
            (subst (λ (i : ℕ). EventActed z e (with_shards p (slice_set p.shards i (shard_left x act (course_in course)))) z.coords (slice_set z.shards place went.device) (sends_left act.logs act.sends (course_in course)) (lines_left (ShardServer d sh) act.logs (course_in course))) spot went.acted);
        hosts = went.shards;
        posted = went.posts ∙ ap (λ (n : NodeId). posted_all (new_outbox (Node n)) (sends_left act.logs act.sends (course_in course))) named;
      }

  -- one that is down does nothing
  down_rests : (out : Outbox) → is_up h ≡ false → new ≡ h → own ≡ [] → out ≡ new_outbox (Node (ShardServer d sh)) → ShardsActed s r z e (ShardServer d sh) (slice_set hosts place new) out own
  down_rests out down same none empty =
      let rests : x.up ≡ false = up_is s gives run h (shard_standing x) v host.host ∙ down in
      let nobody : deed p z.world.sent e ≡ Idle =
      is_deed ∙ ap (λ (o : Option ShardNode). maybe o Idle (λ y. if y.up then by_shard p.layout d sh y cause else Idle)) (shard_here z d sh x v there_p node_p device_p)
      ∙ ap (λ (b : Bool). if b then by_shard p.layout d sh x cause else Idle) rests in
      record {
        shards = p.shards;
        devices = z.shards;
        sends = [];
        acted = subst (λ (ls : List Line). EventActed z e (with_shards p p.shards) z.coords z.shards [] ls) (sym none) (idles z e done nobody);
        hosts = subst (λ (hs : List (Host S J D)). AreAt (IsShard s r) hs p.shards z.shards) (sym (ap (slice_set hosts place) same ∙ set_same hosts place h at_host)) are;
        posted = empty;
      }

  -- what it logs has a spelling
  pub logs_spelled : ((c : Layout) → IsLayout c → (e n : ℕ) → IsTrue (is_dc c e) → IsTrue (is_shard c n) → (s : ShardDurable) → HasShardDurable s → (u : ShardVolatile) → HasShardVolatile u → (k : NodeCause) → HasNodeCause k → ShardSpeaks s (shard_act c e n s u k))
      → HasWorld z.world → HasNodeCause cause → IfSome (node_act r.cluster (shard_name r.cluster place) (OfShard x.durable) (OfShardNow x.volatile) cause).logs HasRecord
  logs_spelled speak grammar has =
      let node : HasShardNode x = all_at HasShardNode p.shards place x grammar.parties.shards node_there.1 in
      let parts = both there in
      let said = speak r.cluster (subst IsLayout layout grammar.parties.layout) d sh parts.0 parts.1 x.durable node.durable x.volatile node.volatile cause has in
      subst (λ (a : AnyAct). IfSome a.logs HasRecord) (sym act_is) said.logs
    where
      both : is_shard_of r.cluster d sh ≡ true → IsTrue (is_dc r.cluster d) × IsTrue (is_shard r.cluster sh)
      both is = split (is_dc r.cluster d) (is_shard r.cluster sh) is

  -- whether it is up or down
  by_up : (out : Outbox) (course : Course) (b : Bool) → is_up h ≡ b → (is_up h ≡ true → Turned s gives run new out course own (shard_standing x) v (node_act r.cluster (shard_name r.cluster place) (OfShard x.durable) (OfShardNow x.volatile) cause))
      → (is_up h ≡ false → (new ≡ h) × (own ≡ []) × (out ≡ new_outbox (Node (ShardServer d sh)))) → ShardsActed s r z e (ShardServer d sh) (slice_set hosts place new) out own
  by_up out course true is turns rests = up_acts out course is (turns is)
  by_up out course false is turns rests = let k = rests is in down_rests out is k.0 k.1 k.2

  pub told_here : (i : ℕ) → i ≡ place → ShardsAreTold s r (slice_set hosts i new) → IsToldBy s new (r.ended (shard_name r.cluster place))
  told_here i spot told = subst (λ (n : ℕ). ShardsAreTold s r (slice_set hosts n new)) spot told place new (set_at hosts place new within)

  pub acts_named : (out : Outbox) (course : Course) (i : ℕ) (n : NodeId) → i ≡ place → n ≡ ShardServer d sh
      → (is_up h ≡ true → Turned s gives run new out course own (shard_standing x) v (node_act r.cluster (shard_name r.cluster place) (OfShard x.durable) (OfShardNow x.volatile) cause))
      → (is_up h ≡ false → (new ≡ h) × (own ≡ []) × (out ≡ new_outbox (Node n))) → ShardsActed s r z e n (slice_set hosts i new) out own
  acts_named out course i n spot node turns rests =
      subst (λ (k : ℕ). ShardsActed s r z e n (slice_set hosts k new) out own) (sym spot)
      (subst (λ (m : NodeId). ShardsActed s r z e m (slice_set hosts place new) out own) (sym node)
      (by_up out course (is_up h) refl turns (λ down. let k = rests down in (k.0, k.1, subst (λ (m : NodeId). out ≡ new_outbox (Node m)) node k.2))))

  -- WHY IT DOES NOT ACT
  abbrev Before : List (Host S J D) → Type 0
  Before now = AreAt (IsShard s r) now p.shards z.shards

  as_before : IsHost s gives run new (shard_standing x) v → Before (slice_set hosts place new)
  as_before is =
      let changed : AreAt (IsShard s r) (slice_set hosts place new) (slice_set p.shards place x) (slice_set z.shards place v) = one_changes (IsShard s r) hosts p.shards z.shards are place new x v within (record { host = is; replay = host.replay }) in
      subst (λ (xs : List ShardNode). AreAt (IsShard s r) (slice_set hosts place new) xs z.shards) (set_same p.shards place x node_there.1)
      (subst (λ (ds : List Device). AreAt (IsShard s r) (slice_set hosts place new) (slice_set p.shards place x) ds) (set_same z.shards place v device_there.1) changed)

  up_refuses : (fault : WorldFault) → is_up h ≡ true → TurnRefused s gives run fault new (shard_standing x) v (node_act r.cluster (shard_name r.cluster place) (OfShard x.durable) (OfShardNow x.volatile) cause)
      → ActRefused z e (Before (slice_set hosts place new)) fault
  up_refuses fault up why =
      let its = subst (λ (n : NodeId). TurnRefused s gives run fault new (shard_standing x) v (node_act r.cluster n (OfShard x.durable) (OfShardNow x.volatile) cause)) named why in
      let acts : deed p z.world.sent e ≡ ByShard d sh x (shard_act r.cluster d sh x.durable x.volatile cause) =
      is_deed ∙ does z d sh x v there_p node_p device_p cause (up_is s gives run h (shard_standing x) v host.host ∙ up) ∙ ap (λ (c : Layout). by_shard c d sh x cause) layout in
      shard_refused z d sh x v there_p node_p device_p e done (shard_act r.cluster d sh x.durable x.volatile cause) acts s gives run new (shard_standing x) (Before (slice_set hosts place new)) as_before fault its

  down_refuses : (fault : WorldFault) → (new ≡ h) × (fault ≡ NoMemory) → ActRefused z e (Before (slice_set hosts place new)) fault
  down_refuses fault rests =
      subst (ActRefused z e (Before (slice_set hosts place new))) (sym rests.1)
      (AsBefore (subst Before (sym (ap (slice_set hosts place) rests.0 ∙ set_same hosts place h at_host)) are))

  refuses : (fault : WorldFault) (b : Bool) → is_up h ≡ b → (is_up h ≡ true → TurnRefused s gives run fault new (shard_standing x) v (node_act r.cluster (shard_name r.cluster place) (OfShard x.durable) (OfShardNow x.volatile) cause))
      → (is_up h ≡ false → (new ≡ h) × (fault ≡ NoMemory)) → ActRefused z e (Before (slice_set hosts place new)) fault
  refuses fault true is turns rests = up_refuses fault is (turns is)
  refuses fault false is turns rests = down_refuses fault (rests is)

  pub refuses_at : (fault : WorldFault) (i : ℕ) → i ≡ place → (is_up h ≡ true → TurnRefused s gives run fault new (shard_standing x) v (node_act r.cluster (shard_name r.cluster place) (OfShard x.durable) (OfShardNow x.volatile) cause))
      → (is_up h ≡ false → (new ≡ h) × (fault ≡ NoMemory)) → ActRefused z e (AreAt (IsShard s r) (slice_set hosts i new) z.world.parties.shards z.shards) fault
  refuses_at fault i spot turns rests = subst (λ (k : ℕ). ActRefused z e (Before (slice_set hosts k new)) fault) (sym spot) (refuses fault (is_up h) refl turns rests)

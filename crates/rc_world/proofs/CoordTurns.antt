-- A coordinator among all takes its turn: what its event makes of the session, and why it does not.
use Rattle.std.proofs.Common.{◌≡◌, ℕ, ◌<◌, Bool, true, false, List, [], length, Option, None, Some, IfSome, Result, Ok, Err, IfOk, IfErr, IsTrue, refl, sym, ◌∙◌, ap, subst}
use Rattle.std.specs.Prelude.{slice_get, slice_set, if◌then◌else◌}
use Rattle.rc_ids.specs.Tables.{maybe}
use Rattle.rc_ids.specs.Cluster.{Layout, IsLayout, is_dc}
use Rattle.rc_ids.specs.declared.names.NodeId.{NodeId}
use Rattle.rc_ids.specs.declared.names.NodeId.TheVariants.{Coord}
use Rattle.rc_ids.specs.declared.names.Party.TheVariants.{Node}
use Rattle.rc_record.specs.declared.record.Record.{Record}
use Rattle.rc_record.specs.CoordState.{CoordDurable}
use Rattle.rc_record.specs.Spelling.{HasRecord}
use Rattle.rc_msg.specs.Outboxes.{Outbox, new_outbox}
use Rattle.rc_msg.specs.Posts.{posted_all}
use Rattle.rc_report.specs.declared.line.Line.{Line}
use Rattle.rc_runs.specs.declared.event.Event.{Event}
use Rattle.rc_protocol.specs.Coordinator.{CoordAct, CoordVolatile}
use Rattle.rc_protocol.specs.Acts.{NodeCause, coord_act}
use Rattle.rc_protocol.specs.Nodes.{CoordNode, coord_index, logged}
use Rattle.rc_runs.specs.World.{Parties, Idle, ByCoord, Course as RunCourse, Goes as GoesOn, Stops as StopsInside, deed, coord_does, by_coord, with_coord}
use Rattle.rc_runs.specs.Devices.{Device}
use Rattle.rc_runs.specs.Session.{Session}
use Rattle.rc_host.specs.AnyNode.{AnyAct, NodeDurable, node_act, coord_back, OfCoord, OfCoordNow}
use Rattle.rc_host.specs.Standing.{coord_standing}
use Rattle.rc_host.specs.Hosts.{Sight, Run, IsHost, IsToldBy, is_up, course_in}
use Rattle.rc_host.specs.declared.host.Host.{Host}
use Rattle.rc_host.specs.declared.host.Course.{Course}
use Rattle.rc_host.specs.declared.host.Course.TheVariants.{Goes, Stops}
use Rattle.rc_grammar.specs.Acts.{HasNodeCause}
use Rattle.rc_grammar.specs.Coordinators.{HasCoordDurable, HasCoordVolatile, HasCoordNode, CoordSpeaks}
use Rattle.rc_grammar.specs.Worlds.{HasWorld}
use Rattle.rc_begin.specs.declared.fault.WorldFault.{WorldFault}
use Rattle.rc_begin.specs.declared.fault.WorldFault.TheVariants.{NoMemory}
use Rattle.rc_world.specs.declared.votes.Vote.{Vote}
use Rattle.rc_begin.specs.Places.{coord_name, AreAt}
use Rattle.rc_begin.specs.Hosts.{Runs, run_at, IsCoord, CoordsAreTold}
use Rattle.rc_world.specs.Steps.{EventActed, IsDone}
use Rattle.rc_world.specs.Turns.{TurnRefused, lines_of}
use Rattle.rc_world.specs.Votes.{kept_by, vote_in}
use Rattle.rc_world.specs.CoordActed.{Voted, CoordsActed}
use Rattle.rc_world.specs.Refused.{ActRefused, AsBefore}
use Rattle.rc_begin.proofs.Lists.{set_same, set_at, stands, all_at, all_before, one_changes}
use Rattle.rc_world.proofs.Courses.{record_left, lines_left, sends_left}
use Rattle.rc_world.proofs.ClientActs.{idles}
use Rattle.rc_world.proofs.CoordActs.{coord_left, coord_here, does}
use Rattle.rc_world.proofs.CoordHosts.{coord_went}
use Rattle.rc_world.proofs.CoordFaults.{coord_refused}
use Rattle.rc_world.proofs.SpentRows.{spent_logs}
use Rattle.rc_world.proofs.ShardTurns.{up_is, lines_are}

-- the log has what the act left
abbrev act_with : Option Record → CoordAct → CoordAct
act_with logs act = record { logs = logs; after = act.after; sends = act.sends; spent = act.spent }

log_left : (x : CoordNode) (logs : Option Record) (act : CoordAct) (k : RunCourse) → (coord_left x (act_with logs act) k).log ≡ logged x.log (record_left logs k)
log_left x logs act GoesOn = refl
log_left x None act (StopsInside kept) = refl
log_left x (Some r) act (StopsInside kept) = refl

kept_is : (logs : Option Record) (course : Course) → kept_by logs course ≡ record_left logs (course_in course)
kept_is logs Goes = refl
kept_is None (Stops true) = refl
kept_is None (Stops false) = refl
kept_is (Some r) (Stops true) = refl
kept_is (Some r) (Stops false) = refl

-- what was told before the turn, where its host could be read
pub coords_told : {C J D : Type 0} (s : Sight C J D) (r : Runs) (hosts : List (Host C J D)) (i : ℕ) (h g : Host C J D) → slice_get hosts i ≡ Some h
    → (IsToldBy s g (r.ended (coord_name i)) → IsToldBy s h (r.ended (coord_name i))) → CoordsAreTold s r (slice_set hosts i g) → CoordsAreTold s r hosts
coords_told s r hosts i h g at back told = all_before (λ place h. IsToldBy s h (r.ended (coord_name place))) hosts i h g at back told

module _ {C J D : Type 0} (s : Sight C J D) (r : Runs) (hosts : List (Host C J D)) (z : Session) (are : AreAt (IsCoord s r) hosts z.world.parties.coords z.coords) (layout : z.world.parties.layout ≡ r.cluster) (d : ℕ)
    (there : is_dc r.cluster d ≡ true) (named : coord_name (coord_index d) ≡ Coord d) (within : coord_index d < length hosts) (cause : NodeCause) (e : Event) (done : IsDone z e)
    (is_deed : deed z.world.parties z.world.sent e ≡ coord_does z.world.parties d cause) (h new : Host C J D) (at_host : slice_get hosts (coord_index d) ≡ Some h) (own : List Line) where
  abbrev p : Parties
  p = z.world.parties

  abbrev place : ℕ
  place = coord_index d

  abbrev run : Run
  run = run_at r (coord_name place)

  abbrev gives : List (List ℕ) → NodeDurable → Type 0
  gives = coord_back (coord_name place) r.cluster

  pub node_there : (x : CoordNode) × (slice_get p.coords place ≡ Some x)
  node_there = stands p.coords place (subst (λ (n : ℕ). place < n) (sym are.as_nodes) within)

  pub device_there : (v : Device) × (slice_get z.coords place ≡ Some v)
  device_there = stands z.coords place (subst (λ (n : ℕ). place < n) (sym are.as_devices) within)

  abbrev pub x : CoordNode
  x = node_there.0

  abbrev pub v : Device
  v = device_there.0

  pub host : IsCoord s r place h x v
  host = are.each place h x v at_host node_there.1 device_there.1

  pub act_is : node_act r.cluster (coord_name place) (OfCoord x.durable) (OfCoordNow x.volatile) cause ≡ node_act r.cluster (Coord d) (OfCoord x.durable) (OfCoordNow x.volatile) cause
  act_is = ap (λ (n : NodeId). node_act r.cluster n (OfCoord x.durable) (OfCoordNow x.volatile) cause) named

  there_p : is_dc p.layout d ≡ true
  there_p = ap (λ (c : Layout). is_dc c d) layout ∙ there

  -- a coordinator that is up
  up_acts : (out : Outbox) (vote : Option Vote) → is_up h ≡ true → Voted s gives run new out vote own (coord_standing x) v (node_act r.cluster (coord_name place) (OfCoord x.durable) (OfCoordNow x.volatile) cause)
      → CoordsActed s r z e d (Coord d) (slice_set hosts place new) out own vote
  up_acts out vote up voted =
      let course : Course = voted.course in
      let went = coord_went s r hosts z are layout d there h x v within at_host node_there.1 device_there.1 cause e course new (new_outbox (Node (coord_name place))) out
      (up_is s gives run h (coord_standing x) v host.host ∙ up) done is_deed voted.turned.went in
      let act : CoordAct = coord_act r.cluster d x.durable x.volatile cause in
      let k : RunCourse = course_in course in
      let lines : own ≡ lines_left (Coord d) act.logs k = voted.turned.prints ∙ ap (λ (n : NodeId). lines_of n course) named ∙ lines_are (Coord d) act.logs v course went.course_is in
      let logs : (node_act r.cluster (coord_name place) (OfCoord x.durable) (OfCoordNow x.volatile) cause).logs ≡ act.logs = ap (λ (a : AnyAct). a.logs) act_is in
      record {
        before = x;
        after = coord_left x act k;
        left = record_left act.logs k;
        devices = slice_set z.coords place went.device;
        sends = sends_left act.logs act.sends k;
        stood = node_there.1;
        log = log_left x act.logs act k;
        acted = subst (λ (ls : List Line). EventActed z e (with_coord p d (coord_left x act k) (record_left act.logs k)) (slice_set z.coords place went.device) z.shards (sends_left act.logs act.sends k) ls) (sym lines) went.acted;
        hosts = went.coords;
        posted = went.posts ∙ ap (λ (n : NodeId). posted_all (new_outbox (Node n)) (sends_left act.logs act.sends k)) named;
        votes = voted.votes ∙ ap (λ (o : Option Record). vote_in (kept_by o course)) logs ∙ ap vote_in (kept_is act.logs course);
      }

  -- one that is down does nothing
  as_it_was : with_coord p d x None ≡ p
  as_it_was = ap (λ (xs : List CoordNode). let q : Parties = record p { coords = xs } in q) (set_same p.coords place x node_there.1)

  down_rests : (out : Outbox) (vote : Option Vote) → is_up h ≡ false → new ≡ h → own ≡ [] → out ≡ new_outbox (Node (Coord d)) → vote ≡ None → CoordsActed s r z e d (Coord d) (slice_set hosts place new) out own vote
  down_rests out vote down same none empty no_vote =
      let rests : x.up ≡ false = up_is s gives run h (coord_standing x) v host.host ∙ down in
      let nobody : deed p z.world.sent e ≡ Idle =
      is_deed ∙ ap (λ (o : Option CoordNode). maybe o Idle (λ y. if y.up then by_coord p.layout d y cause else Idle)) (coord_here z d x v there_p node_there.1 device_there.1)
      ∙ ap (λ (b : Bool). if b then by_coord p.layout d x cause else Idle) rests in
      record {
        before = x;
        after = x;
        left = None;
        devices = z.coords;
        sends = [];
        stood = node_there.1;
        log = refl;
        acted = subst (λ (ls : List Line). EventActed z e (with_coord p d x None) z.coords z.shards [] ls) (sym none)
            (subst (λ (q : Parties). EventActed z e q z.coords z.shards [] []) (sym as_it_was) (idles z e done nobody));
        hosts = subst (λ (xs : List CoordNode). AreAt (IsCoord s r) (slice_set hosts place new) xs z.coords) (sym (set_same p.coords place x node_there.1))
            (subst (λ (hs : List (Host C J D)). AreAt (IsCoord s r) hs p.coords z.coords) (sym (ap (slice_set hosts place) same ∙ set_same hosts place h at_host)) are);
        posted = empty;
        votes = no_vote;
      }

  -- what it logs has a spelling
  pub logs_spelled : ((c : Layout) → IsLayout c → (d : ℕ) → IsTrue (is_dc c d) → (s : CoordDurable) → HasCoordDurable s → (u : CoordVolatile) → HasCoordVolatile u → (k : NodeCause) → HasNodeCause k → CoordSpeaks s (coord_act c d s u k))
      → HasWorld z.world → HasNodeCause cause → IfSome (node_act r.cluster (coord_name place) (OfCoord x.durable) (OfCoordNow x.volatile) cause).logs HasRecord
  logs_spelled speak grammar has =
      let node : HasCoordNode x = all_at HasCoordNode p.coords place x grammar.parties.coords node_there.1 in
      let said = speak r.cluster (subst IsLayout layout grammar.parties.layout) d there x.durable node.durable x.volatile node.volatile cause has in
      subst (λ (a : AnyAct). IfSome a.logs HasRecord) (sym act_is) said.logs

  -- whether it is up or down
  by_up : (out : Outbox) (vote : Option Vote) (b : Bool) → is_up h ≡ b → (is_up h ≡ true → Voted s gives run new out vote own (coord_standing x) v (node_act r.cluster (coord_name place) (OfCoord x.durable) (OfCoordNow x.volatile) cause))
      → (is_up h ≡ false → (new ≡ h) × (own ≡ []) × (out ≡ new_outbox (Node (Coord d))) × (vote ≡ None)) → CoordsActed s r z e d (Coord d) (slice_set hosts place new) out own vote
  by_up out vote true is turns rests = up_acts out vote is (turns is)
  by_up out vote false is turns rests = let k = rests is in down_rests out vote is k.0 k.1 k.2 k.3

  pub told_here : (i : ℕ) → i ≡ place → CoordsAreTold s r (slice_set hosts i new) → IsToldBy s new (r.ended (coord_name place))
  told_here i spot told = subst (λ (n : ℕ). CoordsAreTold s r (slice_set hosts n new)) spot told place new (set_at hosts place new within)

  acts_named : (out : Outbox) (vote : Option Vote) (i : ℕ) (n : NodeId) → i ≡ place → n ≡ Coord d
      → (is_up h ≡ true → Voted s gives run new out vote own (coord_standing x) v (node_act r.cluster (coord_name place) (OfCoord x.durable) (OfCoordNow x.volatile) cause))
      → (is_up h ≡ false → (new ≡ h) × (own ≡ []) × (out ≡ new_outbox (Node n)) × (vote ≡ None)) → CoordsActed s r z e d n (slice_set hosts i new) out own vote
  acts_named out vote i n spot node turns rests =
      subst (λ (k : ℕ). CoordsActed s r z e d n (slice_set hosts k new) out own vote) (sym spot)
      (subst (λ (m : NodeId). CoordsActed s r z e d m (slice_set hosts place new) out own vote) (sym node)
      (by_up out vote (is_up h) refl turns (λ down. let k = rests down in (k.0, k.1, subst (λ (m : NodeId). out ≡ new_outbox (Node m)) node k.2, k.3))))

  -- WHY IT DOES NOT ACT
  abbrev Before : List (Host C J D) → Type 0
  Before now = AreAt (IsCoord s r) now p.coords z.coords

  as_before : IsHost s gives run new (coord_standing x) v → Before (slice_set hosts place new)
  as_before is =
      let changed : AreAt (IsCoord s r) (slice_set hosts place new) (slice_set p.coords place x) (slice_set z.coords place v) = one_changes (IsCoord s r) hosts p.coords z.coords are place new x v within (record { host = is; replay = host.replay }) in
      subst (λ (xs : List CoordNode). AreAt (IsCoord s r) (slice_set hosts place new) xs z.coords) (set_same p.coords place x node_there.1)
      (subst (λ (ds : List Device). AreAt (IsCoord s r) (slice_set hosts place new) (slice_set p.coords place x) ds) (set_same z.coords place v device_there.1) changed)

  up_refuses : (fault : WorldFault) → is_up h ≡ true → TurnRefused s gives run fault new (coord_standing x) v (node_act r.cluster (coord_name place) (OfCoord x.durable) (OfCoordNow x.volatile) cause)
      → ActRefused z e (Before (slice_set hosts place new)) fault
  up_refuses fault up why =
      let its = subst (λ (n : NodeId). TurnRefused s gives run fault new (coord_standing x) v (node_act r.cluster n (OfCoord x.durable) (OfCoordNow x.volatile) cause)) named why in
      let acts : deed p z.world.sent e ≡ ByCoord d x (coord_act r.cluster d x.durable x.volatile cause) =
      is_deed ∙ does z d x v there_p node_there.1 device_there.1 cause (up_is s gives run h (coord_standing x) v host.host ∙ up) ∙ ap (λ (c : Layout). by_coord c d x cause) layout in
      coord_refused z d x v there_p node_there.1 device_there.1 e done (coord_act r.cluster d x.durable x.volatile cause) acts (spent_logs r.cluster d x.durable x.volatile cause) s gives run new (coord_standing x) (Before (slice_set hosts place new)) as_before fault its

  down_refuses : (fault : WorldFault) → (new ≡ h) × (fault ≡ NoMemory) → ActRefused z e (Before (slice_set hosts place new)) fault
  down_refuses fault rests =
      subst (ActRefused z e (Before (slice_set hosts place new))) (sym rests.1)
      (AsBefore (subst Before (sym (ap (slice_set hosts place) rests.0 ∙ set_same hosts place h at_host)) are))

  refuses : (fault : WorldFault) (b : Bool) → is_up h ≡ b → (is_up h ≡ true → TurnRefused s gives run fault new (coord_standing x) v (node_act r.cluster (coord_name place) (OfCoord x.durable) (OfCoordNow x.volatile) cause))
      → (is_up h ≡ false → (new ≡ h) × (fault ≡ NoMemory)) → ActRefused z e (Before (slice_set hosts place new)) fault
  refuses fault true is turns rests = up_refuses fault is (turns is)
  refuses fault false is turns rests = down_refuses fault (rests is)

  refuses_at : (fault : WorldFault) (i : ℕ) → i ≡ place → (is_up h ≡ true → TurnRefused s gives run fault new (coord_standing x) v (node_act r.cluster (coord_name place) (OfCoord x.durable) (OfCoordNow x.volatile) cause))
      → (is_up h ≡ false → (new ≡ h) × (fault ≡ NoMemory)) → ActRefused z e (AreAt (IsCoord s r) (slice_set hosts i new) z.world.parties.coords z.coords) fault
  refuses_at fault i spot turns rests = subst (λ (k : ℕ). ActRefused z e (Before (slice_set hosts k new)) fault) (sym spot) (refuses fault (is_up h) refl turns rests)

  -- AT A RESULT
  abbrev Rests : NodeId → Result (Outbox × Option Vote) WorldFault → Type 0
  Rests n result = is_up h ≡ false → (new ≡ h) × (own ≡ []) × IfOk result (λ done. (done.0 ≡ new_outbox (Node n)) × (done.1 ≡ None)) × IfErr result (λ fault. fault ≡ NoMemory)

  up_node : is_up h ≡ true → x.up ≡ true
  up_node up = up_is s gives run h (coord_standing x) v host.host ∙ up

  pub acts_at : (result : Result (Outbox × Option Vote) WorldFault) (i : ℕ) (n : NodeId) → i ≡ place → n ≡ Coord d
      → (is_up h ≡ true → x.up ≡ true → IfOk result (λ done. Voted s gives run new done.0 done.1 own (coord_standing x) v (node_act r.cluster (coord_name place) (OfCoord x.durable) (OfCoordNow x.volatile) cause)))
      → Rests n result → IfOk result (λ done. CoordsActed s r z e d n (slice_set hosts i new) done.0 own done.1)
  acts_at (Ok done) i n spot node turns rests = acts_named done.0 done.1 i n spot node (λ up. turns up (up_node up)) (λ down. let k = rests down in (k.0, k.1, k.2.0, k.2.1))
  acts_at (Err fault) i n spot node turns rests = tt

  pub refuses_if : (result : Result (Outbox × Option Vote) WorldFault) (i : ℕ) (n : NodeId) → i ≡ place
      → (is_up h ≡ true → IfErr result (λ fault. TurnRefused s gives run fault new (coord_standing x) v (node_act r.cluster (coord_name place) (OfCoord x.durable) (OfCoordNow x.volatile) cause)))
      → Rests n result → IfErr result (λ fault. ActRefused z e (AreAt (IsCoord s r) (slice_set hosts i new) z.world.parties.coords z.coords) fault)
  refuses_if (Ok done) i n spot turns rests = tt
  refuses_if (Err fault) i n spot turns rests = refuses_at fault i spot turns (λ down. let k = rests down in (k.0, k.3))

-- A world after an event in which a node was stopped, armed or started, and nothing entered its log.
use Rattle.std.proofs.Common.{◌≡◌, ℕ, Bool, true, false, List, [], ◌∷◌, length, Option, None, Some, IsTrue, Result, Ok, Err, IfOk, refl, sym, ◌∙◌, ap, subst, arith}
use Rattle.std.specs.Prelude.{slice_get, slice_set, if◌then◌else◌}
use Rattle.rc_ids.specs.Tables.{maybe}
use Rattle.rc_ids.specs.Cluster.{Layout, is_dc}
use Rattle.rc_ids.specs.declared.names.NodeId.{NodeId}
use Rattle.rc_ids.specs.declared.names.NodeId.TheVariants.{Coord, Shard as ShardServer}
use Rattle.rc_ids.specs.declared.names.Party.TheVariants.{Node}
use Rattle.rc_ids.specs.declared.sends.Letter.{Letter}
use Rattle.rc_msg.specs.Outboxes.{Outbox}
use Rattle.rc_report.specs.declared.line.Line.{Line}
use Rattle.rc_report.specs.declared.line.Line.TheVariants.{Stopped, Up as IsUpNow}
use Rattle.rc_report.specs.declared.fault.Wrong.{Wrong}
use Rattle.rc_report.specs.declared.fault.Wrong.TheVariants.{Down as IsDownNow, Up as IsUpName}
use Rattle.rc_protocol.specs.Acts.{Catches}
use Rattle.rc_protocol.specs.Nodes.{CoordNode, ShardNode, coord_index, shard_index, coord_started, shard_started}
use Rattle.rc_runs.specs.declared.event.Event.{Event}
use Rattle.rc_runs.specs.declared.event.Event.TheVariants.{Crash, CrashAt, Restart}
use Rattle.rc_runs.specs.World.{World, Parties, Deed, Idle, is_up, is_shard_of, restarts, by_coord, by_shard, parties_after, sends_of, lines_of, actor}
use Rattle.rc_runs.specs.Refusals.{wrong, begins, wants_up, worn_out}
use Rattle.rc_runs.specs.Devices.{Device, opened_once}
use Rattle.rc_runs.specs.Session.{Session, no_device, device_in, device_of, with_device, change_on, with_change}
use Rattle.rc_order.specs.Orders.{Order, IsAsBefore}
use Rattle.rc_order.specs.Counts.{CountLaws}
use Rattle.rc_host.specs.declared.host.Host.{Host}
use Rattle.rc_world.specs.declared.world.Sending.{Sending}
use Rattle.rc_begin.specs.declared.fault.WorldFault.{WorldFault}
use Rattle.rc_world.specs.Noted.{Notes}
use Rattle.rc_begin.specs.Hosts.{Views, Runs, CoordsAreTold, ShardsAreTold}
use Rattle.rc_world.specs.CoordActed.{CoordsActed}
use Rattle.rc_world.specs.Steps.{EventActed, event_limit}
use Rattle.rc_world.specs.Mail.{IsMail}
use Rattle.rc_world.specs.Worlds.{Parts, IsWorld, HasActed, IsCarried, KeepsCarried, KeepsParties, AreTold}
use Rattle.rc_world.proofs.Ordering.{none_noted}
use Rattle.rc_world.proofs.Noded.{coords_did}
use Rattle.rc_world.proofs.Told.{early}

-- A NODE THAT IS WANTED UP
pub up_if_wanted : (p : Parties) (node : NodeId) → wants_up p node ≡ None → is_up p node ≡ true
up_if_wanted p node none = by_test (is_up p node) none
  where
    by_test : (b : Bool) → (let o : Option Wrong = if b then None else Some (IsDownNow node) in o ≡ None) → b ≡ true
    by_test true at = refl
    by_test false at = absurd (cc)

-- is one of the world
pub coord_known : (p : Parties) (d : ℕ) → is_up p (Coord d) ≡ true → is_dc p.layout d ≡ true
coord_known p d up = by_test (is_dc p.layout d) up
  where
    by_test : (b : Bool) → maybe (let o : Option CoordNode = if b then slice_get p.coords (coord_index d) else None in o) false (λ x. x.up) ≡ true → b ≡ true
    by_test true at = refl
    by_test false at = absurd (cc)

pub shard_known : (p : Parties) (d sh : ℕ) → is_up p (ShardServer d sh) ≡ true → is_shard_of p.layout d sh ≡ true
shard_known p d sh up = by_test (is_shard_of p.layout d sh) up
  where
    by_test : (b : Bool) → maybe (let o : Option ShardNode = if b then slice_get p.shards (shard_index p.layout d sh) else None in o) false (λ x. x.up) ≡ true → b ≡ true
    by_test true at = refl
    by_test false at = absurd (cc)

-- a node that is not up may be started
pub not_up_named : (w : World) (node : NodeId) → is_up w.parties node ≡ false → wrong w (Restart node) ≡ None
not_up_named w node down = ap (λ (b : Bool). let o : Option Wrong = if b then Some (IsUpName node) else None in o) down

-- A NODE THAT IS NONE OF THE WORLD does nothing as it is started
module _ (z : Session) where
  abbrev p : Parties
  p = z.world.parties

  -- nobody acts, no disk changes, and the line is printed
  rests : (node : NodeId) → restarts p node ≡ Idle → device_of z node ≡ no_device → with_device z node no_device ≡ z → EventActed z (Restart node) p z.coords z.shards [] (IsUpNow node ∷ [])
  rests node is disk same = record {
    parties = sym (ap (parties_after p) is);
    disks = ap (λ (x : Device). with_change z (change_on node (opened_once x))) disk ∙ ap Some same;
    sends = sym (ap sends_of is);
    prints = sym (ap (λ (dd : Deed). IsUpNow node ∷ lines_of dd) is);
    whole = ap worn_out is;
  }

  pub coord_rests : (d : ℕ) → is_dc p.layout d ≡ false → EventActed z (Restart (Coord d)) p z.coords z.shards [] (IsUpNow (Coord d) ∷ [])
  coord_rests d no_such =
      rests (Coord d)
      (ap (λ (b : Bool). maybe (let o : Option CoordNode = if b then slice_get p.coords (coord_index d) else None in o) Idle (λ y. by_coord p.layout d (coord_started y.log) Catches)) no_such)
      (ap (λ (b : Bool). if b then device_in z.coords (coord_index d) else no_device) no_such)
      (ap (λ (b : Bool). let y : Session = if b then record z { coords = slice_set z.coords (coord_index d) no_device } else z in y) no_such)

  pub shard_rests : (d sh : ℕ) → is_shard_of p.layout d sh ≡ false → EventActed z (Restart (ShardServer d sh)) p z.coords z.shards [] (IsUpNow (ShardServer d sh) ∷ [])
  shard_rests d sh no_such =
      rests (ShardServer d sh)
      (ap (λ (b : Bool). maybe (let o : Option ShardNode = if b then slice_get p.shards (shard_index p.layout d sh) else None in o) Idle (λ y. by_shard p.layout d sh (shard_started y.log) Catches)) no_such)
      (ap (λ (b : Bool). if b then device_in z.shards (shard_index p.layout d sh) else no_device) no_such)
      (ap (λ (b : Bool). let y : Session = if b then record z { shards = slice_set z.shards (shard_index p.layout d sh) no_device } else z in y) no_such)

-- AMONG ALL
same_order : (o : Order) → IsAsBefore o o
same_order o = record { weights = refl; votes = refl; earlier = refl; listed = refl; spare_votes = omega arith; spare_places = omega arith }

module _ {C S J D : Type 0} (v : Views C S J D) (r : Runs) (z : Session) (old : Parts (Host C J D) (Host S J D)) (is : IsWorld v r old z) (e : Event) (named : wrong z.world e ≡ None) (no_begin : begins e ≡ false)
    (fits : event_limit old.events ≡ None) where
  -- a coordinator took part, and nothing entered its log
  pub coords_rest : ((c : Layout) (coords now : List CoordNode) (o : Order) → CountLaws c coords now o) → (coords : List (Host C J D)) (dc : ℕ) (node : NodeId) (out : Outbox) (letters : List Letter) (own : List Line)
      → IsTrue (is_dc r.cluster dc) → length coords ≡ length old.coords → letters ≡ out.letters → actor z.world.sent e ≡ Node node → CoordsActed v.coords r z e dc node coords out own None
      → HasActed v r z e (record old { coords = coords }) (Node node) letters own
  coords_rest laws coords dc node out letters own known count sent who did =
      let notes : Notes old.order old.order dc None = λ c xs earlier committed before after left was is_known stood log votes. none_noted laws c xs earlier committed dc before after is_known stood old.order left log (sym votes) was in
      coords_did v r z old is e named no_begin fits laws coords old.order old.order dc node out None letters own known (same_order old.order) notes count sent who did

  -- no node and no disk did anything
  pub nobody_changed : (node : NodeId) (letters : List Letter) (own : List Line) → letters ≡ [] → actor z.world.sent e ≡ Node node → EventActed z e z.world.parties z.coords z.shards [] own → HasActed v r z e old (Node node) letters own
  nobody_changed node letters own none who acted = record {
    named = named;
    early = early z.world e no_begin (ap event_limit (sym is.carried.events) ∙ fits);
    parties = z.world.parties;
    coords = z.coords;
    shards = z.shards;
    sends = [];
    acted = acted;
    are = is.parties;
    actor_is = λ some. sym who;
    posted = none;
  }

-- IN OTHER WORDS
module _ {C S J D : Type 0} (v : Views C S J D) (r : Runs) (z : Session) (new : Parts (Host C J D) (Host S J D)) (node as_node : NodeId) (same : as_node ≡ node) where
  pub stopped_as : HasActed v r z (Crash node) new (Node node) [] (Stopped node ∷ []) → HasActed v r z (Crash as_node) new (Node as_node) [] (Stopped as_node ∷ [])
  stopped_as did = subst (λ (n : NodeId). HasActed v r z (Crash n) new (Node n) [] (Stopped n ∷ [])) (sym same) did

  pub armed_as : (k pick : ℕ) → HasActed v r z (CrashAt node k pick) new (Node node) [] [] → HasActed v r z (CrashAt as_node k pick) new (Node as_node) [] []
  armed_as k pick did = subst (λ (n : NodeId). HasActed v r z (CrashAt n k pick) new (Node n) [] []) (sym same) did

pub restarted_as : {C S J D : Type 0} (v : Views C S J D) (r : Runs) (z : Session) (new : Parts (Host C J D) (Host S J D)) (node as_node : NodeId) → as_node ≡ node → (result : Result Sending WorldFault)
    → IfOk result (λ s. HasActed v r z (Restart node) new s.from s.sends (IsUpNow node ∷ [])) → IfOk result (λ s. HasActed v r z (Restart as_node) new s.from s.sends (IsUpNow as_node ∷ []))
restarted_as v r z new node as_node same (Ok s) did = subst (λ (n : NodeId). HasActed v r z (Restart n) new s.from s.sends (IsUpNow n ∷ [])) (sym same) did
restarted_as v r z new node as_node same (Err fault) did = tt

pub happened_as : {C S J D : Type 0} (v : Views C S J D) (r : Runs) (z : Session) (new : Parts (Host C J D) (Host S J D)) (e as_e : Event) (own as_own : List Line) → as_e ≡ e → as_own ≡ own → (result : Result Sending WorldFault)
    → IfOk result (λ s. HasActed v r z e new s.from s.sends own) → IfOk result (λ s. HasActed v r z as_e new s.from s.sends as_own)
happened_as v r z new e as_e own as_own same_event same_own (Ok s) did =
    subst (λ (k : Event). HasActed v r z k new s.from s.sends as_own) (sym same_event) (subst (λ (ls : List Line). HasActed v r z e new s.from s.sends ls) (sym same_own) did)
happened_as v r z new e as_e own as_own same_event same_own (Err fault) did = tt

-- what no party changes
pub carried_along : {C S : Type 0} (old new : Parts C S) (z : Session) → KeepsCarried old new → IsCarried old z.world → IsCarried new z.world
carried_along old new z keeps is = record {
  mail = subst (λ (n : _). IsMail n z.world) (sym keeps.net) is.mail;
  events = keeps.events ∙ is.events;
  deliveries = keeps.deliveries ∙ is.deliveries;
  few = is.few;
  grammar = is.grammar;
}

-- AMONG THE PARTIES that do not change
module _ {C S J D : Type 0} (v : Views C S J D) (old new : Parts (Host C J D) (Host S J D)) (keeps : KeepsParties old new) where
  pub told_back : (r : Runs) → AreTold v r new → AreTold v r old
  told_back r told = record {
    coords = subst (λ (hs : List (Host C J D)). CoordsAreTold v.coords r hs) keeps.coords told.coords;
    shards = subst (λ (hs : List (Host S J D)). ShardsAreTold v.shards r hs) keeps.shards told.shards;
  }

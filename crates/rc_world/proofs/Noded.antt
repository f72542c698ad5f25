-- A world after a node acted in an event.
use Rattle.std.proofs.Common.{◌≡◌, ℕ, false, List, [], length, Option, None, IsTrue, sym, ◌∙◌, ap, subst}
use Rattle.rc_ids.specs.Cluster.{Layout, is_dc}
use Rattle.rc_protocol.specs.Nodes.{CoordNode}
use Rattle.rc_order.specs.Orders.{Order, IsAsBefore}
use Rattle.rc_order.specs.Counts.{CountLaws}
use Rattle.rc_world.specs.declared.votes.Vote.{Vote}
use Rattle.rc_world.specs.Noted.{Notes}
use Rattle.rc_world.specs.CoordActed.{CoordsActed}
use Rattle.rc_world.proofs.Ordering.{room_keeps}
use Rattle.rc_ids.specs.declared.names.NodeId.{NodeId}
use Rattle.rc_ids.specs.declared.names.Party.TheVariants.{Node}
use Rattle.rc_ids.specs.declared.sends.Letter.{Letter}
use Rattle.rc_msg.specs.Outboxes.{Outbox}
use Rattle.rc_report.specs.declared.line.Line.{Line}
use Rattle.rc_runs.specs.declared.event.Event.{Event}
use Rattle.rc_runs.specs.World.{Idle, deed, actor, with_coord}
use Rattle.rc_runs.specs.Refusals.{wrong, begins}
use Rattle.rc_runs.specs.Session.{Session}
use Rattle.rc_host.specs.declared.host.Host.{Host}
use Rattle.rc_begin.specs.Hosts.{Views, Runs}
use Rattle.rc_world.specs.Acted.{ShardsActed, with_shards}
use Rattle.rc_world.specs.Steps.{EventActed, IsDone, event_limit}
use Rattle.rc_world.specs.Worlds.{Parts, IsWorld, HasActed}
use Rattle.rc_world.proofs.Told.{early}
use Rattle.rc_world.proofs.ClientActs.{idles}

module _ {C S J D : Type 0} (v : Views C S J D) (r : Runs) (z : Session) (old : Parts (Host C J D) (Host S J D)) (is : IsWorld v r old z) (e : Event) (named : wrong z.world e ≡ None) (no_begin : begins e ≡ false)
    (fits : event_limit old.events ≡ None) where
  abbrev with_hosts : List (Host S J D) → Parts (Host C J D) (Host S J D)
  with_hosts shards = record old { shards = shards }

  pub shards_did : (shards : List (Host S J D)) (node : NodeId) (out : Outbox) (letters : List Letter) (own : List Line) → length shards ≡ length old.shards → letters ≡ out.letters → actor z.world.sent e ≡ Node node → ShardsActed v.shards r z e node shards out own
      → HasActed v r z e (with_hosts shards) (Node node) letters own
  shards_did shards node out letters own count sent who did =
      let was = is.parties in
      record {
        named = named;
        early = early z.world e no_begin (ap event_limit (sym is.carried.events) ∙ fits);
        parties = with_shards z.world.parties did.shards;
        coords = z.coords;
        shards = did.devices;
        sends = did.sends;
        acted = did.acted;
        are = record {
          layout = was.layout;
          cluster = was.cluster;
          of_coords = was.of_coords;
          of_shards = count ∙ was.of_shards;
          hosts = record { of_coords = was.hosts.of_coords; of_shards = did.hosts };
          roster = record { named = was.roster.named; clients = was.roster.clients };
          order = was.order;
        };
        actor_is = λ some. sym who;
        posted = sent ∙ ap (λ (o : Outbox). o.letters) did.posted;
      }

  -- nobody does anything
  pub nobody_did : (node : NodeId) (letters : List Letter) (own : List Line) → letters ≡ [] → own ≡ [] → actor z.world.sent e ≡ Node node → IsDone z e → deed z.world.parties z.world.sent e ≡ Idle → HasActed v r z e old (Node node) letters own
  nobody_did node letters own none silent who done idle = record {
    named = named;
    early = early z.world e no_begin (ap event_limit (sym is.carried.events) ∙ fits);
    parties = z.world.parties;
    coords = z.coords;
    shards = z.shards;
    sends = [];
    acted = subst (EventActed z e z.world.parties z.coords z.shards []) (sym silent) (idles z e done idle);
    are = is.parties;
    actor_is = λ some. sym who;
    posted = none;
  }

  -- a coordinator took part, and its vote entered the order, for which room was made
  pub coords_did : ((c : Layout) (coords now : List CoordNode) (o : Order) → CountLaws c coords now o) → (coords : List (Host C J D)) (mid order : Order) (dc : ℕ) (node : NodeId) (out : Outbox) (vote : Option Vote) (letters : List Letter) (own : List Line)
      → IsTrue (is_dc r.cluster dc) → IsAsBefore old.order mid → Notes mid order dc vote → length coords ≡ length old.coords → letters ≡ out.letters → actor z.world.sent e ≡ Node node → CoordsActed v.coords r z e dc node coords out own vote
      → HasActed v r z e (record old { coords = coords; order = order }) (Node node) letters own
  coords_did laws coords mid order dc node out vote letters own known room notes count sent who did =
      let was = is.parties in
      let p = z.world.parties in
      let here : IsTrue (is_dc p.layout dc) = subst (λ (c : Layout). IsTrue (is_dc c dc)) (sym was.layout) known in
      record {
        named = named;
        early = early z.world e no_begin (ap event_limit (sym is.carried.events) ∙ fits);
        parties = with_coord p dc did.after did.left;
        coords = did.devices;
        shards = z.shards;
        sends = did.sends;
        acted = did.acted;
        are = record {
          layout = was.layout;
          cluster = was.cluster;
          of_coords = count ∙ was.of_coords;
          of_shards = was.of_shards;
          hosts = record { of_coords = did.hosts; of_shards = was.hosts.of_shards };
          roster = record { named = was.roster.named; clients = was.roster.clients };
          order = notes p.layout p.coords p.start.committed p.committed did.before did.after did.left (room_keeps laws p.layout p.coords p.start.committed p.committed old.order mid room was.order) here did.stood did.log did.votes;
        };
        actor_is = λ some. sym who;
        posted = sent ∙ ap (λ (o : Outbox). o.letters) did.posted;
      }

-- What moves a party in an event: a message, a catch-up, a take-over.
use Rattle.std.proofs.Common.{◌≡◌, ℕ, Bool, true, Option, None, Some, refl, ◌∙◌, ap}
use Rattle.std.specs.Prelude.{if◌then◌else◌}
use Rattle.rc_ids.specs.Tables.{maybe}
use Rattle.rc_ids.specs.declared.names.NodeId.{NodeId}
use Rattle.rc_ids.specs.declared.names.NodeId.TheVariants.{Coord, Shard as ShardServer}
use Rattle.rc_ids.specs.declared.names.Party.{Party}
use Rattle.rc_ids.specs.declared.names.Party.TheVariants.{Node, Client as ClientParty}
use Rattle.rc_msg.specs.declared.msg.Envelope.{Envelope}
use Rattle.rc_protocol.specs.Messages.{or_else}
use Rattle.rc_protocol.specs.Acts.{Came, Catches}
use Rattle.rc_report.specs.declared.fault.Wrong.{Wrong}
use Rattle.rc_report.specs.declared.fault.Wrong.TheVariants.{NotSent, NotBegun}
use Rattle.rc_runs.specs.declared.event.Event.TheVariants.{Deliver, Catch, Take}
use Rattle.rc_runs.specs.World.{World, Parties, Idle, received, catches, deed, actor, message}
use Rattle.rc_runs.specs.Refusals.{wrong, wants_up, is_begun}
use Rattle.rc_runs.specs.Session.{Session}
use Rattle.rc_world.specs.Steps.{node_does, IsDone}

-- a message to a node moves it
pub node_receives : (w : Parties) (e : Envelope) (n : NodeId) → e.to ≡ Node n → received w e e.to ≡ node_does w n (Came e.from e.msg)
node_receives w e n is = ap (λ (p : Party). received w e p) is ∙ at n where
  at : (n : NodeId) → received w e (Node n) ≡ node_does w n (Came e.from e.msg)
  at (Coord d) = refl
  at (ShardServer d sh) = refl

-- the message that a delivery names
module _ (z : Session) (n : ℕ) (e : Envelope) (sent : message z.world.sent n ≡ Some e) where
  pub delivery_is_done : IsDone z (Deliver n)
  delivery_is_done = record { change = refl; begins = refl; starts = refl }

  pub delivered_deed : deed z.world.parties z.world.sent (Deliver n) ≡ received z.world.parties e e.to
  delivered_deed = ap (λ (o : Option Envelope). maybe o Idle (λ e. received z.world.parties e e.to)) sent

  pub delivered_to : actor z.world.sent (Deliver n) ≡ e.to
  delivered_to = ap (λ (o : Option Envelope). maybe o (ClientParty 0) (λ e. e.to)) sent

  pub delivery_is_named : wrong z.world (Deliver n) ≡ None
  delivery_is_named = ap (λ (o : Option Envelope). maybe o (Some (NotSent n)) (λ e. None)) sent

-- a node that catches up is moved by that
pub node_catches : (w : Parties) (n : NodeId) → catches w n ≡ node_does w n Catches
node_catches w (Coord d) = refl
node_catches w (ShardServer d sh) = refl

pub catch_is_done : (z : Session) (n : NodeId) → IsDone z (Catch n)
catch_is_done z n = record { change = refl; begins = refl; starts = refl }

pub take_is_done : (z : Session) (d t : ℕ) → IsDone z (Take d t)
take_is_done z d t = record { change = refl; begins = refl; starts = refl }

pub take_is_named : (w : World) (d t : ℕ) → wants_up w.parties (Coord d) ≡ None → is_begun w.parties t ≡ true → wrong w (Take d t) ≡ None
take_is_named w d t up begun =
    ap (λ (o : Option Wrong). or_else o (if is_begun w.parties t then None else Some (NotBegun t))) up ∙ ap (λ (b : Bool). or_else None (if b then None else Some (NotBegun t))) begun

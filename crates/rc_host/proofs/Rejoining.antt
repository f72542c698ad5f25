-- A node that starts again asks the others, and is put down where it cannot.
use Rattle.std.proofs.Common.{◌≡◌, ℕ, Bool, true, false, List, Option, Some, None, IfSome, refl, sym, ap, ◌∙◌, subst, inl, inr}
use Rattle.rc_ids.specs.Cluster.{Layout}
use Rattle.rc_ids.specs.declared.names.NodeId.{NodeId}
use Rattle.rc_ids.specs.declared.names.NodeId.TheVariants.{Coord, Shard as ShardServer}
use Rattle.rc_disk.specs.Calls.{Told}
use Rattle.rc_log.specs.Journals.{State}
use Rattle.rc_msg.specs.Outboxes.{Outbox}
use Rattle.rc_node.specs.Acts.{Logs, Stays, FailsAt, IsFullAt}
use Rattle.rc_node.specs.Cores.{HasActed, HasRefused, stops}
use Rattle.rc_node.specs.declared.fault.NodeFault.{NodeFault}
use Rattle.rc_node.specs.declared.fault.NodeFault.TheVariants.{NoMemory, Failed, Full, BallotsSpent}
use Rattle.rc_protocol.specs.Acts.{Catches}
use Rattle.rc_protocol.specs.Nodes.{logged}
use Rattle.rc_devices.specs.Disks.{IsKept}
use Rattle.rc_record.specs.declared.record.Record.{Record}
use Rattle.rc_runs.specs.Devices.{Device, opened_once, powered}
use Rattle.rc_host.specs.AnyNode.{AnyNode, AnyAct, NodeDurable, NodeVolatile, OfShard, OfCoord, OfShardNow, OfCoordNow, node_act, act_of, new_volatile}
use Rattle.rc_host.specs.Standing.{Standing, after_act, started_again, stopped}
use Rattle.rc_host.specs.declared.host.Host.{Host}
use Rattle.rc_host.specs.declared.host.Host.TheVariants.{Up, Opened, Down, Lent}
use Rattle.rc_host.specs.Hosts.{Sight, Run, IsHost, IsUp, HasLog, IsToldBy, is_up}
use Rattle.rc_host.specs.Restarts.{asking, HasAsked, HasNotStarted, HasNotRejoined}
use Rattle.rc_host.specs.declared.restarts.RestartFault.{RestartFault}
use Rattle.rc_host.specs.declared.restarts.RestartFault.TheVariants as faults
use Rattle.rc_host.proofs.Turning.{act_is}

-- a node that asks logs nothing, keeps its durable state and needs no ballot
pub record IsQuiet (act : AnyAct) (s : NodeDurable) : Type 0 where
  pub logs : act.logs ≡ None
  pub durable : act.durable ≡ s
  pub left : act.spent ≡ false

pub asks_quietly : (c : Layout) (node : NodeId) (s : NodeDurable) (v : NodeVolatile) → IsQuiet (node_act c node s v Catches) s
asks_quietly c (ShardServer d sh) (OfShard s) (OfShardNow v) = record { logs = refl; durable = refl; left = refl }
asks_quietly c (ShardServer d sh) (OfShard s) (OfCoordNow v) = record { logs = refl; durable = refl; left = refl }
asks_quietly c (ShardServer d sh) (OfCoord s) v = record { logs = refl; durable = refl; left = refl }
asks_quietly c (Coord d) (OfCoord s) (OfCoordNow v) = record { logs = refl; durable = refl; left = refl }
asks_quietly c (Coord d) (OfCoord s) (OfShardNow v) = record { logs = refl; durable = refl; left = refl }
asks_quietly c (Coord d) (OfShard s) v = record { logs = refl; durable = refl; left = refl }

-- nothing of an act without a record enters the journal, nor is it refused for the disk
no_logs : (old new : State) (o : Option Record) → o ≡ None → Logs old new o → new ≡ old
no_logs old new o none logs = subst (Logs old new) none logs

pub quiet_journal : (may_leave : List ℕ → Type 0) (fault : NodeFault) (old new : State) (act : AnyAct) → act.logs ≡ None → act.spent ≡ false → Stays fault may_leave old new act → (new ≡ old) × (fault ≡ NoMemory)
quiet_journal may_leave NoMemory old new act none left stays = (stays, refl)
quiet_journal may_leave Failed old new act none left stays = absurd (subst (λ (o : Option Record). FailsAt may_leave old new o) none stays)
quiet_journal may_leave Full old new act none left stays = absurd (subst (λ (o : Option Record). IsFullAt old o) none stays.reason)
quiet_journal may_leave BallotsSpent old new act none left stays = absurd (let e : true ≡ false = sym stays.reason ∙ left in cc)

module _ {N J D : Type 0} (s : Sight N J D) where
  -- what the node does that asks
  abbrev its_act : N → AnyAct
  its_act node = act_of (s.seen node) Catches

  its_quiet : (node : N) → IsQuiet (its_act node) (s.seen node).durable
  its_quiet node = asks_quietly (s.seen node).cluster (s.seen node).name (s.seen node).durable (s.seen node).volatile

  pub asked_journal : (node new : N) (before after : Outbox) → HasActed s.state (s.seen node) (s.seen new) before after (its_act node) → s.state (s.seen new).journal ≡ s.state (s.seen node).journal
  asked_journal node new before after acted = no_logs (s.state (s.seen node).journal) (s.state (s.seen new).journal) (its_act node).logs (its_quiet node).logs acted.logs

  pub refused_journal : (may_leave : J → List ℕ → Type 0) (fault : NodeFault) (node new : N) (before after : Outbox) → HasRefused s.state may_leave fault (s.seen node) (s.seen new) before after (its_act node)
      → (s.state (s.seen new).journal ≡ s.state (s.seen node).journal) × (fault ≡ NoMemory)
  refused_journal may_leave fault node new before after refused =
      quiet_journal (may_leave (s.seen new).journal) fault (s.state (s.seen node).journal) (s.state (s.seen new).journal) (its_act node) (its_quiet node).logs (its_quiet node).left refused.journal

  pub refused_goes_on : (may_leave : J → List ℕ → Type 0) (fault : NodeFault) (node new : N) (before after : Outbox) → HasRefused s.state may_leave fault (s.seen node) (s.seen new) before after (its_act node) → (s.seen new).stopped ≡ false
  refused_goes_on may_leave fault node new before after refused =
      ap (λ (n : AnyNode J). n.stopped) refused.core ∙ ap stops (refused_journal may_leave fault node new before after refused).1

  -- what is told of the disk stays
  pub told_before : (node new : N) (ended : Told) → s.state (s.seen new).journal ≡ s.state (s.seen node).journal → IsToldBy s (Up new) ended → IsToldBy s (Up node) ended
  told_before node new ended same told = subst (λ (j : State). IfSome j.told (λ t. IsKept t ended)) same told

  module _ (gives : List (List ℕ) → NodeDurable → Type 0) (run : Run) (x : Standing) (d : Device) where
    pub has_asked : (node new : N) (before after : Outbox) → IsUp s gives run node x d → HasActed s.state (s.seen node) (s.seen new) before after (its_act node) → HasAsked s gives run (Up new) before after x d
    has_asked node new before after is acted =
        let done = subst (λ (a : AnyAct). HasActed s.state (s.seen node) (s.seen new) before after a) (act_is s gives run node x d Catches is) acted in
        let quiet = asks_quietly run.cluster run.node x.durable x.volatile in
        let same = asked_journal node new before after acted in
        record {
          host = record {
            up = is.up;
            cluster = ap (λ (n : AnyNode J). n.cluster) done.core ∙ is.cluster;
            name = ap (λ (n : AnyNode J). n.name) done.core ∙ is.name;
            durable = ap (λ (n : AnyNode J). n.durable) done.core;
            volatile = ap (λ (n : AnyNode J). n.volatile) done.core;
            stopped = ap (λ (n : AnyNode J). n.stopped) done.core;
            blobs = is.blobs;
            log = subst (λ (j : State). HasLog gives run j is.blobs (after_act x (asking run x)) d) (sym same)
                (record {
                  has = is.log.has;
                  count = is.log.count;
                  size = is.log.size;
                  holds = record {
                    log = is.log.holds.log ∙ ap (logged x.log) (sym quiet.logs);
                    back = subst (gives is.blobs) (sym quiet.durable) is.log.holds.back;
                  };
                  device = is.log.device;
                  sound = is.log.sound;
                });
          };
          sends = done.sends;
        }

    pub stays_up : (may_leave : J → List ℕ → Type 0) (fault : NodeFault) (node new : N) (before after : Outbox) → IsUp s gives run node x d → HasRefused s.state may_leave fault (s.seen node) (s.seen new) before after (its_act node)
        → IsUp s gives run new x d
    stays_up may_leave fault node new before after is refused =
        let same = (refused_journal may_leave fault node new before after refused).0 in
        record {
          up = is.up;
          cluster = ap (λ (n : AnyNode J). n.cluster) refused.core ∙ is.cluster;
          name = ap (λ (n : AnyNode J). n.name) refused.core ∙ is.name;
          durable = ap (λ (n : AnyNode J). n.durable) refused.core ∙ is.durable;
          volatile = ap (λ (n : AnyNode J). n.volatile) refused.core ∙ is.volatile;
          stopped = refused_goes_on may_leave fault node new before after refused;
          blobs = is.blobs;
          log = subst (λ (j : State). HasLog gives run j is.blobs x d) (sym same) is.log;
        }

    -- a node that starts again is up
    pub started_is_up : (h : Host N J D) → IsHost s gives run h (started_again x) d → is_up h ≡ true
    started_is_up (Up node) is = refl
    started_is_up (Opened journal blobs) is = absurd (let e : true ≡ false = is.down in cc)
    started_is_up (Down disk) is = absurd (let e : true ≡ false = is.down in cc)
    started_is_up Lent is = absurd is

    -- a node that was down, started and was stopped is as it was
    again : x.up ≡ false → x.volatile ≡ new_volatile x.durable → stopped (started_again x) ≡ x
    again down lost = ap (λ (b : Bool). let y : Standing = record x { up = b; volatile = new_volatile x.durable } in y) (sym down) ∙ ap (λ (v : NodeVolatile). let y : Standing = record x { volatile = v } in y) (sym lost)

    down_again : (h : Host N J D) → is_up h ≡ false → IsHost s gives run h x d → stopped (started_again x) ≡ x
    down_again (Up node) down is = absurd (let e : true ≡ false = down in cc)
    down_again (Opened journal blobs) down is = again is.down is.lost
    down_again (Down disk) down is = again is.down is.lost
    down_again Lent down is = absurd is

    pub put_down : (old new : Host N J D) (w : Device) → is_up old ≡ false → IsHost s gives run old x d → opened_once d ≡ Some w → IsHost s gives run new (stopped (started_again x)) (powered w) → HasNotRejoined s gives run faults.NoMemory new x d
    put_down old new w down was opens is = inr (record { device = w; opens = opens; host = subst (λ (y : Standing). IsHost s gives run new y (powered w)) (down_again old down was) is })

    pub not_started : (fault : RestartFault) (new : Host N J D) → HasNotStarted s gives run fault new x d → HasNotRejoined s gives run fault new x d
    not_started faults.NoMemory new is = inl is
    not_started faults.DiskFailed new is = is
    not_started (faults.Refused why) new is = absurd is

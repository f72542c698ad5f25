-- What is kept of one transaction t in a stretch that is quiet for it: in messages, in coordinators, in shard servers, and at its client.
use Rattle.std.proofs.Common.{◌≡◌, ℕ, List, ◌⊎◌, Option, None, Some, true, false}
use Rattle.std.specs.Ordering.{nat_cmp}
use Rattle.rc_ids.specs.Tables.{In, Table, found, member}
use Rattle.rc_ids.specs.Cluster.{Layout, is_quorum, is_dc, shard_of}
use Rattle.rc_ids.specs.declared.names.Outcome.{Outcome}
use Rattle.rc_ids.specs.declared.names.Outcome.TheVariants.{Commit as Committed}
use Rattle.rc_ids.specs.declared.names.Party.{Party}
use Rattle.rc_ids.specs.declared.names.Party.TheVariants.{Node, Client as ClientOf}
use Rattle.rc_body.specs.Bodies.{part, touches}
use Rattle.rc_body.specs.Decisions.{outcome_of}
use Rattle.rc_body.specs.declared.entry.Entry.{Entry}
use Rattle.rc_body.specs.declared.decision.Decision.{Decision}
use Rattle.rc_body.specs.declared.decision.Decision.TheVariants.{Commit}
use Rattle.rc_msg.specs.declared.msg.Envelope.{Envelope}
use Rattle.rc_msg.specs.declared.msg.Msg.{Msg}
use Rattle.rc_msg.specs.declared.msg.Msg.TheVariants.{ReadAsk, Granted, Propose, Prepare, Prepared, Voted, Ask, Decided, Finish, CatchPage}
use Rattle.rc_protocol.specs.Messages.{coordinator, shard_server, client_of}
use Rattle.rc_protocol.specs.Coordinator.{GatherState, Standing, has_all, standing_for, standing_at}
use Rattle.rc_protocol.specs.Client.{Client, Slot, KeyRead, NotRead, Complete, Vanished, is_done, is_over, is_committing, is_proposed, is_unread, waits_for_read, body_of}
use Rattle.rc_protocol.specs.Nodes.{CoordNode, ShardNode}
use Rattle.rc_runs.specs.World.{message}
use Rattle.rc_agreement.proofs.Ballots.{Late}
use Rattle.rc_causes.proofs.ReadSlots.{Has}

-- the message is among these, from one to the other
abbrev pub Sent : List Envelope → Party → Party → Msg → Type 0
Sent sent from to msg = In (record { from = from; to = to; msg = msg }) sent

-- and one with its number was delivered
abbrev pub Came : List Envelope → List ℕ → Party → Party → Msg → Type 0
Came sent delivered from to msg = (n : ℕ) × In n delivered × (message sent n ≡ Some (record { from = from; to = to; msg = msg }))

-- a client is told of its own transaction
abbrev pub IsOwn : ℕ → Party → Type 0
IsOwn t (ClientOf u) = u ≡ t
IsOwn t (Node node) = Unit {0}

-- a read that was begun, and one that is complete
abbrev pub IsBegun : KeyRead → Type 0
IsBegun NotRead = ⊥
IsBegun _ = Unit {0}

abbrev pub IsDone : KeyRead → Type 0
IsDone (Complete version value) = Unit {0}
IsDone _ = ⊥

module _ (t : ℕ) where
  -- t's client asked this shard server for k
  abbrev pub Asked : List Envelope → ℕ → ℕ → List ℕ → Type 0
  Asked sent d sh k = Sent sent (client_of t) (shard_server d sh) (ReadAsk t k)

  -- t's client proposed this commit
  abbrev pub Own : List Envelope → Decision → Type 0
  Own sent o = (outcome_of o ≡ Committed) × ((d : ℕ) × Sent sent (client_of t) (coordinator d) (Propose t 0 o))

  -- d told t's client its vote
  abbrev pub HasTold : List Envelope → ℕ → Type 0
  HasTold sent d = (o : Decision) × Sent sent (coordinator d) (client_of t) (Voted t 0 d o)

  -- a quorum told t's client their votes
  pub record Voters (c : Layout) (sent : List Envelope) : Type 0 where
    pub set : List ℕ
    pub enough : is_quorum c set ≡ true
    pub each : (d : ℕ) → In d set → HasTold sent d

  abbrev pub Told : Layout → List Envelope → Decision → Type 0
  Told c sent o = Own sent o × Voters c sent

  -- a prepare has the part of a body that t's client proposed, at a shard that it touches
  pub record Preparing (c : Layout) (sent : List Envelope) (from to : Party) (p : List Entry) : Type 0 where
    pub dc : ℕ
    pub shard : ℕ
    pub from_it : from ≡ coordinator dc
    pub to_it : to ≡ shard_server dc shard
    pub body : List Entry
    pub own : Own sent (Commit body)
    pub is : p ≡ part c shard body
    pub touched : touches c body shard ≡ true

  -- an answer follows a prepare
  pub record Answering (sent : List Envelope) (from to : Party) (sh : ℕ) : Type 0 where
    pub dc : ℕ
    pub from_it : from ≡ shard_server dc sh
    pub to_it : to ≡ coordinator dc
    pub part : List Entry
    pub asked : Sent sent (coordinator dc) (shard_server dc sh) (Prepare t part)

  -- WHAT A MESSAGE SAYS OF t
  abbrev pub Fits : Layout → List Envelope → Party → Party → Msg → Type 0
  Fits c sent from to (ReadAsk u k) = u ≡ t → (from ≡ client_of t) × ((d : ℕ) × (to ≡ shard_server d (shard_of c k)))
  Fits c sent from to (Granted u k e version value) = u ≡ t → (to ≡ client_of t) × (from ≡ shard_server e (shard_of c k)) × Asked sent e (shard_of c k) k × (is_dc c e ≡ true)
  Fits c sent from to (Propose u b o) = u ≡ t → (from ≡ client_of t) × (b ≡ 0) × (outcome_of o ≡ Committed)
  Fits c sent from to (Prepare u p) = u ≡ t → Preparing c sent from to p
  Fits c sent from to (Prepared u sh reason) = u ≡ t → Answering sent from to sh
  Fits c sent from to (Voted u b e o) = u ≡ t → (from ≡ coordinator e) × (b ≡ 0) × IsOwn t to × Own sent o × Sent sent (coordinator e) (client_of t) (Voted t 0 e o) × (is_dc c e ≡ true)
  Fits c sent from to (Ask u b) = u ≡ t → ⊥
  Fits c sent from to (Decided u o) = u ≡ t → Told c sent o
  Fits c sent from to (Finish u o) = u ≡ t → (outcome_of o ≡ Committed) × ((p : Decision) × Own sent p)
  Fits c sent from to (CatchPage e place page) = (o : Decision) → In (t, o) page → Told c sent o
  Fits c sent from to _ = Unit {0}

  -- WHAT A COORDINATOR HOLDS OF t
  abbrev pub Tallies : List Envelope → Table ℕ Standing → Type 0
  Tallies sent tally = (e : ℕ) (o : Decision) → In e (standing_for (standing_at tally 0) o) → HasTold sent e

  pub record CoordFits (c : Layout) (sent : List Envelope) (x : CoordNode) : Type 0 where
    pub accepted : (b : ℕ) (o : Decision) → found nat_cmp x.durable.accepted t ≡ Some (b, o) → (b ≡ 0) × Own sent o
    pub gathers : (g : GatherState) → In (t, g) x.volatile.gathers → (g.ballot ≡ 0) × Own sent (Commit g.body)
    pub listed : (o : Decision) → In (t, o) x.durable.outcomes → Told c sent o
    pub tally : (tally : Table ℕ Standing) → In (t, tally) x.volatile.votes → Tallies sent tally

  -- WHAT A SHARD SERVER HOLDS OF t
  pub record ShardFits (c : Layout) (sent : List Envelope) (d sh : ℕ) (x : ShardNode) : Type 0 where
    pub parts : (p : List Entry) → In (t, p) x.durable.parts → Sent sent (coordinator d) (shard_server d sh) (Prepare t p)
    pub finished : (outcome : Outcome) → found nat_cmp x.durable.finished t ≡ Some outcome → (outcome ≡ Committed) × ((o : Decision) × Own sent o)
    pub marks : (k : List ℕ) → In (k, t) x.volatile.plain ⊎ In (k, t) x.volatile.waiting → (sh ≡ shard_of c k) × Asked sent d sh k

  -- WHAT t's CLIENT HOLDS
  -- what its rows test before they go on
  pub record ClientShape (c : Layout) (x : Client) : Type 0 where
    pub committing : is_committing x.phase ≡ true → (waits_for_read x.slots ≡ true) × ((s : Slot) → In s x.slots → is_unread s.read ≡ false)
    pub undecided : (b : ℕ) (o : Decision) → is_over x.phase ≡ false → is_quorum c (standing_for (standing_at x.votes b) o) ≡ false
    pub complete : Late x.phase → (s : Slot) → In s x.slots → IsDone s.read
    pub here : x.phase ≡ Vanished → ⊥

  -- what it asked for and proposed, to all datacentres
  pub record ClientSaid (c : Layout) (sent : List Envelope) (x : Client) : Type 0 where
    pub asked : (s : Slot) (d : ℕ) → In s x.slots → is_unread s.read ≡ false → is_dc c d ≡ true → Asked sent d (shard_of c s.key) s.key
    pub proposes : (d : ℕ) → is_proposed x.phase ≡ true → is_dc c d ≡ true → Sent sent (client_of t) (coordinator d) (Propose t 0 (Commit (body_of x.slots)))
    -- what it asked for has a slot, and a read; what it proposed stays
    pub asks : (from to : Party) (k : List ℕ) → Sent sent from to (ReadAsk t k) → Has IsBegun k x.slots
    pub proposed : (from to : Party) (o : Decision) → Sent sent from to (Propose t 0 o) → (o ≡ Commit (body_of x.slots)) × Late x.phase
    pub outcome : (o : Decision) → x.outcome ≡ Some o → Own sent o
    pub ended : is_done x.phase ≡ true → (o : Decision) × (x.outcome ≡ Some o)

  -- WHAT CAME TO t's CLIENT: a vote is counted, unless the client is over
  abbrev pub CountsVote : Client → ℕ → ℕ → Decision → Type 0
  CountsVote x b d o = (is_over x.phase ≡ true) ⊎ (member nat_cmp (standing_for (standing_at x.votes b) o) d ≡ true)

  -- WHAT CAME TO A MEMBER
  -- its shards are asked, and one of them has not said yes
  pub record IsGathering (c : Layout) (sent : List Envelope) (delivered : List ℕ) (d : ℕ) (x : CoordNode) : Type 0 where
    pub gather : GatherState
    pub is : found nat_cmp x.volatile.gathers t ≡ Some gather
    pub waits : has_all c gather ≡ false
    pub asked : (sh : ℕ) → touches c gather.body sh ≡ true
        → (member nat_cmp gather.yes sh ≡ true) ⊎ Sent sent (coordinator d) (shard_server d sh) (Prepare t (part c sh gather.body))
    pub heard : (from : Party) (sh : ℕ) → touches c gather.body sh ≡ true → Came sent delivered from (coordinator d) (Prepared t sh None) → member nat_cmp gather.yes sh ≡ true

  -- no proposal came to it
  pub record IsFresh (sent : List Envelope) (delivered : List ℕ) (d : ℕ) : Type 0 where
    pub proposal : (from : Party) (b : ℕ) (o : Decision) → Came sent delivered from (coordinator d) (Propose t b o) → ⊥
    pub prepares : (to : Party) (p : List Entry) → Sent sent (coordinator d) to (Prepare t p) → ⊥

  abbrev pub HasListed : CoordNode → Type 0
  HasListed x = (o : Decision) × In (t, o) x.durable.outcomes

  -- how far a member has come with t: it was not asked, it asks its shards, it has voted, or it knows the outcome
  abbrev pub Goes : Layout → List Envelope → List ℕ → ℕ → CoordNode → Type 0
  Goes c sent delivered d x = IsFresh sent delivered d ⊎ (IsGathering c sent delivered d x ⊎ (HasTold sent d ⊎ HasListed x))

  -- a read that came to a shard of a member is granted, or complete
  abbrev pub Answers : List Envelope → Client → ℕ → ℕ → List ℕ → Type 0
  Answers sent x d sh k = ((version : ℕ) × (value : Option (List ℕ)) × Sent sent (shard_server d sh) (client_of t) (Granted t k d version value)) ⊎ Has IsDone k x.slots

  -- a prepare that came to it is answered with yes, or its transaction is finished
  abbrev pub SaysYes : List Envelope → ℕ → ℕ → ShardNode → Type 0
  SaysYes sent d sh x = Sent sent (shard_server d sh) (coordinator d) (Prepared t sh None) ⊎ (found nat_cmp x.durable.finished t ≡ Some Committed)

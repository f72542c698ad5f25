-- What holds of t at each moment of a quiet stretch, and how an event keeps it.
use Rattle.std.proofs.Common.{◌≡◌, ℕ, ◌≤◌, List, ◌++◌, refl, sym, ◌∙◌, subst, Option, Some, None, ◌⊎◌, inr, ⊎_elim}
use Rattle.std.specs.Ordering.{nat_cmp}
use Rattle.rc_ids.specs.Tables.{In, found}
use Rattle.rc_ids.specs.Cluster.{IsLayout, shard_of}
use Rattle.rc_ids.specs.declared.names.Outcome.TheVariants.{Commit as Committed}
use Rattle.rc_ids.specs.declared.names.Party.{Party}
use Rattle.rc_body.specs.declared.entry.Entry.{Entry}
use Rattle.rc_body.specs.declared.decision.Decision.{Decision}
use Rattle.rc_msg.specs.declared.msg.Envelope.{Envelope}
use Rattle.rc_msg.specs.declared.msg.Msg.{Msg}
use Rattle.rc_msg.specs.declared.msg.Msg.TheVariants.{ReadAsk, Granted, Prepare, Voted}
use Rattle.rc_record.specs.ShardState.{version_at}
use Rattle.rc_protocol.specs.Messages.{Posts, shard_server, client_of}
use Rattle.rc_protocol.specs.Client.{Client, Slot, Complete, slot_of}
use Rattle.rc_protocol.specs.Nodes.{CoordNode, ShardNode}
use Rattle.rc_runs.specs.declared.event.Event.{Event}
use Rattle.rc_runs.specs.declared.event.Event.TheVariants.{Deliver}
use Rattle.rc_runs.specs.World.{World, Parties, coord_at, shard_at, message, envelopes, delivered_after, actor}
use Rattle.rc_runs.specs.Refusals.{wrong}
use Rattle.rc_claims.specs.Quiet.{HasNone}
use Rattle.rc_agreement.proofs.Cases.{never, some_is}
use Rattle.rc_agreement.proofs.Tables.{RisesFrom}
use Rattle.rc_causes.proofs.ReadSlots.{Has}
use Rattle.rc_causes.proofs.ReadGrants.{Counts}
use Rattle.rc_quiet.proofs.Parts.{Came, IsDone, CountsVote, Goes, Answers, SaysYes}
use Rattle.rc_quiet.proofs.Ending.{in_message}
use Rattle.rc_quiet.proofs.Kept.{Kept}
use Rattle.rc_quiet.proofs.Turns.{Calm}
use Rattle.rc_quiet.proofs.Arrivals.{AreSent, are_sent, came_now, delivered_actor}
use Rattle.rc_quiet.proofs.ArrivedParts.{answered_frame, yes_frame}

-- what is so of every reached world, and of each moment of the stretch; keys are those that t has at its end
pub record Moment (members : List ℕ) (t : ℕ) (keys : List (List ℕ)) (w : Parties) : Type 0 where
  pub calm : Calm members t w
  pub layout : IsLayout w.layout
  pub apart : (u : ℕ) (x : Client) → found nat_cmp w.clients u ≡ Some x → (s : Slot) → In s x.slots → slot_of x.slots s.key ≡ Some s
  pub shards : (d : ℕ) (k : List ℕ) → In d members → (x : ShardNode) × (shard_at w d (shard_of w.layout k) ≡ Some x)
  pub rises : (d sh : ℕ) (x : ShardNode) → shard_at w d sh ≡ Some x → RisesFrom 0 x.durable.parts
  pub has_keys : (x : Client) (s : Slot) → found nat_cmp w.clients t ≡ Some x → In s x.slots → In s.key keys
  pub unprepared : (d sh : ℕ) (x : ShardNode) (u : ℕ) (p : List Entry) → In d members → shard_at w d sh ≡ Some x → found nat_cmp x.durable.parts u ≡ Some p → (u ≡ t → ⊥) → HasNone keys p
  pub fresh : (d sh : ℕ) (x : ShardNode) (y : Client) (s : Slot) (version : ℕ) (value : Option (List ℕ)) → In d members → shard_at w d sh ≡ Some x → found nat_cmp w.clients t ≡ Some y → In s y.slots
      → found nat_cmp x.durable.finished t ≡ None → s.read ≡ Complete version value → version_at x.durable.rows s.key ≤ version

pub record Holds (members : List ℕ) (t : ℕ) (w : Parties) (sent : List Envelope) (delivered : List ℕ) : Type 0 where
  pub kept : Kept members t w sent
  pub sent_before : AreSent sent delivered
  pub counted : (x : Client) (from : Party) (b d : ℕ) (o : Decision) → found nat_cmp w.clients t ≡ Some x → Came sent delivered from (client_of t) (Voted t b d o) → CountsVote t x b d o
  pub grants : (x : Client) (from : Party) (e version : ℕ) (k : List ℕ) (value : Option (List ℕ)) → found nat_cmp w.clients t ≡ Some x → Came sent delivered from (client_of t) (Granted t k e version value) → Has (Counts e) k x.slots
  pub answered : (x : Client) (from : Party) (d sh : ℕ) (k : List ℕ) → found nat_cmp w.clients t ≡ Some x → In d members → Came sent delivered from (shard_server d sh) (ReadAsk t k) → Answers t sent x d sh k
  pub goes : (d : ℕ) (x : CoordNode) → In d members → coord_at w d ≡ Some x → Goes t w.layout sent delivered d x
  pub yes : (from : Party) (d sh : ℕ) (p : List Entry) (x : ShardNode) → In d members → shard_at w d sh ≡ Some x → Came sent delivered from (shard_server d sh) (Prepare t p) → SaysYes t sent d sh x

-- one party acts: what is to show of the new world is what comes in the event, and what changes
module _ (members : List ℕ) (t : ℕ) (v : World) (e : Event) (ok : wrong v e ≡ None) (h : Holds members t v.parties v.sent v.delivered) (from : Party) (ms : Posts) (w : Parties) where
  abbrev pub New : Party → Party → Msg → Type 0
  New p to m = (n : ℕ) × (e ≡ Deliver n) × (message v.sent n ≡ Some (record { from = p; to = to; msg = m }))

  pub record Shows : Type 0 where
    pub kept : Kept members t w (v.sent ++ envelopes from ms)
    -- t's client before the event, and after it
    pub client : (y : Client) → found nat_cmp w.clients t ≡ Some y → (found nat_cmp v.parties.clients t ≡ None) ⊎ ((x : Client) × (found nat_cmp v.parties.clients t ≡ Some x)
        × ((b d : ℕ) (o : Decision) → CountsVote t x b d o → CountsVote t y b d o) × ((k : List ℕ) (n : ℕ) → Has (Counts n) k x.slots → Has (Counts n) k y.slots) × ((k : List ℕ) → Has IsDone k x.slots → Has IsDone k y.slots))
    pub new_vote : (y : Client) (p : Party) (b d : ℕ) (o : Decision) → found nat_cmp w.clients t ≡ Some y → New p (client_of t) (Voted t b d o) → CountsVote t y b d o
    pub new_grant : (y : Client) (p : Party) (n version : ℕ) (k : List ℕ) (value : Option (List ℕ)) → found nat_cmp w.clients t ≡ Some y → New p (client_of t) (Granted t k n version value) → Has (Counts n) k y.slots
    pub new_read : (y : Client) (p : Party) (d sh : ℕ) (k : List ℕ) → found nat_cmp w.clients t ≡ Some y → In d members → New p (shard_server d sh) (ReadAsk t k) → Answers t (v.sent ++ envelopes from ms) y d sh k
    pub goes : (d : ℕ) (x : CoordNode) → In d members → coord_at w d ≡ Some x → Goes t w.layout (v.sent ++ envelopes from ms) (delivered_after v.delivered e) d x
    pub shard : (d sh : ℕ) (y : ShardNode) → In d members → shard_at w d sh ≡ Some y → (x : ShardNode) × (shard_at v.parties d sh ≡ Some x) × (found nat_cmp x.durable.finished t ≡ Some Committed → found nat_cmp y.durable.finished t ≡ Some Committed)
    pub new_prepare : (p : Party) (d sh : ℕ) (q : List Entry) (y : ShardNode) → In d members → shard_at w d sh ≡ Some y → New p (shard_server d sh) (Prepare t q) → SaysYes t (v.sent ++ envelopes from ms) d sh y

  came : (p to : Party) (m : Msg) → Came (v.sent ++ envelopes from ms) (delivered_after v.delivered e) p to m → Came v.sent v.delivered p to m ⊎ New p to m
  came p to m c = came_now v e ok (envelopes from ms) h.sent_before p to m c

  pub shown : Shows → Holds members t w (v.sent ++ envelopes from ms) (delivered_after v.delivered e)
  shown s =
      record {
        kept = s.kept;
        sent_before = are_sent v e ok (envelopes from ms) h.sent_before;
        counted = λ y p b d o is c. ⊎_elim
            (λ old. ⊎_elim (λ none. absurd (no_vote p b d o none old)) (λ x. x.2 b d o (h.counted x.0 p b d o x.1 old)) (s.client y is))
            (λ new. s.new_vote y p b d o is new) (came p (client_of t) (Voted t b d o) c);
        grants = λ y p n version k value is c. ⊎_elim
            (λ old. ⊎_elim (λ none. absurd (no_grant p n version k value none old)) (λ x. x.3 k n (h.grants x.0 p n version k value x.1 old)) (s.client y is))
            (λ new. s.new_grant y p n version k value is new) (came p (client_of t) (Granted t k n version value) c);
        answered = λ y p d sh k is m c. ⊎_elim
            (λ old. answered_frame members t v e ok h.kept h.sent_before from ms y
            (λ x at q g. ⊎_elim (λ none. never x (sym none ∙ at)) (λ z. z.4 q (subst (λ (n : Client). Has IsDone q n.slots) (some_is x z.0 (sym at ∙ z.1)) g)) (s.client y is))
            d sh k (λ x at. h.answered x p d sh k at m old) p old)
            (λ new. s.new_read y p d sh k is m new) (came p (shard_server d sh) (ReadAsk t k) c);
        goes = s.goes;
        yes = λ p d sh q y m is c. ⊎_elim
            (λ old. let x = s.shard d sh y m is in yes_frame members t v e ok h.kept h.sent_before from ms d sh x.0 y x.2 (h.yes p d sh q x.0 m x.1 old))
            (λ new. s.new_prepare p d sh q y m is new) (came p (shard_server d sh) (Prepare t q) c);
      }
    where
      -- nothing comes to a client that has not begun
      no_vote : (p : Party) (b d : ℕ) (o : Decision) → found nat_cmp v.parties.clients t ≡ None → Came v.sent v.delivered p (client_of t) (Voted t b d o) → ⊥
      no_vote p b d o none c = h.kept.unproposed none _ _ o (h.kept.fits _ (in_message v.sent c.0 _ c.2) refl).3.1.1

      no_grant : (p : Party) (n version : ℕ) (k : List ℕ) (value : Option (List ℕ)) → found nat_cmp v.parties.clients t ≡ None → Came v.sent v.delivered p (client_of t) (Granted t k n version value) → ⊥
      no_grant p n version k value none c = h.kept.unasked none _ _ k (h.kept.fits _ (in_message v.sent c.0 _ c.2) refl).2

  -- WHO DOES NOT ACT
  -- what comes, comes to the one who acts
  pub no_other : actor v.sent e ≡ from → (to p : Party) (m : Msg) → (from ≡ to → ⊥) → New p to m → ⊥
  no_other acts to p m n new = n (sym acts ∙ delivered_actor v.sent e new.0 p to m new.1 new.2)

  -- t's client is as it was
  pub same_client : found nat_cmp w.clients t ≡ found nat_cmp v.parties.clients t → (y : Client) → found nat_cmp w.clients t ≡ Some y → (found nat_cmp v.parties.clients t ≡ None) ⊎ ((x : Client) × (found nat_cmp v.parties.clients t ≡ Some x)
      × ((b d : ℕ) (o : Decision) → CountsVote t x b d o → CountsVote t y b d o) × ((k : List ℕ) (n : ℕ) → Has (Counts n) k x.slots → Has (Counts n) k y.slots) × ((k : List ℕ) → Has IsDone k x.slots → Has IsDone k y.slots))
  same_client same y is = inr (y, sym same ∙ is, (λ b d o c. c), (λ k n c. c), (λ k c. c))

-- At the end of a quiet stretch: what is kept, and the deliveries, leave the client no other phase than done.
use Rattle.std.proofs.Common.{◌≡◌, ℕ, zero, suc, List, [], ◌∷◌, refl, sym, ap, ◌∙◌, subst, true, false, Option, Some, None, ◌⊎◌, inl, inr, ⊎_elim, true≢false}
use Rattle.std.specs.Ordering.{nat_cmp}
use Rattle.rc_ids.specs.Tables.{In, found, member}
use Rattle.rc_ids.specs.Cluster.{is_quorum, is_dc}
use Rattle.rc_ids.specs.Quorum.{QuorumLaws}
use Rattle.rc_ids.proofs.QuorumFacts.{in-member}
use Rattle.rc_ids.specs.declared.names.Outcome.TheVariants.{Commit as Committed}
use Rattle.rc_ids.specs.declared.names.Party.{Party}
use Rattle.rc_body.specs.Bodies.{part, touches}
use Rattle.rc_body.specs.declared.entry.Entry.{Entry}
use Rattle.rc_body.specs.declared.decision.Decision.{Decision}
use Rattle.rc_body.specs.declared.decision.Decision.TheVariants.{Commit}
use Rattle.rc_body.specs.declared.reason.Reason.{Reason}
use Rattle.rc_msg.specs.declared.msg.Msg.{Msg}
use Rattle.rc_msg.specs.declared.msg.Msg.TheVariants.{ReadAsk, Granted, Propose, Prepare, Prepared, Voted}
use Rattle.rc_msg.specs.declared.msg.Envelope.{Envelope}
use Rattle.rc_protocol.specs.Messages.{coordinator, shard_server, client_of}
use Rattle.rc_protocol.specs.Coordinator.{GatherState, has_all, standing_for, standing_at}
use Rattle.rc_protocol.specs.Client.{Client, Slot, Phase, Open, Committing, Proposed, Done, Vanished, KeyRead, NotRead, UnderWay, Complete, is_done, is_over, is_committing, is_proposed, is_under_way, is_unread, body_of, granted_by, grants_of, slot_of}
use Rattle.rc_protocol.specs.Nodes.{CoordNode, ShardNode}
use Rattle.rc_runs.specs.World.{World, coord_at, shard_at, message}
use Rattle.rc_claims.specs.Quiet.{AreDelivered, HasCommitted, Asks, Grants, Proposes, Prepares, Answers, Votes}
use Rattle.rc_agreement.proofs.Cases.{some_is}
use Rattle.rc_agreement.proofs.Lists.{any_of}
use Rattle.rc_agreement.proofs.Tables.{got_in}
use Rattle.rc_causes.proofs.ReadSlots.{Has}
use Rattle.rc_causes.proofs.ReadGrants.{Counts}
use Rattle.rc_quiet.proofs.Parts.{Sent, Came, IsDone, HasTold, Voters, Fits, CoordFits, ClientShape, ClientSaid, CountsVote, IsGathering, HasListed, Goes, Answers as IsAnswered, SaysYes}
use Rattle.rc_quiet.proofs.Needs.{Delivered, delivered, at_number, own}

-- what stands at this moment
pub record Known (members : List ℕ) (t : ℕ) (v : World) (x : Client) : Type 0 where
  pub is : found nat_cmp v.parties.clients t ≡ Some x
  pub shape : ClientShape t v.parties.layout x
  pub apart : (s : Slot) → In s x.slots → slot_of x.slots s.key ≡ Some s
  pub few : (s : Slot) → In s x.slots → is_under_way s.read ≡ true → is_quorum v.parties.layout (granted_by (grants_of s.read)) ≡ false
  pub said : ClientSaid t v.parties.layout v.sent x
  pub fits : (e : Envelope) → In e v.sent → Fits t v.parties.layout v.sent e.from e.to e.msg
  pub nodes : (d : ℕ) (y : CoordNode) → coord_at v.parties d ≡ Some y → CoordFits t v.parties.layout v.sent y
  -- what came
  pub counted : (from : Party) (b d : ℕ) (o : Decision) → Came v.sent v.delivered from (client_of t) (Voted t b d o) → CountsVote t x b d o
  pub kept : (from : Party) (e version : ℕ) (k : List ℕ) (value : Option (List ℕ)) → Came v.sent v.delivered from (client_of t) (Granted t k e version value) → Has (Counts e) k x.slots
  pub answered : (from : Party) (d sh : ℕ) (k : List ℕ) → In d members → Came v.sent v.delivered from (shard_server d sh) (ReadAsk t k) → IsAnswered t v.sent x d sh k
  pub goes : (d : ℕ) (y : CoordNode) → In d members → coord_at v.parties d ≡ Some y → Goes t v.parties.layout v.sent v.delivered d y
  pub yes : (from : Party) (d sh : ℕ) (p : List Entry) (z : ShardNode) → In d members → shard_at v.parties d sh ≡ Some z → Came v.sent v.delivered from (shard_server d sh) (Prepare t p) → SaysYes t v.sent d sh z
  pub never_no : (to : Party) (d sh n : ℕ) (reason : Reason) → In d members → Sent v.sent (shard_server d sh) to (Prepared t n (Some reason)) → ⊥
  pub finished : (d sh : ℕ) (y : CoordNode) (z : ShardNode) → In d members → coord_at v.parties d ≡ Some y → shard_at v.parties d sh ≡ Some z → found nat_cmp z.durable.finished t ≡ Some Committed → HasListed t y
  -- of the cluster
  pub quorum : is_quorum v.parties.layout members ≡ true
  pub laws : QuorumLaws v.parties.layout
  pub dcs : (d : ℕ) → In d members → is_dc v.parties.layout d ≡ true
  pub coords : (d : ℕ) → In d members → (y : CoordNode) × (coord_at v.parties d ≡ Some y)
  pub shards : (d sh : ℕ) (body : List Entry) → In d members → touches v.parties.layout body sh ≡ true → (y : ShardNode) × (shard_at v.parties d sh ≡ Some y)
  pub missing : (g : GatherState) → has_all v.parties.layout g ≡ false → (sh : ℕ) × (touches v.parties.layout g.body sh ≡ true) × (member nat_cmp g.yes sh ≡ false)
  pub begun : x.phase ≡ Open → ⊥

-- AS IT CAME
pub in_message : (sent : List Envelope) (n : ℕ) (e : Envelope) → message sent n ≡ Some e → In e sent
in_message sent zero e h = absurd (cc)
in_message sent (suc n) e h = got_in sent n e (sym (at_number sent n) ∙ h)

module _ (v : World) (t : ℕ) where
  -- the delivered message, in these words
  said_by : (n : ℕ) (e : Envelope) (from to : Party) (m : Msg) → message v.sent n ≡ Some e → e.from ≡ from → e.to ≡ to → e.msg ≡ m → message v.sent n ≡ Some (record { from = from; to = to; msg = m })
  said_by n e from to m is f g h = is ∙ (λ i. Some (record { from = f i; to = g i; msg = h i }))

-- each has A, or one gives B
all_or_one : (A : ℕ → Type 0) (B : Type 0) (ds : List ℕ) → ((d : ℕ) → In d ds → A d ⊎ B) → ((d : ℕ) → In d ds → A d) ⊎ B
all_or_one A B [] h = inl (λ d i. absurd i)
all_or_one A B (x ∷ ds) h = ⊎_elim (λ a. ⊎_elim (λ more. inl (λ d i. ⊎_elim (λ (e : x ≡ d). subst A e a) (λ j. more d j) i)) (λ b. inr b) (all_or_one A B ds (λ d i. h d (inr i)))) (λ b. inr b) (h x (inl refl))

under_read : (r : KeyRead) → is_under_way r ≡ true → is_unread r ≡ false
under_read NotRead h = absurd (true≢false (sym h))
under_read (UnderWay p gs) h = refl
under_read (Complete n y) h = refl

-- what counts of a read that is under way was granted; and such a read is not complete
counted_under : (e : ℕ) (r : KeyRead) → is_under_way r ≡ true → Counts e r → In e (granted_by (grants_of r))
counted_under e NotRead h k = absurd k
counted_under e (UnderWay p gs) h k = k
counted_under e (Complete n y) h k = absurd (true≢false (sym h))

not_done : (r : KeyRead) → is_under_way r ≡ true → IsDone r → ⊥
not_done NotRead h k = k
not_done (UnderWay p gs) h k = k
not_done (Complete n y) h k = true≢false (sym h)

module _ (members : List ℕ) (t : ℕ) (v : World) (x : Client) (known : Known members t v x) (all : AreDelivered v members t) where
  -- COMMITTING: a read is under way that all of M have granted
  slot_same : (R : KeyRead → Type 0) (s : Slot) → In s x.slots → Has R s.key x.slots → R s.read
  slot_same R s i h = subst (λ (z : Slot). R z.read) (some_is h.slot s (sym h.at ∙ known.apart s i)) h.holds

  -- the grant of d for this slot is kept
  kept : (s : Slot) → In s x.slots → is_under_way s.read ≡ true → (d : ℕ) → In d members → (a : ℕ) → ((version : ℕ) × (value : Option (List ℕ)) × Sent v.sent (shard_server d a) (client_of t) (Granted t s.key d version value))
      → In d (granted_by (grants_of s.read))
  kept s i under d m a g =
      let b = delivered v members t (Grants d s.key) _ all g.2 (own t (Grants d s.key)) m in
      let l = b.label in
      let came : Sent v.sent (shard_server d l.0) b.e.to (Granted t s.key l.1 l.2 l.3) =
      in_message v.sent b.number _ (said_by v t b.number b.e (shard_server d l.0) b.e.to (Granted t s.key l.1 l.2 l.3) b.is l.4 refl l.5) in
      let who = known.fits _ came refl in
      let from_it : shard_server d l.0 ≡ shard_server l.1 _ = who.1 in
      let n : l.1 ≡ d = (cc) in
      let k = known.kept b.e.from l.1 l.2 s.key l.3 (b.number, b.delivered, said_by v t b.number b.e b.e.from (client_of t) (Granted t s.key l.1 l.2 l.3) b.is refl who.0 l.5) in
      subst (λ (z : ℕ). In z (granted_by (grants_of s.read))) n (counted_under l.1 s.read under (slot_same (Counts l.1) s i k))

  granted : (s : Slot) → In s x.slots → is_under_way s.read ≡ true → (d : ℕ) → In d members → In d (granted_by (grants_of s.read))
  granted s i under d m =
      let asked = known.said.asked s d i (under_read s.read under) (known.dcs d m) in
      let a = delivered v members t (Asks d s.key) _ all asked (own t (Asks d s.key)) m in
      ⊎_elim (kept s i under d m a.label.0) (λ h. absurd (not_done s.read under (slot_same IsDone s i h)))
      (known.answered a.e.from d a.label.0 s.key m (a.number, a.delivered, said_by v t a.number a.e a.e.from (shard_server d a.label.0) (ReadAsk t s.key) a.is refl a.label.1 a.label.2))

  not_committing : x.phase ≡ Committing → ⊥
  not_committing p =
      let w = known.shape.committing (ap is_committing p) in
      let s = any_of (λ (z : Slot). is_under_way z.read) x.slots w.0 in
      true≢false (sym (known.laws.more members (granted_by (grants_of s.0.read)) (granted s.0 s.1 s.2) known.quorum) ∙ known.few s.0 s.1 s.2)

  -- PROPOSED: a quorum has told the client its votes
  abbrev body : List Entry
  body = body_of x.slots

  by_list : (d : ℕ) (y : CoordNode) → coord_at v.parties d ≡ Some y → HasListed t y → Voters t v.parties.layout v.sent
  by_list d y at h = ((known.nodes d y at).listed h.0 h.1).1

  -- d gathers: no
  gathering : (d : ℕ) (y : CoordNode) → In d members → coord_at v.parties d ≡ Some y → IsGathering t v.parties.layout v.sent v.delivered d y → Voters t v.parties.layout v.sent
  gathering d y m at g =
      let s = known.missing g.gather g.waits in
      ⊎_elim (λ said. absurd (true≢false (sym said ∙ s.2))) (asked s.0 s.1 s.2) (g.asked s.0 s.1)
    where
      answered : (sh : ℕ) → touches v.parties.layout g.gather.body sh ≡ true → member nat_cmp g.gather.yes sh ≡ false → Sent v.sent (shard_server d sh) (coordinator d) (Prepared t sh None) → Voters t v.parties.layout v.sent
      answered sh i missed said =
          let b = delivered v members t (Answers d sh) _ all said (own t (Answers d sh)) m in
          let l = b.label in
          let came : Sent v.sent (shard_server d sh) b.e.to (Prepared t l.0 l.1) = in_message v.sent b.number _ (said_by v t b.number b.e (shard_server d sh) b.e.to (Prepared t l.0 l.1) b.is l.2 refl l.3) in
          let who = known.fits _ came refl in
          let from_it : shard_server d sh ≡ shard_server who.dc l.0 = who.from_it in
          let n : l.0 ≡ sh = (cc) in
          let e : who.dc ≡ d = (cc) in
          by l.1 b (l.3 ∙ ap (λ (z : ℕ). Prepared t z l.1) n) (who.to_it ∙ ap coordinator e) came
        where
          by : (reason : Option Reason) (b : Delivered v t (Answers d sh)) → b.e.msg ≡ Prepared t sh reason → b.e.to ≡ coordinator d → Sent v.sent (shard_server d sh) b.e.to (Prepared t b.label.0 reason) → Voters t v.parties.layout v.sent
          by None b msg to said2 = absurd (true≢false (sym (g.heard b.e.from sh i (b.number, b.delivered, said_by v t b.number b.e b.e.from (coordinator d) (Prepared t sh None) b.is refl to msg)) ∙ missed))
          by (Some r) b msg to said2 = absurd (known.never_no b.e.to d sh b.label.0 r m said2)

      asked : (sh : ℕ) → touches v.parties.layout g.gather.body sh ≡ true → member nat_cmp g.gather.yes sh ≡ false
          → Sent v.sent (coordinator d) (shard_server d sh) (Prepare t (part v.parties.layout sh g.gather.body)) → Voters t v.parties.layout v.sent
      asked sh i missed said =
          let b = delivered v members t (Prepares d sh) _ all said (own t (Prepares d sh)) m in
          let l = b.label in
          let z = known.shards d sh g.gather.body m i in
          ⊎_elim (answered sh i missed) (λ f. by_list d y at (known.finished d sh y z.0 m at z.1 f))
          (known.yes b.e.from d sh l.0 z.0 m z.1 (b.number, b.delivered, said_by v t b.number b.e b.e.from (shard_server d sh) (Prepare t l.0) b.is refl l.1 l.2))

  each_told : x.phase ≡ Proposed → (d : ℕ) → In d members → HasTold t v.sent d ⊎ Voters t v.parties.layout v.sent
  each_told p d m =
      let b = delivered v members t (Proposes d) _ all (known.said.proposes d (ap is_proposed p) (known.dcs d m)) (own t (Proposes d)) m in
      let l = b.label in
      let y = known.coords d m in
      ⊎_elim (λ f. absurd (f.proposal b.e.from l.0 l.1 (b.number, b.delivered, said_by v t b.number b.e b.e.from (coordinator d) (Propose t l.0 l.1) b.is refl l.2 l.3)))
      (λ more. ⊎_elim (λ g. inr (gathering d y.0 m y.1 g)) (λ last. ⊎_elim (λ w. inl w) (λ h. inr (by_list d y.0 y.1 h)) last) more)
      (known.goes d y.0 m y.1)

  voters : x.phase ≡ Proposed → Voters t v.parties.layout v.sent
  voters p = ⊎_elim (λ each. record { set = members; enough = known.quorum; each = each }) (λ w. w) (all_or_one (HasTold t v.sent) (Voters t v.parties.layout v.sent) members (each_told p))

  not_proposed : x.phase ≡ Proposed → ⊥
  not_proposed p =
      let w = voters p in
      let over : is_over x.phase ≡ false = ap is_over p in
      let full = known.laws.more w.set (standing_for (standing_at x.votes 0) (Commit body)) (λ d i. counted over d (w.each d i)) w.enough in
      true≢false (sym full ∙ known.shape.undecided 0 (Commit body) over)
    where
      counted : is_over x.phase ≡ false → (d : ℕ) → HasTold t v.sent d → In d (standing_for (standing_at x.votes 0) (Commit body))
      counted over d told =
          let b = delivered v members t (Votes d) _ all told.1 (own t (Votes d)) tt in
          let l = b.label in
          let came : Sent v.sent (coordinator d) (client_of l.0) (Voted t l.1 l.2 l.3) = in_message v.sent b.number _ (said_by v t b.number b.e (coordinator d) (client_of l.0) (Voted t l.1 l.2 l.3) b.is l.4 l.5 l.6) in
          let who = known.fits _ came refl in
          let from_it : coordinator d ≡ coordinator l.2 = who.0 in
          let e : l.2 ≡ d = (cc) in
          let z = who.1 in
          let mine = who.2 in
          let o = (known.said.proposed _ _ l.3 who.3.1.1).0 in
          ⊎_elim (λ f. absurd (true≢false (sym f ∙ over))) (λ h. in-member (standing_for (standing_at x.votes 0) (Commit body)) d h)
          (known.counted (coordinator d) 0 d (Commit body)
          (b.number, b.delivered, said_by v t b.number b.e (coordinator d) (client_of t) (Voted t 0 d (Commit body)) b.is l.4 (l.5 ∙ ap client_of mine) (l.6 ∙ (λ i. Voted t (z i) (e i) (o i)))))

  pub ends : HasCommitted v t
  ends = by x.phase refl
    where
      by : (p : Phase) → x.phase ≡ p → HasCommitted v t
      by Open e = absurd (known.begun e)
      by Committing e = absurd (not_committing e)
      by Proposed e = absurd (not_proposed e)
      by Done e =
          let d : is_done x.phase ≡ true = ap is_done e in
          let o = known.said.ended d in
          let own_it = known.said.outcome o.0 o.1 in
          record { client = x; is = known.is; done = d; outcome = o.1 ∙ ap Some (known.said.proposed _ _ o.0 own_it.1.1).0 }
      by Vanished e = absurd (known.shape.here e)

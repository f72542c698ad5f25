-- What an event keeps of t, where one party acts: it says only what fits, and what it holds then fits.
use Rattle.std.proofs.Common.{◌≡◌, ℕ, List, ◌++◌, refl, sym, ap, ◌∙◌, subst, Option, Some, None, ◌⊎◌, ⊎_elim}
use Rattle.std.specs.Ordering.{nat_cmp}
use Rattle.rc_ids.specs.Tables.{In, found, put}
use Rattle.rc_ids.specs.declared.names.Party.{Party}
use Rattle.rc_body.specs.declared.decision.Decision.{Decision}
use Rattle.rc_body.specs.declared.reason.Reason.{Reason}
use Rattle.rc_msg.specs.declared.msg.Envelope.{Envelope}
use Rattle.rc_msg.specs.declared.msg.Msg.TheVariants.{ReadAsk, Propose, Prepared}
use Rattle.rc_record.specs.declared.record.Record.{Record}
use Rattle.rc_record.specs.CoordState.{promise_of}
use Rattle.rc_protocol.specs.Messages.{Posts, coordinator, shard_server, client_of}
use Rattle.rc_protocol.specs.Client.{Client, new_client}
use Rattle.rc_protocol.specs.Nodes.{CoordNode, ShardNode}
use Rattle.rc_runs.specs.World.{Parties, coord_at, shard_at, envelopes, replaced, with_client, with_coord, with_shard, with_new_client}
use Rattle.rc_agreement.proofs.Cases.{never, some_is, nat_dec}
use Rattle.rc_agreement.proofs.Tables.{put_cases, set_cases}
use Rattle.rc_agreement.proofs.Places.{coord_set, coord_set_other, shard_set, shard_set_other}
use Rattle.rc_agreement.proofs.Sends.{EachTo, in_sent}
use Rattle.rc_quiet.proofs.Parts.{Sent, Fits, CoordFits, ShardFits, ClientShape, ClientSaid}
use Rattle.rc_quiet.proofs.Growing.{more_in, own_on, fits_on, coord_on, shard_on}
use Rattle.rc_quiet.proofs.MemberShards.{NotNo}

pub record Kept (members : List ℕ) (t : ℕ) (w : Parties) (sent : List Envelope) : Type 0 where
  pub fits : (e : Envelope) → In e sent → Fits t w.layout sent e.from e.to e.msg
  pub coords : (d : ℕ) (x : CoordNode) → coord_at w d ≡ Some x → CoordFits t w.layout sent x
  pub shards : (d sh : ℕ) (x : ShardNode) → shard_at w d sh ≡ Some x → ShardFits t w.layout sent d sh x
  pub shape : (x : Client) → found nat_cmp w.clients t ≡ Some x → ClientShape t w.layout x
  pub said : (x : Client) → found nat_cmp w.clients t ≡ Some x → ClientSaid t w.layout sent x
  -- before it begins it asks for nothing and proposes nothing
  pub unasked : found nat_cmp w.clients t ≡ None → (from to : Party) (k : List ℕ) → Sent sent from to (ReadAsk t k) → ⊥
  pub unproposed : found nat_cmp w.clients t ≡ None → (from to : Party) (o : Decision) → Sent sent from to (Propose t 0 o) → ⊥
  -- members promise nothing, lose no lock of it, and never say no to it
  pub low : (d : ℕ) (x : CoordNode) → In d members → coord_at w d ≡ Some x → promise_of x.durable.promises t ≡ 0
  pub lost : (d sh : ℕ) (x : ShardNode) (k : List ℕ) → In d members → shard_at w d sh ≡ Some x → In (k, t) x.volatile.lost → ⊥
  pub never_no : (to : Party) (d sh n : ℕ) (reason : Reason) → In d members → Sent sent (shard_server d sh) to (Prepared t n (Some reason)) → ⊥

module _ (members : List ℕ) (t : ℕ) (w : Parties) (sent : List Envelope) (kept : Kept members t w sent) where
  -- MORE MESSAGES
  module _ (from : Party) (ms : Posts) where
    abbrev now : List Envelope
    now = sent ++ envelopes from ms

    all : (e : Envelope) → In e sent → In e (sent ++ envelopes from ms)
    all e i = more_in sent from ms e i

    pub fits_more : EachTo (Fits t w.layout (sent ++ envelopes from ms) from) ms → (e : Envelope) → In e (sent ++ envelopes from ms) → Fits t w.layout (sent ++ envelopes from ms) e.from e.to e.msg
    fits_more says e i =
        ⊎_elim
        (λ old. fits_on t w.layout sent now all e.from e.to e.msg (kept.fits e old))
        (λ (new : In (e.to, e.msg) ms × (e.from ≡ from)). subst (λ (p : Party). Fits t w.layout now p e.to e.msg) (sym new.1) (says.each e.to e.msg new.0))
        (in_sent sent from ms e i)

    -- by one who is not t's client: it asks for no read of t, and proposes nothing of t
    module _ (says : EachTo (Fits t w.layout (sent ++ envelopes from ms) from) ms) (other : from ≡ client_of t → ⊥) where
      ask_old : (p q : Party) (k : List ℕ) → Sent now p q (ReadAsk t k) → Sent sent p q (ReadAsk t k)
      ask_old p q k i = ⊎_elim (λ old. old) (λ (new : In (q, ReadAsk t k) ms × (p ≡ from)). absurd (other (says.each q (ReadAsk t k) new.0 refl).0)) (in_sent sent from ms _ i)

      propose_old : (p q : Party) (o : Decision) → Sent now p q (Propose t 0 o) → Sent sent p q (Propose t 0 o)
      propose_old p q o i = ⊎_elim (λ old. old) (λ (new : In (q, Propose t 0 o) ms × (p ≡ from)). absurd (other (says.each q (Propose t 0 o) new.0 refl).0)) (in_sent sent from ms _ i)

      said_more : (x : Client) → ClientSaid t w.layout sent x → ClientSaid t w.layout now x
      said_more x h =
          record {
            asked = λ s d i n dc. all _ (h.asked s d i n dc);
            proposes = λ d is dc. all _ (h.proposes d is dc);
            asks = λ p q k i. h.asks p q k (ask_old p q k i);
            proposed = λ p q o i. h.proposed p q o (propose_old p q o i);
            outcome = λ o is. own_on t w.layout sent now all o (h.outcome o is);
            ended = h.ended;
          }

    no_more : (p : Party) (d sh n : ℕ) (reason : Reason) → (from ≡ shard_server d sh → In (p, Prepared t n (Some reason)) ms → ⊥) → In d members → Sent now (shard_server d sh) p (Prepared t n (Some reason)) → ⊥
    no_more p d sh n reason none m i = ⊎_elim (λ old. kept.never_no p d sh n reason m old) (λ (new : In (p, Prepared t n (Some reason)) ms × (shard_server d sh ≡ from)). none (sym new.1) new.0) (in_sent sent from ms _ i)

  -- A COORDINATOR CHANGES
  pub coord_changes : (d : ℕ) (x y : CoordNode) (r : Option Record) (ms : Posts) → coord_at w d ≡ Some x
      → EachTo (Fits t w.layout (sent ++ envelopes (coordinator d) ms) (coordinator d)) ms → CoordFits t w.layout (sent ++ envelopes (coordinator d) ms) y → (In d members → promise_of y.durable.promises t ≡ 0)
      → Kept members t (with_coord w d y r) (sent ++ envelopes (coordinator d) ms)
  coord_changes d x y r ms there says new low =
      record {
        fits = fits_more (coordinator d) ms says;
        coords = λ e z is. ⊎_elim
            (λ (same : e ≡ d). subst (CoordFits t w.layout now2) (some_is y z (sym (coord_set w d x y r there) ∙ subst (λ (n : ℕ). coord_at (with_coord w d y r) n ≡ Some z) same is)) new)
            (λ (n : e ≡ d → ⊥). coord_on t w.layout sent now2 all2 z (kept.coords e z (sym (coord_set_other w d e x y r there n) ∙ is)))
            (nat_dec e d);
        shards = λ e sh z is. shard_on t w.layout sent now2 all2 e sh z (kept.shards e sh z is);
        shape = kept.shape;
        said = λ z is. said_more (coordinator d) ms says (λ e. cc) z (kept.said z is);
        unasked = λ none p q k i. kept.unasked none p q k (ask_old (coordinator d) ms says (λ e. cc) p q k i);
        unproposed = λ none p q o i. kept.unproposed none p q o (propose_old (coordinator d) ms says (λ e. cc) p q o i);
        low = λ e z m is. ⊎_elim
            (λ (same : e ≡ d).
            subst (λ (n : CoordNode). promise_of n.durable.promises t ≡ 0) (some_is y z (sym (coord_set w d x y r there) ∙ subst (λ (n : ℕ). coord_at (with_coord w d y r) n ≡ Some z) same is)) (low (subst (λ (n : ℕ). In n members) same m)))
            (λ (n : e ≡ d → ⊥). kept.low e z m (sym (coord_set_other w d e x y r there n) ∙ is))
            (nat_dec e d);
        lost = kept.lost;
        never_no = λ p e sh n reason m i. no_more (coordinator d) ms p e sh n reason (λ is _. cc) m i;
      }
    where
      now2 : List Envelope
      now2 = sent ++ envelopes (coordinator d) ms

      all2 : (e : Envelope) → In e sent → In e (sent ++ envelopes (coordinator d) ms)
      all2 e i = more_in sent (coordinator d) ms e i

  -- A SHARD SERVER CHANGES
  pub shard_changes : (d sh : ℕ) (x y : ShardNode) (ms : Posts) → shard_at w d sh ≡ Some x
      → EachTo (Fits t w.layout (sent ++ envelopes (shard_server d sh) ms) (shard_server d sh)) ms → ShardFits t w.layout (sent ++ envelopes (shard_server d sh) ms) d sh y
      → (In d members → ((k : List ℕ) → In (k, t) y.volatile.lost → ⊥) × EachTo (NotNo t) ms)
      → Kept members t (with_shard w d sh y) (sent ++ envelopes (shard_server d sh) ms)
  shard_changes d sh x y ms there says new member =
      record {
        fits = fits_more (shard_server d sh) ms says;
        coords = λ e z is. coord_on t w.layout sent now2 all2 z (kept.coords e z is);
        shards = λ e eh z is. at e eh z is (λ (a b : ℕ) (n : ShardNode). ShardFits t w.layout now2 a b n) new (λ old. shard_on t w.layout sent now2 all2 e eh z (kept.shards e eh z old));
        shape = kept.shape;
        said = λ z is. said_more (shard_server d sh) ms says (λ e. cc) z (kept.said z is);
        unasked = λ none p q k i. kept.unasked none p q k (ask_old (shard_server d sh) ms says (λ e. cc) p q k i);
        unproposed = λ none p q o i. kept.unproposed none p q o (propose_old (shard_server d sh) ms says (λ e. cc) p q o i);
        low = kept.low;
        lost = λ e eh z k m is. at e eh z is (λ (a b : ℕ) (n : ShardNode). In a members → In (k, t) n.volatile.lost → ⊥) (λ i. (member i).0 k) (λ old i. kept.lost e eh z k i old) m;
        never_no = λ p e eh n reason m i. no_more (shard_server d sh) ms p e eh n reason
            (λ is j. let f : shard_server d sh ≡ shard_server e eh = is in let q : d ≡ e = (cc) in (member (subst (λ (k : ℕ). In k members) (sym q) m)).1.each p (Prepared t n (Some reason)) j refl) m i;
      }
    where
      now2 : List Envelope
      now2 = sent ++ envelopes (shard_server d sh) ms

      all2 : (e : Envelope) → In e sent → In e (sent ++ envelopes (shard_server d sh) ms)
      all2 e i = more_in sent (shard_server d sh) ms e i

      -- of the server that changed, and of any other
      at : (e eh : ℕ) (z : ShardNode) → shard_at (with_shard w d sh y) e eh ≡ Some z → (Q : ℕ → ℕ → ShardNode → Type 0) → Q d sh y → (shard_at w e eh ≡ Some z → Q e eh z) → Q e eh z
      at e eh z is Q here there2 =
          ⊎_elim
          (λ (a : e ≡ d). ⊎_elim
          (λ (b : eh ≡ sh).
          let is2 : shard_at (with_shard w d sh y) d sh ≡ Some z = subst (λ (n : ℕ × ℕ). shard_at (with_shard w d sh y) n.0 n.1 ≡ Some z) (λ i. (a i, b i)) is in
          let same : y ≡ z = some_is y z (sym (shard_set w d sh x y there) ∙ is2) in
          subst (λ (n : (ℕ × ℕ) × ShardNode). Q n.0.0 n.0.1 n.1) (λ i. ((sym a i, sym b i), same i)) here)
          (λ (n : eh ≡ sh → ⊥). there2 (sym (shard_set_other w d sh e eh x y there (λ p. n p.1)) ∙ is)) (nat_dec eh sh))
          (λ (n : e ≡ d → ⊥). there2 (sym (shard_set_other w d sh e eh x y there (λ p. n p.0)) ∙ is))
          (nat_dec e d)

  -- ANOTHER CLIENT ACTS
  pub other_acts : (u : ℕ) (x y : Client) (ms : Posts) → (u ≡ t → ⊥) → found nat_cmp w.clients u ≡ Some x → EachTo (Fits t w.layout (sent ++ envelopes (client_of u) ms) (client_of u)) ms
      → Kept members t (with_client w u y) (sent ++ envelopes (client_of u) ms)
  other_acts u x y ms n is says =
      record {
        fits = fits_more (client_of u) ms says;
        coords = λ e z at. coord_on t w.layout sent now2 all2 z (kept.coords e z at);
        shards = λ e sh z at. shard_on t w.layout sent now2 all2 e sh z (kept.shards e sh z at);
        shape = λ z at. kept.shape z (sym same ∙ at);
        said = λ z at. said_more (client_of u) ms says apart z (kept.said z (sym same ∙ at));
        unasked = λ none p q k i. kept.unasked (sym same ∙ none) p q k (ask_old (client_of u) ms says apart p q k i);
        unproposed = λ none p q o i. kept.unproposed (sym same ∙ none) p q o (propose_old (client_of u) ms says apart p q o i);
        low = kept.low;
        lost = kept.lost;
        never_no = λ p e sh m reason i j. no_more (client_of u) ms p e sh m reason (λ f _. cc) i j;
      }
    where
      now2 : List Envelope
      now2 = sent ++ envelopes (client_of u) ms

      all2 : (e : Envelope) → In e sent → In e (sent ++ envelopes (client_of u) ms)
      all2 e i = more_in sent (client_of u) ms e i

      apart : client_of u ≡ client_of t → ⊥
      apart e = let f : u ≡ t = (cc) in n f

      same : found nat_cmp (replaced w.clients u y) t ≡ found nat_cmp w.clients t
      same = ⊎_elim (λ (e : (t ≡ u) × (found nat_cmp (replaced w.clients u y) t ≡ Some y)). absurd (n (sym e.0))) (λ (e : (t ≡ u → ⊥) × (found nat_cmp (replaced w.clients u y) t ≡ found nat_cmp w.clients t)). e.1) (set_cases t u y x w.clients is)

  -- t's CLIENT ACTS
  pub own_acts : (x y : Client) (ms : Posts) → found nat_cmp w.clients t ≡ Some x → EachTo (Fits t w.layout (sent ++ envelopes (client_of t) ms) (client_of t)) ms
      → ClientShape t w.layout y → ClientSaid t w.layout (sent ++ envelopes (client_of t) ms) y → Kept members t (with_client w t y) (sent ++ envelopes (client_of t) ms)
  own_acts x y ms is says shape said =
      record {
        fits = fits_more (client_of t) ms says;
        coords = λ e z at. coord_on t w.layout sent now2 all2 z (kept.coords e z at);
        shards = λ e sh z at. shard_on t w.layout sent now2 all2 e sh z (kept.shards e sh z at);
        shape = λ z at. subst (ClientShape t w.layout) (some_is y z (sym same ∙ at)) shape;
        said = λ z at. subst (ClientSaid t w.layout now2) (some_is y z (sym same ∙ at)) said;
        unasked = λ none. never y (sym none ∙ same);
        unproposed = λ none. never y (sym none ∙ same);
        low = kept.low;
        lost = kept.lost;
        never_no = λ p e sh m reason i j. no_more (client_of t) ms p e sh m reason (λ f _. cc) i j;
      }
    where
      now2 : List Envelope
      now2 = sent ++ envelopes (client_of t) ms

      all2 : (e : Envelope) → In e sent → In e (sent ++ envelopes (client_of t) ms)
      all2 e i = more_in sent (client_of t) ms e i

      same : found nat_cmp (replaced w.clients t y) t ≡ Some y
      same = ⊎_elim (λ (e : (t ≡ t) × (found nat_cmp (replaced w.clients t y) t ≡ Some y)). e.1) (λ (e : (t ≡ t → ⊥) × (found nat_cmp (replaced w.clients t y) t ≡ found nat_cmp w.clients t)). absurd (e.0 refl)) (set_cases t t y x w.clients is)

  -- A CLIENT BEGINS
  pub begins : (u : ℕ) → found nat_cmp w.clients u ≡ None → ClientShape t w.layout new_client → Kept members t (with_new_client w u) sent
  begins u none fresh =
      record {
        fits = kept.fits;
        coords = kept.coords;
        shards = kept.shards;
        shape = λ z at. ⊎_elim (λ e. subst (ClientShape t w.layout) (some_is new_client z (sym e.1 ∙ at)) fresh) (λ e. kept.shape z (sym e.1 ∙ at)) cases;
        said = λ z at. ⊎_elim (λ e. subst (ClientSaid t w.layout sent) (some_is new_client z (sym e.1 ∙ at)) (first (ap (λ (n : ℕ). found nat_cmp w.clients n) e.0 ∙ none))) (λ e. kept.said z (sym e.1 ∙ at)) cases;
        unasked = λ n. ⊎_elim (λ e. never new_client (sym n ∙ e.1)) (λ e. kept.unasked (sym e.1 ∙ n)) cases;
        unproposed = λ n. ⊎_elim (λ e. never new_client (sym n ∙ e.1)) (λ e. kept.unproposed (sym e.1 ∙ n)) cases;
        low = kept.low;
        lost = kept.lost;
        never_no = kept.never_no;
      }
    where
      cases : ((t ≡ u) × (found nat_cmp (put nat_cmp w.clients u new_client) t ≡ Some new_client)) ⊎ ((t ≡ u → ⊥) × (found nat_cmp (put nat_cmp w.clients u new_client) t ≡ found nat_cmp w.clients t))
      cases = put_cases t u new_client w.clients

      first : found nat_cmp w.clients t ≡ None → ClientSaid t w.layout sent new_client
      first n =
          record {
            asked = λ s d i. absurd i;
            proposes = λ d is. cc;
            asks = λ p q k i. absurd (kept.unasked n p q k i);
            proposed = λ p q o i. absurd (kept.unproposed n p q o i);
            outcome = λ o is. never o is;
            ended = λ is. cc;
          }

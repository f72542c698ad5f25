-- Each act of a client in a quiet stretch keeps what fits of t.
use Rattle.std.proofs.Common.{◌≡◌, ℕ, List, [], ◌++◌, sym, ap, ◌∙◌, subst, true, Option, Some, None, ⊎_elim}
use Rattle.std.specs.Ordering.{nat_cmp}
use Rattle.std.proofs.lemmas.List.{append-nil}
use Rattle.rc_ids.specs.Tables.{In, Table, found, maybe}
use Rattle.rc_ids.specs.Cluster.{Layout, shard_of}
use Rattle.rc_ids.specs.declared.names.Party.{Party}
use Rattle.rc_body.specs.Decisions.{outcome_of}
use Rattle.rc_body.specs.declared.decision.Decision.{Decision}
use Rattle.rc_body.specs.declared.decision.Decision.TheVariants.{Commit}
use Rattle.rc_msg.specs.declared.msg.Envelope.{Envelope}
use Rattle.rc_msg.specs.declared.msg.Msg.{Msg}
use Rattle.rc_msg.specs.declared.msg.Msg.TheVariants.{ReadAsk, ReadCancel, Propose, Voted, Decided, Abandon}
use Rattle.rc_protocol.specs.Messages.{coordinator, shard_server, client_of}
use Rattle.rc_protocol.specs.Client.{Client, ClientAct, ClientRefusal, NotOpen, Slot, KeyRead, slot_of, is_open, is_proposed, body_of, client_refuses}
use Rattle.rc_protocol.specs.Acts.{ClientCause, Hears, Reads, Writes, Commits, Cancels, Retries, Vanishes, client_by_row, client_act, refusal, if_open, if_room}
use Rattle.rc_runs.specs.declared.event.Event.{Event}
use Rattle.rc_runs.specs.World.{Parties, envelopes, with_client}
use Rattle.rc_agreement.proofs.Cases.{on_cond, on_maybe, never}
use Rattle.rc_agreement.proofs.Tables.{set_itself}
use Rattle.rc_agreement.proofs.Sends.{EachTo, says_to, in_sent}
use Rattle.rc_agreement.proofs.Ballots.{Late}
use Rattle.rc_agreement.proofs.ClientRows.{Offer, Ready, client_tame}
use Rattle.rc_serial_order.proofs.ClientKeeps.{client_keeps}
use Rattle.rc_causes.proofs.ReadSlots.{Has, Stays, read_stays}
use Rattle.rc_causes.proofs.Moves.{ClientWhy}
use Rattle.rc_quiet.proofs.Parts.{Sent, IsBegun, IsDone, Own, Fits, ClientSaid}
use Rattle.rc_quiet.proofs.Ending.{in_message}
use Rattle.rc_quiet.proofs.Growing.{posted_in, more_in, own_on}
use Rattle.rc_quiet.proofs.ClientSays.{Speaks, client_says}
use Rattle.rc_quiet.proofs.ClientDoes.{Brings, DropsNone, Does, client_does}
use Rattle.rc_quiet.proofs.Kept.{Kept, other_acts, own_acts}

-- a client that does not refuse is ready for the command
pub ready_of : (x : Client) (k : ClientCause) → refusal x k ≡ None → Ready x k
ready_of x k = by k
  where
    opened : (r : Option ClientRefusal) → if_open x r ≡ None → is_open x.phase ≡ true
    opened r = on_cond (λ o. o ≡ None → is_open x.phase ≡ true) (is_open x.phase) r (Some NotOpen) (λ is _. is) (λ _ h. never _ (sym h))

    by : (k : ClientCause) → refusal x k ≡ None → Ready x k
    by (Hears m) e = tt
    by (Reads q) e = opened (if_room x q) e
    by (Writes q value) e = opened (if_room x q) e
    by Commits e = opened None e
    by (Cancels q) e = opened None e
    by Retries e = tt
    by Vanishes e = tt

-- what a client says fits
module _ (t : ℕ) (c : Layout) (now : List Envelope) (u : ℕ) (x : Client) (apart : (s : Slot) → In s x.slots → slot_of x.slots s.key ≡ Some s) (k : ClientCause) (ready : Ready x k) where
  abbrev y : Client
  y = (client_by_row c u x k).after

  fit : (to : Party) (m : Msg) → Speaks c u y.slots to m → Offer u y m → Fits t c now (client_of u) to m
  fit to (ReadAsk v q) says offer = λ e. (ap client_of (sym says.0 ∙ e), says.2)
  fit to (Propose v b o) says offer = λ e. (ap client_of (sym says ∙ e), offer.1, ap outcome_of offer.2)
  fit to (ReadCancel v q) says offer = tt
  fit to (Abandon v) says offer = tt
  fit to _ says offer = absurd says

  pub speaks_fit : EachTo (Fits t c now (client_of u)) (client_by_row c u x k).sends
  speaks_fit =
      record {
        each = λ to m i. fit to m ((client_says c u x apart k).each to m i) ((client_tame c u x k ready).says.each m (says_to (client_by_row c u x k).sends to m i));
      }

-- a read that was begun stays so, and one that is complete
pub begun_stay : (c : Layout) (T : Type 0) → Stays c T IsBegun
begun_stay c T = record { begun = λ h. h; more = λ p gs g h few. tt; done = λ p gs v y h told. tt }

pub done_stay : (c : Layout) (T : Type 0) → Stays c T IsDone
done_stay c T = record { begun = λ h. h; more = λ p gs g h few. absurd h; done = λ p gs v y h told. tt }

module _ (members : List ℕ) (t : ℕ) (w : Parties) (sent : List Envelope) (e : Event) (kept : Kept members t w sent) where
  same_party : (u : ℕ) (x : Client) → found nat_cmp w.clients u ≡ Some x → (from : Party) → Kept members t (with_client w u x) (sent ++ envelopes from [])
  same_party u x is from =
      subst (λ (cs : Table ℕ Client). Kept members t (record w { clients = cs }) (sent ++ envelopes from [])) (sym (set_itself u x w.clients is))
      (subst (λ (l : List Envelope). Kept members t w l) (sym (append-nil sent)) kept)

  -- ANOTHER CLIENT
  pub other_turn : (u : ℕ) (x : Client) (k : ClientCause) → (u ≡ t → ⊥) → found nat_cmp w.clients u ≡ Some x → ((s : Slot) → In s x.slots → slot_of x.slots s.key ≡ Some s)
      → Kept members t (with_client w u (client_act w.layout u x k).after) (sent ++ envelopes (client_of u) (client_act w.layout u x k).sends)
  other_turn u x k n is apart =
      on_maybe (λ a. Kept members t (with_client w u a.after) (sent ++ envelopes (client_of u) a.sends)) (refusal x k) (client_by_row w.layout u x k) (client_refuses x)
      (λ none. other_acts members t w sent kept u x (client_by_row w.layout u x k).after (client_by_row w.layout u x k).sends n is
      (speaks_fit t w.layout (sent ++ envelopes (client_of u) (client_by_row w.layout u x k).sends) u x apart k (ready_of x k none)))
      (λ reason _. same_party u x is (client_of u))

  -- t's CLIENT
  module _ (x : Client) (k : ClientCause) (is : found nat_cmp w.clients t ≡ Some x) (apart : (s : Slot) → In s x.slots → slot_of x.slots s.key ≡ Some s) (why : ClientWhy sent e t k) (keeps : DropsNone k) (ready : Ready x k) where
    abbrev a : ClientAct
    a = client_by_row w.layout t x k

    abbrev now : List Envelope
    now = sent ++ envelopes (client_of t) (client_by_row w.layout t x k).sends

    all : (e : Envelope) → In e sent → In e (sent ++ envelopes (client_of t) (client_by_row w.layout t x k).sends)
    all f i = more_in sent (client_of t) (client_by_row w.layout t x k).sends f i

    -- what is brought was proposed by it
    brings_own : (k : ClientCause) → ClientWhy sent e t k → (o : Decision) → Brings t k o → Own t sent o
    brings_own (Hears (Voted u b d p)) why o b2 = let i = in_message sent why.0 _ why.3 in subst (Own t sent) b2.1 (kept.fits _ i b2.0).3
    brings_own (Hears (Decided u p)) why o b2 = let i = in_message sent why.0 _ why.3 in subst (Own t sent) b2.1 (kept.fits _ i b2.0).0
    brings_own k why o b2 = absurd b2

    late : (o : Decision) → Brings t k o → Late x.phase
    late o b = ((kept.said x is).proposed _ _ o (brings_own k why o b).1.1).1

    does : Does w.layout t x (kept.shape x is) (kept.said x is).ended k (client_by_row w.layout t x k).after.phase (client_by_row w.layout t x k).after.slots (client_by_row w.layout t x k).after.votes (client_by_row w.layout t x k).after.outcome (client_by_row w.layout t x k).sends
    does = client_does w.layout t x (kept.shape x is) (kept.said x is).ended k keeps ready late

    not_cancelled : (q : List ℕ) → k ≡ Cancels q → ⊥
    not_cancelled q e = subst DropsNone e keeps

    -- reads that hold such a thing hold it after the act
    stays : (q : List ℕ) (R : KeyRead → Type 0) → Stays w.layout (Unit {0}) R → refusal x k ≡ None → Has R q x.slots → Has R q (client_by_row w.layout t x k).after.slots
    stays q R s none h =
        subst (λ (o : Option ClientRefusal). Has R q (maybe o (client_by_row w.layout t x k) (client_refuses x)).after.slots) none
        (read_stays w.layout t x q (Unit {0}) R s h k (not_cancelled q) (λ v y i. tt))

    said_after : refusal x k ≡ None → ClientSaid t w.layout (sent ++ envelopes (client_of t) (client_by_row w.layout t x k).sends) (client_by_row w.layout t x k).after
    said_after none =
        let h = kept.said x is in
        let tame = client_tame w.layout t x k ready in
        record {
          asked = λ s d i n dc. ⊎_elim
              (λ old. subst (λ (q : List ℕ). Sent now (client_of t) (shard_server d (shard_of w.layout q)) (ReadAsk t q)) old.2 (all _ (h.asked old.0 d old.1 old.3 dc)))
              (λ new. posted_in sent (client_of t) (client_by_row w.layout t x k).sends _ _ new)
              (does.asked s d i n dc);
          proposes = λ d p dc. ⊎_elim
              (λ (old : (is_proposed x.phase ≡ true) × (a.after.slots ≡ x.slots)). subst (λ (ss : List Slot). Sent now (client_of t) (coordinator d) (Propose t 0 (Commit (body_of ss)))) (sym old.1) (all _ (h.proposes d old.0 dc)))
              (λ new. posted_in sent (client_of t) (client_by_row w.layout t x k).sends _ _ new)
              (does.proposes_to d p dc);
          asks = λ p q n i. ⊎_elim
              (λ old. stays n IsBegun (begun_stay w.layout (Unit {0})) none (h.asks p q n old))
              (λ (new : In (q, ReadAsk t n) a.sends × (p ≡ client_of t)). ((client_says w.layout t x apart k).each q (ReadAsk t n) new.0).1)
              (in_sent sent (client_of t) (client_by_row w.layout t x k).sends _ i);
          proposed = λ p q o i. ⊎_elim
              (λ old. let r = h.proposed p q o old in let l = (client_keeps w.layout t x k ready).late r.1 in (r.0 ∙ ap (λ ss. Commit (body_of ss)) (sym l.1), l.0))
              (λ (new : In (q, Propose t 0 o) a.sends × (p ≡ client_of t)). let r = tame.says.each (Propose t 0 o) (says_to (client_by_row w.layout t x k).sends q (Propose t 0 o) new.0) in (r.2, subst Late (sym r.3) tt))
              (in_sent sent (client_of t) (client_by_row w.layout t x k).sends _ i);
          outcome = λ o f. ⊎_elim (λ old. own_on t w.layout sent now all o (h.outcome o old)) (λ new. own_on t w.layout sent now all o (brings_own k why o new)) (does.learned o f);
          ended = does.ends;
        }

    pub own_turn : refusal x k ≡ None → Kept members t (with_client w t (client_by_row w.layout t x k).after) (sent ++ envelopes (client_of t) (client_by_row w.layout t x k).sends)
    own_turn none =
        own_acts members t w sent kept x (client_by_row w.layout t x k).after (client_by_row w.layout t x k).sends is
        (speaks_fit t w.layout (sent ++ envelopes (client_of t) (client_by_row w.layout t x k).sends) t x apart k ready)
        (record { committing = does.committing; undecided = does.undecided; complete = does.complete; here = does.here })
        (said_after none)

  pub client_turn : (x : Client) (k : ClientCause) → found nat_cmp w.clients t ≡ Some x → ((s : Slot) → In s x.slots → slot_of x.slots s.key ≡ Some s) → ClientWhy sent e t k → DropsNone k
      → Kept members t (with_client w t (client_act w.layout t x k).after) (sent ++ envelopes (client_of t) (client_act w.layout t x k).sends)
  client_turn x k is apart why keeps =
      on_maybe (λ b. Kept members t (with_client w t b.after) (sent ++ envelopes (client_of t) b.sends)) (refusal x k) (client_by_row w.layout t x k) (client_refuses x)
      (λ none. own_turn x k is apart why keeps (ready_of x k none) none)
      (λ reason _. same_party t x is (client_of t))

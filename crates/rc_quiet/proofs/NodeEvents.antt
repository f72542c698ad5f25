-- What an event in which a node acts shows of t.
use Rattle.std.proofs.Common.{◌≡◌, ℕ, List, ◌++◌, refl, sym, ap, ◌∙◌, subst, Option, Some, None, ⊎_elim}
use Rattle.std.specs.Ordering.{nat_cmp}
use Rattle.rc_ids.specs.Tables.{In, found}
use Rattle.rc_ids.specs.declared.names.Outcome.TheVariants.{Commit as Committed}
use Rattle.rc_ids.specs.declared.names.Party.{Party}
use Rattle.rc_body.specs.declared.entry.Entry.{Entry}
use Rattle.rc_body.specs.declared.decision.Decision.{Decision}
use Rattle.rc_msg.specs.declared.msg.Msg.{Msg}
use Rattle.rc_msg.specs.declared.msg.Msg.TheVariants.{ReadAsk, Granted, Prepare, Voted, Propose}
use Rattle.rc_record.specs.declared.record.Record.{Record}
use Rattle.rc_protocol.specs.Messages.{Posts, coordinator, shard_server, client_of}
use Rattle.rc_protocol.specs.Client.{Client, Slot, Complete}
use Rattle.rc_protocol.specs.Shard.{ShardAct}
use Rattle.rc_protocol.specs.Acts.{NodeCause, Came as Comes, Catches, Takes, coord_act, shard_act}
use Rattle.rc_protocol.specs.Nodes.{CoordNode, ShardNode, coord_after, shard_after}
use Rattle.rc_runs.specs.declared.event.Event.{Event}
use Rattle.rc_runs.specs.declared.event.Event.TheVariants.{Deliver}
use Rattle.rc_runs.specs.World.{World, Parties, coord_at, shard_at, message, envelopes, delivered_after, actor, with_coord, with_shard}
use Rattle.rc_runs.specs.Refusals.{wrong}
use Rattle.rc_claims.specs.Quiet.{HasNone}
use Rattle.rc_agreement.proofs.Cases.{some_is, nat_dec}
use Rattle.rc_agreement.proofs.Places.{coord_set, coord_set_other, shard_set, shard_set_other}
use Rattle.rc_causes.proofs.Moves.{CoordWhy, ShardWhy}
use Rattle.rc_quiet.proofs.Parts.{Sent, Goes, Answers, SaysYes}
use Rattle.rc_quiet.proofs.Ending.{in_message}
use Rattle.rc_quiet.proofs.Kept.{Kept}
use Rattle.rc_quiet.proofs.MemberShards.{Passes, Taken}
use Rattle.rc_quiet.proofs.Turns.{shard_acts}
use Rattle.rc_quiet.proofs.Arrivals.{one_delivered, delivered_actor}
use Rattle.rc_quiet.proofs.ArrivedParts.{finished_still, read_comes, prepare_comes}
use Rattle.rc_quiet.proofs.MemberTurns.{goes_frame, goes_turn}
use Rattle.rc_quiet.proofs.Undisturbed.{unheld, not_lost, asked_key, prepares_pass, none_taken}
use Rattle.rc_quiet.proofs.Steps.{Moment, Holds, New, Shows, no_other, same_client}

module _ (members : List ℕ) (t : ℕ) (keys : List (List ℕ)) (v : World) (e : Event) (ok : wrong v e ≡ None) (h : Holds members t v.parties v.sent v.delivered) (moment : Moment members t keys v.parties) where
  -- A COORDINATOR
  module _ (d : ℕ) (x y : CoordNode) (r : Option Record) (ms : Posts) (there : coord_at v.parties d ≡ Some x) (acts : actor v.sent e ≡ coordinator d) (kept : Kept members t (with_coord v.parties d y r) (v.sent ++ envelopes (coordinator d) ms))
      (own : In d members → Goes t v.parties.layout (v.sent ++ envelopes (coordinator d) ms) (delivered_after v.delivered e) d y) where
    abbrev w : Parties
    w = with_coord v.parties d y r

    none : (to p : Party) (m : Msg) → (coordinator d ≡ to → ⊥) → New members t v e ok h (coordinator d) ms w p to m → ⊥
    none to p m n new = no_other members t v e ok h (coordinator d) ms (with_coord v.parties d y r) acts to p m n new

    goes : (n : ℕ) (z : CoordNode) → In n members → coord_at (with_coord v.parties d y r) n ≡ Some z → Goes t v.parties.layout (v.sent ++ envelopes (coordinator d) ms) (delivered_after v.delivered e) n z
    goes n z m is =
        ⊎_elim
        (λ (same : n ≡ d).
        let z_is : y ≡ z = some_is y z (sym (coord_set v.parties d x y r there) ∙ subst (λ (k : ℕ). coord_at (with_coord v.parties d y r) k ≡ Some z) same is) in
        subst (λ (q : ℕ × CoordNode). Goes t v.parties.layout (v.sent ++ envelopes (coordinator d) ms) (delivered_after v.delivered e) q.0 q.1) (λ i. (sym same i, z_is i)) (own (subst (λ (k : ℕ). In k members) same m)))
        (λ (apart : n ≡ d → ⊥).
        let before : coord_at v.parties n ≡ Some z = sym (coord_set_other v.parties d n x y r there apart) ∙ is in
        goes_frame members t v e ok h.kept h.sent_before n z (coordinator d) ms (λ f. let same : d ≡ n = (cc) in apart (sym same))
        (λ p k q is got. none (coordinator n) p q (λ f. let same : d ≡ n = (cc) in apart (sym same)) (k, is, got)) (h.goes n z m before))
        (nat_dec n d)

    pub coord_shows : Shows members t v e ok h (coordinator d) ms (with_coord v.parties d y r)
    coord_shows =
        record {
          kept = kept;
          client = same_client members t v e ok h (coordinator d) ms (with_coord v.parties d y r) refl;
          new_vote = λ c p b n o is new. absurd (none (client_of t) p (Voted t b n o) (λ f. cc) new);
          new_grant = λ c p n version k value is new. absurd (none (client_of t) p (Granted t k n version value) (λ f. cc) new);
          new_read = λ c p n sh k is m new. absurd (none (shard_server n sh) p (ReadAsk t k) (λ f. cc) new);
          goes = goes;
          shard = λ n sh z m is. (z, is, λ f. f);
          new_prepare = λ p n sh q z m is new. absurd (none (shard_server n sh) p (Prepare t q) (λ f. cc) new);
        }

  -- it goes on
  pub coord_goes : (d : ℕ) (x : CoordNode) → (m : In d members) → (there : coord_at v.parties d ≡ Some x) (k : NodeCause) → CoordWhy v.sent e d k
      → Goes t v.parties.layout (v.sent ++ envelopes (coordinator d) (coord_act v.parties.layout d x.durable x.volatile k).sends) (delivered_after v.delivered e) d (coord_after x (coord_act v.parties.layout d x.durable x.volatile k))
  coord_goes d x m there k why = goes_turn members t v e ok h.kept h.sent_before moment.layout d x m there k why (h.goes d x m there)

  -- A SHARD SERVER
  module _ (d sh : ℕ) (x y : ShardNode) (ms : Posts) (there : shard_at v.parties d sh ≡ Some x) (acts : actor v.sent e ≡ shard_server d sh) (kept : Kept members t (with_shard v.parties d sh y) (v.sent ++ envelopes (shard_server d sh) ms))
      (finished : In d members → found nat_cmp x.durable.finished t ≡ Some Committed → found nat_cmp y.durable.finished t ≡ Some Committed)
      (reads : (c : Client) (p : Party) (k : List ℕ) → found nat_cmp v.parties.clients t ≡ Some c → In d members → (n : ℕ) → e ≡ Deliver n → message v.sent n ≡ Some (record { from = p; to = shard_server d sh; msg = ReadAsk t k }) → Answers t (v.sent ++ envelopes (shard_server d sh) ms) c d sh k)
      (prepares : (p : Party) (q : List Entry) → In d members → (n : ℕ) → e ≡ Deliver n → message v.sent n ≡ Some (record { from = p; to = shard_server d sh; msg = Prepare t q }) → SaysYes t (v.sent ++ envelopes (shard_server d sh) ms) d sh y) where
    none_to : (to p : Party) (m : Msg) → (shard_server d sh ≡ to → ⊥) → New members t v e ok h (shard_server d sh) ms (with_shard v.parties d sh y) p to m → ⊥
    none_to to p m n new = no_other members t v e ok h (shard_server d sh) ms (with_shard v.parties d sh y) acts to p m n new

    -- who receives is the one who acts
    it_is : (n nh : ℕ) (p : Party) (m : Msg) → New members t v e ok h (shard_server d sh) ms (with_shard v.parties d sh y) p (shard_server n nh) m → (d ≡ n) × (sh ≡ nh)
    it_is n nh p m new = let f : shard_server d sh ≡ shard_server n nh = sym acts ∙ delivered_actor v.sent e new.0 p (shard_server n nh) m new.1 new.2 in ((cc), (cc))

    at : (n nh : ℕ) (z : ShardNode) → shard_at (with_shard v.parties d sh y) n nh ≡ Some z → (Q : ℕ → ℕ → ShardNode → Type 0) → Q d sh y → (shard_at v.parties n nh ≡ Some z → Q n nh z) → Q n nh z
    at n nh z is Q here other =
        ⊎_elim
        (λ (a : n ≡ d). ⊎_elim
        (λ (b : nh ≡ sh).
        let is2 : shard_at (with_shard v.parties d sh y) d sh ≡ Some z = subst (λ (q : ℕ × ℕ). shard_at (with_shard v.parties d sh y) q.0 q.1 ≡ Some z) (λ i. (a i, b i)) is in
        let same : y ≡ z = some_is y z (sym (shard_set v.parties d sh x y there) ∙ is2) in
        subst (λ (q : (ℕ × ℕ) × ShardNode). Q q.0.0 q.0.1 q.1) (λ i. ((sym a i, sym b i), same i)) here)
        (λ (k : nh ≡ sh → ⊥). other (sym (shard_set_other v.parties d sh n nh x y there (λ p. k p.1)) ∙ is)) (nat_dec nh sh))
        (λ (k : n ≡ d → ⊥). other (sym (shard_set_other v.parties d sh n nh x y there (λ p. k p.0)) ∙ is))
        (nat_dec n d)

    pub shard_shows : Shows members t v e ok h (shard_server d sh) ms (with_shard v.parties d sh y)
    shard_shows =
        record {
          kept = kept;
          client = same_client members t v e ok h (shard_server d sh) ms (with_shard v.parties d sh y) refl;
          new_vote = λ c p b n o is new. absurd (none_to (client_of t) p (Voted t b n o) (λ f. cc) new);
          new_grant = λ c p n version k value is new. absurd (none_to (client_of t) p (Granted t k n version value) (λ f. cc) new);
          new_read = λ c p n nh k is m new.
              let w = it_is n nh p (ReadAsk t k) new in
              let a = w.0 in let b = w.1 in
              subst (λ (q : ℕ × ℕ). Answers t (v.sent ++ envelopes (shard_server d sh) ms) c q.0 q.1 k) (λ i. (a i, b i))
              (reads c p k is (subst (λ (q : ℕ). In q members) (sym a) m) new.0 new.1 (subst (λ (q : ℕ × ℕ). message v.sent new.0 ≡ Some (record { from = p; to = shard_server q.0 q.1; msg = ReadAsk t k })) (λ i. (sym a i, sym b i)) new.2));
          goes = λ n z m is. goes_frame members t v e ok h.kept h.sent_before n z (shard_server d sh) ms (λ f. cc) (λ p k q i got. none_to (coordinator n) p q (λ f. cc) (k, i, got)) (h.goes n z m is);
          shard = λ n nh z m is. at n nh z is (λ (a b : ℕ) (q : ShardNode). In a members → (u : ShardNode) × (shard_at v.parties a b ≡ Some u) × (found nat_cmp u.durable.finished t ≡ Some Committed → found nat_cmp q.durable.finished t ≡ Some Committed))
              (λ k. (x, there, finished k)) (λ old k. (z, old, λ f. f)) m;
          new_prepare = λ p n nh q z m is new.
              let w = it_is n nh p (Prepare t q) new in
              let a = w.0 in let b = w.1 in
              let got : message v.sent new.0 ≡ Some (record { from = p; to = shard_server d sh; msg = Prepare t q }) = subst (λ (k : ℕ × ℕ). message v.sent new.0 ≡ Some (record { from = p; to = shard_server k.0 k.1; msg = Prepare t q })) (λ i. (sym a i, sym b i)) new.2 in
              let is2 : shard_at (with_shard v.parties d sh y) d sh ≡ Some z = subst (λ (k : ℕ × ℕ). shard_at (with_shard v.parties d sh y) k.0 k.1 ≡ Some z) (λ i. (sym a i, sym b i)) is in
              let same : y ≡ z = some_is y z (sym (shard_set v.parties d sh x y there) ∙ is2) in
              subst (λ (k : (ℕ × ℕ) × ShardNode). SaysYes t (v.sent ++ envelopes (shard_server d sh) ms) k.0.0 k.0.1 k.1) (λ i. ((a i, b i), same i)) (prepares p q (subst (λ (k : ℕ). In k members) (sym a) m) new.0 new.1 got);
        }

  -- t's client where it asked or proposed
  asker : (from to : Party) (k : List ℕ) → Sent v.sent from to (ReadAsk t k) → (c : Client) × (found nat_cmp v.parties.clients t ≡ Some c)
  asker from to k i = go (found nat_cmp v.parties.clients t) refl
    where
      go : (o : Option Client) → found nat_cmp v.parties.clients t ≡ o → (c : Client) × (o ≡ Some c)
      go None is = absurd (h.kept.unasked is from to k i)
      go (Some c) is = (c, refl)

  proposer : (from to : Party) (o : Decision) → Sent v.sent from to (Propose t 0 o) → (c : Client) × (found nat_cmp v.parties.clients t ≡ Some c)
  proposer from to o i = go (found nat_cmp v.parties.clients t) refl
    where
      go : (q : Option Client) → found nat_cmp v.parties.clients t ≡ q → (c : Client) × (q ≡ Some c)
      go None is = absurd (h.kept.unproposed is from to o i)
      go (Some c) is = (c, refl)

  -- a shard of a member acts on what comes
  module _ (d sh : ℕ) (x : ShardNode) (there : shard_at v.parties d sh ≡ Some x) (k : NodeCause) (why : ShardWhy v.sent e d sh k) where
    abbrev act : ShardAct
    act = shard_act v.parties.layout d sh x.durable x.volatile k

    -- what comes to it is its cause
    cause : (k : NodeCause) → ShardWhy v.sent e d sh k → (p : Party) (m : Msg) (n : ℕ) → e ≡ Deliver n → message v.sent n ≡ Some (record { from = p; to = shard_server d sh; msg = m }) → (f : Party) × (k ≡ Comes f m)
    cause (Comes f r) why p m n is got = let s = one_delivered v.sent e n p (shard_server d sh) m is got (shard_server d sh) r why in (f, ap (λ (z : Msg). Comes f z) (sym s.1))
    cause Catches why p m n is got = let z = sym is ∙ why in absurd (cc)
    cause (Takes u) why p m n is got = absurd why

    read_answered_now : (c : Client) (p : Party) (q : List ℕ) → found nat_cmp v.parties.clients t ≡ Some c → In d members → (n : ℕ) → e ≡ Deliver n → message v.sent n ≡ Some (record { from = p; to = shard_server d sh; msg = ReadAsk t q })
        → Answers t (v.sent ++ envelopes (shard_server d sh) (shard_act v.parties.layout d sh x.durable x.volatile k).sends) c d sh q
    read_answered_now c p q is m n by_it got =
        let w = cause k why p (ReadAsk t q) n by_it got in
        let i = in_message v.sent n _ got in
        let unprepared : (u : ℕ) (part : List Entry) → found nat_cmp x.durable.parts u ≡ Some part → (u ≡ t → ⊥) → HasNone keys part = λ u part f apart. moment.unprepared d sh x u part m there f apart in
        subst (λ (z : NodeCause). Answers t (v.sent ++ envelopes (shard_server d sh) (shard_act v.parties.layout d sh x.durable x.volatile z).sends) c d sh q) (sym w.1)
        (read_comes members t v e ok h.kept h.sent_before d sh x m there p q i
        (λ none. unheld members t v.parties v.sent e h.kept keys moment.has_keys asker proposer d sh x m there (moment.rises d sh x there) unprepared q
        (asked_key members t v.parties v.sent e h.kept keys moment.has_keys asker proposer d sh x m there (moment.rises d sh x there) unprepared q p (shard_server d sh) i) none)
        (not_lost members t v.parties v.sent e h.kept keys moment.has_keys asker proposer d sh x m there (moment.rises d sh x there) unprepared q)
        c c is refl)

    prepare_answered_now : Passes t v.parties.layout d sh x.durable x.volatile k → (p : Party) (q : List Entry) → In d members → (n : ℕ) → e ≡ Deliver n → message v.sent n ≡ Some (record { from = p; to = shard_server d sh; msg = Prepare t q })
        → SaysYes t (v.sent ++ envelopes (shard_server d sh) (shard_act v.parties.layout d sh x.durable x.volatile k).sends) d sh (shard_after x (shard_act v.parties.layout d sh x.durable x.volatile k))
    prepare_answered_now passes p q m n by_it got =
        let w = cause k why p (Prepare t q) n by_it got in
        subst (λ (z : NodeCause). SaysYes t (v.sent ++ envelopes (shard_server d sh) (shard_act v.parties.layout d sh x.durable x.volatile z).sends) d sh (shard_after x (shard_act v.parties.layout d sh x.durable x.volatile z))) (sym w.1)
        (prepare_comes members t v e ok h.kept h.sent_before d sh x m there q (subst (λ (z : NodeCause). Passes t v.parties.layout d sh x.durable x.volatile z) w.1 passes refl))

    -- it passes t's prepare, and nobody takes t's locks
    pub undisturbed : In d members → Moment members t keys (with_shard v.parties d sh (shard_after x (shard_act v.parties.layout d sh x.durable x.volatile k)))
        → Passes t v.parties.layout d sh x.durable x.volatile k × ((q : List ℕ) → Taken t v.parties.layout d sh x.durable x.volatile q (shard_act v.parties.layout d sh x.durable x.volatile k) → ⊥)
    undisturbed m later =
        let unprepared : (u : ℕ) (part : List Entry) → found nat_cmp x.durable.parts u ≡ Some part → (u ≡ t → ⊥) → HasNone keys part = λ u part f apart. moment.unprepared d sh x u part m there f apart in
        let y : ShardNode = shard_after x (shard_act v.parties.layout d sh x.durable x.volatile k) in
        let after = shard_set v.parties d sh x y there in
        let fresh = λ (c : Client) (s : Slot) (version : ℕ) (value : Option (List ℕ)) (is : found nat_cmp v.parties.clients t ≡ Some c) (i : In s c.slots) (f : found nat_cmp x.durable.finished t ≡ None) (r : s.read ≡ Complete version value).
        moment.fresh d sh x c s version value m there is i f r in (
          prepares_pass members t v.parties v.sent e h.kept keys moment.has_keys asker proposer d sh x m there (moment.rises d sh x there) unprepared fresh k why,
          none_taken members t v.parties v.sent e h.kept keys moment.has_keys asker proposer d sh x m there (moment.rises d sh x there) unprepared fresh k
              (λ z u p same f apart. later.unprepared d sh y u p m after (subst (λ (n : ShardNode). found nat_cmp n.durable.parts u ≡ Some p) same f) apart),
        )

    pub shard_goes : actor v.sent e ≡ shard_server d sh → Moment members t keys (with_shard v.parties d sh (shard_after x (shard_act v.parties.layout d sh x.durable x.volatile k)))
        → Shows members t v e ok h (shard_server d sh) (shard_act v.parties.layout d sh x.durable x.volatile k).sends (with_shard v.parties d sh (shard_after x (shard_act v.parties.layout d sh x.durable x.volatile k)))
    shard_goes acts later =
        shard_shows d sh x (shard_after x (shard_act v.parties.layout d sh x.durable x.volatile k)) (shard_act v.parties.layout d sh x.durable x.volatile k).sends there acts
        (shard_acts members t v.parties v.sent e h.kept moment.calm d sh x there k why (λ m. undisturbed m later))
        (λ m f. finished_still (shard_act v.parties.layout d sh x.durable x.volatile k).logs x.durable t Committed f)
        read_answered_now (λ p q m n by_it got. prepare_answered_now (undisturbed m later).0 p q m n by_it got)

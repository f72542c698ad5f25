-- How far a member has come with t, after each event.
use Rattle.std.proofs.Common.{◌≡◌, ℕ, List, ◌++◌, refl, sym, ap, ◌∙◌, subst, true, Some, None, ◌⊎◌, inl, inr, ⊎_elim}
use Rattle.std.specs.Ordering.{nat_cmp}
use Rattle.rc_ids.specs.Tables.{In, found, member}
use Rattle.rc_ids.specs.Cluster.{Layout, IsLayout}
use Rattle.rc_ids.specs.declared.names.Party.{Party}
use Rattle.rc_body.specs.Bodies.{part, touches}
use Rattle.rc_body.specs.declared.entry.Entry.{Entry}
use Rattle.rc_body.specs.declared.decision.Decision.{Decision}
use Rattle.rc_body.specs.declared.decision.Decision.TheVariants.{Commit, Abort}
use Rattle.rc_msg.specs.declared.msg.Envelope.{Envelope}
use Rattle.rc_msg.specs.declared.msg.Msg.{Msg}
use Rattle.rc_msg.specs.declared.msg.Msg.TheVariants.{Propose, Prepare, Prepared}
use Rattle.rc_record.specs.CoordState.{promise_of}
use Rattle.rc_protocol.specs.Messages.{Posts, coordinator, shard_server}
use Rattle.rc_protocol.specs.Coordinator.{CoordAct, GatherState, on_propose}
use Rattle.rc_protocol.specs.Acts.{NodeCause, Came as Comes, Catches, Takes, coord_act}
use Rattle.rc_protocol.specs.Nodes.{CoordNode, coord_after}
use Rattle.rc_runs.specs.declared.event.Event.{Event}
use Rattle.rc_runs.specs.declared.event.Event.TheVariants.{Deliver}
use Rattle.rc_runs.specs.World.{World, coord_at, message, envelopes, delivered_after}
use Rattle.rc_runs.specs.Refusals.{wrong}
use Rattle.rc_agreement.proofs.Cases.{nat_dec}
use Rattle.rc_agreement.proofs.Tables.{found_in}
use Rattle.rc_agreement.proofs.Sends.{in_sent}
use Rattle.rc_causes.proofs.Moves.{CoordWhy}
use Rattle.rc_quiet.proofs.Parts.{Sent, Came, HasTold, IsFresh, IsGathering, HasListed, Goes}
use Rattle.rc_quiet.proofs.Ending.{in_message}
use Rattle.rc_quiet.proofs.Growing.{posted_in, more_in, told_vote_on}
use Rattle.rc_quiet.proofs.Kept.{Kept}
use Rattle.rc_quiet.proofs.Arrivals.{AreSent, came_now, one_delivered}
use Rattle.rc_quiet.proofs.MemberRows.{IsOther, Still, Knows, TellsVote, list_keeps, other_row}
use Rattle.rc_quiet.proofs.MemberGathers.{Asks, Hears, propose_row, guarded_row}

-- what a cause is to t
data Kind (t : ℕ) : NodeCause → Type 0 where
  Other : (k : NodeCause) → IsOther t k → Kind t k
  Proposal : (from : Party) (b : ℕ) (o : Decision) → Kind t (Comes from (Propose t b o))
  Yes : (from : Party) (sh : ℕ) → Kind t (Comes from (Prepared t sh None))

kind_of : (t : ℕ) (k : NodeCause) → Kind t k
kind_of t (Comes from (Propose u b o)) = ⊎_elim (λ (e : u ≡ t). subst (λ (n : ℕ). Kind t (Comes from (Propose n b o))) (sym e) (Proposal from b o)) (λ n. Other (Comes from (Propose u b o)) n) (nat_dec u t)
kind_of t (Comes from (Prepared u sh None)) = ⊎_elim (λ (e : u ≡ t). subst (λ (n : ℕ). Kind t (Comes from (Prepared n sh None))) (sym e) (Yes from sh)) (λ n. Other (Comes from (Prepared u sh None)) n) (nat_dec u t)
kind_of t (Comes from (Prepared u sh (Some r))) = Other _ tt
kind_of t (Comes from m) = Other _ tt
kind_of t Catches = Other _ tt
kind_of t (Takes u) = Other _ tt

module _ (members : List ℕ) (t : ℕ) (v : World) (e : Event) (ok : wrong v e ≡ None) (kept : Kept members t v.parties v.sent) (are_sent : AreSent v.sent v.delivered) where
  abbrev c : Layout
  c = v.parties.layout

  -- ANOTHER PARTY ACTS
  module _ (d : ℕ) (x : CoordNode) (from : Party) (ms : Posts) (apart : from ≡ coordinator d → ⊥)
      (nothing : (p : Party) (n : ℕ) (m : Msg) → e ≡ Deliver n → message v.sent n ≡ Some (record { from = p; to = coordinator d; msg = m }) → ⊥) where
    came_before : (p : Party) (m : Msg) → Came (v.sent ++ envelopes from ms) (delivered_after v.delivered e) p (coordinator d) m → Came v.sent v.delivered p (coordinator d) m
    came_before p m h = ⊎_elim (λ old. old) (λ (new : (n : ℕ) × (e ≡ Deliver n) × (message v.sent n ≡ Some (record { from = p; to = coordinator d; msg = m }))). absurd (nothing p new.0 m new.1 new.2)) (came_now v e ok (envelopes from ms) are_sent p (coordinator d) m h)

    pub goes_frame : Goes t c v.sent v.delivered d x → Goes t c (v.sent ++ envelopes from ms) (delivered_after v.delivered e) d x
    goes_frame h =
        ⊎_elim
        (λ (f : IsFresh t v.sent v.delivered d). inl (record {
          proposal = λ p b o i. f.proposal p b o (came_before p (Propose t b o) i);
          prepares = λ to p i. ⊎_elim (λ old. f.prepares to p old) (λ (new : In (to, Prepare t p) ms × (coordinator d ≡ from)). apart (sym new.1)) (in_sent v.sent from ms _ i);
        }))
        (λ more. ⊎_elim
        (λ (g : IsGathering t c v.sent v.delivered d x). inr (inl (record {
          gather = g.gather;
          is = g.is;
          waits = g.waits;
          asked = λ sh i. ⊎_elim inl (λ a. inr (more_in v.sent from ms _ a)) (g.asked sh i);
          heard = λ p sh i a. g.heard p sh i (came_before p (Prepared t sh None) a);
        })))
        (λ last. ⊎_elim (λ a. inr (inr (inl (told_vote_on t c v.sent (v.sent ++ envelopes from ms) (more_in v.sent from ms) d a)))) (λ l. inr (inr (inr l))) last) more)
        h

  -- IT ACTS ITSELF
  module _ (lay : IsLayout v.parties.layout) (d : ℕ) (x : CoordNode) (m : In d members) (there : coord_at v.parties d ≡ Some x) (k : NodeCause) (why : CoordWhy v.sent e d k) where
    abbrev a : CoordAct
    a = coord_act v.parties.layout d x.durable x.volatile k

    abbrev now : List Envelope
    now = v.sent ++ envelopes (coordinator d) (coord_act v.parties.layout d x.durable x.volatile k).sends

    abbrev then_delivered : List ℕ
    then_delivered = delivered_after v.delivered e

    abbrev After : Type 0
    After = Goes t v.parties.layout (v.sent ++ envelopes (coordinator d) (coord_act v.parties.layout d x.durable x.volatile k).sends) (delivered_after v.delivered e) d (coord_after x (coord_act v.parties.layout d x.durable x.volatile k))

    all : (f : Envelope) → In f v.sent → In f (v.sent ++ envelopes (coordinator d) (coord_act v.parties.layout d x.durable x.volatile k).sends)
    all f i = more_in v.sent (coordinator d) (coord_act v.parties.layout d x.durable x.volatile k).sends f i

    -- what comes to it now is its cause
    arrives : (p : Party) (q : Msg) → Came now (delivered_after v.delivered e) p (coordinator d) q → Came v.sent v.delivered p (coordinator d) q ⊎ ((f : Party) × (k ≡ Comes f q))
    arrives p q h = ⊎_elim inl (λ (new : (n : ℕ) × (e ≡ Deliver n) × (message v.sent n ≡ Some (record { from = p; to = coordinator d; msg = q }))). inr (cause k why new.0 new.1 new.2))
        (came_now v e ok (envelopes (coordinator d) (coord_act v.parties.layout d x.durable x.volatile k).sends) are_sent p (coordinator d) q h)
      where
        cause : (k : NodeCause) → CoordWhy v.sent e d k → (n : ℕ) → e ≡ Deliver n → message v.sent n ≡ Some (record { from = p; to = coordinator d; msg = q }) → (f : Party) × (k ≡ Comes f q)
        cause (Comes f r) why n is got = let s = one_delivered v.sent e n p (coordinator d) q is got (coordinator d) r why in (f, ap (λ (z : Msg). Comes f z) (sym s.1))
        cause Catches why n is got = let z = sym is ∙ why in absurd (cc)
        cause (Takes u) why n is got = let z = sym is ∙ why in absurd (cc)

    knows_it : Knows t v.parties.layout d x.durable x.volatile (coord_act v.parties.layout d x.durable x.volatile k) → After
    knows_it h = inr (inr (inr h))

    tells_it : TellsVote t v.parties.layout d x.durable x.volatile (coord_act v.parties.layout d x.durable x.volatile k) → After
    tells_it h = inr (inr (inl (h.0, posted_in v.sent (coordinator d) (coord_act v.parties.layout d x.durable x.volatile k).sends _ _ h.1)))

    told_still : HasTold t v.sent d → After
    told_still h = inr (inr (inl (told_vote_on t v.parties.layout v.sent now all d h)))

    listed_still : HasListed t x → After
    listed_still h = inr (inr (inr (h.0, list_keeps (coord_act v.parties.layout d x.durable x.volatile k).logs x.durable (t, h.0) h.1)))

    -- another cause
    other_goes : IsOther t k → Goes t v.parties.layout v.sent v.delivered d x → After
    other_goes o h = ⊎_elim still knows_it (other_row t v.parties.layout d x.durable x.volatile k o)
      where
        not_it : (f : Party) (q : Msg) → k ≡ Comes f q → IsOther t (Comes f q)
        not_it f q is = subst (IsOther t) is o

        still : Still t v.parties.layout d x.durable x.volatile (coord_act v.parties.layout d x.durable x.volatile k) → After
        still s =
            ⊎_elim
            (λ (f : IsFresh t v.sent v.delivered d). inl (record {
              proposal = λ p b q i. ⊎_elim (λ old. f.proposal p b q old) (λ (new : (g : Party) × (k ≡ Comes g (Propose t b q))). not_it new.0 (Propose t b q) new.1 refl) (arrives p (Propose t b q) i);
              prepares = λ to p i. ⊎_elim (λ old. f.prepares to p old) (λ (new : In (to, Prepare t p) a.sends × (coordinator d ≡ coordinator d)). s.1.each to (Prepare t p) new.0 refl) (in_sent v.sent (coordinator d) a.sends _ i);
            }))
            (λ more. ⊎_elim
            (λ (g : IsGathering t v.parties.layout v.sent v.delivered d x). inr (inl (record {
              gather = g.gather;
              is = s.0 ∙ g.is;
              waits = g.waits;
              asked = λ sh i. ⊎_elim inl (λ b. inr (all _ b)) (g.asked sh i);
              heard = λ p sh i b. ⊎_elim (λ old. g.heard p sh i old) (λ (new : (f : Party) × (k ≡ Comes f (Prepared t sh None))). absurd (not_it new.0 (Prepared t sh None) new.1 refl)) (arrives p (Prepared t sh None) b);
            })))
            (λ last. ⊎_elim told_still listed_still last) more)
            h

    low : promise_of x.durable.promises t ≡ 0
    low = kept.low d x m there

    zeros : (g : GatherState) → found nat_cmp x.volatile.gathers t ≡ Some g → g.ballot ≡ 0
    zeros g is = ((kept.coords d x there).gathers g (found_in t x.volatile.gathers g is)).0

    -- who answers was asked
    was_asked : IsFresh t v.sent v.delivered d → (p : Party) (sh : ℕ) → Sent v.sent p (coordinator d) (Prepared t sh None) → ⊥
    was_asked f p sh i =
        let h = kept.fits _ i refl in
        let to_it : coordinator d ≡ coordinator h.dc = h.to_it in
        let n : h.dc ≡ d = (cc) in
        f.prepares _ h.part (subst (λ (z : ℕ). Sent v.sent (coordinator z) (shard_server h.dc sh) (Prepare t h.part)) n h.asked)

  module _ (lay : IsLayout v.parties.layout) (d : ℕ) (x : CoordNode) (m : In d members) (there : coord_at v.parties d ≡ Some x) where
    -- A PROPOSAL
    module _ (from : Party) (b : ℕ) (body : List Entry) (why : CoordWhy v.sent e d (Comes from (Propose t b (Commit body)))) where
      abbrev k : NodeCause
      k = Comes from (Propose t b (Commit body))

      abbrev act : CoordAct
      act = coord_act v.parties.layout d x.durable x.volatile (Comes from (Propose t b (Commit body)))

      abbrev Asking : CoordAct → Type 0
      Asking y = Asks t v.parties.layout lay d x.durable x.volatile (low lay d x m there (Comes from (Propose t b (Commit body))) why) (zeros lay d x m there (Comes from (Propose t b (Commit body))) why) y

      proposed : Knows t v.parties.layout d x.durable x.volatile act ⊎ (TellsVote t v.parties.layout d x.durable x.volatile act ⊎ Asking act)
      proposed =
          let i = in_message v.sent why.0 _ why.3 in
          let zero_it = (kept.fits _ i refl).1 in
          subst (λ (n : ℕ). Knows t v.parties.layout d x.durable x.volatile (on_propose v.parties.layout d x.durable x.volatile t n (Commit body))
          ⊎ (TellsVote t v.parties.layout d x.durable x.volatile (on_propose v.parties.layout d x.durable x.volatile t n (Commit body))
          ⊎ Asking (on_propose v.parties.layout d x.durable x.volatile t n (Commit body)))) (sym zero_it)
          (propose_row t v.parties.layout lay d x.durable x.volatile (low lay d x m there k why) (zeros lay d x m there k why) body)

      asks_now : (q : Asking act) → ((p : Party) (sh : ℕ) → touches v.parties.layout q.gather.body sh ≡ true → Came v.sent v.delivered p (coordinator d) (Prepared t sh None) → member nat_cmp q.gather.yes sh ≡ true) → After lay d x m there (Comes from (Propose t b (Commit body))) why
      asks_now q before = inr (inl (record {
        gather = q.gather;
        is = q.is;
        waits = q.waits;
        asked = λ sh i. ⊎_elim inl (λ j. inr (posted_in v.sent (coordinator d) act.sends _ _ j)) (q.asked sh i);
        heard = λ p sh i h. ⊎_elim (λ old. before p sh i old) (λ (new : (f : Party) × (k ≡ Comes f (Prepared t sh None))). let z = new.1 in absurd (cc)) (arrives lay d x m there k why p (Prepared t sh None) h);
      }))

      proposal_goes : Goes t v.parties.layout v.sent v.delivered d x → After lay d x m there (Comes from (Propose t b (Commit body))) why
      proposal_goes h =
          ⊎_elim
          (λ (f : IsFresh t v.sent v.delivered d). moves (λ q p sh i a. absurd (was_asked lay d x m there k why f p sh (in_message v.sent a.0 _ a.2))))
          (λ more. ⊎_elim
          (λ (g : IsGathering t v.parties.layout v.sent v.delivered d x). moves (λ q p sh i a.
          let w = q.was g.gather g.is in
          subst (λ (ys : List ℕ). member nat_cmp ys sh ≡ true) (sym w.0) (g.heard p sh (subst (λ (bs : List Entry). touches v.parties.layout bs sh ≡ true) w.1 i) a)))
          (λ last. ⊎_elim (told_still lay d x m there k why) (listed_still lay d x m there k why) last) more)
          h
        where
          moves : ((q : Asking act) (p : Party) (sh : ℕ) → touches v.parties.layout q.gather.body sh ≡ true → Came v.sent v.delivered p (coordinator d) (Prepared t sh None) → member nat_cmp q.gather.yes sh ≡ true) → After lay d x m there (Comes from (Propose t b (Commit body))) why
          moves before = ⊎_elim (knows_it lay d x m there k why) (λ more. ⊎_elim (tells_it lay d x m there k why) (λ q. asks_now q (before q)) more) proposed

    -- A YES
    module _ (from : Party) (sh : ℕ) (why : CoordWhy v.sent e d (Comes from (Prepared t sh None))) where
      abbrev j : NodeCause
      j = Comes from (Prepared t sh None)

      yes_goes : Goes t v.parties.layout v.sent v.delivered d x → After lay d x m there (Comes from (Prepared t sh None)) why
      yes_goes h =
          ⊎_elim
          (λ (f : IsFresh t v.sent v.delivered d). absurd (was_asked lay d x m there j why f why.1 sh (in_message v.sent why.0 _ why.3)))
          (λ more. ⊎_elim gathers (λ last. ⊎_elim (told_still lay d x m there j why) (listed_still lay d x m there j why) last) more)
          h
        where
          gathers : IsGathering t v.parties.layout v.sent v.delivered d x → After lay d x m there (Comes from (Prepared t sh None)) why
          gathers g =
              ⊎_elim (knows_it lay d x m there j why) (λ more. ⊎_elim (tells_it lay d x m there j why) hears more)
              (guarded_row t v.parties.layout lay d x.durable x.volatile (low lay d x m there j why) (zeros lay d x m there j why) g.gather g.is g.waits sh)
            where
              hears : Hears t v.parties.layout lay d x.durable x.volatile (low lay d x m there j why) (zeros lay d x m there j why) g.gather g.is g.waits sh (coord_act v.parties.layout d x.durable x.volatile (Comes from (Prepared t sh None))) → After lay d x m there (Comes from (Prepared t sh None)) why
              hears q = inr (inl (record {
                gather = q.gather;
                is = q.is;
                waits = q.waits;
                asked = λ n i. ⊎_elim (λ y. inl (q.more n y))
                    (λ y. inr (subst (λ (bs : List Entry). Sent (v.sent ++ envelopes (coordinator d) (coord_act v.parties.layout d x.durable x.volatile (Comes from (Prepared t sh None))).sends) (coordinator d) (shard_server d n) (Prepare t (part v.parties.layout n bs))) (sym q.body) (all lay d x m there j why _ y)))
                    (g.asked n (touched n i));
                heard = λ p n i a. ⊎_elim (λ old. q.more n (g.heard p n (touched n i) old))
                    (λ (new : (f : Party) × (j ≡ Comes f (Prepared t n None))). let z = new.1 in let same : sh ≡ n = (cc) in
                    subst (λ (s : ℕ). member nat_cmp q.gather.yes s ≡ true) same (q.now (subst (λ (s : ℕ). touches v.parties.layout g.gather.body s ≡ true) (sym same) (touched n i))))
                    (arrives lay d x m there j why p (Prepared t n None) a);
              }))
                where
                  touched : (n : ℕ) → touches v.parties.layout q.gather.body n ≡ true → touches v.parties.layout g.gather.body n ≡ true
                  touched n i = subst (λ (bs : List Entry). touches v.parties.layout bs n ≡ true) q.body i

    pub goes_turn : (k : NodeCause) (why : CoordWhy v.sent e d k) → Goes t v.parties.layout v.sent v.delivered d x → After lay d x m there k why
    goes_turn k why h = by k (kind_of t k) why
      where
        proposes : (from : Party) (b : ℕ) (o : Decision) (why : CoordWhy v.sent e d (Comes from (Propose t b o))) → After lay d x m there (Comes from (Propose t b o)) why
        proposes from b (Commit body) why = proposal_goes from b body why h
        proposes from b Abort why = let f = (kept.fits _ (in_message v.sent why.0 _ why.3) refl).2 in absurd (cc)

        by : (k : NodeCause) → Kind t k → (why : CoordWhy v.sent e d k) → After lay d x m there k why
        by _ (Other k o) why = other_goes lay d x m there k why o h
        by _ (Proposal from b o) why = proposes from b o why
        by _ (Yes from sh) why = yes_goes from sh why h

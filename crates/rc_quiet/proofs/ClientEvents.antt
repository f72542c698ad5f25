-- What an event in which a client acts, or nobody, shows of t.
use Rattle.std.proofs.Common.{◌≡◌, ℕ, List, [], refl, sym, ap, ◌∙◌, subst, false, Option, Some, None, inl, inr, ⊎_elim, true≢false}
use Rattle.std.specs.Ordering.{nat_cmp}
use Rattle.std.proofs.lemmas.List.{append-nil}
use Rattle.rc_ids.specs.Tables.{In, found, put}
use Rattle.rc_ids.specs.Cluster.{Layout, is_quorum, shard_of}
use Rattle.rc_ids.specs.declared.names.Party.{Party}
use Rattle.rc_body.specs.declared.decision.Decision.{Decision}
use Rattle.rc_body.specs.declared.decision.Decision.TheVariants.{Commit as CommitOf, Abort}
use Rattle.rc_msg.specs.declared.msg.Envelope.{Envelope}
use Rattle.rc_msg.specs.declared.msg.Msg.{Msg}
use Rattle.rc_msg.specs.declared.msg.Msg.TheVariants.{ReadAsk, Granted, Prepare, Voted}
use Rattle.rc_protocol.specs.Messages.{Posts, coordinator, shard_server, client_of}
use Rattle.rc_protocol.specs.Coordinator.{standing_for, nobody}
use Rattle.rc_protocol.specs.Client.{Client, ClientAct, KeyWornOut, new_client, client_refuses}
use Rattle.rc_protocol.specs.Acts.{ClientCause, Hears, Reads, Writes, Commits, Cancels, Retries, Vanishes, client_by_row, client_act, refusal}
use Rattle.rc_protocol.specs.Nodes.{CoordNode, ShardNode}
use Rattle.rc_runs.specs.declared.event.Event.{Event}
use Rattle.rc_runs.specs.declared.event.Event.TheVariants.{Begin, Deliver}
use Rattle.rc_runs.specs.World.{World, Parties, Course, Idle, coord_at, shard_at, message, replaced, deed, along, actor, with_client, with_new_client}
use Rattle.rc_runs.specs.Refusals.{wrong}
use Rattle.rc_agreement.proofs.Cases.{on_maybe, some_is}
use Rattle.rc_agreement.proofs.Tables.{put_cases, set_cases}
use Rattle.rc_causes.proofs.Moves.{ClientWhy}
use Rattle.rc_causes.proofs.ReadSlots.{Has, read_stays}
use Rattle.rc_causes.proofs.ReadGrants.{Counts, counts_stay}
use Rattle.rc_causes.proofs.ReadFits.{none_few}
use Rattle.rc_quiet.proofs.Parts.{IsDone, ClientShape, CountsVote}
use Rattle.rc_quiet.proofs.Ending.{in_message}
use Rattle.rc_quiet.proofs.Kept.{Kept, begins}
use Rattle.rc_quiet.proofs.Arrivals.{one_delivered, coord_not_idle, shard_not_idle, client_not_idle}
use Rattle.rc_quiet.proofs.ClientDoes.{DropsNone}
use Rattle.rc_quiet.proofs.ClientTurns.{ready_of, other_turn, client_turn, done_stay}
use Rattle.rc_quiet.proofs.CountRows.{counts_on, counts_now, grant_kept}
use Rattle.rc_quiet.proofs.MemberTurns.{goes_frame}
use Rattle.rc_quiet.proofs.Steps.{Moment, Holds, New, Shows, no_other, same_client}

-- a new client has nothing yet
pub new_shape : (t : ℕ) (c : Layout) → ClientShape t c new_client
new_shape t c =
    record {
      committing = λ f. absurd (true≢false (sym f));
      undecided = λ b o _. nobody_few o;
      complete = λ l. absurd l;
      here = λ e. cc;
    }
  where
    nobody_few : (o : Decision) → is_quorum c (standing_for nobody o) ≡ false
    nobody_few Abort = none_few c
    nobody_few (CommitOf body) = none_few c

module _ (members : List ℕ) (t : ℕ) (keys : List (List ℕ)) (v : World) (e : Event) (ok : wrong v e ≡ None) (h : Holds members t v.parties v.sent v.delivered) (moment : Moment members t keys v.parties) where
  -- ANOTHER CLIENT
  pub other_shows : (u : ℕ) (x : Client) (k : ClientCause) → (u ≡ t → ⊥) → found nat_cmp v.parties.clients u ≡ Some x → actor v.sent e ≡ client_of u
      → Shows members t v e ok h (client_of u) (client_act v.parties.layout u x k).sends (with_client v.parties u (client_act v.parties.layout u x k).after)
  other_shows u x k n is acts =
      record {
        kept = other_turn members t v.parties v.sent e h.kept u x k n is (moment.apart u x is);
        client = same_client members t v e ok h (client_of u) ms w same;
        new_vote = λ c p b d o at new. absurd (none (client_of t) p (Voted t b d o) apart new);
        new_grant = λ c p d version q value at new. absurd (none (client_of t) p (Granted t q d version value) apart new);
        new_read = λ c p d sh q at m new. absurd (none (shard_server d sh) p (ReadAsk t q) (λ f. cc) new);
        goes = λ d z m at. goes_frame members t v e ok h.kept h.sent_before d z (client_of u) ms (λ f. cc) (λ p b q i got. none (coordinator d) p q (λ f. cc) (b, i, got)) (h.goes d z m at);
        shard = λ d sh z m at. (z, at, λ f. f);
        new_prepare = λ p d sh q z m at new. absurd (none (shard_server d sh) p (Prepare t q) (λ f. cc) new);
      }
    where
      ms : Posts
      ms = (client_act v.parties.layout u x k).sends

      w : Parties
      w = with_client v.parties u (client_act v.parties.layout u x k).after

      none : (to p : Party) (m : Msg) → (client_of u ≡ to → ⊥) → New members t v e ok h (client_of u) (client_act v.parties.layout u x k).sends (with_client v.parties u (client_act v.parties.layout u x k).after) p to m → ⊥
      none to p m f new = no_other members t v e ok h (client_of u) (client_act v.parties.layout u x k).sends (with_client v.parties u (client_act v.parties.layout u x k).after) acts to p m f new

      apart : client_of u ≡ client_of t → ⊥
      apart f = let g : u ≡ t = (cc) in n g

      same : found nat_cmp (replaced v.parties.clients u (client_act v.parties.layout u x k).after) t ≡ found nat_cmp v.parties.clients t
      same = ⊎_elim
          (λ (f : (t ≡ u) × (found nat_cmp (replaced v.parties.clients u (client_act v.parties.layout u x k).after) t ≡ Some (client_act v.parties.layout u x k).after)). absurd (n (sym f.0)))
          (λ (f : (t ≡ u → ⊥) × (found nat_cmp (replaced v.parties.clients u (client_act v.parties.layout u x k).after) t ≡ found nat_cmp v.parties.clients t)). f.1)
          (set_cases t u (client_act v.parties.layout u x k).after x v.parties.clients is)

  -- t's CLIENT
  module _ (x : Client) (k : ClientCause) (is : found nat_cmp v.parties.clients t ≡ Some x) (why : ClientWhy v.sent e t k) (keeps : DropsNone k) (acts : actor v.sent e ≡ client_of t) (lasts : (client_act v.parties.layout t x k).refused ≡ Some KeyWornOut → ⊥) where
    abbrev y : Client
    y = (client_act v.parties.layout t x k).after

    abbrev said : Posts
    said = (client_act v.parties.layout t x k).sends

    abbrev after : Parties
    after = with_client v.parties t (client_act v.parties.layout t x k).after

    now_is : found nat_cmp (replaced v.parties.clients t (client_act v.parties.layout t x k).after) t ≡ Some (client_act v.parties.layout t x k).after
    now_is = ⊎_elim
        (λ (f : (t ≡ t) × (found nat_cmp (replaced v.parties.clients t (client_act v.parties.layout t x k).after) t ≡ Some (client_act v.parties.layout t x k).after)). f.1)
        (λ (f : (t ≡ t → ⊥) × (found nat_cmp (replaced v.parties.clients t (client_act v.parties.layout t x k).after) t ≡ found nat_cmp v.parties.clients t)). absurd (f.0 refl))
        (set_cases t t (client_act v.parties.layout t x k).after x v.parties.clients is)

    none_else : (to p : Party) (m : Msg) → (client_of t ≡ to → ⊥) → New members t v e ok h (client_of t) said after p to m → ⊥
    none_else to p m f new = no_other members t v e ok h (client_of t) said after acts to p m f new

    -- what comes to it is its cause
    cause : (k : ClientCause) → ClientWhy v.sent e t k → (p : Party) (m : Msg) (n : ℕ) → e ≡ Deliver n → message v.sent n ≡ Some (record { from = p; to = client_of t; msg = m }) → k ≡ Hears m
    cause (Hears r) why p m n i got = let s = one_delivered v.sent e n p (client_of t) m i got (client_of t) r why in ap Hears (sym s.1)
    cause (Reads q) why p m n i got = let z = sym i ∙ why in absurd (cc)
    cause (Writes q value) why p m n i got = let z = sym i ∙ why in absurd (cc)
    cause Commits why p m n i got = let z = sym i ∙ why in absurd (cc)
    cause (Cancels q) why p m n i got = let z = sym i ∙ why in absurd (cc)
    cause Retries why p m n i got = let z = sym i ∙ why in absurd (cc)
    cause Vanishes why p m n i got = let z = sym i ∙ why in absurd (cc)

    not_cancelled : (q : List ℕ) → k ≡ Cancels q → ⊥
    not_cancelled q f = subst DropsNone f keeps

    still_counted : (b d : ℕ) (o : Decision) → CountsVote t x b d o → CountsVote t (client_act v.parties.layout t x k).after b d o
    still_counted b d o f = on_maybe (λ (a : ClientAct). CountsVote t a.after b d o) (refusal x k) (client_by_row v.parties.layout t x k) (client_refuses x) (λ none. counts_on t v.parties.layout x b d o k keeps (ready_of x k none) f) (λ _ _. f)

    vote_now : (p : Party) (b d : ℕ) (o : Decision) (n : ℕ) → e ≡ Deliver n → message v.sent n ≡ Some (record { from = p; to = client_of t; msg = Voted t b d o }) → CountsVote t (client_act v.parties.layout t x k).after b d o
    vote_now p b d o n i got =
        let f = cause k why p (Voted t b d o) n i got in
        let dc = (h.kept.fits _ (in_message v.sent n _ got) refl).5 in
        subst (λ (z : ClientCause). CountsVote t (client_act v.parties.layout t x z).after b d o) (sym f) (counts_now t v.parties.layout x b d o dc)

    grant_now : (p : Party) (d version : ℕ) (q : List ℕ) (value : Option (List ℕ)) (n : ℕ) → e ≡ Deliver n → message v.sent n ≡ Some (record { from = p; to = client_of t; msg = Granted t q d version value }) → Has (Counts d) q (client_act v.parties.layout t x k).after.slots
    grant_now p d version q value n i got =
        let f = cause k why p (Granted t q d version value) n i got in
        let g = h.kept.fits _ (in_message v.sent n _ got) refl in
        let begun = (h.kept.said x is).asks _ _ q g.2 in
        subst (λ (z : ClientCause). Has (Counts d) q (client_act v.parties.layout t x z).after.slots) (sym f)
        (grant_kept t v.parties.layout x (h.kept.shape x is) q begun d version value g.3 (subst (λ (z : ClientCause). (client_act v.parties.layout t x z).refused ≡ Some KeyWornOut → ⊥) f lasts))

    pub own_shows : Shows members t v e ok h (client_of t) (client_act v.parties.layout t x k).sends (with_client v.parties t (client_act v.parties.layout t x k).after)
    own_shows =
        record {
          kept = client_turn members t v.parties v.sent e h.kept x k is (moment.apart t x is) why keeps;
          client = λ c at. let same = some_is y c (sym now_is ∙ at) in
              inr (
                x,
                is,
                (λ b d o f. subst (λ (n : Client). CountsVote t n b d o) same (still_counted b d o f)),
                (λ q n f. subst (λ (z : Client). Has (Counts n) q z.slots) same (read_stays v.parties.layout t x q (Unit {0}) (Counts n) (counts_stay v.parties.layout n) f k (not_cancelled q) (λ _ _ _. tt))),
                (λ q f. subst (λ (z : Client). Has IsDone q z.slots) same (read_stays v.parties.layout t x q (Unit {0}) IsDone (done_stay v.parties.layout (Unit {0})) f k (not_cancelled q) (λ _ _ _. tt))),
              );
          new_vote = λ c p b d o at new. subst (λ (n : Client). CountsVote t n b d o) (some_is y c (sym now_is ∙ at)) (vote_now p b d o new.0 new.1 new.2);
          new_grant = λ c p d version q value at new. subst (λ (n : Client). Has (Counts d) q n.slots) (some_is y c (sym now_is ∙ at)) (grant_now p d version q value new.0 new.1 new.2);
          new_read = λ c p d sh q at m new. absurd (none_else (shard_server d sh) p (ReadAsk t q) (λ f. cc) new);
          goes = λ d z m at. goes_frame members t v e ok h.kept h.sent_before d z (client_of t) said (λ f. cc) (λ p b q i got. none_else (coordinator d) p q (λ f. cc) (b, i, got)) (h.goes d z m at);
          shard = λ d sh z m at. (z, at, λ f. f);
          new_prepare = λ p d sh q z m at new. absurd (none_else (shard_server d sh) p (Prepare t q) (λ f. cc) new);
        }

  -- NOBODY ACTS
  module _ (course : Course) (idle : along course (deed v.parties v.sent e) ≡ Idle) (from : Party) (outside : (d : ℕ) → In d members → from ≡ coordinator d → ⊥) where
    no_member : (d : ℕ) (z : CoordNode) → In d members → coord_at v.parties d ≡ Some z → (p : Party) (n : ℕ) (m : Msg) → e ≡ Deliver n → message v.sent n ≡ Some (record { from = p; to = coordinator d; msg = m }) → ⊥
    no_member d z m at p n q i got = coord_not_idle v.parties v.sent e n p q i course d z got at (moment.calm.up d z m at) idle

    no_shard : (d sh : ℕ) (z : ShardNode) → In d members → shard_at v.parties d sh ≡ Some z → (p : Party) (n : ℕ) (m : Msg) → e ≡ Deliver n → message v.sent n ≡ Some (record { from = p; to = shard_server d sh; msg = m }) → ⊥
    no_shard d sh z m at p n q i got = shard_not_idle v.parties v.sent e n p q i course d sh z got at (moment.calm.shards_up d sh z m at) idle

    -- a read of t goes to a shard that is there
    no_read : (d sh : ℕ) (q : List ℕ) → In d members → (p : Party) (n : ℕ) → e ≡ Deliver n → message v.sent n ≡ Some (record { from = p; to = shard_server d sh; msg = ReadAsk t q }) → ⊥
    no_read d sh q m p n i got =
        let g = h.kept.fits _ (in_message v.sent n _ got) refl in
        let to_it : shard_server d sh ≡ shard_server g.1.0 (shard_of v.parties.layout q) = g.1.1 in
        let same : shard_of v.parties.layout q ≡ sh = (cc) in
        let z = moment.shards d q m in
        no_shard d sh z.0 m (subst (λ (s : ℕ). shard_at v.parties d s ≡ Some z.0) same z.1) p n (ReadAsk t q) i got

    no_client : (c : Client) → found nat_cmp v.parties.clients t ≡ Some c → (p : Party) (n : ℕ) (m : Msg) → e ≡ Deliver n → message v.sent n ≡ Some (record { from = p; to = client_of t; msg = m }) → ⊥
    no_client c at p n m i got = client_not_idle v.parties v.sent e n p m i course t c got at idle

    pub rest_shows : Shows members t v e ok h from [] v.parties
    rest_shows =
        record {
          kept = subst (λ (l : List Envelope). Kept members t v.parties l) (sym (append-nil v.sent)) h.kept;
          client = same_client members t v e ok h from [] v.parties refl;
          new_vote = λ c p b d o at new. absurd (no_client c at p new.0 (Voted t b d o) new.1 new.2);
          new_grant = λ c p d version q value at new. absurd (no_client c at p new.0 (Granted t q d version value) new.1 new.2);
          new_read = λ c p d sh q at m new. absurd (no_read d sh q m p new.0 new.1 new.2);
          goes = λ d z m at. goes_frame members t v e ok h.kept h.sent_before d z from [] (outside d m) (no_member d z m at) (h.goes d z m at);
          shard = λ d sh z m at. (z, at, λ f. f);
          new_prepare = λ p d sh q z m at new. absurd (no_shard d sh z m at p new.0 (Prepare t q) new.1 new.2);
        }

  -- A CLIENT BEGINS
  pub begin_shows : (u : ℕ) → e ≡ Begin u → found nat_cmp v.parties.clients u ≡ None → Shows members t v e ok h (client_of u) [] (with_new_client v.parties u)
  begin_shows u begun none =
      record {
        kept = subst (λ (l : List Envelope). Kept members t (with_new_client v.parties u) l) (sym (append-nil v.sent)) (begins members t v.parties v.sent h.kept u none (new_shape t v.parties.layout));
        client = λ c at. ⊎_elim
            (λ (f : (t ≡ u) × (found nat_cmp (put nat_cmp v.parties.clients u new_client) t ≡ Some new_client)). inl (ap (λ (n : ℕ). found nat_cmp v.parties.clients n) f.0 ∙ none))
            (λ (f : (t ≡ u → ⊥) × (found nat_cmp (put nat_cmp v.parties.clients u new_client) t ≡ found nat_cmp v.parties.clients t)). same_client members t v e ok h (client_of u) [] (with_new_client v.parties u) f.1 c at)
            (put_cases t u new_client v.parties.clients);
        new_vote = λ c p b d o at new. absurd (nothing new.0 new.1);
        new_grant = λ c p d version q value at new. absurd (nothing new.0 new.1);
        new_read = λ c p d sh q at m new. absurd (nothing new.0 new.1);
        goes = λ d z m at. goes_frame members t v e ok h.kept h.sent_before d z (client_of u) [] (λ f. cc) (λ p n q i got. nothing n i) (h.goes d z m at);
        shard = λ d sh z m at. (z, at, λ f. f);
        new_prepare = λ p d sh q z m at new. absurd (nothing new.0 new.1);
      }
    where
      nothing : (n : ℕ) → e ≡ Deliver n → ⊥
      nothing n i = let z = sym i ∙ begun in cc

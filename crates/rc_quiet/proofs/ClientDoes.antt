-- What t's client tests, asks for and proposes, by each of its rows but those with which it drops a read or vanishes.
use Rattle.std.proofs.Common.{◌≡◌, ℕ, List, [], ◌∷◌, ◌++◌, refl, sym, ap, ◌∙◌, subst, Bool, true, false, Option, Some, None, ◌⊎◌, inl, inr, ⊎_elim, true≢false}
use Rattle.std.specs.Prelude.{not, ◌&&◌, ◌==◌}
use Rattle.std.specs.Ordering.{nat_cmp}
use Rattle.std.proofs.lemmas.Bool.{eqb-true}
use Rattle.rc_ids.specs.Tables.{In, Table, found, put, maybe}
use Rattle.rc_ids.specs.Cluster.{Layout, is_dc, is_quorum, shard_of}
use Rattle.rc_body.specs.declared.decision.Decision.{Decision}
use Rattle.rc_body.specs.declared.decision.Decision.TheVariants.{Commit, Abort}
use Rattle.rc_msg.specs.declared.msg.Msg.{Msg}
use Rattle.rc_msg.specs.declared.msg.Msg.TheVariants.{ReadAsk, Granted, Propose, Voted, Refused, Decided}
use Rattle.rc_protocol.specs.Messages.{Posts, coordinator, shard_server, to_all}
use Rattle.rc_protocol.specs.Coordinator.{Standing, nobody, stands_for, standing_for, standing_at, counted, is_decided_by}
use Rattle.rc_protocol.specs.Client.{Client, ClientAct, Phase, Open, Committing, Proposed, Done, Vanished, Slot, KeyRead, NotRead, UnderWay, Complete, Grant, is_open, is_over, is_done, is_committing, is_proposed, is_unread, reads_on, client_stays, with_slots, with_read, with_write, is_worn, proposes, body_of, slot_of, slot_set, read_begun, asks, reads_again, do_read, do_write, is_under_way, waits_for_read, reads_begun, unread_keys, asks_all, do_commit, do_retry, granted_by, cancels, completed, read_line, after_read, unless_refused, with_grant, prints_of, takes_grant, wants_grant, on_granted, on_voted, on_decided, counts_refusal, client_row}
use Rattle.rc_protocol.specs.Acts.{ClientCause, Hears, Reads, Writes, Commits, Cancels, Retries, Vanishes, client_by_row}
use Rattle.rc_agreement.proofs.Cases.{on_cond, on_maybe, some_is, and_left, and_right, not_true}
use Rattle.rc_agreement.proofs.Tables.{in_right, in_either, in_map, put_cases}
use Rattle.rc_agreement.proofs.Lists.{any_some}
use Rattle.rc_agreement.proofs.Ballots.{Late}
use Rattle.rc_agreement.proofs.ClientRows.{early_late, open_early, Ready}
use Rattle.rc_agreement.proofs.ClientSlots.{slot_in, in_set, begun_key}
use Rattle.rc_quiet.proofs.Parts.{IsDone, ClientShape}
use Rattle.rc_quiet.proofs.ClientRows.{in_all, in_asks, in_asks_all, in_unread, begun_unread, under_unread, done_read, none_under, begun_done, set_in, open_apart, early_proposed}

-- a message that comes to t's client tells this outcome, or a vote for it
abbrev pub Brings : ℕ → ClientCause → Decision → Type 0
Brings t (Hears (Voted u b d p)) o = (u ≡ t) × (p ≡ o)
Brings t (Hears (Decided u p)) o = (u ≡ t) × (p ≡ o)
Brings t k o = ⊥

-- t's client loses nothing by this
abbrev pub DropsNone : ClientCause → Type 0
DropsNone (Cancels k) = ⊥
DropsNone Vanishes = ⊥
DropsNone k = Unit {0}

module _ (c : Layout) (t : ℕ) (x : Client) (shape : ClientShape t c x) (ended : is_done x.phase ≡ true → (o : Decision) × (x.outcome ≡ Some o)) where
  -- a slot with this key had a read
  abbrev pub Had : List ℕ → Type 0
  Had k = (z : Slot) × In z x.slots × (z.key ≡ k) × (is_unread z.read ≡ false)

  pub record Does (k : ClientCause) (p : Phase) (ss : List Slot) (votes : Table ℕ Standing) (outcome : Option Decision) (ms : Posts) : Type 0 where
    pub committing : is_committing p ≡ true → (waits_for_read ss ≡ true) × ((s : Slot) → In s ss → is_unread s.read ≡ false)
    pub undecided : (b : ℕ) (o : Decision) → is_over p ≡ false → is_quorum c (standing_for (standing_at votes b) o) ≡ false
    pub complete : Late p → (s : Slot) → In s ss → IsDone s.read
    pub here : p ≡ Vanished → ⊥
    pub asked : (s : Slot) (d : ℕ) → In s ss → is_unread s.read ≡ false → is_dc c d ≡ true → Had s.key ⊎ In (shard_server d (shard_of c s.key), ReadAsk t s.key) ms
    pub proposes_to : (d : ℕ) → is_proposed p ≡ true → is_dc c d ≡ true → ((is_proposed x.phase ≡ true) × (ss ≡ x.slots)) ⊎ In (coordinator d, Propose t 0 (Commit (body_of ss))) ms
    pub learned : (o : Decision) → outcome ≡ Some o → (x.outcome ≡ Some o) ⊎ Brings t k o
    pub ends : is_done p ≡ true → (o : Decision) × (outcome ≡ Some o)

  -- what is brought was proposed
  module _ (k : ClientCause) (late : (o : Decision) → Brings t k o → Late x.phase) where
    abbrev D : ClientAct → Type 0
    D a = Does k a.after.phase a.after.slots a.after.votes a.after.outcome a.sends

    had : (s : Slot) → In s x.slots → is_unread s.read ≡ false → Had s.key
    had s i n = (s, i, refl, n)

    kept : (ms : Posts) → Does k x.phase x.slots x.votes x.outcome ms
    kept ms =
        record {
          committing = shape.committing;
          undecided = shape.undecided;
          complete = shape.complete;
          here = shape.here;
          asked = λ s d i n dc. inl (had s i n);
          proposes_to = λ d is dc. inl (is, refl);
          learned = λ o e. inl e;
          ends = ended;
        }

    -- while it is open, its slots may change
    opened : is_open x.phase ≡ true → (ss : List Slot) (ms : Posts)
        → ((s : Slot) (d : ℕ) → In s ss → is_unread s.read ≡ false → is_dc c d ≡ true → Had s.key ⊎ In (shard_server d (shard_of c s.key), ReadAsk t s.key) ms) → Does k x.phase ss x.votes x.outcome ms
    opened e ss ms asked =
        let n = open_apart x.phase e in
        record {
          committing = λ f. absurd (n.0 f);
          undecided = shape.undecided;
          complete = λ l. absurd (n.2 l);
          here = shape.here;
          asked = asked;
          proposes_to = λ d f dc. absurd (n.1 f);
          learned = λ o f. inl f;
          ends = ended;
        }

    -- it proposes what it has now
    proposing : (ss : List Slot) (ms : Posts) → reads_on x.phase ≡ true → ((s : Slot) → In s ss → IsDone s.read) → ((s : Slot) → In s ss → is_unread s.read ≡ false → Had s.key)
        → Does k Proposed ss x.votes x.outcome (ms ++ to_all c (Propose t 0 (Commit (body_of ss))))
    proposing ss ms early done asked =
        record {
          committing = λ f. absurd (true≢false (sym f));
          undecided = λ b o _. shape.undecided b o (early_over x.phase early);
          complete = λ _. done;
          here = λ e. cc;
          asked = λ s d i n dc. inl (asked s i n);
          proposes_to = λ d is dc. inr (in_right _ ms _ (in_all c d (Propose t 0 (Commit (body_of ss))) dc));
          learned = λ o e. inl e;
          ends = λ f. absurd (true≢false (sym f));
        }
      where
        early_over : (p : Phase) → reads_on p ≡ true → is_over p ≡ false
        early_over Open e = refl
        early_over Committing e = refl
        early_over Proposed e = refl
        early_over Done e = absurd (true≢false (sym e))
        early_over Vanished e = absurd (true≢false (sym e))

    -- COMMANDS
    read_row : is_open x.phase ≡ true → (q : List ℕ) → D (do_read c t x q)
    read_row e q =
        on_maybe D (slot_of x.slots q) _ _
        (λ _. opened e (x.slots ++ record { key = q; write = None; read = UnderWay true [] } ∷ []) (asks c t q)
        (λ s d i n dc. ⊎_elim
        (λ old. inl (had s old n))
        (λ (new : (record { key = q; write = None; read = UnderWay true [] } ≡ s) ⊎ ⊥). ⊎_elim (λ f. inr (subst (λ (z : List ℕ). In (shard_server d (shard_of c z), ReadAsk t z) (asks c t q)) (ap (λ (z : Slot). z.key) f) (in_asks c t d q dc))) (λ z. absurd z) new)
        (in_either s x.slots (record { key = q; write = None; read = UnderWay true [] } ∷ []) i)))
        (λ s _. on_maybe D s.write _ _ (λ _. again s.read) (λ v _. kept []))
      where
        again : (r : KeyRead) → D (reads_again t x q r)
        again (Complete v y) = kept []
        again (UnderWay p gs) = kept []
        again NotRead = kept []

    write_row : is_open x.phase ≡ true → (q value : List ℕ) → D (do_write x q value)
    write_row e q value =
        opened e _ [] (λ s d i n dc. inl (on_maybe (λ (z : List Slot). In s z → Had s.key) (slot_of x.slots q) _ _
        (λ _ j. ⊎_elim (λ old. had s old n) (λ (new : (record { key = q; write = Some value; read = NotRead } ≡ s) ⊎ ⊥). ⊎_elim (λ f. absurd (true≢false (ap (λ (z : Slot). is_unread z.read) f ∙ n))) (λ z. absurd z) new)
        (in_either s x.slots (record { key = q; write = Some value; read = NotRead } ∷ []) j))
        (λ y is j. ⊎_elim
        (λ (f : with_write y value ≡ s). (y, (slot_in q x.slots y is).0, ap (λ (z : Slot). z.key) f, ap (λ (z : Slot). is_unread z.read) f ∙ n))
        (λ old. had s old n)
        (in_set (with_write y value) x.slots s j)) i))

    commit_row : is_open x.phase ≡ true → D (do_commit c t x)
    commit_row e =
        on_cond D (waits_for_read (reads_begun x.slots)) _ _
        (λ w. record {
          committing = λ _. (w, λ s i. let z = in_map read_begun s x.slots i in subst (λ (y : Slot). is_unread y.read ≡ false) z.2 (begun_unread z.0));
          undecided = λ b o _. shape.undecided b o (open_over x.phase e);
          complete = λ l. absurd l;
          here = λ f. cc;
          asked = λ s d i n dc. let z = in_map read_begun s x.slots i in subst (λ (y : Slot). Had y.key ⊎ In (shard_server d (shard_of c y.key), ReadAsk t y.key) (asks_all c t (unread_keys x.slots))) z.2 (begun z.0 d z.1 dc);
          proposes_to = λ d f dc. absurd (true≢false (sym f));
          learned = λ o f. inl f;
          ends = λ f. absurd (true≢false (sym f));
        })
        (λ n. on_cond D (is_worn x.slots) _ _ (λ _. kept []) (λ _. proposing x.slots [] (early e) (begun_done x.slots n) had))
      where
        early : is_open x.phase ≡ true → reads_on x.phase ≡ true
        early e = open_early x.phase e

        open_over : (p : Phase) → is_open p ≡ true → is_over p ≡ false
        open_over Open e = refl
        open_over Committing e = absurd (true≢false (sym e))
        open_over Proposed e = absurd (true≢false (sym e))
        open_over Done e = absurd (true≢false (sym e))
        open_over Vanished e = absurd (true≢false (sym e))

        begun : (z : Slot) (d : ℕ) → In z x.slots → is_dc c d ≡ true → Had (read_begun z).key ⊎ In (shard_server d (shard_of c (read_begun z).key), ReadAsk t (read_begun z).key) (asks_all c t (unread_keys x.slots))
        begun z d i dc =
            subst (λ (q : List ℕ). Had q ⊎ In (shard_server d (shard_of c q), ReadAsk t q) (asks_all c t (unread_keys x.slots))) (sym (begun_key z)) (go (is_unread z.read) refl)
          where
            go : (b : Bool) → is_unread z.read ≡ b → Had z.key ⊎ In (shard_server d (shard_of c z.key), ReadAsk t z.key) (asks_all c t (unread_keys x.slots))
            go true u = inr (in_asks_all c t d z.key (unread_keys x.slots) dc (in_unread z x.slots i u))
            go false u = inl (had z i u)

    retry_row : D (do_retry c t x)
    retry_row = on_cond D (is_proposed x.phase) _ _ (λ _. kept _) (λ _. on_cond D (reads_on x.phase) _ _ (λ _. kept _) (λ _. kept []))

    -- A GRANT COMES
    granted_row : (q : List ℕ) (g : Grant) → D (on_granted c t x q g)
    granted_row q g =
        on_cond D (reads_on x.phase) _ _
        (λ early. on_maybe D (slot_of x.slots q) _ _ (λ _. kept [])
        (λ s is. on_cond D (wants_grant s g.dc) _ _ (λ wants. takes early s is (and_left (is_under_way s.read) _ wants)) (λ _. kept [])))
        (λ _. kept [])
      where
        takes : reads_on x.phase ≡ true → (s : Slot) → slot_of x.slots q ≡ Some s → is_under_way s.read ≡ true → D (takes_grant c t x s g)
        takes early s is way =
            on_cond D (is_quorum c (granted_by gs)) _ _
            (λ _. on_cond (λ a. D (unless_refused x (after_read (cancels c t s.key gs) (read_line t s gs) a))) (is_committing y.phase && not (waits_for_read y.slots)) (proposes c t y) (client_stays y)
            (λ both. on_cond (λ a. D (unless_refused x (after_read (cancels c t s.key gs) (read_line t s gs) a))) (is_worn y.slots) _ _ (λ _. kept [])
            (λ _. proposing y.slots (cancels c t s.key gs) early (all_done both) (held (completed s gs) refl)))
            (λ no. changes (completed s gs) refl (cancels c t s.key gs ++ []) (λ f. waits_still f no) refl))
            (λ _. changes (with_read s (UnderWay (prints_of s.read) gs)) refl []
            (λ _. any_some (λ (z : Slot). is_under_way z.read) _ (with_read s (UnderWay (prints_of s.read) gs)) (set_in q s (with_read s (UnderWay (prints_of s.read) gs)) x.slots is (slot_in q x.slots s is).1) refl) refl)
          where
            gs : List Grant
            gs = with_grant s g

            y : Client
            y = with_slots x (slot_set x.slots (completed s gs))

            -- the slot that is set had a read
            held : (z : Slot) → z.key ≡ s.key → (r : Slot) → In r (slot_set x.slots z) → is_unread r.read ≡ false → Had r.key
            held z same r i n = ⊎_elim (λ (e : z ≡ r). (s, (slot_in q x.slots s is).0, sym same ∙ ap (λ (w : Slot). w.key) e, under_unread s.read way)) (λ old. had r old n) (in_set z x.slots r i)

            unread_none : is_committing x.phase ≡ true → (z : Slot) → is_unread z.read ≡ false → (r : Slot) → In r (slot_set x.slots z) → is_unread r.read ≡ false
            unread_none f z n r i = ⊎_elim (λ (e : z ≡ r). subst (λ (w : Slot). is_unread w.read ≡ false) e n) (λ old. (shape.committing f).1 r old) (in_set z x.slots r i)

            all_done : (is_committing y.phase && not (waits_for_read y.slots)) ≡ true → (r : Slot) → In r y.slots → IsDone r.read
            all_done both r i =
                done_read r.read (unread_none (and_left _ _ both) (completed s gs) refl r i)
                (none_under y.slots (not_true _ (and_right (is_committing x.phase) _ both)) r i)

            waits_still : is_committing x.phase ≡ true → (is_committing y.phase && not (waits_for_read y.slots)) ≡ false → waits_for_read y.slots ≡ true
            waits_still f few = go (waits_for_read y.slots) (subst (λ (b : Bool). (b && not (waits_for_read y.slots)) ≡ false) f few)
              where
                go : (b : Bool) → not b ≡ false → b ≡ true
                go true e = refl
                go false e = absurd (true≢false e)

            -- the read goes on, or is complete
            changes : (z : Slot) → z.key ≡ s.key → (ms : Posts) → (is_committing x.phase ≡ true → waits_for_read (slot_set x.slots z) ≡ true) → is_unread z.read ≡ false → Does k x.phase (slot_set x.slots z) x.votes x.outcome ms
            changes z same ms w n =
                record {
                  committing = λ f. (w f, unread_none f z n);
                  undecided = shape.undecided;
                  complete = λ l. absurd (early_late x.phase early l);
                  here = shape.here;
                  asked = λ r d i m dc. inl (held z same r i m);
                  proposes_to = λ d f dc. absurd (early_proposed x.phase early f);
                  learned = λ o e. inl e;
                  ends = ended;
                }

    -- VOTES AND OUTCOMES
    stands_few : (v : Standing) (o p : Decision) (d : ℕ) → is_quorum c (standing_for (stands_for v o d) o) ≡ false → ((r : Decision) → is_quorum c (standing_for v r) ≡ false) → is_quorum c (standing_for (stands_for v o d) p) ≡ false
    stands_few v Abort Abort d n h = n
    stands_few v Abort (Commit y) d n h = h (Commit y)
    stands_few v (Commit z) Abort d n h = h Abort
    stands_few v (Commit z) (Commit y) d n h = n

    counted_few : (b d : ℕ) (o : Decision) → is_over x.phase ≡ false → is_decided_by c x.votes b d o ≡ false → (e : ℕ) (p : Decision) → is_quorum c (standing_for (standing_at (counted x.votes b d o) e) p) ≡ false
    counted_few b d o over few e p =
        let new : Standing = stands_for (standing_at x.votes b) o d in
        ⊎_elim
        (λ (h : (e ≡ b) × (found nat_cmp (put nat_cmp x.votes b new) e ≡ Some new)).
        subst (λ (z : Option Standing). is_quorum c (standing_for (maybe z nobody (λ y. y)) p) ≡ false) (sym h.1) (stands_few (standing_at x.votes b) o p d few (λ r. shape.undecided b r over)))
        (λ (h : (e ≡ b → ⊥) × (found nat_cmp (put nat_cmp x.votes b new) e ≡ found nat_cmp x.votes e)).
        subst (λ (z : Option Standing). is_quorum c (standing_for (maybe z nobody (λ y. y)) p) ≡ false) (sym h.1) (shape.undecided e p over))
        (put_cases e b new x.votes)

    -- it learns what the message brings
    learns : (votes : Table ℕ Standing) (o : Decision) → Brings t k o → Does k Done x.slots votes (Some o) []
    learns votes o b =
        record {
          committing = λ f. absurd (true≢false (sym f));
          undecided = λ a p f. absurd (true≢false f);
          complete = λ _. shape.complete (late o b);
          here = λ e. cc;
          asked = λ s d i n dc. inl (had s i n);
          proposes_to = λ d f dc. absurd (true≢false (sym f));
          learned = λ p e. inr (subst (Brings t k) (some_is o p e) b);
          ends = λ _. (o, refl);
        }

    voted_row : (b d : ℕ) (o : Decision) → Brings t k o → D (on_voted c t x b d o)
    voted_row b d o brings =
        on_cond D (is_over x.phase) _ _ (λ _. kept [])
        (λ over. on_cond D (is_decided_by c x.votes b d o) _ _ (λ _. learns (counted x.votes b d o) o brings)
        (λ no. record {
          committing = shape.committing;
          undecided = λ e p _. counted_few b d o over no e p;
          complete = shape.complete;
          here = shape.here;
          asked = λ s e i n dc. inl (had s i n);
          proposes_to = λ e is dc. inl (is, refl);
          learned = λ p e. inl e;
          ends = ended;
        }))

    decided_row : (o : Decision) → Brings t k o → D (on_decided t x o)
    decided_row o brings = on_cond D (is_over x.phase) _ _ (λ _. kept []) (λ _. learns x.votes o brings)

    hears_row : (m : Msg) → k ≡ Hears m → D (client_row c t x m)
    hears_row (Granted u q d v y) e = on_cond D ((u == t) && is_dc c d) _ _ (λ _. granted_row q (record { dc = d; version = v; value = y })) (λ _. kept [])
    hears_row (Voted u b d o) e = on_cond D ((u == t) && is_dc c d) _ _ (λ is. voted_row b d o (subst (λ (z : ClientCause). Brings t z o) (sym e) (eqb-true u t (and_left (u == t) _ is), refl))) (λ _. kept [])
    hears_row (Refused u b d r) e = on_cond D ((u == t) && is_dc c d) _ _ (λ _. on_cond D (counts_refusal x b d) _ _ (λ _. kept _) (λ _. kept [])) (λ _. kept [])
    hears_row (Decided u o) e = on_cond D (u == t) _ _ (λ is. decided_row o (subst (λ (z : ClientCause). Brings t z o) (sym e) (eqb-true u t is, refl))) (λ _. kept [])
    hears_row _ e = kept []

  -- EVERY ROW
  abbrev Acts : ClientCause → ClientAct → Type 0
  Acts k a = Does k a.after.phase a.after.slots a.after.votes a.after.outcome a.sends

  pub client_does : (k : ClientCause) → DropsNone k → Ready x k → ((o : Decision) → Brings t k o → Late x.phase) → Acts k (client_by_row c t x k)
  client_does (Hears m) none ready late = hears_row (Hears m) late m refl
  client_does (Reads q) none ready late = read_row (Reads q) late ready q
  client_does (Writes q value) none ready late = write_row (Writes q value) late ready q value
  client_does Commits none ready late = commit_row Commits late ready
  client_does (Cancels q) none ready late = absurd none
  client_does Retries none ready late = retry_row Retries late
  client_does Vanishes none ready late = absurd none

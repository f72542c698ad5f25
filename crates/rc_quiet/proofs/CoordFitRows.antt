-- What a coordinator says and holds of t fits, by each of its rows.
use Rattle.std.proofs.Common.{◌≡◌, ℕ, List, [], ◌∷◌, refl, sym, ap, ◌∙◌, subst, Bool, true, false, cond, Option, Some, None, inl, inr, ⊎_elim, max}
use Rattle.std.specs.Prelude.{not, ◌&&◌, ◌==◌, nat_lt, length, ◌+◌}
use Rattle.std.specs.Ordering.{nat_cmp}
use Rattle.std.proofs.lemmas.Bool.{eqb-true}
use Rattle.rc_ids.specs.Tables.{In, Table, found, put, member, maybe}
use Rattle.rc_ids.specs.Cluster.{Layout, is_dc, is_shard, owner_of, next_ballot}
use Rattle.rc_ids.specs.declared.names.Party.{Party}
use Rattle.rc_body.specs.Bodies.{part, touches}
use Rattle.rc_body.specs.declared.entry.Entry.{Entry}
use Rattle.rc_body.specs.declared.decision.Decision.{Decision}
use Rattle.rc_body.specs.declared.decision.Decision.TheVariants.{Commit, Abort}
use Rattle.rc_body.specs.declared.reason.Reason.{Reason}
use Rattle.rc_body.specs.declared.reason.Reason.TheVariants.{Promised as PromisedHigher}
use Rattle.rc_msg.specs.declared.msg.Envelope.{Envelope}
use Rattle.rc_msg.specs.declared.msg.Msg.{Msg}
use Rattle.rc_msg.specs.declared.msg.Msg.TheVariants.{Propose, Prepare, Prepared, Voted, Refused, Ask, Promise, Decided, Finish, Abandon, CatchAsk, CatchPage}
use Rattle.rc_record.specs.declared.record.Record.{Record}
use Rattle.rc_record.specs.declared.record.Record.TheVariants.{Promised, Accepted, Decided as OutcomesDecided}
use Rattle.rc_record.specs.CoordState.{CoordDurable, promise_of, outcome_of as listed_outcome}
use Rattle.rc_protocol.specs.Messages.{coordinator, shard_server, client_of, one, to_each, to_all, most_entries}
use Rattle.rc_protocol.specs.Coordinator.{CoordVolatile, CoordAct, GatherState, TakeoverState, Standing, nobody, stands_for, standing_for, standing_at, counted, coord_stays, coord_says, proposer, vote, accepts, finish_to, finish_posts, forgotten, coord_learns, opening, takes_over, has_all, with_gather, prepare_to, gathers_on, gather_at, takes_proposal, refuses, accepted_at, on_propose, waiting_gather, said_yes, with_yes, on_prepared, promises_at, on_ask, waiting_takeover, chooses, with_takeover, proposed, hears, on_promise, is_decided_by, tally_of, with_vote, on_voted, on_decided, page_from, cursor_of, is_next_coord_page, with_coord_cursor, undecided, forgotten_all, finish_all_posts, outcomes_record, on_catch_page, coord_row}
use Rattle.rc_protocol.specs.Acts.{NodeCause, Came as Comes, Takes, Catches, coord_act}
use Rattle.rc_protocol.specs.Nodes.{CoordNode}
use Rattle.rc_agreement.proofs.Cases.{on_cond, on_maybe, some_is, never, and_left}
use Rattle.rc_agreement.proofs.Tables.{in_right, put_same, found_in, in_put, in_without, in_added}
use Rattle.rc_agreement.proofs.Sends.{EachTo, to_none, to_one, to_both, to_many, to_coords}
use Rattle.rc_agreement.proofs.HonestRows.{in_take, in_drop, in_filter}
use Rattle.rc_quiet.proofs.Parts.{Sent, Own, HasTold, Voters, Told, Fits, Tallies, CoordFits}

-- a record that lists outcomes lists of t what was told
abbrev pub Lists : ℕ → Layout → List Envelope → Option Record → Type 0
Lists t c now (Some (OutcomesDecided es)) = (o : Decision) → In (t, o) es → Told t c now o
Lists t c now _ = Unit {0}

-- the act opens no take-over of t
abbrev pub Untaken : ℕ → CoordAct → Type 0
Untaken t a = found nat_cmp a.after.takeovers t ≡ None

-- what it says, where it goes on; and what it holds then, also where it stops with its record
pub record CoordDoes (t : ℕ) (c : Layout) (now : List Envelope) (d : ℕ) (a : CoordAct) : Type 0 where
  pub says : Untaken t a → ((to : Party) (m : Msg) → In (to, m) a.sends → Sent now (coordinator d) to m) → EachTo (Fits t c now (coordinator d)) a.sends
  pub promises : Untaken t a → (b : ℕ) → a.logs ≡ Some (Promised t b) → ⊥
  pub gathers : (g : GatherState) → In (t, g) a.after.gathers → (g.ballot ≡ 0) × Own t now (Commit g.body)
  pub tally : (tally : Table ℕ Standing) → In (t, tally) a.after.votes → Tallies t now tally
  pub accepts : (b : ℕ) (o : Decision) → a.logs ≡ Some (Accepted t b o) → (b ≡ 0) × Own t now o
  pub lists : Lists t c now a.logs

-- no record of a vote, or of a promise for t
abbrev Harmless : ℕ → Option Record → Type 0
Harmless t (Some (Accepted u b o)) = ⊥
Harmless t (Some (Promised u b)) = u ≡ t → ⊥
Harmless t _ = Unit {0}

max_zero : (a b : ℕ) → a ≡ 0 → b ≡ 0 → max a b ≡ 0
max_zero a b e f = rw (e, f) refl

nobody_stands : (e : ℕ) (o : Decision) → In e (standing_for nobody o) → ⊥
nobody_stands e Abort i = i
nobody_stands e (Commit p) i = i

-- now holds what was sent before the act and in it; the state fits it
module _ (t : ℕ) (c : Layout) (now : List Envelope) (d : ℕ) (dc : is_dc c d ≡ true) (x : CoordNode) (fits : CoordFits t c now x) (untaken : found nat_cmp x.volatile.takeovers t ≡ None) where
  abbrev s : CoordDurable
  s = x.durable

  abbrev v : CoordVolatile
  v = x.volatile

  abbrev F : Party → Msg → Type 0
  F = Fits t c now (coordinator d)

  abbrev R : CoordAct → Type 0
  R = CoordDoes t c now d

  record Fewer (w : CoordVolatile) : Type 0 where
    gathers : (g : GatherState) → In (t, g) w.gathers → (g.ballot ≡ 0) × Own t now (Commit g.body)
    tally : (tally : Table ℕ Standing) → In (t, tally) w.votes → Tallies t now tally

  same : Fewer v
  same = record { gathers = fits.gathers; tally = fits.tally }

  no_vote : (r : Option Record) → Harmless t r → (b : ℕ) (o : Decision) → r ≡ Some (Accepted t b o) → (b ≡ 0) × Own t now o
  no_vote r n b o e = absurd (subst (Harmless t) e n)

  no_promise : (r : Option Record) → Harmless t r → (b : ℕ) → r ≡ Some (Promised t b) → ⊥
  no_promise r n b e = subst (Harmless t) e n refl

  plain : (a : CoordAct) → EachTo F a.sends → Fewer a.after → Harmless t a.logs → Lists t c now a.logs → CoordDoes t c now d a
  plain a h f n l = record { says = λ _ _. h; promises = λ _. no_promise a.logs n; gathers = f.gathers; tally = f.tally; accepts = no_vote a.logs n; lists = l }

  says_one : (p : Party) (m : Msg) → F p m → R (coord_says v (one p m))
  says_one p m h = plain _ (to_one F p m h) same tt tt

  idle : R (coord_stays v)
  idle = plain _ (to_none F) same tt tt

  told_of : (u : ℕ) (o : Decision) → listed_outcome s.outcomes u ≡ Some o → u ≡ t → Told t c now o
  told_of u o is e = fits.listed o (subst (λ (n : ℕ). In (n, o) s.outcomes) e (found_in u s.outcomes o is))

  -- VOTES
  votes_fit : (u b : ℕ) (o : Decision) → (u ≡ t → (b ≡ 0) × Own t now o) → ((to : Party) (m : Msg) → In (to, m) (vote c d u b o) → Sent now (coordinator d) to m) → EachTo F (vote c d u b o)
  votes_fit u b o own new =
      to_both F (to_all c (Voted u b d o)) (one (client_of u) (Voted u b d o))
      (to_coords F c (Voted u b d o) (λ e is. (refl, (own is).0, tt, (own is).1, told is, dc)))
      (to_one F (client_of u) (Voted u b d o) (λ is. (refl, (own is).0, is, (own is).1, told is, dc)))
    where
      told : u ≡ t → Sent now (coordinator d) (client_of t) (Voted t 0 d o)
      told is =
          let h = new (client_of u) (Voted u b d o) (in_right (client_of u, Voted u b d o) (to_all c (Voted u b d o)) (one (client_of u) (Voted u b d o)) (inl refl)) in
          let zero_it = (own is).0 in
          subst (λ (z : ℕ × ℕ). Sent now (coordinator d) (client_of z.0) (Voted z.0 z.1 d o)) (λ i. (is i, zero_it i)) h

  accepts_row : (w : CoordVolatile) → Fewer w → (u b : ℕ) (o : Decision) → (u ≡ t → (b ≡ 0) × Own t now o) → R (accepts c d w u b o)
  accepts_row w f u b o own =
      record {
        says = λ _. votes_fit u b o own;
        promises = λ _ a e. cc;
        gathers = f.gathers;
        tally = f.tally;
        accepts = λ a p e.
            let same_vote : Accepted u b o ≡ Accepted t a p = some_is _ _ e in
            let n : u ≡ t = (cc) in let m : b ≡ a = (cc) in let q : o ≡ p = (cc) in
            subst (λ (z : ℕ × Decision). (z.0 ≡ 0) × Own t now z.1) (λ i. (m i, q i)) (own n);
        lists = tt;
      }

  refuses_row : (w : CoordVolatile) → Fewer w → (u b : ℕ) (reason : Reason) → R (refuses c d w u b reason)
  refuses_row w f u b reason = plain _ (to_one F (proposer c u b) (Refused u b d reason) tt) f tt tt

  -- PROPOSALS
  gathered : (u : ℕ) (g : GatherState) → (u ≡ t → (g.ballot ≡ 0) × Own t now (Commit g.body)) → Fewer (with_gather v u g)
  gathered u g own =
      record {
        gathers = λ h i. ⊎_elim
            (λ (e : (u, g) ≡ (t, h)). subst (λ (z : ℕ × GatherState). (z.1.ballot ≡ 0) × Own t now (Commit z.1.body)) e (own (ap (λ (z : ℕ × GatherState). z.0) e)))
            (λ old. fits.gathers h old)
            (in_put u g v.gathers (t, h) i);
        tally = fits.tally;
      }

  prepares : (u : ℕ) (g : GatherState) → (u ≡ t → (g.ballot ≡ 0) × Own t now (Commit g.body)) → EachTo F (to_each c.shards (prepare_to c d u g))
  prepares u g own =
      to_many F c.shards (prepare_to c d u g)
      (λ y. on_cond (EachTo F) (touches c g.body y && not (member nat_cmp g.yes y)) _ _
      (λ w. to_one F (shard_server d y) (Prepare u (part c y g.body))
      (λ e. record { dc = d; shard = y; from_it = refl; to_it = refl; body = g.body; own = (own e).1; is = refl; touched = and_left _ _ w }))
      (λ _. to_none F))

  gathers_row : (u : ℕ) (g : GatherState) → (u ≡ t → (g.ballot ≡ 0) × Own t now (Commit g.body)) → R (gathers_on c d v u g)
  gathers_row u g own =
      on_cond R (has_all c g) _ _
      (λ _. accepts_row (with_gather v u g) (gathered u g own) u g.ballot (Commit g.body) own)
      (λ _. plain _ (prepares u g own) (gathered u g own) tt tt)

  held : (u : ℕ) (g : GatherState) → found nat_cmp v.gathers u ≡ Some g → u ≡ t → (g.ballot ≡ 0) × Own t now (Commit g.body)
  held u g is e = fits.gathers g (subst (λ (n : ℕ). In (n, g) v.gathers) e (found_in u v.gathers g is))

  gather_own : (u b : ℕ) (body : List Entry) → (u ≡ t → (b ≡ 0) × Own t now (Commit body)) → u ≡ t → ((gather_at v u b body).ballot ≡ 0) × Own t now (Commit (gather_at v u b body).body)
  gather_own u b body own e =
      on_maybe (λ (g : GatherState). (g.ballot ≡ 0) × Own t now (Commit g.body)) (found nat_cmp v.gathers u) _ _ (λ _. own e)
      (λ g is. let h = held u g is e in (max_zero g.ballot b h.0 (own e).0, h.1))

  proposes : (u b : ℕ) (o : Decision) → (u ≡ t → (b ≡ 0) × Own t now o) → R (takes_proposal c d v u b o)
  proposes u b Abort own = accepts_row v same u b Abort own
  proposes u b (Commit body) own = gathers_row u (gather_at v u b body) (gather_own u b body own)

  accepted_own : (u b : ℕ) (o : Decision) (a : Option (ℕ × Decision)) → found nat_cmp s.accepted u ≡ a → accepted_at a b ≡ Some o → u ≡ t → (b ≡ 0) × Own t now o
  accepted_own u b o None is k e = never o k
  accepted_own u b o (Some a) is k e =
      on_cond (λ (z : Option Decision). z ≡ Some o → (b ≡ 0) × Own t now o) (a.0 == b) (Some a.1) None
      (λ (yes : (a.0 == b) ≡ true) (f : Some a.1 ≡ Some o).
      let n : a.0 ≡ b = eqb-true a.0 b yes in
      let w : a.1 ≡ o = some_is a.1 o f in
      subst (λ (z : ℕ × Decision). (z.0 ≡ 0) × Own t now z.1) (λ i. (n i, w i)) (fits.accepted a.0 a.1 (subst (λ (m : ℕ). found nat_cmp s.accepted m ≡ Some a) e is)))
      (λ no f. never o f) k

  propose_row : (u b : ℕ) (o : Decision) → (u ≡ t → (b ≡ 0) × Own t now o) → R (on_propose c d s v u b o)
  propose_row u b o own =
      on_maybe R (listed_outcome s.outcomes u) _ _
      (λ _. on_cond R (nat_lt b (promise_of s.promises u)) _ _
      (λ _. refuses_row v same u b (PromisedHigher (promise_of s.promises u)))
      (λ _. on_maybe R (accepted_at (found nat_cmp s.accepted u) b) _ _
      (λ _. proposes u b o own)
      (λ old is. record { says = λ _. votes_fit u b old (accepted_own u b old (found nat_cmp s.accepted u) refl is); promises = λ _ a. never _; gathers = fits.gathers; tally = fits.tally; accepts = λ a p. never _; lists = tt })))
      (λ out is. says_one (proposer c u b) (Decided u out) (told_of u out is))

  -- A SHARD ANSWERS
  waiting_is : (u sh : ℕ) (g : GatherState) → waiting_gather c s v u sh ≡ Some g → found nat_cmp v.gathers u ≡ Some g
  waiting_is u sh g =
      on_maybe P (listed_outcome s.outcomes u) _ _
      (λ _. on_maybe P (found nat_cmp v.gathers u) _ _ (λ _ e. never g e)
      (λ y is. on_cond P (touches c y.body sh && not (member nat_cmp y.yes sh)) _ _ (λ _ e. is ∙ e) (λ _ e. never g e)))
      (λ _ _ e. never g e)
    where
      P : Option GatherState → Type 0
      P o = o ≡ Some g → found nat_cmp v.gathers u ≡ Some g

  yes_row : (u : ℕ) (g : GatherState) → (u ≡ t → (g.ballot ≡ 0) × Own t now (Commit g.body)) → R (said_yes c d s v u g)
  yes_row u g own =
      on_cond R (has_all c g) _ _
      (λ _. on_cond R (nat_lt g.ballot (promise_of s.promises u)) _ _
      (λ _. refuses_row (with_gather v u g) (gathered u g own) u g.ballot (PromisedHigher (promise_of s.promises u)))
      (λ _. accepts_row (with_gather v u g) (gathered u g own) u g.ballot (Commit g.body) own))
      (λ _. plain _ (to_none F) (gathered u g own) tt tt)

  prepared_row : (u sh : ℕ) (reason : Option Reason) → R (on_prepared c d s v u sh reason)
  prepared_row u sh None = on_maybe R (waiting_gather c s v u sh) _ _ (λ _. idle) (λ g is. yes_row u (with_yes g sh) (held u g (waiting_is u sh g is)))
  prepared_row u sh (Some reason) = on_maybe R (waiting_gather c s v u sh) _ _ (λ _. idle) (λ g _. refuses_row v same u g.ballot reason)

  -- TAKE-OVERS
  ask_row : (u b : ℕ) → (u ≡ t → ⊥) → R (on_ask c d s v u b)
  ask_row u b n =
      on_maybe R (listed_outcome s.outcomes u) _ _
      (λ _. on_cond R (nat_lt b (promise_of s.promises u)) _ _
      (λ _. says_one (coordinator (owner_of c b)) (Refused u b d (PromisedHigher (promise_of s.promises u))) tt)
      (λ _. plain (promises_at c d s v u b) (to_one F (coordinator (owner_of c b)) (Promise u b d (found nat_cmp s.accepted u)) tt) same
      (on_cond (Harmless t) (nat_lt (promise_of s.promises u) b) (Some (Promised u b)) None (λ _. n) (λ _. tt))
      (on_cond (Lists t c now) (nat_lt (promise_of s.promises u) b) (Some (Promised u b)) None (λ _. tt) (λ _. tt))))
      (λ out is. says_one (coordinator (owner_of c b)) (Decided u out) (told_of u out is))

  opens_row : (u : ℕ) (eager : Bool) → R (takes_over c d s v u eager)
  opens_row u eager =
      on_maybe R (next_ballot c d (promise_of s.promises u)) _ _
      (λ _. plain _ (to_none F) same tt tt)
      (λ b _. record {
        says = λ none _. to_coords F c (Ask u b) (λ e is. not_opened b none is);
        promises = λ none a e. let f : Promised u b ≡ Promised t a = some_is _ _ e in not_opened b none (cc);
        gathers = fits.gathers;
        tally = fits.tally;
        accepts = λ a o e. cc;
        lists = tt;
      })
    where
      not_opened : (b : ℕ) → found nat_cmp (put nat_cmp v.takeovers u (opening b eager)) t ≡ None → u ≡ t → ⊥
      not_opened b none is = never (opening b eager) (sym none ∙ subst (λ (n : ℕ). found nat_cmp (put nat_cmp v.takeovers u (opening b eager)) n ≡ Some (opening b eager)) is (put_same u (opening b eager) v.takeovers))

  told_or_opens : (u : ℕ) (eager : Bool) → R (maybe (listed_outcome s.outcomes u) (takes_over c d s v u eager) (λ out. coord_says v (one (client_of u) (Decided u out))))
  told_or_opens u eager = on_maybe R (listed_outcome s.outcomes u) _ _ (λ _. opens_row u eager) (λ out is. says_one (client_of u) (Decided u out) (told_of u out is))

  taken_is : (u b from : ℕ) (k : TakeoverState) → waiting_takeover s v u b from ≡ Some k → found nat_cmp v.takeovers u ≡ Some k
  taken_is u b from k =
      on_maybe P (listed_outcome s.outcomes u) _ _
      (λ _. on_maybe P (found nat_cmp v.takeovers u) _ _ (λ _ e. never k e)
      (λ y is. on_cond P ((y.ballot == b) && (not y.has_proposed && not (member nat_cmp y.heard from))) _ _ (λ _ e. is ∙ e) (λ _ e. never k e)))
      (λ _ _ e. never k e)
    where
      P : Option TakeoverState → Type 0
      P o = o ≡ Some k → found nat_cmp v.takeovers u ≡ Some k

  promise_row : (u b from : ℕ) (report : Option (ℕ × Decision)) → R (on_promise c s v u b from report)
  promise_row u b from report =
      on_maybe R (waiting_takeover s v u b from) _ _ (λ _. idle)
      (λ k is. let n : TakeoverState = hears k from report in
      on_maybe R (chooses c n) (coord_stays (with_takeover v u n)) (λ o. coord_says (with_takeover v u (proposed n)) (to_all c (Propose u n.ballot o)))
      (λ _. plain _ (to_none F) (record { gathers = fits.gathers; tally = fits.tally }) tt tt)
      (λ o _. plain _
      (to_coords F c (Propose u n.ballot o) (λ e w. never k (sym untaken ∙ subst (λ (m : ℕ). found nat_cmp v.takeovers m ≡ Some k) w (taken_is u b from k is))))
      (record { gathers = fits.gathers; tally = fits.tally }) tt tt))

  -- OUTCOMES
  finish_fit : (u : ℕ) (o : Decision) → (u ≡ t → Own t now o) → EachTo F (finish_posts c d u o)
  finish_fit u o own = to_many F c.shards (finish_to c d u o) (λ y. to_it y o own)
    where
      to_it : (y : ℕ) (o : Decision) → (u ≡ t → Own t now o) → EachTo F (finish_to c d u o y)
      to_it y Abort own = to_one F (shard_server d y) (Finish u Abort) (λ e. ((own e).0, (Abort, own e)))
      to_it y (Commit body) own =
          on_cond (EachTo F) (touches c body y) _ _ (λ _. to_one F (shard_server d y) (Finish u (Commit (part c y body))) (λ e. (refl, (Commit body, own e)))) (λ _. to_none F)

  forgets : (w : CoordVolatile) (u : ℕ) → Fewer w → Fewer (forgotten w u)
  forgets w u f = record { gathers = λ g i. f.gathers g (in_without u w.gathers (t, g) i); tally = λ tl i. f.tally tl (in_without u w.votes (t, tl) i) }

  learns_row : (u : ℕ) (o : Decision) → (u ≡ t → Told t c now o) → R (coord_learns c d v u o)
  learns_row u o told =
      plain _ (finish_fit u o (λ e. (told e).0)) (forgets v u same) tt
      (λ p i. ⊎_elim (λ (e : (u, o) ≡ (t, p)). subst (λ (z : ℕ × Decision). Told t c now z.1) e (told (ap (λ (z : ℕ × Decision). z.0) e))) (λ n. absurd n) i)

  decided_row : (u : ℕ) (o : Decision) → (u ≡ t → Told t c now o) → R (on_decided c d s v u o)
  decided_row u o told = on_maybe R (listed_outcome s.outcomes u) _ _ (λ _. learns_row u o told) (λ _ _. idle)

  -- TALLIES
  tallies_of : (u : ℕ) → u ≡ t → Tallies t now (tally_of v u)
  tallies_of u e =
      on_maybe (Tallies t now) (found nat_cmp v.votes u) [] (λ tl. tl)
      (λ _ a o i. absurd (nobody_stands a o i))
      (λ tl is. fits.tally tl (subst (λ (n : ℕ). In (n, tl) v.votes) e (found_in u v.votes tl is)))

  in_stands : (tl : Table ℕ Standing) → Tallies t now tl → (from : ℕ) → HasTold t now from → (o p : Decision) (e : ℕ) → In e (standing_for (stands_for (standing_at tl 0) o from) p) → HasTold t now e
  in_stands tl h from new Abort Abort e i = ⊎_elim (λ (z : e ≡ from). subst (HasTold t now) (sym z) new) (λ j. h e Abort j) (in_added e from _ i)
  in_stands tl h from new Abort (Commit y) e i = h e (Commit y) i
  in_stands tl h from new (Commit y) Abort e i = h e Abort i
  in_stands tl h from new (Commit y) (Commit z) e i = ⊎_elim (λ (w : e ≡ from). subst (HasTold t now) (sym w) new) (λ j. h e (Commit z) j) (in_added e from _ i)

  tallies_more : (tl : Table ℕ Standing) → Tallies t now tl → (from : ℕ) → HasTold t now from → (o : Decision) → Tallies t now (counted tl 0 from o)
  tallies_more tl h from new o e p i =
      in_stands tl h from new o p e
      (subst (λ (z : Option Standing). In e (standing_for (maybe z nobody (λ y. y)) p)) (put_same 0 (stands_for (standing_at tl 0) o from) tl) i)

  voted_row : (u b from : ℕ) (o : Decision) → (u ≡ t → (b ≡ 0) × Own t now o × HasTold t now from) → R (on_voted c d s v u b from o)
  voted_row u b from o own =
      on_maybe R (listed_outcome s.outcomes u) _ _
      (λ _. on_cond R (is_decided_by c (tally_of v u) b from o) _ _
      (λ q. learns_row u o (λ e. ((own e).1, voters e q)))
      (λ _. plain _ (to_none F) counts tt tt))
      (λ _ _. idle)
    where
      voters : u ≡ t → is_decided_by c (tally_of v u) b from o ≡ true → Voters t c now
      voters e q =
          let z = (own e).0 in
          record {
            set = standing_for (stands_for (standing_at (tally_of v u) b) o from) o;
            enough = q;
            each = λ a i. in_stands (tally_of v u) (tallies_of u e) from (own e).2 o o a
                (subst (λ (n : ℕ). In a (standing_for (stands_for (standing_at (tally_of v u) n) o from) o)) z i);
          }

      counts : Fewer (with_vote v u b from o)
      counts =
          record {
            gathers = fits.gathers;
            tally = λ tl i. ⊎_elim
                (λ (e : (u, counted (tally_of v u) b from o) ≡ (t, tl)).
                let is : u ≡ t = ap (λ (z : ℕ × Table ℕ Standing). z.0) e in
                subst (λ (z : ℕ × Table ℕ Standing). Tallies t now z.1) e
                (subst (λ (n : ℕ). Tallies t now (counted (tally_of v u) n from o)) (sym (own is).0) (tallies_more (tally_of v u) (tallies_of u is) from (own is).2 o)))
                (λ old. fits.tally tl old)
                (in_put u (counted (tally_of v u) b from o) v.votes (t, tl) i);
          }

  -- PAGES
  finish_all_fit : (es : List (ℕ × Decision)) → ((o : Decision) → In (t, o) es → Told t c now o) → EachTo F (finish_all_posts c d es)
  finish_all_fit [] k = to_none F
  finish_all_fit (e ∷ es) k = to_both F _ _ (finish_fit e.0 e.1 (λ is. (k e.1 (inl (λ i. (is i, e.1)))).0)) (finish_all_fit es (λ o i. k o (inr i)))

  page_lists : (es : List (ℕ × Decision)) → ((o : Decision) → In (t, o) es → Told t c now o) → Lists t c now (outcomes_record es)
  page_lists [] k = tt
  page_lists (e ∷ es) k = k

  page_no_vote : (es : List (ℕ × Decision)) → Harmless t (outcomes_record es)
  page_no_vote [] = tt
  page_no_vote (e ∷ es) = tt

  forgets_all : (w : CoordVolatile) (es : List (ℕ × Decision)) → Fewer w → Fewer (forgotten_all w es)
  forgets_all w [] f = f
  forgets_all w (e ∷ es) f = forgets_all (forgotten w e.0) es (forgets w e.0 f)

  page_row : (from place : ℕ) (es : List (ℕ × Decision)) → ((o : Decision) → In (t, o) es → Told t c now o) → R (on_catch_page c d s v from place es)
  page_row from place es k =
      let new : List (ℕ × Decision) = undecided s.outcomes es in
      let w : CoordVolatile = with_coord_cursor v from (place + length es) in
      let told : (o : Decision) → In (t, o) new → Told t c now o = λ o i. k o (in_filter _ (t, o) es i) in
      on_cond R (is_next_coord_page d v from place es) _ _
      (λ _. plain _
      (to_both F _ _ (finish_all_fit new told)
      (on_cond (EachTo F) (length es == most_entries) _ _ (λ _. to_one F (coordinator from) (CatchAsk (place + length es)) tt) (λ _. to_none F)))
      (forgets_all w new (record { gathers = fits.gathers; tally = fits.tally })) (page_no_vote new) (page_lists new told))
      (λ _. idle)

  -- EVERY ROW
  -- what comes was sent, and fits
  abbrev pub Due : NodeCause → Type 0
  Due (Comes from m) = (f : Party) × Sent now f (coordinator d) m × Fits t c now f (coordinator d) m
  Due Catches = Unit {0}
  Due (Takes u) = Unit {0}

  proposal_own : (from : Party) (u b : ℕ) (o : Decision) → Due (Comes from (Propose u b o)) → u ≡ t → (b ≡ 0) × Own t now o
  proposal_own from u b o due e =
      let h = due.2 e in
      let z = h.1 in
      let p = h.0 in
      (h.1, (h.2, (d, subst (λ (w : Party × (ℕ × ℕ)). Sent now w.0 (coordinator d) (Propose w.1.0 w.1.1 o)) (λ i. (p i, (e i, z i))) due.1)))

  pub coord_fits : (k : NodeCause) → Due k → R (coord_act c d s v k)
  coord_fits Catches due =
      plain _ (to_many F c.dcs _ (λ e. on_cond (EachTo F) (e == d) _ _ (λ _. to_none F) (λ _. to_one F (coordinator e) (CatchAsk (cursor_of v e)) tt))) same tt tt
  coord_fits (Takes u) due = told_or_opens u true
  coord_fits (Comes from m) due = comes m due
    where
      guarded : (b : Bool) (a : CoordAct) → R a → R (cond b a (coord_stays v))
      guarded b a f = on_cond R b a (coord_stays v) (λ _. f) (λ _. idle)

      comes : (m : Msg) → Due (Comes from m) → R (coord_row c d s v from m)
      comes (Propose u b o) due = propose_row u b o (proposal_own from u b o due)
      comes (Prepared u sh reason) due = guarded (is_shard c sh) _ (prepared_row u sh reason)
      comes (Ask u b) due = ask_row u b due.2
      comes (Promise u b e report) due = guarded (is_dc c e) _ (promise_row u b e report)
      comes (Voted u b e o) due = guarded (is_dc c e) _ (voted_row u b e o (λ is. let h = due.2 is in (h.1, h.3, (o, h.4))))
      comes (Decided u o) due = decided_row u o due.2
      comes (Abandon u) due = told_or_opens u false
      comes (CatchAsk place) due = says_one from (CatchPage d place (page_from s.outcomes place)) (λ o i. fits.listed o (in_drop place (t, o) _ (in_take most_entries (t, o) _ i)))
      comes (CatchPage e place page) due = guarded (is_dc c e) _ (page_row e place page due.2)
      comes _ due = idle

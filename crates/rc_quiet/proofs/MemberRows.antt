-- How far a coordinator comes with t, by each of its rows: it asks its shards, votes, or knows the outcome.
use Rattle.std.proofs.Common.{◌≡◌, ℕ, List, [], ◌∷◌, ◌++◌, refl, sym, ap, ◌∙◌, subst, Bool, true, false, cond, Option, Some, None, ◌⊎◌, inl, inr, ⊎_elim}
use Rattle.std.specs.Prelude.{not, ◌&&◌, ◌==◌, nat_lt, length, ◌+◌}
use Rattle.std.specs.Ordering.{nat_cmp}
use Rattle.rc_ids.specs.Tables.{In, found, put, member, maybe}
use Rattle.rc_ids.specs.Cluster.{Layout, is_dc, is_shard, owner_of, next_ballot}
use Rattle.rc_ids.specs.declared.names.Party.{Party}
use Rattle.rc_body.specs.Bodies.{part, touches}
use Rattle.rc_body.specs.declared.decision.Decision.{Decision}
use Rattle.rc_body.specs.declared.decision.Decision.TheVariants.{Commit, Abort}
use Rattle.rc_body.specs.declared.reason.Reason.{Reason}
use Rattle.rc_body.specs.declared.reason.Reason.TheVariants.{Promised as PromisedHigher}
use Rattle.rc_msg.specs.declared.msg.Msg.{Msg}
use Rattle.rc_msg.specs.declared.msg.Msg.TheVariants.{Propose, Prepare, Prepared, Voted, Refused, Ask, Promise, Decided, Finish, Abandon, CatchAsk, CatchPage}
use Rattle.rc_record.specs.declared.record.Record.{Record}
use Rattle.rc_record.specs.declared.record.Record.TheVariants.{Head, Prepared as PartPrepared, Finished, Promised, Accepted, Decided as OutcomesDecided}
use Rattle.rc_record.specs.CoordState.{CoordDurable, promise_of, outcome_of as listed_outcome, outcomes_joined, coord_applied}
use Rattle.rc_protocol.specs.Messages.{Posts, coordinator, shard_server, client_of, one, to_all, most_entries}
use Rattle.rc_protocol.specs.Coordinator.{CoordVolatile, CoordAct, GatherState, coord_stays, coord_says, proposer, vote, finish_to, finish_posts, forgotten, coord_learns, takes_over, has_all, prepare_to, gathers_on, gather_at, takes_proposal, accepted_at, on_propose, waiting_gather, said_yes, with_yes, on_prepared, on_ask, waiting_takeover, chooses, with_takeover, proposed, hears, on_promise, is_decided_by, tally_of, on_voted, on_decided, page_from, cursor_of, is_next_coord_page, with_coord_cursor, undecided, forgotten_all, finish_all_posts, outcomes_record, asks_next_coord_page, takes_page, on_catch_page, coord_row}
use Rattle.rc_protocol.specs.Acts.{NodeCause, Came as Comes, Takes, Catches, coord_act}
use Rattle.rc_protocol.specs.Nodes.{applied}
use Rattle.rc_agreement.proofs.Cases.{on_cond, on_maybe, nat_dec}
use Rattle.rc_agreement.proofs.Tables.{in_left, in_right, put_other, without_other, found_in}
use Rattle.rc_agreement.proofs.Sends.{EachTo, to_none, to_one, to_both, to_many, to_coords}

-- WHAT IS LISTED
pub joined_keeps : (es list : List (ℕ × Decision)) (e : ℕ × Decision) → In e list → In e (outcomes_joined list es)
joined_keeps [] list e i = i
joined_keeps (y ∷ es) list e i =
    joined_keeps es (maybe (listed_outcome list y.0) (list ++ y ∷ []) (λ _. list)) e
    (on_maybe (λ (z : List (ℕ × Decision)). In e z) (listed_outcome list y.0) (list ++ y ∷ []) (λ _. list) (λ _. in_left e list (y ∷ []) i) (λ _ _. i))

-- what joins is listed, with this outcome or an earlier one
pub joined_new : (es list : List (ℕ × Decision)) (t : ℕ) (o : Decision) → In (t, o) es → (p : Decision) × In (t, p) (outcomes_joined list es)
joined_new [] list t o i = absurd i
joined_new (y ∷ es) list t o i = ⊎_elim (λ (e : y ≡ (t, o)). here e) (λ j. joined_new es (maybe (listed_outcome list y.0) (list ++ y ∷ []) (λ _. list)) t o j) i
  where
    here : y ≡ (t, o) → (p : Decision) × In (t, p) (outcomes_joined list (y ∷ es))
    here e = go (listed_outcome list y.0) refl
      where
        n : y.0 ≡ t
        n = ap (λ (z : ℕ × Decision). z.0) e

        go : (p : Option Decision) → listed_outcome list y.0 ≡ p → (q : Decision) × In (t, q) (outcomes_joined (maybe p (list ++ y ∷ []) (λ _. list)) es)
        go None is = (o, joined_keeps es (list ++ y ∷ []) (t, o) (in_right (t, o) list (y ∷ []) (inl e)))
        go (Some p) is = (p, joined_keeps es list (t, p) (subst (λ (k : ℕ). In (k, p) list) n (found_in y.0 list p is)))

pub list_keeps : (r : Option Record) (s : CoordDurable) (e : ℕ × Decision) → In e s.outcomes → In e (applied coord_applied s r).outcomes
list_keeps None s e i = i
list_keeps (Some (OutcomesDecided es)) s e i = joined_keeps es s.outcomes e i
list_keeps (Some (Head h)) s e i = i
list_keeps (Some (PartPrepared u p)) s e i = i
list_keeps (Some (Finished p)) s e i = i
list_keeps (Some (Promised u b)) s e i = i
list_keeps (Some (Accepted u b o)) s e i = i

-- t is in the page or not
names_it : (t : ℕ) (es : List (ℕ × Decision)) → ((o : Decision) × In (t, o) es) ⊎ ((e : ℕ × Decision) → In e es → e.0 ≡ t → ⊥)
names_it t [] = inr (λ e i q. i)
names_it t (y ∷ es) =
    ⊎_elim
    (λ (n : y.0 ≡ t). inl (y.1, inl (λ i. (n i, y.1))))
    (λ (n : y.0 ≡ t → ⊥). ⊎_elim (λ h. inl (h.0, inr h.1)) (λ h. inr (λ e i q. ⊎_elim (λ (w : y ≡ e). n (ap (λ (z : ℕ × Decision). z.0) w ∙ q)) (λ j. h e j q) i)) (names_it t es))
    (nat_dec y.0 t)

-- it is no prepare of t
abbrev pub NoPrepare : ℕ → Party → Msg → Type 0
NoPrepare t to (Prepare u p) = u ≡ t → ⊥
NoPrepare t to _ = Unit {0}

-- neither a proposal of t nor a yes for it
abbrev pub IsOther : ℕ → NodeCause → Type 0
IsOther t (Comes from (Propose u b o)) = u ≡ t → ⊥
IsOther t (Comes from (Prepared u sh None)) = u ≡ t → ⊥
IsOther t k = Unit {0}

module _ (t : ℕ) (c : Layout) (d : ℕ) (s : CoordDurable) (v : CoordVolatile) where
  -- the gather of t stays as it was, and no part of t is prepared; or t is listed; or the client of t is told the vote
  abbrev pub Still : CoordAct → Type 0
  Still a = (found nat_cmp a.after.gathers t ≡ found nat_cmp v.gathers t) × EachTo (NoPrepare t) a.sends

  abbrev pub Knows : CoordAct → Type 0
  Knows a = (o : Decision) × In (t, o) (applied coord_applied s a.logs).outcomes

  abbrev pub TellsVote : CoordAct → Type 0
  TellsVote a = (o : Decision) × In (client_of t, Voted t 0 d o) a.sends

  abbrev Goes : CoordAct → Type 0
  Goes a = Still a ⊎ Knows a

  still_says : (ms : Posts) → EachTo (NoPrepare t) ms → Goes (coord_says v ms)
  still_says ms h = inl (refl, h)

  idle : Goes (coord_stays v)
  idle = still_says [] (to_none (NoPrepare t))

  says_one : (p : Party) (m : Msg) → NoPrepare t p m → Goes (coord_says v (one p m))
  says_one p m h = still_says (one p m) (to_one (NoPrepare t) p m h)

  pub knows : (a : CoordAct) (o : Decision) → listed_outcome s.outcomes t ≡ Some o → Knows a
  knows a o is = (o, list_keeps a.logs s (t, o) (found_in t s.outcomes o is))

  vote_none : (u b : ℕ) (o : Decision) → EachTo (NoPrepare t) (vote c d u b o)
  vote_none u b o = to_both (NoPrepare t) (to_all c (Voted u b d o)) (one (client_of u) (Voted u b d o)) (to_coords (NoPrepare t) c (Voted u b d o) (λ e. tt)) (to_one (NoPrepare t) (client_of u) (Voted u b d o) tt)

  finish_none : (u : ℕ) (o : Decision) → EachTo (NoPrepare t) (finish_posts c d u o)
  finish_none u o = to_many (NoPrepare t) c.shards (finish_to c d u o) (λ y. to_it y o)
    where
      to_it : (y : ℕ) (o : Decision) → EachTo (NoPrepare t) (finish_to c d u o y)
      to_it y Abort = to_one (NoPrepare t) (shard_server d y) (Finish u Abort) tt
      to_it y (Commit body) = on_cond (EachTo (NoPrepare t)) (touches c body y) _ _ (λ _. to_one (NoPrepare t) (shard_server d y) (Finish u (Commit (part c y body))) tt) (λ _. to_none (NoPrepare t))

  finish_all_none : (es : List (ℕ × Decision)) → EachTo (NoPrepare t) (finish_all_posts c d es)
  finish_all_none [] = to_none (NoPrepare t)
  finish_all_none (e ∷ es) = to_both (NoPrepare t) _ _ (finish_none e.0 e.1) (finish_all_none es)

  -- ROWS OF OTHERS
  module _ (u : ℕ) (n : u ≡ t → ⊥) where
    abbrev apart : t ≡ u → ⊥
    apart e = n (sym e)

    other_gathered : (g : GatherState) → found nat_cmp (put nat_cmp v.gathers u g) t ≡ found nat_cmp v.gathers t
    other_gathered g = put_other t u g v.gathers (λ e. n (sym e))

    other_gathers : (g : GatherState) → Goes (gathers_on c d v u g)
    other_gathers g =
        on_cond Goes (has_all c g) _ _
        (λ _. inl (other_gathered g, vote_none u g.ballot (Commit g.body)))
        (λ _. inl (
          other_gathered g,
          to_many (NoPrepare t) c.shards (prepare_to c d u g)
              (λ y. on_cond (EachTo (NoPrepare t)) (touches c g.body y && not (member nat_cmp g.yes y)) _ _ (λ _. to_one (NoPrepare t) (shard_server d y) (Prepare u (part c y g.body)) n) (λ _. to_none (NoPrepare t))),
        ))

    other_proposal : (b : ℕ) (o : Decision) → Goes (takes_proposal c d v u b o)
    other_proposal b Abort = inl (refl, vote_none u b Abort)
    other_proposal b (Commit body) = other_gathers (gather_at v u b body)

    other_propose : (b : ℕ) (o : Decision) → Goes (on_propose c d s v u b o)
    other_propose b o =
        on_maybe Goes (listed_outcome s.outcomes u) _ _
        (λ _. on_cond Goes (nat_lt b (promise_of s.promises u)) _ _
        (λ _. says_one (proposer c u b) (Refused u b d (PromisedHigher (promise_of s.promises u))) tt)
        (λ _. on_maybe Goes (accepted_at (found nat_cmp s.accepted u) b) _ _ (λ _. other_proposal b o) (λ old _. still_says (vote c d u b old) (vote_none u b old))))
        (λ out _. says_one (proposer c u b) (Decided u out) tt)

    other_yes : (g : GatherState) → Goes (said_yes c d s v u g)
    other_yes g =
        on_cond Goes (has_all c g) _ _
        (λ _. on_cond Goes (nat_lt g.ballot (promise_of s.promises u)) _ _
        (λ _. inl (other_gathered g, to_one (NoPrepare t) (proposer c u g.ballot) (Refused u g.ballot d (PromisedHigher (promise_of s.promises u))) tt))
        (λ _. inl (other_gathered g, vote_none u g.ballot (Commit g.body))))
        (λ _. inl (other_gathered g, to_none (NoPrepare t)))

    other_prepared : (sh : ℕ) → Goes (on_prepared c d s v u sh None)
    other_prepared sh = on_maybe Goes (waiting_gather c s v u sh) _ _ (λ _. idle) (λ g _. other_yes (with_yes g sh))

  refused_row : (u sh : ℕ) (reason : Reason) → Goes (on_prepared c d s v u sh (Some reason))
  refused_row u sh reason = on_maybe Goes (waiting_gather c s v u sh) _ _ (λ _. idle) (λ g _. says_one (proposer c u g.ballot) (Refused u g.ballot d reason) tt)

  ask_row : (u b : ℕ) → Goes (on_ask c d s v u b)
  ask_row u b =
      on_maybe Goes (listed_outcome s.outcomes u) _ _
      (λ _. on_cond Goes (nat_lt b (promise_of s.promises u)) _ _
      (λ _. says_one (coordinator (owner_of c b)) (Refused u b d (PromisedHigher (promise_of s.promises u))) tt)
      (λ _. inl (refl, to_one (NoPrepare t) (coordinator (owner_of c b)) (Promise u b d (found nat_cmp s.accepted u)) tt)))
      (λ out _. says_one (coordinator (owner_of c b)) (Decided u out) tt)

  opens_row : (u : ℕ) (eager : Bool) → Goes (takes_over c d s v u eager)
  opens_row u eager =
      on_maybe Goes (next_ballot c d (promise_of s.promises u)) _ _ (λ _. inl (refl, to_none (NoPrepare t))) (λ b _. inl (refl, to_coords (NoPrepare t) c (Ask u b) (λ e. tt)))

  told_or_opens : (u : ℕ) (eager : Bool) → Goes (maybe (listed_outcome s.outcomes u) (takes_over c d s v u eager) (λ out. coord_says v (one (client_of u) (Decided u out))))
  told_or_opens u eager = on_maybe Goes (listed_outcome s.outcomes u) _ _ (λ _. opens_row u eager) (λ out _. says_one (client_of u) (Decided u out) tt)

  promise_row : (u b from : ℕ) (report : Option (ℕ × Decision)) → Goes (on_promise c s v u b from report)
  promise_row u b from report =
      on_maybe Goes (waiting_takeover s v u b from) _ _ (λ _. idle)
      (λ k _. on_maybe Goes (chooses c (hears k from report)) (coord_stays (with_takeover v u (hears k from report))) (λ o. coord_says (with_takeover v u (proposed (hears k from report))) (to_all c (Propose u k.ballot o)))
      (λ _. inl (refl, to_none (NoPrepare t)))
      (λ o _. inl (refl, to_coords (NoPrepare t) c (Propose u k.ballot o) (λ e. tt))))

  learns_row : (u : ℕ) (o : Decision) → Goes (coord_learns c d v u o)
  learns_row u o =
      ⊎_elim
      (λ (e : u ≡ t). inr (joined_new ((u, o) ∷ []) s.outcomes t o (inl (λ i. (e i, o)))))
      (λ (n : u ≡ t → ⊥). inl (without_other t u v.gathers (λ e. n (sym e)), finish_none u o))
      (nat_dec u t)

  voted_row : (u b from : ℕ) (o : Decision) → Goes (on_voted c d s v u b from o)
  voted_row u b from o =
      on_maybe Goes (listed_outcome s.outcomes u) _ _
      (λ _. on_cond Goes (is_decided_by c (tally_of v u) b from o) _ _ (λ _. learns_row u o) (λ _. inl (refl, to_none (NoPrepare t))))
      (λ _ _. idle)

  decided_row : (u : ℕ) (o : Decision) → Goes (on_decided c d s v u o)
  decided_row u o = on_maybe Goes (listed_outcome s.outcomes u) _ _ (λ _. learns_row u o) (λ _ _. idle)

  forgets_all : (es : List (ℕ × Decision)) (w : CoordVolatile) → ((e : ℕ × Decision) → In e es → e.0 ≡ t → ⊥) → found nat_cmp (forgotten_all w es).gathers t ≡ found nat_cmp w.gathers t
  forgets_all [] w n = refl
  forgets_all (e ∷ es) w n = forgets_all es (forgotten w e.0) (λ f i. n f (inr i)) ∙ without_other t e.0 w.gathers (λ q. n e (inl refl) (sym q))

  page_row : (from place : ℕ) (es : List (ℕ × Decision)) → Goes (on_catch_page c d s v from place es)
  page_row from place es =
      on_cond Goes (is_next_coord_page d v from place es) _ _ (λ _. takes (undecided s.outcomes es)) (λ _. idle)
    where
      w : CoordVolatile
      w = with_coord_cursor v from (place + length es)

      listed : (new : List (ℕ × Decision)) (o : Decision) → In (t, o) new → (p : Decision) × In (t, p) (applied coord_applied s (outcomes_record new)).outcomes
      listed [] o i = absurd i
      listed (e ∷ new) o i = joined_new (e ∷ new) s.outcomes t o i

      takes : (new : List (ℕ × Decision)) → Goes (takes_page c d (with_coord_cursor v from (place + length es)) new (asks_next_coord_page (coordinator from) place es))
      takes new =
          ⊎_elim
          (λ h. inr (listed new h.0 h.1))
          (λ n. inl (
            forgets_all new (with_coord_cursor v from (place + length es)) n,
            to_both (NoPrepare t) _ _ (finish_all_none new)
                (on_cond (EachTo (NoPrepare t)) (length es == most_entries) _ _ (λ _. to_one (NoPrepare t) (coordinator from) (CatchAsk (place + length es)) tt) (λ _. to_none (NoPrepare t))),
          ))
          (names_it t new)

  pub other_row : (k : NodeCause) → IsOther t k → Still (coord_act c d s v k) ⊎ Knows (coord_act c d s v k)
  other_row Catches o = inl (refl, to_many (NoPrepare t) c.dcs _ (λ e. on_cond (EachTo (NoPrepare t)) (e == d) _ _ (λ _. to_none (NoPrepare t)) (λ _. to_one (NoPrepare t) (coordinator e) (CatchAsk (cursor_of v e)) tt)))
  other_row (Takes u) o = told_or_opens u true
  other_row (Comes from m) o = comes m o
    where
      guarded : (b : Bool) (a : CoordAct) → Goes a → Goes (cond b a (coord_stays v))
      guarded b a f = on_cond Goes b a (coord_stays v) (λ _. f) (λ _. idle)

      comes : (m : Msg) → IsOther t (Comes from m) → Goes (coord_row c d s v from m)
      comes (Propose u b p) o = other_propose u o b p
      comes (Prepared u sh None) o = guarded (is_shard c sh) _ (other_prepared u o sh)
      comes (Prepared u sh (Some r)) o = guarded (is_shard c sh) _ (refused_row u sh r)
      comes (Ask u b) o = ask_row u b
      comes (Promise u b e report) o = guarded (is_dc c e) _ (promise_row u b e report)
      comes (Voted u b e p) o = guarded (is_dc c e) _ (voted_row u b e p)
      comes (Decided u p) o = decided_row u p
      comes (Abandon u) o = told_or_opens u false
      comes (CatchAsk place) o = says_one from (CatchPage d place (page_from s.outcomes place)) tt
      comes (CatchPage e place page) o = guarded (is_dc c e) _ (page_row e place page)
      comes _ o = idle

-- Each row of a coordinator tells and notes only what is chosen.
use Rattle.std.proofs.Common.{◌≡◌, ℕ, zero, suc, List, [], ◌∷◌, refl, subst, Bool, true, false, cond, Option, Some, None, ◌⊎◌, inl, inr, ⊎_elim}
use Rattle.std.specs.Prelude.{not, ◌&&◌, filter, ◌==◌, nat_lt, drop, take, length, ◌+◌}
use Rattle.std.specs.Ordering.{nat_cmp}
use Rattle.std.proofs.lemmas.Bool.{eqb-true}
use Rattle.rc_ids.specs.Tables.{In, found, member, maybe}
use Rattle.rc_ids.specs.Cluster.{Layout, is_dc, is_shard, owner_of, next_ballot}
use Rattle.rc_ids.specs.declared.names.Party.{Party}
use Rattle.rc_body.specs.Bodies.{part, touches}
use Rattle.rc_body.specs.declared.decision.Decision.{Decision}
use Rattle.rc_body.specs.declared.decision.Decision.TheVariants.{Commit, Abort}
use Rattle.rc_body.specs.declared.reason.Reason.{Reason}
use Rattle.rc_body.specs.declared.reason.Reason.TheVariants.{Promised as PromisedHigher}
use Rattle.rc_msg.specs.declared.msg.Msg.{Msg}
use Rattle.rc_msg.specs.declared.msg.Msg.TheVariants.{Propose, Prepare, Prepared, Voted, Refused, Ask, Promise, Decided, Finish, Abandon, CatchAsk, CatchPage}
use Rattle.rc_record.specs.declared.record.Record.{Record}
use Rattle.rc_record.specs.declared.record.Record.TheVariants.{Promised, Accepted, Decided as OutcomesDecided}
use Rattle.rc_record.specs.CoordState.{CoordDurable, promise_of, outcome_of as listed_outcome}
use Rattle.rc_protocol.specs.Messages.{Posts, coordinator, shard_server, client_of, one, to_each, to_all, most_entries}
use Rattle.rc_protocol.specs.Coordinator.{CoordVolatile, CoordAct, GatherState, coord_stays, coord_says, proposer, vote, accepts, finish_to, finish_posts, forgotten, coord_learns, takes_over, has_all, with_gather, prepare_to, gathers_on, gather_at, takes_proposal, refuses, accepted_at, on_propose, waiting_gather, said_yes, with_yes, on_prepared, promise_record, on_ask, hears, chooses, waiting_takeover, with_takeover, proposed, on_promise, is_decided_by, tally_of, with_vote, on_voted, page_from, cursor_of, is_next_coord_page, with_coord_cursor, undecided, forgotten_all, finish_all_posts, outcomes_record, asks_next_coord_page, on_catch_page, coord_row}
use Rattle.rc_agreement.proofs.Cases.{on_cond, on_maybe, some_is, never}
use Rattle.rc_agreement.proofs.Tables.{found_in, in_put, in_without}
use Rattle.rc_protocol.specs.Acts.{NodeCause, Came, Takes, Catches}
use Rattle.rc_agreement.proofs.Scenes.{Scene, at, act_of, Due}
use Rattle.rc_agreement.proofs.Ballots.{Vote, Agreeing}
use Rattle.rc_agreement.proofs.Sends.{EachTo, to_none, to_one, to_both, to_many, to_coords}
use Rattle.rc_agreement.proofs.Learning.{Learns, LearnsAll, IsOwn, ListedBy, Knows, Tells, Tallied, Counts, tally_found, tallied_more, decided_now, Heard, Notes}

pub record Honest (s : Scene) (d : ℕ) (a : CoordAct) : Type 0 where
  pub told : EachTo (Tells s d a.logs) a.sends
  pub notes : Notes s a.logs
  pub counts : Counts s a.after.votes

-- PAGES are of a list
pub in_take : (n : ℕ) (x : ℕ × Decision) (xs : List (ℕ × Decision)) → In x (take n xs) → In x xs
in_take zero x xs i = absurd i
in_take (suc n) x [] i = i
in_take (suc n) x (y ∷ ys) i = ⊎_elim inl (λ z. inr (in_take n x ys z)) i

pub in_drop : (n : ℕ) (x : ℕ × Decision) (xs : List (ℕ × Decision)) → In x (drop n xs) → In x xs
in_drop zero x xs i = i
in_drop (suc n) x [] i = i
in_drop (suc n) x (y ∷ ys) i = inr (in_drop n x ys i)

pub in_filter : {A : Type 0} (p : A → Bool) (x : A) (xs : List A) → In x (filter p xs) → In x xs
in_filter p x [] i = i
in_filter {A} p x (y ∷ ys) i = on_cond (λ (z : List A). In x z → In x (y ∷ ys)) (p y) (y ∷ filter p ys) (filter p ys)
    (λ _ j. ⊎_elim inl (λ z. inr (in_filter p x ys z)) j) (λ _ j. inr (in_filter p x ys j)) i

module _ (c : Layout) (s : Scene) (inv : (u : ℕ) → Agreeing c u s) (h : Heard s) (d : ℕ) where
  abbrev cl : Layout
  cl = s.parties.layout

  abbrev dur : CoordDurable
  dur = (at s d).durable

  abbrev vol : CoordVolatile
  vol = (at s d).volatile

  abbrev H : CoordAct → Type 0
  H a = Honest s d a

  counts : Counts s vol.votes
  counts = h.counts d

  stated : (ms : Posts) → EachTo (Tells s d None) ms → Honest s d (coord_says vol ms)
  stated ms k = record { told = k; notes = tt; counts = counts }

  idle : Honest s d (coord_stays vol)
  idle = stated [] (to_none (Tells s d None))

  says_one : (p : Party) (m : Msg) → Tells s d None p m → Honest s d (coord_says vol (one p m))
  says_one p m k = stated (one p m) (to_one (Tells s d None) p m k)

  decided : (t : ℕ) (o : Decision) → listed_outcome dur.outcomes t ≡ Some o → Learns s t o
  decided t o is = h.lists d t o (found_in t dur.outcomes o is)

  -- an outcome told to the proposer of a ballot
  own_proposer : (t b : ℕ) → IsOwn t (proposer cl t b)
  own_proposer t b = on_cond (IsOwn t) (b == 0) (client_of t) (coordinator (owner_of cl b)) (λ _. refl) (λ _. tt)

  told_vote : (r : Option Record) (t b : ℕ) (o : Decision) → Vote t s d b o ⊎ (r ≡ Some (Accepted t b o)) → EachTo (Tells s d r) (vote cl d t b o)
  told_vote r t b o k =
      to_both (Tells s d r) _ _
      (to_coords (Tells s d r) cl (Voted t b d o) (λ e. (tt, refl, k)))
      (to_one (Tells s d r) (client_of t) (Voted t b d o) (refl, refl, k))

  -- the counts of v are those of d
  accepts_honest : (v : CoordVolatile) (t b : ℕ) (o : Decision) → Counts s v.votes → Honest s d (accepts cl d v t b o)
  accepts_honest v t b o k = record { told = told_vote (Some (Accepted t b o)) t b o (inr refl); notes = tt; counts = k }

  refuses_honest : (v : CoordVolatile) (t b : ℕ) (reason : Reason) → Counts s v.votes → Honest s d (refuses cl d v t b reason)
  refuses_honest v t b reason k = record { told = to_one (Tells s d None) (proposer cl t b) (Refused t b d reason) tt; notes = tt; counts = k }

  told_finish : (r : Option Record) (t : ℕ) (o : Decision) → ListedBy r t o → Learns s t o → EachTo (Tells s d r) (finish_posts cl d t o)
  told_finish r t o l k = to_many (Tells s d r) cl.shards (finish_to cl d t o) (λ x. told_one x o l k)
    where
      told_one : (x : ℕ) (o : Decision) → ListedBy r t o → Learns s t o → EachTo (Tells s d r) (finish_to cl d t o x)
      told_one x Abort l k = to_one (Tells s d r) (shard_server d x) (Finish t Abort) (x, refl, Abort, l, k, refl)
      told_one x (Commit body) l k =
          on_cond (EachTo (Tells s d r)) (touches cl body x) _ _
          (λ _. to_one (Tells s d r) (shard_server d x) (Finish t (Commit (part cl x body))) (x, refl, Commit body, l, k, refl))
          (λ _. to_none (Tells s d r))

  forgets : (v : CoordVolatile) (u : ℕ) → Counts s v.votes → Counts s (forgotten v u).votes
  forgets v u k = record { each = λ t tally i. k.each t tally (in_without u v.votes (t, tally) i) }

  learns_honest : (v : CoordVolatile) (t : ℕ) (o : Decision) → Counts s v.votes → Learns s t o → Honest s d (coord_learns cl d v t o)
  learns_honest v t o k l =
      record {
        told = told_finish (Some (OutcomesDecided ((t, o) ∷ []))) t o (inl refl) l;
        notes = λ u p i. ⊎_elim (λ (e : (t, o) ≡ (u, p)). subst (λ (z : ℕ × Decision). Learns s z.0 z.1) e l) (λ n. absurd n) i;
        counts = forgets v t k;
      }

  -- what one more vote counts
  counts_vote : (t b from : ℕ) (o : Decision) → Vote t s from b o → Counts s (with_vote vol t b from o).votes
  counts_vote t b from o k =
      record {
        each = λ u tally i. ⊎_elim
            (λ (e : (t, _) ≡ (u, tally)). subst (λ (z : ℕ × _). Tallied s z.0 z.1) e (tallied_more s t (tally_of vol t) (tally_found s t vol.votes counts) b from o k))
            (λ old. counts.each u tally old)
            (in_put t _ vol.votes (u, tally) i);
      }

  on_voted_honest : (t b from : ℕ) (o : Decision) → Vote t s from b o → Honest s d (on_voted cl d dur vol t b from o)
  on_voted_honest t b from o k =
      on_maybe H (listed_outcome dur.outcomes t) _ _
      (λ _. on_cond H (is_decided_by cl (tally_of vol t) b from o) _ _
      (λ q. learns_honest vol t o counts (decided_now s t (tally_of vol t) (tally_found s t vol.votes counts) b from c (inv t) o k q))
      (λ _. record { told = to_none (Tells s d None); notes = tt; counts = counts_vote t b from o k }))
      (λ _ _. idle)

  told_prepare : (t : ℕ) (g : GatherState) → EachTo (Tells s d None) (to_each cl.shards (prepare_to cl d t g))
  told_prepare t g = to_many (Tells s d None) cl.shards (prepare_to cl d t g)
      (λ x. on_cond (EachTo (Tells s d None)) (touches cl g.body x && not (member nat_cmp g.yes x)) _ _ (λ _. to_one (Tells s d None) (shard_server d x) (Prepare t (part cl x g.body)) tt) (λ _. to_none (Tells s d None)))

  gathers_honest : (t : ℕ) (g : GatherState) → Honest s d (gathers_on cl d vol t g)
  gathers_honest t g =
      on_cond H (has_all cl g) _ _
      (λ _. accepts_honest (with_gather vol t g) t g.ballot (Commit g.body) counts)
      (λ _. record { told = told_prepare t g; notes = tt; counts = counts })

  on_propose_honest : (t b : ℕ) (o : Decision) → Honest s d (on_propose cl d dur vol t b o)
  on_propose_honest t b o =
      on_maybe H (listed_outcome dur.outcomes t) _ _
      (λ _. on_cond H (nat_lt b (promise_of dur.promises t)) _ _
      (λ _. refuses_honest vol t b (PromisedHigher (promise_of dur.promises t)) counts)
      (λ _. on_maybe H (accepted_at (found nat_cmp dur.accepted t) b) _ _
      (λ _. proposes o)
      (λ p is. stated _ (told_vote None t b p (inl (at_it p (found nat_cmp dur.accepted t) refl is))))))
      (λ out is. says_one (proposer cl t b) (Decided t out) (own_proposer t b, decided t out is))
    where
      proposes : (o : Decision) → Honest s d (takes_proposal cl d vol t b o)
      proposes Abort = accepts_honest vol t b Abort counts
      proposes (Commit body) = gathers_honest t (gather_at vol t b body)

      at_it : (p : Decision) (a : Option (ℕ × Decision)) → found nat_cmp dur.accepted t ≡ a → accepted_at a b ≡ Some p → Vote t s d b p
      at_it p None is e = never p e
      at_it p (Some x) is e =
          on_cond (λ (z : Option Decision). z ≡ Some p → Vote t s d b p) (x.0 == b) (Some x.1) None
          (λ (k : (x.0 == b) ≡ true) (f : Some x.1 ≡ Some p).
          let n : x.0 ≡ b = eqb-true x.0 b k in
          let v : x.1 ≡ p = some_is x.1 p f in
          subst (λ (z : ℕ × Decision). Vote t s d z.0 z.1) (λ i. (n i, v i)) (((inv t).coords d).real x.0 x.1 is))
          (λ k f. never p f) e

  said_yes_honest : (t : ℕ) (g : GatherState) → Honest s d (said_yes cl d dur vol t g)
  said_yes_honest t g =
      on_cond H (has_all cl g) _ _
      (λ _. on_cond H (nat_lt g.ballot (promise_of dur.promises t)) _ _
      (λ _. refuses_honest (with_gather vol t g) t g.ballot (PromisedHigher (promise_of dur.promises t)) counts)
      (λ _. accepts_honest (with_gather vol t g) t g.ballot (Commit g.body) counts))
      (λ _. record { told = to_none (Tells s d None); notes = tt; counts = counts })

  on_prepared_honest : (t sh : ℕ) (r : Option Reason) → Honest s d (on_prepared cl d dur vol t sh r)
  on_prepared_honest t sh None = on_maybe H (waiting_gather cl dur vol t sh) _ _ (λ _. idle) (λ g _. said_yes_honest t (with_yes g sh))
  on_prepared_honest t sh (Some r) = on_maybe H (waiting_gather cl dur vol t sh) _ _ (λ _. idle) (λ g _. refuses_honest vol t g.ballot r counts)

  on_ask_honest : (t b : ℕ) → Honest s d (on_ask cl d dur vol t b)
  on_ask_honest t b =
      on_maybe H (listed_outcome dur.outcomes t) _ _
      (λ _. on_cond H (nat_lt b (promise_of dur.promises t)) _ _
      (λ _. says_one (coordinator (owner_of cl b)) (Refused t b d (PromisedHigher (promise_of dur.promises t))) tt)
      (λ _. record {
        told = to_one (Tells s d (promise_record t b (promise_of dur.promises t))) (coordinator (owner_of cl b)) (Promise t b d (found nat_cmp dur.accepted t)) tt;
        notes = on_cond (Notes s) (nat_lt (promise_of dur.promises t) b) (Some (Promised t b)) None (λ _. tt) (λ _. tt);
        counts = counts;
      }))
      (λ out is. says_one (coordinator (owner_of cl b)) (Decided t out) (tt, decided t out is))

  takes_over_honest : (t : ℕ) (eager : Bool) → Honest s d (takes_over cl d dur vol t eager)
  takes_over_honest t eager =
      on_maybe H (next_ballot cl d (promise_of dur.promises t)) _ _
      (λ _. record { told = to_none (Tells s d None); notes = tt; counts = counts })
      (λ b _. record { told = to_coords (Tells s d (Some (Promised t b))) cl (Ask t b) (λ e. tt); notes = tt; counts = counts })

  on_promise_honest : (t b from : ℕ) (r : Option (ℕ × Decision)) → Honest s d (on_promise cl dur vol t b from r)
  on_promise_honest t b from r =
      on_maybe H (waiting_takeover dur vol t b from) _ _ (λ _. idle)
      (λ k _. on_maybe H (chooses cl (hears k from r)) (coord_stays (with_takeover vol t (hears k from r))) (λ o. coord_says (with_takeover vol t (proposed (hears k from r))) (to_all cl (Propose t k.ballot o)))
      (λ _. record { told = to_none (Tells s d None); notes = tt; counts = counts })
      (λ o _. record { told = to_coords (Tells s d None) cl (Propose t k.ballot o) (λ e. tt); notes = tt; counts = counts }))

  told_or_takes : (t : ℕ) (eager : Bool) → Honest s d (maybe (listed_outcome dur.outcomes t) (takes_over cl d dur vol t eager) (λ outcome. coord_says vol (one (client_of t) (Decided t outcome))))
  told_or_takes t eager =
      on_maybe H (listed_outcome dur.outcomes t) _ _ (λ _. takes_over_honest t eager)
      (λ o is. says_one (client_of t) (Decided t o) (refl, decided t o is))

  -- pages
  told_finish_all : (r : Option Record) (es : List (ℕ × Decision)) → ((t : ℕ) (o : Decision) → In (t, o) es → ListedBy r t o) → LearnsAll s es → EachTo (Tells s d r) (finish_all_posts cl d es)
  told_finish_all r [] l k = to_none (Tells s d r)
  told_finish_all r (e ∷ es) l k = to_both (Tells s d r) _ _ (told_finish r e.0 e.1 (l e.0 e.1 (inl refl)) (k e.0 e.1 (inl refl))) (told_finish_all r es (λ t o i. l t o (inr i)) (λ t o i. k t o (inr i)))

  page_listed : (es : List (ℕ × Decision)) (t : ℕ) (o : Decision) → In (t, o) es → ListedBy (outcomes_record es) t o
  page_listed [] t o i = i
  page_listed (e ∷ es) t o i = i

  forgets_all : (v : CoordVolatile) (es : List (ℕ × Decision)) → Counts s v.votes → Counts s (forgotten_all v es).votes
  forgets_all v [] k = k
  forgets_all v (e ∷ es) k = forgets_all (forgotten v e.0) es (forgets v e.0 k)

  page_notes : (es : List (ℕ × Decision)) → LearnsAll s es → Notes s (outcomes_record es)
  page_notes [] k = tt
  page_notes (e ∷ es) k = k

  told_next : (r : Option Record) (p : Party) (place : ℕ) (es : List (ℕ × Decision)) → EachTo (Tells s d r) (asks_next_coord_page p place es)
  told_next r p place es = on_cond (EachTo (Tells s d r)) (length es == most_entries) _ _ (λ _. to_one (Tells s d r) p (CatchAsk (place + length es)) tt) (λ _. to_none (Tells s d r))

  on_catch_page_honest : (from place : ℕ) (es : List (ℕ × Decision)) → LearnsAll s es → Honest s d (on_catch_page cl d dur vol from place es)
  on_catch_page_honest from place es k =
      let new : List (ℕ × Decision) = undecided dur.outcomes es in
      let good : LearnsAll s new = λ t o i. k t o (in_filter _ (t, o) es i) in
      on_cond H (is_next_coord_page d vol from place es) _ _
      (λ _. record {
        told = to_both (Tells s d (outcomes_record new)) (finish_all_posts cl d new) (asks_next_coord_page (coordinator from) place es) (told_finish_all (outcomes_record new) new (page_listed new) good) (told_next (outcomes_record new) (coordinator from) place es);
        notes = page_notes new good;
        counts = forgets_all (with_coord_cursor vol from (place + length es)) new counts;
      })
      (λ _. idle)

  -- EVERY ROW
  pub act_honest : (k : NodeCause) → Due s d k → Honest s d (act_of s d k)
  act_honest (Came from m) due = comes m due (h.says _ due)
    where
      guarded : (b : Bool) (a : CoordAct) → Honest s d a → Honest s d (cond b a (coord_stays vol))
      guarded b a f = on_cond H b a (coord_stays vol) (λ _. f) (λ _. idle)

      comes : (m : Msg) → Due s d (Came from m) → Knows s (coordinator d) m → Honest s d (coord_row cl d dur vol from m)
      comes (Propose t b o) a x = on_propose_honest t b o
      comes (Prepared t sh r) a x = guarded (is_shard cl sh) _ (on_prepared_honest t sh r)
      comes (Ask t b) a x = on_ask_honest t b
      comes (Promise t b e r) a x = guarded (is_dc cl e) _ (on_promise_honest t b e r)
      comes (Voted t b e o) a x = guarded (is_dc cl e) _ (on_voted_honest t b e o x.1)
      comes (Decided t o) a x = on_maybe H (listed_outcome dur.outcomes t) _ _ (λ _. learns_honest vol t o counts x.1) (λ _ _. idle)
      comes (Abandon t) a x = told_or_takes t false
      comes (CatchAsk p) a x = says_one from (CatchPage d p (page_from dur.outcomes p)) (refl, a)
      comes (CatchPage e p es) a x = guarded (is_dc cl e) _ (on_catch_page_honest e p es x)
      comes _ a x = idle
  act_honest (Takes t) due = told_or_takes t true
  act_honest Catches due = stated _ (to_many (Tells s d None) cl.dcs _ (λ e. on_cond (EachTo (Tells s d None)) (e == d) _ _ (λ _. to_none (Tells s d None)) (λ _. to_one (Tells s d None) (coordinator e) (CatchAsk (cursor_of vol e)) tt)))

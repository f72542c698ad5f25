-- What good to every transaction is; and that rows on proposals, answers, votes and pages do only good.
use Rattle.std.proofs.Common.{◌≡◌, ℕ, ◌≤◌, List, [], ◌∷◌, ◌∙◌, subst, false, Option, Some, None, arith, ◌⊎◌, inl, ⊎_elim, max}
use Rattle.std.specs.Prelude.{not, ◌&&◌, ◌==◌, nat_lt, length, ◌+◌}
use Rattle.std.specs.Ordering.{nat_cmp}
use Rattle.std.proofs.lemmas.Bool.{ltb-false}
use Rattle.std.proofs.Math.Nat.{le-max_right}
use Rattle.rc_ids.specs.Tables.{In, found, member}
use Rattle.rc_ids.specs.Cluster.{Layout}
use Rattle.rc_ids.specs.declared.names.Party.{Party}
use Rattle.rc_body.specs.Bodies.{part, touches}
use Rattle.rc_body.specs.declared.entry.Entry.{Entry}
use Rattle.rc_body.specs.declared.decision.Decision.{Decision}
use Rattle.rc_body.specs.declared.decision.Decision.TheVariants.{Commit, Abort}
use Rattle.rc_body.specs.declared.reason.Reason.{Reason}
use Rattle.rc_body.specs.declared.reason.Reason.TheVariants.{Promised as PromisedHigher}
use Rattle.rc_msg.specs.declared.msg.Msg.{Msg}
use Rattle.rc_msg.specs.declared.msg.Msg.TheVariants.{Propose, Prepare, Voted, Refused, Promise, Decided, Finish, CatchAsk}
use Rattle.rc_record.specs.declared.record.Record.{Record}
use Rattle.rc_record.specs.declared.record.Record.TheVariants.{Accepted}
use Rattle.rc_record.specs.CoordState.{CoordDurable, promise_of, outcome_of}
use Rattle.rc_protocol.specs.Messages.{Posts, coordinator, shard_server, client_of, one, to_each, most_entries}
use Rattle.rc_protocol.specs.Coordinator.{CoordVolatile, CoordAct, GatherState, TakeoverState, coord_stays, coord_says, proposer, vote, accepts, finish_to, finish_posts, forgotten, coord_learns, has_all, with_gather, prepare_to, gathers_on, gather_at, takes_proposal, refuses, accepted_at, on_propose, waiting_gather, said_yes, with_yes, on_prepared, is_decided_by, tally_of, with_vote, on_voted, on_decided, cursor_of, is_next_coord_page, with_coord_cursor, undecided, forgotten_all, finish_all_posts, outcomes_record, asks_next_coord_page, takes_page, on_catch_page, do_catch}
use Rattle.rc_agreement.proofs.Cases.{on_cond, on_maybe, never}
use Rattle.rc_agreement.proofs.Tables.{found_in, in_put, in_without, RisesFrom, rises_without, found_without}
use Rattle.rc_agreement.proofs.Scenes.{Scene, at}
use Rattle.rc_agreement.proofs.Said.{Says, Each, each_none, each_one, each_both, each_to, each_all, Plain}
use Rattle.rc_agreement.proofs.Ballots.{Proposal, promise_at, Opens, Agreeing, Proposing, Answering, Opened, Good, one_body}
use Rattle.rc_agreement.proofs.Reports.{either_max}

-- what a vote that is recorded claims
abbrev pub Claims : Scene → ℕ → Option Record → Type 0
Claims s d (Some (Accepted u b o)) = (promise_at u s d ≤ b) × Proposal u s b o
Claims s d _ = Unit {0}

abbrev pub Vows : Scene → ℕ → CoordAct → Msg → Type 0
Vows s d a (Promise u b e r) = Answering u s d a b e r
Vows s d a _ = Unit {0}

abbrev pub Offers : Scene → ℕ → CoordAct → Msg → Type 0
Offers s d a (Propose u b o) = Proposing u s d a b o
Offers s d a _ = Unit {0}

-- the gathers and the take-overs of an act, whatever their transaction
abbrev pub Gathers : Scene → CoordVolatile → Type 0
Gathers s v = (u : ℕ) (g : GatherState) → In (u, g) v.gathers → Proposal u s g.ballot (Commit g.body)

abbrev pub TakesOf : Scene → ℕ → CoordAct → Type 0
TakesOf s d a = (u : ℕ) (k : TakeoverState) → found nat_cmp a.after.takeovers u ≡ Some k → Opens u s d k ⊎ Opened u s d a k

-- good to every transaction
pub record Fair (s : Scene) (d : ℕ) (a : CoordAct) : Type 0 where
  pub offers : (m : Msg) → Says a.sends m → Offers s d a m
  pub vows : (m : Msg) → Says a.sends m → Vows s d a m
  pub claims : Claims s d a.logs
  pub gathers : Gathers s a.after
  pub rises : RisesFrom 0 a.after.takeovers
  pub takes : TakesOf s d a

pub plain_offers : (s : Scene) (d : ℕ) (a : CoordAct) (m : Msg) → Plain m → Offers s d a m
plain_offers s d a (Propose u b o) p = absurd p
plain_offers s d a _ p = tt

pub plain_vows : (s : Scene) (d : ℕ) (a : CoordAct) (m : Msg) → Plain m → Vows s d a m
plain_vows s d a (Promise u b e r) p = absurd p
plain_vows s d a _ p = tt

pub good : (s : Scene) (d : ℕ) (a : CoordAct) → Fair s d a → (t : ℕ) → Good t s d a
good s d a f t =
    record {
      props = λ b o h. f.offers (Propose t b o) h;
      proms = λ b e r h. f.vows (Promise t b e r) h;
      accs = λ b o is. let P : Option Record → Type 0 = Claims s d in subst P is f.claims;
      gathers = λ g is. f.gathers t g is;
      rises = f.rises;
      takes = λ k is. f.takes t k is;
    }

module _ (c : Layout) (s : Scene) (inv : (u : ℕ) → Agreeing c u s) (d : ℕ) where
  abbrev cl : Layout
  cl = s.parties.layout

  abbrev dur : CoordDurable
  dur = (at s d).durable

  abbrev vol : CoordVolatile
  vol = (at s d).volatile

  -- the take-overs of v are among those of d
  pub record Fewer (v : CoordVolatile) : Type 0 where
    pub rises : RisesFrom 0 v.takeovers
    pub each : (u : ℕ) (k : TakeoverState) → found nat_cmp v.takeovers u ≡ Some k → found nat_cmp vol.takeovers u ≡ Some k

  pub all_takes : Fewer vol
  all_takes = record { rises = ((inv 0).coords d).rises; each = λ u k is. is }

  pub known : Gathers s vol
  known u g is = ((inv u).coords d).gathers g is

  pub dull : (a : CoordAct) → Each Plain a.sends → Claims s d a.logs → Gathers s a.after → Fewer a.after → Fair s d a
  dull a q r g t =
      record {
        offers = λ m h. plain_offers s d a m (q.each m h);
        vows = λ m h. plain_vows s d a m (q.each m h);
        claims = r;
        gathers = g;
        rises = t.rises;
        takes = λ u k is. inl (((inv u).coords d).takes k (t.each u k is));
      }

  -- nothing changes and what is said is dull
  quiet : (ms : Posts) → Each Plain ms → Fair s d (coord_says vol ms)
  quiet ms q = dull (coord_says vol ms) q tt known all_takes

  pub idle : Fair s d (coord_stays vol)
  idle = quiet [] (each_none Plain)

  pub says_one : (p : Party) (m : Msg) → Plain m → Fair s d (coord_says vol (one p m))
  says_one p m q = quiet _ (each_one Plain p m q)

  plain_vote : (u b : ℕ) (o : Decision) → Each Plain (vote cl d u b o)
  plain_vote u b o = each_both Plain _ _ (each_all Plain cl (Voted u b d o) tt) (each_one Plain (client_of u) (Voted u b d o) tt)

  plain_finish : (u : ℕ) (o : Decision) → Each Plain (finish_posts cl d u o)
  plain_finish u o = each_to Plain cl.shards (finish_to cl d u o) (λ x. to_one x o)
    where
      to_one : (x : ℕ) (o : Decision) → Each Plain (finish_to cl d u o x)
      to_one x Abort = each_one Plain (shard_server d x) (Finish u Abort) tt
      to_one x (Commit body) = on_cond (Each Plain) (touches cl body x) _ _ (λ _. each_one Plain (shard_server d x) (Finish u (Commit (part cl x body))) tt) (λ _. each_none Plain)

  accepts_fair : (v : CoordVolatile) (u b : ℕ) (o : Decision) → Gathers s v → Fewer v → promise_of dur.promises u ≤ b → Proposal u s b o → Fair s d (accepts cl d v u b o)
  accepts_fair v u b o g t low h = dull (accepts cl d v u b o) (plain_vote u b o) (low, h) g t

  -- one more gather
  gathers_put : (u : ℕ) (g : GatherState) → Proposal u s g.ballot (Commit g.body) → Gathers s (with_gather vol u g)
  gathers_put u g h w k is =
      ⊎_elim
      (λ (e : (u, g) ≡ (w, k)). subst (λ (y : ℕ × GatherState). Proposal y.0 s y.1.ballot (Commit y.1.body)) e h)
      (λ (old : In (w, k) vol.gathers). known w k old)
      (in_put u g vol.gathers (w, k) is)

  takes_with_gather : (u : ℕ) (g : GatherState) → Fewer (with_gather vol u g)
  takes_with_gather u g = record { rises = all_takes.rises; each = λ w k is. is }

  pub above : (a b : ℕ) → nat_lt a b ≡ false → b ≤ a
  above a b e = ltb-false a b e

  refuses_fair : (v : CoordVolatile) (u b : ℕ) (reason : Reason) → Gathers s v → Fewer v → Fair s d (refuses cl d v u b reason)
  refuses_fair v u b reason g t = dull (refuses cl d v u b reason) (each_one Plain (proposer cl u b) (Refused u b d reason) tt) tt g t

  plain_prepare : (u : ℕ) (g : GatherState) → Each Plain (to_each cl.shards (prepare_to cl d u g))
  plain_prepare u g = each_to Plain cl.shards (prepare_to cl d u g)
      (λ x. on_cond (Each Plain) (touches cl g.body x && not (member nat_cmp g.yes x)) _ _ (λ _. each_one Plain (shard_server d x) (Prepare u (part cl x g.body)) tt) (λ _. each_none Plain))

  gathering : (u : ℕ) (g : GatherState) → promise_of dur.promises u ≤ g.ballot → Proposal u s g.ballot (Commit g.body) → Fair s d (gathers_on cl d vol u g)
  gathering u g low h =
      on_cond (Fair s d) (has_all cl g) _ _
      (λ _. accepts_fair (with_gather vol u g) u g.ballot (Commit g.body) (gathers_put u g h) (takes_with_gather u g) low h)
      (λ _. dull _ (plain_prepare u g) tt (gathers_put u g h) (takes_with_gather u g))

  higher : (u b : ℕ) (g : GatherState) (body : List Entry) → Proposal u s b (Commit body) → Proposal u s g.ballot (Commit g.body) → Proposal u s (max g.ballot b) (Commit g.body)
  higher u b g body h old =
      ⊎_elim
      (λ (e : max g.ballot b ≡ g.ballot). rw e old)
      (λ (e : max g.ballot b ≡ b). let same = one_body c u s (inv u) g.ballot b g.body body old h in rw (e, same) h)
      (either_max g.ballot b)

  -- the gather of a new proposal
  joins : (u b : ℕ) (body : List Entry) → Proposal u s b (Commit body) → promise_of dur.promises u ≤ b → Fair s d (gathers_on cl d vol u (gather_at vol u b body))
  joins u b body h low =
      on_maybe (λ g. Fair s d (gathers_on cl d vol u g)) (found nat_cmp vol.gathers u) _ _
      (λ _. gathering u (record { ballot = b; body = body; yes = [] }) low h)
      (λ g is. gathering u (record { ballot = max g.ballot b; body = g.body; yes = g.yes }) (omega (arith, le-max_right g.ballot b)) (higher u b g body h (known u g (found_in u vol.gathers g is))))

  proposes : (u b : ℕ) (o : Decision) → Proposal u s b o → promise_of dur.promises u ≤ b → Fair s d (takes_proposal cl d vol u b o)
  proposes u b Abort h low = accepts_fair vol u b Abort known all_takes low h
  proposes u b (Commit body) h low = joins u b body h low

  pub on_propose_fair : (u b : ℕ) (o : Decision) → Proposal u s b o → Fair s d (on_propose cl d dur vol u b o)
  on_propose_fair u b o h =
      on_maybe (Fair s d) (outcome_of dur.outcomes u) _ _
      (λ _. on_cond (Fair s d) (nat_lt b (promise_of dur.promises u)) _ _
      (λ _. refuses_fair vol u b (PromisedHigher (promise_of dur.promises u)) known all_takes)
      (λ low. on_maybe (Fair s d) (accepted_at (found nat_cmp dur.accepted u) b) _ _
      (λ _. proposes u b o h (above b (promise_of dur.promises u) low))
      (λ old _. quiet _ (plain_vote u b old))))
      (λ out _. says_one (proposer cl u b) (Decided u out) tt)

  waiting_gather_is : (u sh : ℕ) (g : GatherState) → waiting_gather cl dur vol u sh ≡ Some g → found nat_cmp vol.gathers u ≡ Some g
  waiting_gather_is u sh g =
      on_maybe (λ o. o ≡ Some g → found nat_cmp vol.gathers u ≡ Some g) (outcome_of dur.outcomes u) _ _
      (λ _. on_maybe (λ o. o ≡ Some g → found nat_cmp vol.gathers u ≡ Some g) (found nat_cmp vol.gathers u) _ _
      (λ _ e. never g e)
      (λ k is. on_cond (λ o. o ≡ Some g → found nat_cmp vol.gathers u ≡ Some g) (touches cl k.body sh && not (member nat_cmp k.yes sh)) _ _
      (λ _ e. is ∙ e)
      (λ _ e. never g e)))
      (λ _ _ e. never g e)

  said_yes_fair : (u : ℕ) (g : GatherState) → Proposal u s g.ballot (Commit g.body) → Fair s d (said_yes cl d dur vol u g)
  said_yes_fair u g h =
      on_cond (Fair s d) (has_all cl g) _ _
      (λ _. on_cond (Fair s d) (nat_lt g.ballot (promise_of dur.promises u)) _ _
      (λ _. refuses_fair (with_gather vol u g) u g.ballot (PromisedHigher (promise_of dur.promises u)) (gathers_put u g h) (takes_with_gather u g))
      (λ low. accepts_fair (with_gather vol u g) u g.ballot (Commit g.body) (gathers_put u g h) (takes_with_gather u g) (above g.ballot (promise_of dur.promises u) low) h))
      (λ _. dull _ (each_none Plain) tt (gathers_put u g h) (takes_with_gather u g))

  pub on_prepared_fair : (u sh : ℕ) (r : Option Reason) → Fair s d (on_prepared cl d dur vol u sh r)
  on_prepared_fair u sh None =
      on_maybe (Fair s d) (waiting_gather cl dur vol u sh) _ _ (λ _. idle)
      (λ g is. said_yes_fair u (with_yes g sh) (known u g (found_in u vol.gathers g (waiting_gather_is u sh g is))))
  on_prepared_fair u sh (Some r) =
      on_maybe (Fair s d) (waiting_gather cl dur vol u sh) _ _ (λ _. idle)
      (λ g is. refuses_fair vol u g.ballot r known all_takes)

  -- OUTCOMES
  forget_gathers : (v : CoordVolatile) (t : ℕ) → Gathers s v → Gathers s (forgotten v t)
  forget_gathers v t h u g is = h u g (in_without t v.gathers (u, g) is)

  forget_takes : (v : CoordVolatile) (t : ℕ) → Fewer v → Fewer (forgotten v t)
  forget_takes v t h =
      record {
        rises = rises_without 0 t v.takeovers h.rises;
        each = λ u k is. h.each u k (found_without 0 u t v.takeovers k h.rises is);
      }

  learns_fair : (v : CoordVolatile) (u : ℕ) (o : Decision) → Gathers s v → Fewer v → Fair s d (coord_learns cl d v u o)
  learns_fair v u o g t = dull _ (plain_finish u o) tt (forget_gathers v u g) (forget_takes v u t)

  pub on_voted_fair : (u b from : ℕ) (o : Decision) → Fair s d (on_voted cl d dur vol u b from o)
  on_voted_fair u b from o =
      on_maybe (Fair s d) (outcome_of dur.outcomes u) _ _
      (λ _. on_cond (Fair s d) (is_decided_by cl (tally_of vol u) b from o) _ _
      (λ _. learns_fair vol u o known all_takes)
      (λ _. dull (coord_stays (with_vote vol u b from o)) (each_none Plain) tt known (record { rises = all_takes.rises; each = λ w k is. is })))
      (λ _ _. idle)

  pub on_decided_fair : (u : ℕ) (o : Decision) → Fair s d (on_decided cl d dur vol u o)
  on_decided_fair u o = on_maybe (Fair s d) (outcome_of dur.outcomes u) _ _ (λ _. learns_fair vol u o known all_takes) (λ _ _. idle)

  pub do_catch_fair : Fair s d (do_catch cl d vol)
  do_catch_fair = quiet _ (each_to Plain cl.dcs _ (λ e. on_cond (Each Plain) (e == d) _ _ (λ _. each_none Plain) (λ _. each_one Plain (coordinator e) (CatchAsk (cursor_of vol e)) tt)))

  forget_all_gathers : (v : CoordVolatile) (es : List (ℕ × Decision)) → Gathers s v → Gathers s (forgotten_all v es)
  forget_all_gathers v [] h = h
  forget_all_gathers v (e ∷ es) h = forget_all_gathers (forgotten v e.0) es (forget_gathers v e.0 h)

  forget_all_takes : (v : CoordVolatile) (es : List (ℕ × Decision)) → Fewer v → Fewer (forgotten_all v es)
  forget_all_takes v [] h = h
  forget_all_takes v (e ∷ es) h = forget_all_takes (forgotten v e.0) es (forget_takes v e.0 h)

  plain_finish_all : (es : List (ℕ × Decision)) → Each Plain (finish_all_posts cl d es)
  plain_finish_all [] = each_none Plain
  plain_finish_all (e ∷ es) = each_both Plain _ _ (plain_finish e.0 e.1) (plain_finish_all es)

  outcomes_claims : (es : List (ℕ × Decision)) → Claims s d (outcomes_record es)
  outcomes_claims [] = tt
  outcomes_claims (e ∷ es) = tt

  pub on_catch_page_fair : (from place : ℕ) (es : List (ℕ × Decision)) → Fair s d (on_catch_page cl d dur vol from place es)
  on_catch_page_fair from place es =
      let new : List (ℕ × Decision) = undecided dur.outcomes es in
      let v : CoordVolatile = with_coord_cursor vol from (place + length es) in
      let more : Posts = asks_next_coord_page (coordinator from) place es in
      let plain : Each Plain more = on_cond (Each Plain) (length es == most_entries) _ _ (λ _. each_one Plain (coordinator from) (CatchAsk (place + length es)) tt) (λ _. each_none Plain) in
      on_cond (Fair s d) (is_next_coord_page d vol from place es) _ _
      (λ _. dull (takes_page cl d v new more)
      (each_both Plain (finish_all_posts cl d new) more (plain_finish_all new) plain)
      (outcomes_claims new)
      (forget_all_gathers v new known)
      (forget_all_takes v new (record { rises = all_takes.rises; each = λ w k is. is })))
      (λ _. idle)

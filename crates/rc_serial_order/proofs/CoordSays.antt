-- What a coordinator's row says of parts, whom it counts as yes, and when it votes for a commit.
use Rattle.std.proofs.Common.{◌≡◌, ℕ, List, [], ◌∷◌, refl, sym, ap, ◌∙◌, subst, Bool, true, false, cond, Option, Some, None, ◌⊎◌, inl, inr, ⊎_elim, max}
use Rattle.std.specs.Prelude.{not, ◌&&◌, ◌==◌, nat_lt, length, ◌+◌}
use Rattle.std.specs.Ordering.{nat_cmp}
use Rattle.rc_ids.specs.Tables.{In, found, put, member, maybe}
use Rattle.rc_ids.specs.Cluster.{Layout, is_dc, is_shard, owner_of, next_ballot}
use Rattle.rc_ids.specs.declared.names.Party.{Party}
use Rattle.rc_body.specs.Bodies.{part, touches, touched}
use Rattle.rc_body.specs.declared.entry.Entry.{Entry}
use Rattle.rc_body.specs.declared.decision.Decision.{Decision}
use Rattle.rc_body.specs.declared.decision.Decision.TheVariants.{Commit, Abort}
use Rattle.rc_body.specs.declared.reason.Reason.{Reason}
use Rattle.rc_body.specs.declared.reason.Reason.TheVariants.{Promised as PromisedHigher}
use Rattle.rc_msg.specs.declared.msg.Msg.{Msg}
use Rattle.rc_msg.specs.declared.msg.Msg.TheVariants.{ReadAsk, Granted, Propose, Prepare, Prepared, Voted, Refused, Ask, Promise, Decided, Finish, Abandon, CatchAsk, CatchPage}
use Rattle.rc_record.specs.declared.record.Record.{Record}
use Rattle.rc_record.specs.declared.record.Record.TheVariants.{Promised, Accepted}
use Rattle.rc_record.specs.CoordState.{CoordDurable, promise_of, outcome_of as listed_outcome}
use Rattle.rc_protocol.specs.Messages.{coordinator, shard_server, client_of, one, to_each, to_all, most_entries}
use Rattle.rc_protocol.specs.Coordinator.{CoordVolatile, CoordAct, GatherState, coord_stays, coord_says, proposer, vote, accepts, finish_to, finish_posts, forgotten, coord_learns, opens, takes_over, has_all, with_gather, prepare_to, gathers_on, gather_at, takes_proposal, refuses, accepted_at, on_propose, waiting_gather, said_yes, with_yes, on_prepared, promises_at, on_ask, hears, chooses, waiting_takeover, with_takeover, proposed, on_promise, is_decided_by, tally_of, with_vote, on_voted, on_decided, page_from, cursor_of, is_next_coord_page, with_coord_cursor, undecided, forgotten_all, finish_all_posts, outcomes_record, asks_next_coord_page, takes_page, on_catch_page, do_catch, coord_row}
use Rattle.rc_agreement.proofs.Cases.{on_cond, on_maybe, some_is, never}
use Rattle.rc_agreement.proofs.Tables.{put_same, found_in, in_put, in_without, in_added}
use Rattle.rc_protocol.specs.Acts.{NodeCause, Came, Takes, Catches, coord_act}
use Rattle.rc_agreement.proofs.CoordKeeps.{all_heard}
use Rattle.rc_agreement.proofs.Sends.{EachTo, to_none, to_one, to_both, to_many, to_coords}

-- what it says
abbrev pub SaysSo : Layout → ℕ → CoordVolatile → Party → Msg → Type 0
SaysSo c d w to (Prepare t p) = (sh : ℕ) × (to ≡ shard_server d sh) × (g : GatherState) × In (t, g) w.gathers × (p ≡ part c sh g.body)
SaysSo c d w to (Prepared t x None) = ⊥
SaysSo c d w to (Granted t key e v y) = ⊥
SaysSo c d w to (ReadAsk t key) = ⊥
SaysSo c d w to _ = Unit {0}

pub record YesBefore (v : CoordVolatile) (t sh : ℕ) : Type 0 where
  pub gather : GatherState
  pub among : In (t, gather) v.gathers
  pub yes : In sh gather.yes

-- a gather that a commit is voted by
pub record Full (c : Layout) (v : CoordVolatile) (t : ℕ) (x : List Entry) : Type 0 where
  pub gather : GatherState
  pub among : In (t, gather) v.gathers
  pub body : gather.body ≡ x
  pub all : (sh : ℕ) → In sh (touched c x) → In sh gather.yes

pub record CoordRow (c : Layout) (d : ℕ) (v : CoordVolatile) (k : NodeCause) (a : CoordAct) : Type 0 where
  pub says : EachTo (SaysSo c d a.after) a.sends
  pub yes : (t : ℕ) (g : GatherState) → In (t, g) a.after.gathers → (sh : ℕ) → In sh g.yes → YesBefore v t sh ⊎ ((from : Party) × (k ≡ Came from (Prepared t sh None)))
  pub votes : (t b : ℕ) (x : List Entry) → a.logs ≡ Some (Accepted t b (Commit x)) → Full c a.after t x

-- no vote for a commit
abbrev NoVote : Option Record → Type 0
NoVote (Some (Accepted t b (Commit x))) = ⊥
NoVote _ = Unit {0}

module _ (c : Layout) (d : ℕ) (s : CoordDurable) (v : CoordVolatile) (k : NodeCause) where
  abbrev R : CoordAct → Type 0
  R = CoordRow c d v k

  abbrev Fewer : CoordVolatile → Type 0
  Fewer w = (t : ℕ) (g : GatherState) → In (t, g) w.gathers → In (t, g) v.gathers

  same : Fewer v
  same t g i = i

  no_votes : (a : CoordAct) → NoVote a.logs → (t b : ℕ) (x : List Entry) → a.logs ≡ Some (Accepted t b (Commit x)) → Full c a.after t x
  no_votes a n t b x e = absurd (subst NoVote e n)

  plain : (a : CoordAct) → EachTo (SaysSo c d a.after) a.sends → Fewer a.after → NoVote a.logs → R a
  plain a h f n = record { says = h; yes = λ t g i sh j. inl (record { gather = g; among = f t g i; yes = j }); votes = no_votes a n }

  says_one : (p : Party) (m : Msg) → SaysSo c d v p m → R (coord_says v (one p m))
  says_one p m h = plain _ (to_one (SaysSo c d v) p m h) same tt

  idle : R (coord_stays v)
  idle = plain _ (to_none (SaysSo c d v)) same tt

  vote_so : (w : CoordVolatile) (t b : ℕ) (o : Decision) → EachTo (SaysSo c d w) (vote c d t b o)
  vote_so w t b o = to_both (SaysSo c d w) _ _ (to_coords (SaysSo c d w) c (Voted t b d o) (λ e. tt)) (to_one (SaysSo c d w) (client_of t) (Voted t b d o) tt)

  finish_so : (w : CoordVolatile) (t : ℕ) (o : Decision) → EachTo (SaysSo c d w) (finish_posts c d t o)
  finish_so w t o = to_many (SaysSo c d w) c.shards (finish_to c d t o) (λ x. to_it x o)
    where
      to_it : (x : ℕ) (o : Decision) → EachTo (SaysSo c d w) (finish_to c d t o x)
      to_it x Abort = to_one (SaysSo c d w) (shard_server d x) (Finish t Abort) tt
      to_it x (Commit body) = on_cond (EachTo (SaysSo c d w)) (touches c body x) _ _ (λ _. to_one (SaysSo c d w) (shard_server d x) (Finish t (Commit (part c x body))) tt) (λ _. to_none (SaysSo c d w))

  forgets : (w : CoordVolatile) (t : ℕ) → Fewer w → Fewer (forgotten w t)
  forgets w t f u g i = f u g (in_without t w.gathers (u, g) i)

  learns_row : (w : CoordVolatile) (t : ℕ) (o : Decision) → Fewer w → R (coord_learns c d w t o)
  learns_row w t o f = plain (coord_learns c d w t o) (finish_so (forgotten w t) t o) (forgets w t f) tt

  finish_all_so : (w : CoordVolatile) (es : List (ℕ × Decision)) → EachTo (SaysSo c d w) (finish_all_posts c d es)
  finish_all_so w [] = to_none (SaysSo c d w)
  finish_all_so w (e ∷ es) = to_both (SaysSo c d w) _ _ (finish_so w e.0 e.1) (finish_all_so w es)

  forgets_all : (w : CoordVolatile) (es : List (ℕ × Decision)) → Fewer w → Fewer (forgotten_all w es)
  forgets_all w [] f = f
  forgets_all w (e ∷ es) f = forgets_all (forgotten w e.0) es (forgets w e.0 f)

  no_page_vote : (es : List (ℕ × Decision)) → NoVote (outcomes_record es)
  no_page_vote [] = tt
  no_page_vote (e ∷ es) = tt

  page_row : (from place : ℕ) (es : List (ℕ × Decision)) → R (on_catch_page c d s v from place es)
  page_row from place es =
      let new : List (ℕ × Decision) = undecided s.outcomes es in
      let w : CoordVolatile = with_coord_cursor v from (place + length es) in
      on_cond R (is_next_coord_page d v from place es) _ _
      (λ _. plain (takes_page c d w new (asks_next_coord_page (coordinator from) place es))
      (to_both (SaysSo c d (forgotten_all w new)) _ _ (finish_all_so (forgotten_all w new) new)
      (on_cond (EachTo (SaysSo c d (forgotten_all w new))) (length es == most_entries) _ _ (λ _. to_one (SaysSo c d (forgotten_all w new)) (coordinator from) (CatchAsk (place + length es)) tt) (λ _. to_none (SaysSo c d (forgotten_all w new)))))
      (forgets_all w new same) (no_page_vote new))
      (λ _. idle)

  -- gathers
  abbrev Yeses : ℕ → GatherState → Type 0
  Yeses t g = (sh : ℕ) → In sh g.yes → YesBefore v t sh ⊎ ((from : Party) × (k ≡ Came from (Prepared t sh None)))

  yes_put : (t : ℕ) (g : GatherState) → Yeses t g → (u : ℕ) (h : GatherState) → In (u, h) (put nat_cmp v.gathers t g) → Yeses u h
  yes_put t g y u h i =
      ⊎_elim
      (λ (e : (t, g) ≡ (u, h)). subst (λ (z : ℕ × GatherState). Yeses z.0 z.1) e y)
      (λ (old : In (u, h) v.gathers). λ sh j. inl (record { gather = h; among = old; yes = j }))
      (in_put t g v.gathers (u, h) i)

  here : (t : ℕ) (g : GatherState) → In (t, g) (put nat_cmp v.gathers t g)
  here t g = found_in t (put nat_cmp v.gathers t g) g (put_same t g v.gathers)

  accepts_row : (t : ℕ) (g : GatherState) → Yeses t g → has_all c g ≡ true → R (accepts c d (with_gather v t g) t g.ballot (Commit g.body))
  accepts_row t g y all =
      record {
        says = vote_so (with_gather v t g) t g.ballot (Commit g.body);
        yes = yes_put t g y;
        votes = λ u b x e.
            let is : Accepted t g.ballot (Commit g.body) ≡ Accepted u b (Commit x) = some_is _ _ e in
            let n : t ≡ u = (cc) in let m : g.body ≡ x = (cc) in
            subst (λ (z : ℕ × List Entry). Full c (with_gather v t g) z.0 z.1) (λ i. (n i, m i))
            (record { gather = g; among = here t g; body = refl; all = all_heard g.yes (touched c g.body) all });
      }

  gathers_row : (t : ℕ) (g : GatherState) → Yeses t g → R (gathers_on c d v t g)
  gathers_row t g y =
      on_cond R (has_all c g) _ _
      (λ all. accepts_row t g y all)
      (λ _. let w : CoordVolatile = with_gather v t g in
      record {
        says = to_many (SaysSo c d w) c.shards (prepare_to c d t g)
            (λ x. on_cond (EachTo (SaysSo c d w)) (touches c g.body x && not (member nat_cmp g.yes x)) _ _ (λ _. to_one (SaysSo c d w) (shard_server d x) (Prepare t (part c x g.body)) (x, refl, g, here t g, refl)) (λ _. to_none (SaysSo c d w)));
        yes = yes_put t g y;
        votes = no_votes (coord_says w (to_each c.shards (prepare_to c d t g))) tt;
      })

  waiting_is : (t sh : ℕ) (g : GatherState) → waiting_gather c s v t sh ≡ Some g → In (t, g) v.gathers
  waiting_is t sh g =
      on_maybe (λ o. o ≡ Some g → In (t, g) v.gathers) (listed_outcome s.outcomes t) _ _
      (λ _. on_maybe (λ o. o ≡ Some g → In (t, g) v.gathers) (found nat_cmp v.gathers t) _ _
      (λ _ e. never g e)
      (λ x is. on_cond (λ o. o ≡ Some g → In (t, g) v.gathers) (touches c x.body sh && not (member nat_cmp x.yes sh)) _ _ (λ _ e. found_in t v.gathers g (is ∙ e)) (λ _ e. never g e)))
      (λ _ _ e. never g e)

  refuses_row : (w : CoordVolatile) (t b : ℕ) (reason : Reason) → ((u : ℕ) (h : GatherState) → In (u, h) w.gathers → Yeses u h) → R (refuses c d w t b reason)
  refuses_row w t b reason y = record { says = to_one (SaysSo c d w) (proposer c t b) (Refused t b d reason) tt; yes = y; votes = no_votes (refuses c d w t b reason) tt }

  olds : (u : ℕ) (h : GatherState) → In (u, h) v.gathers → Yeses u h
  olds u h i sh j = inl (record { gather = h; among = i; yes = j })

  said_row : (t : ℕ) (g : GatherState) → Yeses t g → R (said_yes c d s v t g)
  said_row t g y =
      on_cond R (has_all c g) _ _
      (λ all. on_cond R (nat_lt g.ballot (promise_of s.promises t)) _ _
      (λ _. refuses_row (with_gather v t g) t g.ballot (PromisedHigher (promise_of s.promises t)) (yes_put t g y))
      (λ _. accepts_row t g y all))
      (λ _. record { says = to_none (SaysSo c d (with_gather v t g)); yes = yes_put t g y; votes = no_votes (coord_stays (with_gather v t g)) tt })

  -- the rows
  joins : (t b : ℕ) (body : List Entry) → R (gathers_on c d v t (gather_at v t b body))
  joins t b body =
      on_maybe (λ g. R (gathers_on c d v t g)) (found nat_cmp v.gathers t) _ _
      (λ _. gathers_row t (record { ballot = b; body = body; yes = [] }) (λ sh i. absurd i))
      (λ g is. gathers_row t (record { ballot = max g.ballot b; body = g.body; yes = g.yes }) (λ sh i. inl (record { gather = g; among = found_in t v.gathers g is; yes = i })))

  proposes : (t b : ℕ) (o : Decision) → R (takes_proposal c d v t b o)
  proposes t b Abort = plain (accepts c d v t b Abort) (vote_so v t b Abort) same tt
  proposes t b (Commit body) = joins t b body

  propose_row : (t b : ℕ) (o : Decision) → R (on_propose c d s v t b o)
  propose_row t b o =
      on_maybe R (listed_outcome s.outcomes t) _ _
      (λ _. on_cond R (nat_lt b (promise_of s.promises t)) _ _
      (λ _. refuses_row v t b (PromisedHigher (promise_of s.promises t)) olds)
      (λ _. on_maybe R (accepted_at (found nat_cmp s.accepted t) b) _ _ (λ _. proposes t b o) (λ old _. plain _ (vote_so v t b old) same tt)))
      (λ out _. says_one (proposer c t b) (Decided t out) tt)

  promise_row : (t b from : ℕ) (r : Option (ℕ × Decision)) → R (on_promise c s v t b from r)
  promise_row t b from r =
      on_maybe R (waiting_takeover s v t b from) _ _ (λ _. idle)
      (λ x _. on_maybe R (chooses c (hears x from r)) (coord_stays (with_takeover v t (hears x from r))) (λ o. coord_says (with_takeover v t (proposed (hears x from r))) (to_all c (Propose t x.ballot o)))
      (λ _. plain _ (to_none (SaysSo c d (with_takeover v t (hears x from r)))) same tt)
      (λ o _. plain _ (to_coords (SaysSo c d (with_takeover v t (proposed (hears x from r)))) c (Propose t x.ballot o) (λ e. tt)) same tt))

  ask_row : (t b : ℕ) → R (on_ask c d s v t b)
  ask_row t b =
      on_maybe R (listed_outcome s.outcomes t) _ _
      (λ _. on_cond R (nat_lt b (promise_of s.promises t)) _ _
      (λ _. says_one (coordinator (owner_of c b)) (Refused t b d (PromisedHigher (promise_of s.promises t))) tt)
      (λ _. plain (promises_at c d s v t b) (to_one (SaysSo c d v) (coordinator (owner_of c b)) (Promise t b d (found nat_cmp s.accepted t)) tt) same
      (on_cond NoVote (nat_lt (promise_of s.promises t) b) (Some (Promised t b)) None (λ _. tt) (λ _. tt))))
      (λ out _. says_one (coordinator (owner_of c b)) (Decided t out) tt)

  over_row : (t : ℕ) (eager : Bool) → R (takes_over c d s v t eager)
  over_row t eager =
      on_maybe R (next_ballot c d (promise_of s.promises t)) _ _
      (λ _. plain _ (to_none (SaysSo c d v)) same tt)
      (λ b _. plain (opens c v t eager b) (to_coords (SaysSo c d (opens c v t eager b).after) c (Ask t b) (λ e. tt)) same tt)

  told_or_over : (t : ℕ) (eager : Bool) → R (maybe (listed_outcome s.outcomes t) (takes_over c d s v t eager) (λ outcome. coord_says v (one (client_of t) (Decided t outcome))))
  told_or_over t eager = on_maybe R (listed_outcome s.outcomes t) _ _ (λ _. over_row t eager) (λ o _. says_one (client_of t) (Decided t o) tt)

  voted_row : (t b from : ℕ) (o : Decision) → R (on_voted c d s v t b from o)
  voted_row t b from o =
      on_maybe R (listed_outcome s.outcomes t) _ _
      (λ _. on_cond R (is_decided_by c (tally_of v t) b from o) _ _ (λ _. learns_row v t o same) (λ _. plain (coord_stays (with_vote v t b from o)) (to_none (SaysSo c d (with_vote v t b from o))) same tt))
      (λ _ _. idle)

  decided_row : (t : ℕ) (o : Decision) → R (on_decided c d s v t o)
  decided_row t o = on_maybe R (listed_outcome s.outcomes t) _ _ (λ _. learns_row v t o same) (λ _ _. idle)

module _ (c : Layout) (d : ℕ) (s : CoordDurable) (v : CoordVolatile) where
  prepared_row : (from : Party) (t sh : ℕ) (r : Option Reason) → CoordRow c d v (Came from (Prepared t sh r)) (on_prepared c d s v t sh r)
  prepared_row from t sh None =
      let k : NodeCause = Came from (Prepared t sh None) in
      on_maybe (CoordRow c d v k) (waiting_gather c s v t sh) _ _ (λ _. idle c d s v k)
      (λ g is. said_row c d s v k t (with_yes g sh)
      (λ x i. ⊎_elim (λ (e : x ≡ sh). inr (from, ap (λ y. Came from (Prepared t y None)) (sym e))) (λ j. inl (record { gather = g; among = waiting_is c d s v k t sh g is; yes = j })) (in_added x sh g.yes i)))
  prepared_row from t sh (Some r) =
      let k : NodeCause = Came from (Prepared t sh (Some r)) in
      on_maybe (CoordRow c d v k) (waiting_gather c s v t sh) _ _ (λ _. idle c d s v k) (λ g _. refuses_row c d s v k v t g.ballot r (olds c d s v k))

  pub coord_says_so : (k : NodeCause) → CoordRow c d v k (coord_act c d s v k)
  coord_says_so (Came from m) = comes m
    where
      guarded : (m : Msg) (b : Bool) (a : CoordAct) → CoordRow c d v (Came from m) a → CoordRow c d v (Came from m) (cond b a (coord_stays v))
      guarded m b a f = on_cond (CoordRow c d v (Came from m)) b a (coord_stays v) (λ _. f) (λ _. idle c d s v (Came from m))

      comes : (m : Msg) → CoordRow c d v (Came from m) (coord_row c d s v from m)
      comes (Propose t b o) = propose_row c d s v _ t b o
      comes (Prepared t sh r) = guarded (Prepared t sh r) (is_shard c sh) _ (prepared_row from t sh r)
      comes (Ask t b) = ask_row c d s v _ t b
      comes (Promise t b e r) = guarded (Promise t b e r) (is_dc c e) _ (promise_row c d s v _ t b e r)
      comes (Voted t b e o) = guarded (Voted t b e o) (is_dc c e) _ (voted_row c d s v _ t b e o)
      comes (Decided t o) = decided_row c d s v _ t o
      comes (Abandon t) = told_or_over c d s v _ t false
      comes (CatchAsk p) = says_one c d s v _ from (CatchPage d p (page_from s.outcomes p)) tt
      comes (CatchPage e p es) = guarded (CatchPage e p es) (is_dc c e) _ (page_row c d s v _ e p es)
      comes _ = idle c d s v _
  coord_says_so (Takes t) = told_or_over c d s v _ t true
  coord_says_so Catches = plain c d s v Catches (do_catch c d v) (to_many (SaysSo c d v) c.dcs _ (λ e. on_cond (EachTo (SaysSo c d v)) (e == d) _ _ (λ _. to_none (SaysSo c d v)) (λ _. to_one (SaysSo c d v) (coordinator e) (CatchAsk (cursor_of v e)) tt))) (same c d s v Catches) tt

-- What a coordinator says and votes, by its rows: why it refuses, and where aborts come from.
use Rattle.std.proofs.Common.{◌≡◌, ℕ, ◌<◌, List, [], ◌∷◌, refl, ◌∙◌, subst, Bool, true, false, Option, Some, None, ◌⊎◌, inl, inr, ⊎_elim, length, ltb-true}
use Rattle.std.specs.Prelude.{not, ◌&&◌, ◌==◌, ◌+◌, nat_lt}
use Rattle.std.specs.Ordering.{nat_cmp}
use Rattle.rc_ids.specs.Tables.{In, found, put, member}
use Rattle.rc_ids.specs.Cluster.{Layout, is_dc, is_shard, owner_of, next_ballot}
use Rattle.rc_ids.specs.declared.names.Party.{Party}
use Rattle.rc_body.specs.Bodies.{part, touches}
use Rattle.rc_body.specs.declared.decision.Decision.{Decision}
use Rattle.rc_body.specs.declared.decision.Decision.TheVariants.{Commit, Abort}
use Rattle.rc_body.specs.declared.reason.Reason.{Reason}
use Rattle.rc_body.specs.declared.reason.Reason.TheVariants.{Promised as PromisedHigher}
use Rattle.rc_msg.specs.declared.msg.Msg.{Msg}
use Rattle.rc_msg.specs.declared.msg.Msg.TheVariants.{Propose, Prepare, Prepared, Voted, Refused, Ask, Promise, Decided, Finish, Abandon, CatchAsk, CatchPage}
use Rattle.rc_record.specs.declared.record.Record.{Record}
use Rattle.rc_record.specs.declared.record.Record.TheVariants.{Promised, Accepted}
use Rattle.rc_protocol.specs.Messages.{Posts, coordinator, shard_server, client_of, one, to_each, to_all, most_entries}
use Rattle.rc_protocol.specs.Coordinator.{CoordDurable, CoordVolatile, CoordAct, GatherState, TakeoverState, promise_of, outcome_of, coord_stays, coord_says, proposer, vote, accepts, finish_to, finish_posts, forgotten, coord_learns, opening, takes_over, has_all, with_gather, prepare_to, gathers_on, gather_at, takes_proposal, refuses, accepted_at, on_propose, waiting_gather, with_yes, said_yes, on_prepared, promise_record, promises_at, on_ask, hears, chooses, waiting_takeover, proposed, proposes_or_waits, on_promise, with_vote, tally_of, is_decided_by, on_voted, on_decided, do_catch, page_from, cursor_of, is_next_coord_page, with_coord_cursor, undecided, forgotten_all, finish_all_posts, outcomes_record, asks_next_coord_page, takes_page, on_catch_page, coord_row}
use Rattle.rc_protocol.specs.Acts.{NodeCause, Came, Catches, Takes, coord_act}
use Rattle.rc_agreement.proofs.Cases.{on_cond, on_maybe, never}
use Rattle.rc_agreement.proofs.Tables.{in_put, in_without, found_in}
use Rattle.rc_agreement.proofs.Sends.{EachTo, to_none, to_one, to_both, to_many, to_coords}
use Rattle.rc_causes.proofs.Says.{Dull, Dulls}

-- why it refuses u at a ballot: it has promised a higher one; or a shard said no with this reason
abbrev pub RefusedFor : CoordDurable → NodeCause → ℕ → ℕ → Reason → Type 0
RefusedFor s k u b reason =
    ((reason ≡ PromisedHigher (promise_of s.promises u)) × (b < promise_of s.promises u))
    ⊎ ((from : Party) × (shard : ℕ) × (k ≡ Came from (Prepared u shard (Some reason))))

abbrev pub CoordSay : ℕ → CoordDurable → CoordVolatile → NodeCause → Party → Msg → Type 0
CoordSay d s v k to (Refused u b e reason) = (e ≡ d) × RefusedFor s k u b reason
CoordSay d s v k to (Propose u b Abort) = (n : TakeoverState) × In (u, n) v.takeovers
CoordSay d s v k to m = Dull to m

-- the cause opens a take-over of u
abbrev pub OpensFor : NodeCause → ℕ → Type 0
OpensFor (Takes t) u = t ≡ u
OpensFor (Came from (Abandon t)) u = t ≡ u
OpensFor _ u = ⊥

abbrev pub Aborts : NodeCause → Option Record → Type 0
Aborts k (Some (Accepted u b Abort)) = (from : Party) × (k ≡ Came from (Propose u b Abort))
Aborts k _ = Unit {0}

pub record CoordRow (d : ℕ) (s : CoordDurable) (v : CoordVolatile) (k : NodeCause) (a : CoordAct) : Type 0 where
  pub sends : EachTo (CoordSay d s v k) a.sends
  pub takes : (u : ℕ) (n : TakeoverState) → In (u, n) a.after.takeovers → ((m : TakeoverState) × In (u, m) v.takeovers) ⊎ OpensFor k u
  pub votes : Aborts k a.logs

-- to catch up it only asks
pub catch_dull : (c : Layout) (d : ℕ) (v : CoordVolatile) → Dulls (do_catch c d v).sends
catch_dull c d v = to_many Dull c.dcs _ (λ e. on_cond Dulls (e == d) _ _ (λ _. to_none Dull) (λ _. to_one Dull (coordinator e) (CatchAsk (cursor_of v e)) tt))

module _ (c : Layout) (d : ℕ) (s : CoordDurable) (v : CoordVolatile) where
  -- the take-overs are among those of v
  record Fewer (after : CoordVolatile) : Type 0 where
    each : (u : ℕ) (n : TakeoverState) → In (u, n) after.takeovers → In (u, n) v.takeovers

  all_same : Fewer v
  all_same = record { each = λ u n i. i }

  module _ (k : NodeCause) where
    abbrev R : CoordAct → Type 0
    R a = CoordRow d s v k a

    dull_say : (to : Party) (m : Msg) → Dull to m → CoordSay d s v k to m
    dull_say to (Refused u b e reason) h = absurd h
    dull_say to (Propose u b Abort) h = absurd h
    dull_say to m h = h

    dulls : (ms : Posts) → Dulls ms → EachTo (CoordSay d s v k) ms
    dulls ms q = record { each = λ to m i. dull_say to m (q.each to m i) }

    plain : (a : CoordAct) → Dulls a.sends → Fewer a.after → Aborts k a.logs → R a
    plain a q f n = record { sends = dulls a.sends q; takes = λ u t i. inl (t, f.each u t i); votes = n }

    idle : R (coord_stays v)
    idle = plain (coord_stays v) (to_none Dull) all_same tt

    says : (ms : Posts) → Dulls ms → R (coord_says v ms)
    says ms q = plain (coord_says v ms) q all_same tt

    says_one : (to : Party) (m : Msg) → Dull to m → R (coord_says v (one to m))
    says_one to m q = says _ (to_one Dull to m q)

    vote_dull : (u b : ℕ) (o : Decision) → Dulls (vote c d u b o)
    vote_dull u b o = to_both Dull (to_all c (Voted u b d o)) (one (client_of u) (Voted u b d o)) (to_coords Dull c (Voted u b d o) (λ e. tt)) (to_one Dull (client_of u) (Voted u b d o) tt)

    finish_dull : (u : ℕ) (o : Decision) → Dulls (finish_posts c d u o)
    finish_dull u o = to_many Dull c.shards (finish_to c d u o) (λ x. to_shard x o)
      where
        to_shard : (x : ℕ) (o : Decision) → Dulls (finish_to c d u o x)
        to_shard x Abort = to_one Dull (shard_server d x) (Finish u Abort) tt
        to_shard x (Commit body) = on_cond Dulls (touches c body x) _ _ (λ _. to_one Dull (shard_server d x) (Finish u (Commit (part c x body))) tt) (λ _. to_none Dull)

    with_one : (u : ℕ) (g : GatherState) → Fewer (with_gather v u g)
    with_one u g = record { each = λ w n i. i }

    refuses_row : (after : CoordVolatile) → Fewer after → (u b : ℕ) (reason : Reason) → RefusedFor s k u b reason → R (refuses c d after u b reason)
    refuses_row after f u b reason why =
        record { sends = to_one (CoordSay d s v k) (proposer c u b) (Refused u b d reason) (refl, why); takes = λ w n i. inl (n, f.each w n i); votes = tt }

    promised : (u b : ℕ) → nat_lt b (promise_of s.promises u) ≡ true → RefusedFor s k u b (PromisedHigher (promise_of s.promises u))
    promised u b less = inl (refl, ltb-true b (promise_of s.promises u) less)

    gathers_row : (u : ℕ) (g : GatherState) → R (gathers_on c d v u g)
    gathers_row u g =
        on_cond R (has_all c g) _ _
        (λ _. plain (accepts c d (with_gather v u g) u g.ballot (Commit g.body)) (vote_dull u g.ballot (Commit g.body)) (with_one u g) tt)
        (λ _. plain _ prepares (with_one u g) tt)
      where
        prepares : Dulls (to_each c.shards (prepare_to c d u g))
        prepares = to_many Dull c.shards (prepare_to c d u g)
            (λ x. on_cond Dulls (touches c g.body x && not (member nat_cmp g.yes x)) _ _ (λ _. to_one Dull (shard_server d x) (Prepare u (part c x g.body)) tt) (λ _. to_none Dull))

    proposes_row : (from : Party) (u b : ℕ) (o : Decision) → k ≡ Came from (Propose u b o) → R (takes_proposal c d v u b o)
    proposes_row from u b Abort is = plain (accepts c d v u b Abort) (vote_dull u b Abort) all_same (from, is)
    proposes_row from u b (Commit body) is = gathers_row u (gather_at v u b body)

    propose_row : (from : Party) (u b : ℕ) (o : Decision) → k ≡ Came from (Propose u b o) → R (on_propose c d s v u b o)
    propose_row from u b o is =
        on_maybe R (outcome_of s.outcomes u) _ _
        (λ _. on_cond R (nat_lt b (promise_of s.promises u)) _ _
        (λ less. refuses_row v all_same u b (PromisedHigher (promise_of s.promises u)) (promised u b less))
        (λ _. on_maybe R (accepted_at (found nat_cmp s.accepted u) b) _ _ (λ _. proposes_row from u b o is) (λ old _. says _ (vote_dull u b old))))
        (λ out _. says_one (proposer c u b) (Decided u out) tt)

    yes_row : (u : ℕ) (g : GatherState) → R (said_yes c d s v u g)
    yes_row u g =
        on_cond R (has_all c g) _ _
        (λ _. on_cond R (nat_lt g.ballot (promise_of s.promises u)) _ _
        (λ less. refuses_row (with_gather v u g) (with_one u g) u g.ballot (PromisedHigher (promise_of s.promises u)) (promised u g.ballot less))
        (λ _. plain (accepts c d (with_gather v u g) u g.ballot (Commit g.body)) (vote_dull u g.ballot (Commit g.body)) (with_one u g) tt))
        (λ _. plain _ (to_none Dull) (with_one u g) tt)

    prepared_row : (from : Party) (u shard : ℕ) (reason : Option Reason) → k ≡ Came from (Prepared u shard reason) → R (on_prepared c d s v u shard reason)
    prepared_row from u shard None is = on_maybe R (waiting_gather c s v u shard) _ _ (λ _. idle) (λ g _. yes_row u (with_yes g shard))
    prepared_row from u shard (Some reason) is =
        on_maybe R (waiting_gather c s v u shard) _ _ (λ _. idle) (λ g _. refuses_row v all_same u g.ballot reason (inr (from, shard, is)))

    -- OUTCOMES
    forgets : (after : CoordVolatile) (u : ℕ) → Fewer after → Fewer (forgotten after u)
    forgets after u f = record { each = λ w n i. f.each w n (in_without u after.takeovers (w, n) i) }

    learns_row : (u : ℕ) (o : Decision) → R (coord_learns c d v u o)
    learns_row u o = plain _ (finish_dull u o) (forgets v u all_same) tt

    voted_row : (u b from : ℕ) (o : Decision) → R (on_voted c d s v u b from o)
    voted_row u b from o =
        on_maybe R (outcome_of s.outcomes u) _ _
        (λ _. on_cond R (is_decided_by c (tally_of v u) b from o) _ _ (λ _. learns_row u o)
        (λ _. plain (coord_stays (with_vote v u b from o)) (to_none Dull) (record { each = λ w n i. i }) tt))
        (λ _ _. idle)

    decided_row : (u : ℕ) (o : Decision) → R (on_decided c d s v u o)
    decided_row u o = on_maybe R (outcome_of s.outcomes u) _ _ (λ _. learns_row u o) (λ _ _. idle)

    catch_row : R (do_catch c d v)
    catch_row = says _ (catch_dull c d v)

    forgets_all : (after : CoordVolatile) (es : List (ℕ × Decision)) → Fewer after → Fewer (forgotten_all after es)
    forgets_all after [] f = f
    forgets_all after (e ∷ es) f = forgets_all (forgotten after e.0) es (forgets after e.0 f)

    finish_all_dull : (es : List (ℕ × Decision)) → Dulls (finish_all_posts c d es)
    finish_all_dull [] = to_none Dull
    finish_all_dull (e ∷ es) = to_both Dull _ _ (finish_dull e.0 e.1) (finish_all_dull es)

    no_abort : (es : List (ℕ × Decision)) → Aborts k (outcomes_record es)
    no_abort [] = tt
    no_abort (e ∷ es) = tt

    page_row : (from place : ℕ) (es : List (ℕ × Decision)) → R (on_catch_page c d s v from place es)
    page_row from place es =
        let new : List (ℕ × Decision) = undecided s.outcomes es in
        let after : CoordVolatile = with_coord_cursor v from (place + length es) in
        let more : Posts = asks_next_coord_page (coordinator from) place es in
        let dull : Dulls more = on_cond Dulls (length es == most_entries) _ _ (λ _. to_one Dull (coordinator from) (CatchAsk (place + length es)) tt) (λ _. to_none Dull) in
        on_cond R (is_next_coord_page d v from place es) _ _
        (λ _. plain (takes_page c d after new more) (to_both Dull (finish_all_posts c d new) more (finish_all_dull new) dull) (forgets_all after new (record { each = λ w n i. i })) (no_abort new))
        (λ _. idle)

    -- PROMISES
    promise_logs : (u b : ℕ) → Aborts k (promise_record u b (promise_of s.promises u))
    promise_logs u b = on_cond (Aborts k) (nat_lt (promise_of s.promises u) b) (Some (Promised u b)) None (λ _. tt) (λ _. tt)

    ask_row : (u b : ℕ) → R (on_ask c d s v u b)
    ask_row u b =
        on_maybe R (outcome_of s.outcomes u) _ _
        (λ _. on_cond R (nat_lt b (promise_of s.promises u)) _ _
        (λ less. record {
          sends = to_one (CoordSay d s v k) (coordinator (owner_of c b)) (Refused u b d (PromisedHigher (promise_of s.promises u))) (refl, promised u b less);
          takes = λ w n i. inl (n, i);
          votes = tt;
        })
        (λ _. plain (promises_at c d s v u b) (to_one Dull (coordinator (owner_of c b)) (Promise u b d (found nat_cmp s.accepted u)) tt) all_same (promise_logs u b)))
        (λ out _. says_one (coordinator (owner_of c b)) (Decided u out) tt)

    -- TAKE-OVERS
    -- one more, or another of the same transaction
    takes_put : (u : ℕ) (new : TakeoverState) → ((m : TakeoverState) × In (u, m) v.takeovers) ⊎ OpensFor k u
        → (w : ℕ) (n : TakeoverState) → In (w, n) (put nat_cmp v.takeovers u new) → ((m : TakeoverState) × In (w, m) v.takeovers) ⊎ OpensFor k w
    takes_put u new h w n i =
        ⊎_elim
        (λ (e : (u, new) ≡ (w, n)). subst (λ (y : ℕ × TakeoverState). ((m : TakeoverState) × In (y.0, m) v.takeovers) ⊎ OpensFor k y.0) e h)
        (λ (old : In (w, n) v.takeovers). inl (n, old))
        (in_put u new v.takeovers (w, n) i)

    opens_row : (u : ℕ) (eager : Bool) → OpensFor k u → R (takes_over c d s v u eager)
    opens_row u eager h =
        on_maybe R (next_ballot c d (promise_of s.promises u)) _ _ (λ _. plain _ (to_none Dull) all_same tt)
        (λ b _. record { sends = dulls _ (to_coords Dull c (Ask u b) (λ e. tt)); takes = takes_put u (opening b eager) (inr h); votes = tt })

    goes_row : (u : ℕ) (old new : TakeoverState) → In (u, old) v.takeovers → R (proposes_or_waits c v u new)
    goes_row u old new i =
        on_maybe R (chooses c new) _ _
        (λ _. record { sends = to_none (CoordSay d s v k); takes = takes_put u new (inl (old, i)); votes = tt })
        (λ o _. record { sends = to_coords (CoordSay d s v k) c (Propose u new.ballot o) (λ e. may e o); takes = takes_put u (proposed new) (inl (old, i)); votes = tt })
      where
        may : (e : ℕ) (o : Decision) → CoordSay d s v k (coordinator e) (Propose u new.ballot o)
        may e Abort = (old, i)
        may e (Commit body) = tt

    waiting_is : (u b from : ℕ) (n : TakeoverState) → waiting_takeover s v u b from ≡ Some n → In (u, n) v.takeovers
    waiting_is u b from n =
        on_maybe (λ o. o ≡ Some n → In (u, n) v.takeovers) (outcome_of s.outcomes u) _ _
        (λ _. on_maybe (λ o. o ≡ Some n → In (u, n) v.takeovers) (found nat_cmp v.takeovers u) _ _ (λ _ e. never n e)
        (λ m is. on_cond (λ o. o ≡ Some n → In (u, n) v.takeovers) ((m.ballot == b) && (not m.has_proposed && not (member nat_cmp m.heard from))) _ _
        (λ _ e. found_in u v.takeovers n (is ∙ e)) (λ _ e. never n e)))
        (λ _ _ e. never n e)

    promise_row : (u b from : ℕ) (report : Option (ℕ × Decision)) → R (on_promise c s v u b from report)
    promise_row u b from report =
        on_maybe R (waiting_takeover s v u b from) _ _ (λ _. idle) (λ n is. goes_row u n (hears n from report) (waiting_is u b from n is))

pub coord_row_of : (c : Layout) (d : ℕ) (s : CoordDurable) (v : CoordVolatile) (k : NodeCause) → CoordRow d s v k (coord_act c d s v k)
coord_row_of c d s v Catches = catch_row c d s v Catches
coord_row_of c d s v (Takes t) =
    on_maybe (CoordRow d s v (Takes t)) (outcome_of s.outcomes t) _ _ (λ _. opens_row c d s v (Takes t) t true refl) (λ out _. says_one c d s v (Takes t) (client_of t) (Decided t out) tt)
coord_row_of c d s v (Came from m) = comes m
  where
    still : (m : Msg) → CoordRow d s v (Came from m) (coord_stays v)
    still m = idle c d s v (Came from m)

    comes : (m : Msg) → CoordRow d s v (Came from m) (coord_row c d s v from m)
    comes (Propose t b o) = propose_row c d s v _ from t b o refl
    comes (Prepared t shard reason) = on_cond (CoordRow d s v (Came from (Prepared t shard reason))) (is_shard c shard) _ _ (λ _. prepared_row c d s v _ from t shard reason refl) (λ _. still _)
    comes (Ask t b) = ask_row c d s v _ t b
    comes (Promise t b e report) = on_cond (CoordRow d s v (Came from (Promise t b e report))) (is_dc c e) _ _ (λ _. promise_row c d s v _ t b e report) (λ _. still _)
    comes (Voted t b e o) = on_cond (CoordRow d s v (Came from (Voted t b e o))) (is_dc c e) _ _ (λ _. voted_row c d s v _ t b e o) (λ _. still _)
    comes (Decided t o) = decided_row c d s v _ t o
    comes (Abandon t) =
        on_maybe (CoordRow d s v (Came from (Abandon t))) (outcome_of s.outcomes t) _ _ (λ _. opens_row c d s v _ t false refl) (λ out _. says_one c d s v _ (client_of t) (Decided t out) tt)
    comes (CatchAsk place) = says_one c d s v (Came from (CatchAsk place)) from (CatchPage d place (page_from s.outcomes place)) tt
    comes (CatchPage e place page) = on_cond (CoordRow d s v (Came from (CatchPage e place page))) (is_dc c e) _ _ (λ _. page_row c d s v _ e place page) (λ _. still _)
    comes m = still m

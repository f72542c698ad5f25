-- A coordinator that holds nothing of t says nothing of it, by each of its rows.
use Rattle.std.proofs.Common.{◌≡◌, ℕ, List, [], ◌∷◌, refl, sym, ap, ◌∙◌, subst, Bool, true, false, cond, Option, Some, None, ◌⊎◌, inl, inr, ⊎_elim}
use Rattle.std.specs.Prelude.{not, ◌&&◌, ◌==◌, nat_lt, length, ◌+◌}
use Rattle.std.specs.Ordering.{nat_cmp}
use Rattle.rc_ids.specs.Tables.{In, Table, found, put, member, maybe}
use Rattle.rc_ids.specs.Cluster.{Layout, is_dc, is_shard, owner_of, next_ballot}
use Rattle.rc_ids.specs.declared.names.Party.{Party}
use Rattle.rc_body.specs.Bodies.{part, touches}
use Rattle.rc_body.specs.declared.decision.Decision.{Decision}
use Rattle.rc_body.specs.declared.decision.Decision.TheVariants.{Commit, Abort}
use Rattle.rc_body.specs.declared.reason.Reason.{Reason}
use Rattle.rc_body.specs.declared.reason.Reason.TheVariants.{Promised as PromisedHigher}
use Rattle.rc_msg.specs.declared.msg.Msg.{Msg}
use Rattle.rc_msg.specs.declared.msg.Msg.TheVariants.{ReadAsk, ReadCancel, Granted, Propose, Prepare, Prepared, Voted, Refused, Ask, Promise, Decided, Finish, Abandon, CatchAsk, CatchPage}
use Rattle.rc_record.specs.declared.record.Record.{Record}
use Rattle.rc_record.specs.declared.record.Record.TheVariants.{Head, Prepared as PartPrepared, Finished, Promised, Accepted, Decided as OutcomesDecided}
use Rattle.rc_record.specs.CoordState.{CoordDurable, promise_of, outcome_of as listed_outcome, coord_applied}
use Rattle.rc_protocol.specs.Messages.{coordinator, shard_server, client_of, one, to_all, most_entries}
use Rattle.rc_protocol.specs.Coordinator.{CoordVolatile, CoordAct, GatherState, TakeoverState, Standing, coord_stays, coord_says, proposer, vote, accepts, finish_to, finish_posts, forgotten, coord_learns, opening, takes_over, has_all, with_gather, prepare_to, gathers_on, gather_at, takes_proposal, refuses, accepted_at, on_propose, waiting_gather, said_yes, with_yes, on_prepared, on_ask, waiting_takeover, chooses, with_takeover, proposed, hears, on_promise, is_decided_by, tally_of, counted, on_voted, on_decided, page_from, cursor_of, is_next_coord_page, with_coord_cursor, undecided, forgotten_all, finish_all_posts, outcomes_record, on_catch_page, coord_row}
use Rattle.rc_protocol.specs.Acts.{NodeCause, Came as Comes, Takes, Catches, coord_act}
use Rattle.rc_protocol.specs.Nodes.{CoordNode, applied}
use Rattle.rc_agreement.proofs.Cases.{on_cond, on_maybe}
use Rattle.rc_agreement.proofs.Tables.{put_cases, in_put, in_without}
use Rattle.rc_agreement.proofs.Sends.{EachTo, to_none, to_one, to_both, to_many, to_coords}
use Rattle.rc_agreement.proofs.HonestRows.{in_take, in_drop, in_filter}
use Rattle.rc_quiet.proofs.NodesAfter.{in_joined, low_after}

-- the message does not name t
abbrev pub Blank : ℕ → Msg → Type 0
Blank t (ReadAsk u k) = u ≡ t → ⊥
Blank t (ReadCancel u k) = u ≡ t → ⊥
Blank t (Granted u k d version value) = u ≡ t → ⊥
Blank t (Propose u b o) = u ≡ t → ⊥
Blank t (Prepare u p) = u ≡ t → ⊥
Blank t (Prepared u sh reason) = u ≡ t → ⊥
Blank t (Voted u b d o) = u ≡ t → ⊥
Blank t (Refused u b d reason) = u ≡ t → ⊥
Blank t (Ask u b) = u ≡ t → ⊥
Blank t (Promise u b d report) = u ≡ t → ⊥
Blank t (Decided u o) = u ≡ t → ⊥
Blank t (Finish u o) = u ≡ t → ⊥
Blank t (Abandon u) = u ≡ t → ⊥
Blank t (CatchAsk place) = Unit {0}
Blank t (CatchPage d place page) = (o : Decision) → In (t, o) page → ⊥

-- the coordinator holds nothing of t
pub record CoordBlank (t : ℕ) (x : CoordNode) : Type 0 where
  pub promise : promise_of x.durable.promises t ≡ 0
  pub accepted : (a : ℕ × Decision) → found nat_cmp x.durable.accepted t ≡ Some a → ⊥
  pub listed : (o : Decision) → In (t, o) x.durable.outcomes → ⊥
  pub gathers : (g : GatherState) → In (t, g) x.volatile.gathers → ⊥
  pub takeovers : (k : TakeoverState) → In (t, k) x.volatile.takeovers → ⊥
  pub votes : (tally : Table ℕ Standing) → In (t, tally) x.volatile.votes → ⊥

-- and its volatile state nothing
pub record CoordBlankVolatile (t : ℕ) (w : CoordVolatile) : Type 0 where
  pub gathers : (g : GatherState) → In (t, g) w.gathers → ⊥
  pub takeovers : (k : TakeoverState) → In (t, k) w.takeovers → ⊥
  pub votes : (tally : Table ℕ Standing) → In (t, tally) w.votes → ⊥

-- the record does not name t
abbrev pub RecordBlank : ℕ → Option Record → Type 0
RecordBlank t (Some (Accepted u b o)) = u ≡ t → ⊥
RecordBlank t (Some (Promised u b)) = u ≡ t → ⊥
RecordBlank t (Some (OutcomesDecided es)) = (o : Decision) → In (t, o) es → ⊥
RecordBlank t _ = Unit {0}

-- the cause does not name t
abbrev pub CauseBlank : ℕ → NodeCause → Type 0
CauseBlank t (Comes from m) = Blank t m
CauseBlank t (Takes u) = u ≡ t → ⊥
CauseBlank t Catches = Unit {0}

module _ (t : ℕ) (c : Layout) (d : ℕ) (x : CoordNode) (blank : CoordBlank t x) where
  abbrev s : CoordDurable
  s = x.durable

  abbrev v : CoordVolatile
  v = x.volatile

  abbrev B : Party → Msg → Type 0
  B to m = Blank t m

  record Empty (w : CoordVolatile) : Type 0 where
    gathers : (g : GatherState) → In (t, g) w.gathers → ⊥
    takeovers : (k : TakeoverState) → In (t, k) w.takeovers → ⊥
    votes : (tally : Table ℕ Standing) → In (t, tally) w.votes → ⊥

  record R (a : CoordAct) : Type 0 where
    says : EachTo (λ (to : Party) (m : Msg). Blank t m) a.sends
    after : Empty a.after
    logs : RecordBlank t a.logs

  same : Empty v
  same = record { gathers = blank.gathers; takeovers = blank.takeovers; votes = blank.votes }

  says_one : (p : Party) (m : Msg) → Blank t m → R (coord_says v (one p m))
  says_one p m h = record { says = to_one B p m h; after = same; logs = tt }

  idle : R (coord_stays v)
  idle = record { says = to_none B; after = same; logs = tt }

  put_blank : {X : Type 0} (u : ℕ) (y z : X) (table : Table ℕ X) → (u ≡ t → ⊥) → ((w : X) → In (t, w) table → ⊥) → In (t, z) (put nat_cmp table u y) → ⊥
  put_blank {X} u y z table n old i = ⊎_elim (λ (e : (u, y) ≡ (t, z)). n (ap (λ (p : ℕ × X). p.0) e)) (λ j. old z j) (in_put u y table (t, z) i)

  module _ (u : ℕ) (n : u ≡ t → ⊥) where
    voted_none : (b : ℕ) (o : Decision) → EachTo (λ (to : Party) (m : Msg). Blank t m) (vote c d u b o)
    voted_none b o = to_both B (to_all c (Voted u b d o)) (one (client_of u) (Voted u b d o)) (to_coords B c (Voted u b d o) (λ e. n)) (to_one B (client_of u) (Voted u b d o) n)

    gathered : (g : GatherState) → Empty (with_gather v u g)
    gathered g = record { gathers = λ h i. put_blank u g h v.gathers n blank.gathers i; takeovers = blank.takeovers; votes = blank.votes }

    accepts_row : (w : CoordVolatile) → Empty w → (b : ℕ) (o : Decision) → R (accepts c d w u b o)
    accepts_row w f b o = record { says = voted_none b o; after = f; logs = n }

    refuses_row : (w : CoordVolatile) → Empty w → (b : ℕ) (reason : Reason) → R (refuses c d w u b reason)
    refuses_row w f b reason = record { says = to_one B (proposer c u b) (Refused u b d reason) n; after = f; logs = tt }

    gathers_row : (g : GatherState) → R (gathers_on c d v u g)
    gathers_row g =
        on_cond R (has_all c g) _ _ (λ _. accepts_row (with_gather v u g) (gathered g) g.ballot (Commit g.body))
        (λ _. record {
          says = to_many B c.shards (prepare_to c d u g)
              (λ y. on_cond (EachTo B) (touches c g.body y && not (member nat_cmp g.yes y)) _ _ (λ _. to_one B (shard_server d y) (Prepare u (part c y g.body)) n) (λ _. to_none B));
          after = gathered g;
          logs = tt;
        })

    proposes : (b : ℕ) (o : Decision) → R (takes_proposal c d v u b o)
    proposes b Abort = accepts_row v same b Abort
    proposes b (Commit body) = gathers_row (gather_at v u b body)

    propose_row : (b : ℕ) (o : Decision) → R (on_propose c d s v u b o)
    propose_row b o =
        on_maybe R (listed_outcome s.outcomes u) _ _
        (λ _. on_cond R (nat_lt b (promise_of s.promises u)) _ _
        (λ _. refuses_row v same b (PromisedHigher (promise_of s.promises u)))
        (λ _. on_maybe R (accepted_at (found nat_cmp s.accepted u) b) _ _ (λ _. proposes b o) (λ old _. record { says = voted_none b old; after = same; logs = tt })))
        (λ out _. says_one (proposer c u b) (Decided u out) n)

    yes_row : (g : GatherState) → R (said_yes c d s v u g)
    yes_row g =
        on_cond R (has_all c g) _ _
        (λ _. on_cond R (nat_lt g.ballot (promise_of s.promises u)) _ _
        (λ _. refuses_row (with_gather v u g) (gathered g) g.ballot (PromisedHigher (promise_of s.promises u)))
        (λ _. accepts_row (with_gather v u g) (gathered g) g.ballot (Commit g.body)))
        (λ _. record { says = to_none B; after = gathered g; logs = tt })

    prepared_row : (sh : ℕ) (reason : Option Reason) → R (on_prepared c d s v u sh reason)
    prepared_row sh None = on_maybe R (waiting_gather c s v u sh) _ _ (λ _. idle) (λ g _. yes_row (with_yes g sh))
    prepared_row sh (Some reason) = on_maybe R (waiting_gather c s v u sh) _ _ (λ _. idle) (λ g _. refuses_row v same g.ballot reason)

    ask_row : (b : ℕ) → R (on_ask c d s v u b)
    ask_row b =
        on_maybe R (listed_outcome s.outcomes u) _ _
        (λ _. on_cond R (nat_lt b (promise_of s.promises u)) _ _
        (λ _. says_one (coordinator (owner_of c b)) (Refused u b d (PromisedHigher (promise_of s.promises u))) n)
        (λ _. record {
          says = to_one B (coordinator (owner_of c b)) (Promise u b d (found nat_cmp s.accepted u)) n;
          after = same;
          logs = on_cond (RecordBlank t) (nat_lt (promise_of s.promises u) b) (Some (Promised u b)) None (λ _. n) (λ _. tt);
        }))
        (λ out _. says_one (coordinator (owner_of c b)) (Decided u out) n)

    takes_row : (eager : Bool) → R (takes_over c d s v u eager)
    takes_row eager =
        on_maybe R (next_ballot c d (promise_of s.promises u)) _ _
        (λ _. record { says = to_none B; after = same; logs = tt })
        (λ b _. record {
          says = to_coords B c (Ask u b) (λ e. n);
          after = record { gathers = blank.gathers; takeovers = λ k i. put_blank u (opening b eager) k v.takeovers n blank.takeovers i; votes = blank.votes };
          logs = n;
        })

    told_or_takes : (eager : Bool) → R (maybe (listed_outcome s.outcomes u) (takes_over c d s v u eager) (λ out. coord_says v (one (client_of u) (Decided u out))))
    told_or_takes eager = on_maybe R (listed_outcome s.outcomes u) _ _ (λ _. takes_row eager) (λ out _. says_one (client_of u) (Decided u out) n)

    promise_row : (b from : ℕ) (report : Option (ℕ × Decision)) → R (on_promise c s v u b from report)
    promise_row b from report =
        on_maybe R (waiting_takeover s v u b from) _ _ (λ _. idle)
        (λ k _. let m : TakeoverState = hears k from report in
        on_maybe R (chooses c m) (coord_stays (with_takeover v u m)) (λ o. coord_says (with_takeover v u (proposed m)) (to_all c (Propose u m.ballot o)))
        (λ _. record { says = to_none B; after = taken m; logs = tt })
        (λ o _. record { says = to_coords B c (Propose u m.ballot o) (λ e. n); after = taken (proposed m); logs = tt }))
      where
        taken : (k : TakeoverState) → Empty (with_takeover v u k)
        taken k = record { gathers = blank.gathers; takeovers = λ q i. put_blank u k q v.takeovers n blank.takeovers i; votes = blank.votes }

    finish_none : (o : Decision) → EachTo (λ (to : Party) (m : Msg). Blank t m) (finish_posts c d u o)
    finish_none o = to_many B c.shards (finish_to c d u o) (λ y. to_it y o)
      where
        to_it : (y : ℕ) (o : Decision) → EachTo (λ (to : Party) (m : Msg). Blank t m) (finish_to c d u o y)
        to_it y Abort = to_one B (shard_server d y) (Finish u Abort) n
        to_it y (Commit body) = on_cond (EachTo B) (touches c body y) _ _ (λ _. to_one B (shard_server d y) (Finish u (Commit (part c y body))) n) (λ _. to_none B)

    learns_row : (o : Decision) → R (coord_learns c d v u o)
    learns_row o = record {
      says = finish_none o;
      after = record { gathers = λ g i. blank.gathers g (in_without u v.gathers (t, g) i); takeovers = λ k i. blank.takeovers k (in_without u v.takeovers (t, k) i); votes = λ tl i. blank.votes tl (in_without u v.votes (t, tl) i) };
      logs = λ p i. ⊎_elim (λ (e : (u, o) ≡ (t, p)). n (ap (λ (z : ℕ × Decision). z.0) e)) (λ z. z) i;
    }

    voted_row : (b from : ℕ) (o : Decision) → R (on_voted c d s v u b from o)
    voted_row b from o =
        on_maybe R (listed_outcome s.outcomes u) _ _
        (λ _. on_cond R (is_decided_by c (tally_of v u) b from o) _ _ (λ _. learns_row o)
        (λ _. record {
          says = to_none B;
          after = record { gathers = blank.gathers; takeovers = blank.takeovers; votes = λ tl i. put_blank u (counted (tally_of v u) b from o) tl v.votes n blank.votes i };
          logs = tt;
        }))
        (λ _ _. idle)

    decided_row : (o : Decision) → R (on_decided c d s v u o)
    decided_row o = on_maybe R (listed_outcome s.outcomes u) _ _ (λ _. learns_row o) (λ _ _. idle)

  finish_all_none : (es : List (ℕ × Decision)) → ((o : Decision) → In (t, o) es → ⊥) → EachTo (λ (to : Party) (m : Msg). Blank t m) (finish_all_posts c d es)
  finish_all_none [] k = to_none B
  finish_all_none (e ∷ es) k = to_both B _ _ (finish_none e.0 (λ is. k e.1 (inl (λ i. (is i, e.1)))) e.1) (finish_all_none es (λ o i. k o (inr i)))

  forgets_all : (w : CoordVolatile) (es : List (ℕ × Decision)) → Empty w → Empty (forgotten_all w es)
  forgets_all w [] f = f
  forgets_all w (e ∷ es) f = forgets_all (forgotten w e.0) es
      (record { gathers = λ g i. f.gathers g (in_without e.0 w.gathers (t, g) i); takeovers = λ k i. f.takeovers k (in_without e.0 w.takeovers (t, k) i); votes = λ tl i. f.votes tl (in_without e.0 w.votes (t, tl) i) })

  page_blank : (es : List (ℕ × Decision)) → ((o : Decision) → In (t, o) es → ⊥) → RecordBlank t (outcomes_record es)
  page_blank [] k = tt
  page_blank (e ∷ es) k = k

  page_row : (from place : ℕ) (es : List (ℕ × Decision)) → ((o : Decision) → In (t, o) es → ⊥) → R (on_catch_page c d s v from place es)
  page_row from place es k =
      let new : List (ℕ × Decision) = undecided s.outcomes es in
      let none : (o : Decision) → In (t, o) new → ⊥ = λ o i. k o (in_filter _ (t, o) es i) in
      on_cond R (is_next_coord_page d v from place es) _ _
      (λ _. record {
        says = to_both B _ _ (finish_all_none new none) (on_cond (EachTo B) (length es == most_entries) _ _ (λ _. to_one B (coordinator from) (CatchAsk (place + length es)) tt) (λ _. to_none B));
        after = forgets_all (with_coord_cursor v from (place + length es)) new (record { gathers = blank.gathers; takeovers = blank.takeovers; votes = blank.votes });
        logs = page_blank new none;
      })
      (λ _. idle)

  row : (k : NodeCause) → CauseBlank t k → R (coord_act c d s v k)
  row Catches n = record { says = to_many B c.dcs _ (λ e. on_cond (EachTo B) (e == d) _ _ (λ _. to_none B) (λ _. to_one B (coordinator e) (CatchAsk (cursor_of v e)) tt)); after = same; logs = tt }
  row (Takes u) n = told_or_takes u n true
  row (Comes from m) n = comes m n
    where
      guarded : (b : Bool) (a : CoordAct) → R a → R (cond b a (coord_stays v))
      guarded b a f = on_cond R b a (coord_stays v) (λ _. f) (λ _. idle)

      comes : (m : Msg) → Blank t m → R (coord_row c d s v from m)
      comes (Propose u b o) n = propose_row u n b o
      comes (Prepared u sh reason) n = guarded (is_shard c sh) _ (prepared_row u n sh reason)
      comes (Ask u b) n = ask_row u n b
      comes (Promise u b e report) n = guarded (is_dc c e) _ (promise_row u n b e report)
      comes (Voted u b e o) n = guarded (is_dc c e) _ (voted_row u n b e o)
      comes (Decided u o) n = decided_row u n o
      comes (Abandon u) n = told_or_takes u n false
      comes (CatchAsk place) n = says_one from (CatchPage d place (page_from s.outcomes place)) (λ o i. blank.listed o (in_drop place (t, o) _ (in_take most_entries (t, o) _ i)))
      comes (CatchPage e place page) n = guarded (is_dc c e) _ (page_row e place page n)
      comes _ n = idle

  pub coord_says_nothing : (k : NodeCause) → CauseBlank t k → EachTo (λ (to : Party) (m : Msg). Blank t m) (coord_act c d s v k).sends
  coord_says_nothing k n = (row k n).says

  accepted_blank : (r : Option Record) → RecordBlank t r → (a : ℕ × Decision) → found nat_cmp (applied coord_applied s r).accepted t ≡ Some a → ⊥
  accepted_blank (Some (Accepted u b o)) n a is =
      ⊎_elim (λ (h : (t ≡ u) × (found nat_cmp (put nat_cmp s.accepted u (b, o)) t ≡ Some (b, o))). n (sym h.0)) (λ (h : (t ≡ u → ⊥) × (found nat_cmp (put nat_cmp s.accepted u (b, o)) t ≡ found nat_cmp s.accepted t)). blank.accepted a (sym h.1 ∙ is)) (put_cases t u (b, o) s.accepted)
  accepted_blank None n a is = blank.accepted a is
  accepted_blank (Some (Promised u b)) n a is = blank.accepted a is
  accepted_blank (Some (OutcomesDecided es)) n a is = blank.accepted a is
  accepted_blank (Some (Head h)) n a is = blank.accepted a is
  accepted_blank (Some (PartPrepared u p)) n a is = blank.accepted a is
  accepted_blank (Some (Finished es)) n a is = blank.accepted a is

  listed_blank : (r : Option Record) → RecordBlank t r → (o : Decision) → In (t, o) (applied coord_applied s r).outcomes → ⊥
  listed_blank (Some (OutcomesDecided es)) n o i = ⊎_elim (λ old. blank.listed o old) (λ j. n o j) (in_joined es s.outcomes (t, o) i)
  listed_blank None n o i = blank.listed o i
  listed_blank (Some (Promised u b)) n o i = blank.listed o i
  listed_blank (Some (Accepted u b p)) n o i = blank.listed o i
  listed_blank (Some (Head h)) n o i = blank.listed o i
  listed_blank (Some (PartPrepared u p)) n o i = blank.listed o i
  listed_blank (Some (Finished es)) n o i = blank.listed o i

  no_vote : (r : Option Record) → RecordBlank t r → (b : ℕ) (o : Decision) → r ≡ Some (Accepted t b o) → ⊥
  no_vote r n b o e = subst (RecordBlank t) e n refl

  no_promise : (r : Option Record) → RecordBlank t r → (b : ℕ) → r ≡ Some (Promised t b) → ⊥
  no_promise r n b e = subst (RecordBlank t) e n refl

  -- the node goes on with what it has then, or stops and keeps its record
  pub coord_stays_blank : (k : NodeCause) → CauseBlank t k → (y : CoordNode) → y.durable ≡ applied coord_applied s (coord_act c d s v k).logs → ((y.volatile ≡ (coord_act c d s v k).after) ⊎ CoordBlankVolatile t y.volatile) → CoordBlank t y
  coord_stays_blank k n y same_durable volatile =
      let r = row k n in
      let e : Empty y.volatile = ⊎_elim (λ (f : y.volatile ≡ (coord_act c d s v k).after). subst Empty (sym f) r.after) (λ (f : CoordBlankVolatile t y.volatile). record { gathers = f.gathers; takeovers = f.takeovers; votes = f.votes }) volatile in
      record {
        promise = ap (λ (z : CoordDurable). promise_of z.promises t) same_durable ∙ low_after t s (coord_act c d s v k).logs blank.promise (λ b o f. absurd (no_vote _ r.logs b o f)) (no_promise _ r.logs);
        accepted = λ a is. accepted_blank (coord_act c d s v k).logs r.logs a (ap (λ (z : CoordDurable). found nat_cmp z.accepted t) (sym same_durable) ∙ is);
        listed = λ o i. listed_blank (coord_act c d s v k).logs r.logs o (subst (λ (z : CoordDurable). In (t, o) z.outcomes) same_durable i);
        gathers = e.gathers;
        takeovers = e.takeovers;
        votes = e.votes;
      }

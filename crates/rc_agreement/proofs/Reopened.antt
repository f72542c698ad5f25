-- What holds of a life holds where the next begins, of the nodes that start from its logs, with the proposals and the clients of the
-- transactions that these name.
use Rattle.std.proofs.Common.{◌≡◌, ℕ, ◌≤◌, [], refl, sym, ap, ◌∙◌, subst, Bool, true, false, cond, Option, Some, None, inl, inr, ⊎_elim, true≢false}
use Rattle.std.specs.Prelude.{filter, slice_get, option_map, ◌||◌, ◌&&◌}
use Rattle.std.specs.Ordering.{nat_cmp}
use Rattle.std.proofs.lemmas.Option.{slice_get-map}
use Rattle.rc_ids.specs.Tables.{In, found, maybe, member}
use Rattle.rc_ids.specs.Cluster.{Layout, is_dc, is_shard, owner_of}
use Rattle.rc_ids.proofs.QuorumFacts.{quorum_laws}
use Rattle.rc_ids.specs.declared.names.Outcome.{Outcome}
use Rattle.rc_ids.specs.declared.names.Outcome.TheVariants.{Commit as Committed}
use Rattle.rc_ids.specs.declared.names.Party.{Party}
use Rattle.rc_body.specs.declared.decision.Decision.{Decision}
use Rattle.rc_body.specs.declared.decision.Decision.TheVariants.{Commit}
use Rattle.rc_msg.specs.declared.msg.Msg.{Msg}
use Rattle.rc_msg.specs.declared.msg.Msg.TheVariants.{Propose, Promise, Voted, Decided, Finish, CatchPage}
use Rattle.rc_msg.specs.declared.msg.Envelope.{Envelope}
use Rattle.rc_record.specs.declared.record.Record.TheVariants.{Accepted}
use Rattle.rc_record.specs.CoordState.{CoordDurable, promise_of}
use Rattle.rc_record.specs.ShardState.{ShardDurable, new_durable as new_shard_durable}
use Rattle.rc_protocol.specs.Client.{Client}
use Rattle.rc_protocol.specs.Nodes.{CoordNode, ShardNode, coord_index, shard_index, coord_started, shard_started, shard_replayed}
use Rattle.rc_runs.specs.Votes.{is_listed}
use Rattle.rc_runs.specs.World.{World, Start}
use Rattle.rc_claims.specs.Lives.{IsStartOf}
use Rattle.rc_agreement.proofs.PlainLives.{reopened}
use Rattle.rc_agreement.proofs.Cases.{never}
use Rattle.rc_agreement.proofs.Scenes.{Scene, scene, at, shard_in}
use Rattle.rc_agreement.proofs.Said.{Said}
use Rattle.rc_agreement.proofs.Promises.{Covers, replayed}
use Rattle.rc_agreement.proofs.Ballots.{Within, Proposal, Vote, promise_at, Fine}
use Rattle.rc_agreement.proofs.Agreeing.{AllAgree}
use Rattle.rc_agreement.proofs.Choices.{ChosenIn, choice_of, chosen_of}
use Rattle.rc_agreement.proofs.Learning.{LearnsAll, Knows, Counts, Ended, Heard}
use Rattle.rc_agreement.proofs.Learned.{Agreed, no_counts}
use Rattle.rc_agreement.proofs.Longer.{Longer, learns_on, tallied_on, ended_on}
use Rattle.rc_agreement.proofs.Stays.{choice_on}
use Rattle.rc_agreement.proofs.Ordered.{Ordered}
use Rattle.rc_agreement.proofs.Ghosts.{with_ghosts, Ghost}
use Rattle.rc_agreement.proofs.Named.{vote_names, coord_named, found_filter, is_old, old_messages, old_in, said_old, said_kept}

-- all that is kept
abbrev pub Whole : Layout → Scene → Type 0
Whole c s = Agreed c s × Ordered s

abbrev pub open_node : CoordNode → CoordNode
open_node x = coord_started x.log

abbrev pub open_server : ShardNode → ShardNode
open_server x = shard_started x.log

module _ (c : Layout) (v : World) (start : Start) (is_start : IsStartOf v start) (g : Ghost (Whole c) (scene v)) where
  abbrev pub s : Scene
  s = with_ghosts (scene v) g.clients g.sent

  abbrev pub kept : ℕ → Bool
  kept t = member nat_cmp start.named t

  abbrev pub z : Scene
  z = with_ghosts (scene (reopened v start)) (filter (λ (e : ℕ × Client). kept e.0) g.clients) (old_messages kept g.sent)

  pub at_open : (d : ℕ) → at z d ≡ coord_started (at s d).log
  at_open d =
      ap (λ (o : Option CoordNode). maybe (cond (is_dc v.parties.layout d) o None) (coord_started []) (λ x. x)) (slice_get-map open_node v.parties.coords (coord_index d))
      ∙ go (is_dc v.parties.layout d) (slice_get v.parties.coords (coord_index d))
    where
      go : (b : Bool) (o : Option CoordNode) → maybe (cond b (option_map open_node o) None) (coord_started []) (λ x. x) ≡ coord_started (maybe (cond b o None) (coord_started []) (λ x. x)).log
      go true None = refl
      go true (Some x) = refl
      go false o = refl

  pub server_open : (d sh : ℕ) → shard_in z d sh ≡ shard_started (shard_in s d sh).log
  server_open d sh =
      ap (λ (o : Option ShardNode). maybe (cond (is_dc v.parties.layout d && is_shard v.parties.layout sh) o None) (shard_started []) (λ x. x)) (slice_get-map open_server v.parties.shards (shard_index v.parties.layout d sh))
      ∙ go (is_dc v.parties.layout d && is_shard v.parties.layout sh) (slice_get v.parties.shards (shard_index v.parties.layout d sh))
    where
      go : (b : Bool) (o : Option ShardNode) → maybe (cond b (option_map open_server o) None) (shard_started []) (λ x. x) ≡ shard_started (maybe (cond b o None) (shard_started []) (λ x. x)).log
      go true None = refl
      go true (Some x) = refl
      go false o = refl

  agree : AllAgree c s
  agree = g.holds.0.0

  heard : Heard s
  heard = g.holds.0.1

  -- VOTES
  vote_down : (t e b : ℕ) (o : Decision) → Vote t z e b o → Vote t s e b o
  vote_down t e b o k = subst (λ (x : CoordNode). In (Accepted t b o) x.log) (at_open e) k

  pub vote_up : (t e b : ℕ) (o : Decision) → Vote t s e b o → Vote t z e b o
  vote_up t e b o k = subst (λ (x : CoordNode). In (Accepted t b o) x.log) (sym (at_open e)) k

  vote_named : (t e b : ℕ) (o : Decision) → Vote t s e b o → kept t ≡ true
  vote_named t e b o k = is_start.named t (coord_named v.parties e t (Accepted t b o) (vote_names t b o) k)

  longer : Longer s z
  longer = record { layout = refl; votes = vote_up }

  shorter : Longer z s
  shorter = record { layout = refl; votes = vote_down }

  -- PROPOSALS
  down : (t b : ℕ) (o : Decision) → Proposal t z b o → Proposal t s b o
  down t b o h = (said_old kept g.sent (Propose t b o) h).0

  named : (t b : ℕ) (o : Decision) → Proposal t z b o → kept t ≡ true
  named t b o h = (said_old kept g.sent (Propose t b o) h).1

  up : (t b : ℕ) (o : Decision) → kept t ≡ true → Proposal t s b o → Proposal t z b o
  up t b o n h = said_kept kept g.sent (Propose t b o) h n

  replays : (d : ℕ) → (at s d).durable ≡ replayed (at s d).log
  replays d = ((agree 0).coords d).replays

  promise_same : (t d : ℕ) → promise_at t z d ≡ promise_at t s d
  promise_same t d = ap (λ (x : CoordNode). promise_of x.durable.promises t) (at_open d) ∙ ap (λ (x : CoordDurable). promise_of x.promises t) (sym (replays d))

  fine : (t d : ℕ) → Fine t z d (coord_started (at s d).log)
  fine t d =
      let f = (agree t).coords d in
      record {
        replays = refl;
        covers = subst Covers (replays d) f.covers;
        real = subst (λ (x : CoordDurable). (b : ℕ) (q : Decision) → found nat_cmp x.accepted t ≡ Some (b, q) → In (Accepted t b q) (at s d).log) (replays d) f.real;
        top = subst (λ (x : CoordDurable). (b : ℕ) (q : Decision) → In (Accepted t b q) (at s d).log → Within (Some (b, q)) (found nat_cmp x.accepted t)) (replays d) f.top;
        voted = λ b q k. up t b q (vote_named t d b q k) (f.voted b q k);
        gathers = λ x is. absurd is;
        rises = tt;
        takes = λ x is. never x is;
      }

  agreeing : AllAgree c z
  agreeing t =
      let i = agree t in
      record {
        layout = i.layout;
        coords = λ d. subst (Fine t z d) (sym (at_open d)) (fine t d);
        unique = λ b o q x y. i.unique b o q (down t b o x) (down t b q y);
        root = λ b x h. up t 0 (Commit x) (named t b (Commit x) h) (i.root b x (down t b (Commit x) h));
        under = λ b o h low. subst (λ n. b ≤ n) (sym (promise_same t (owner_of s.parties.layout b))) (i.under b o (down t b o h) low);
        reports = λ b e r h. absurd (true≢false (sym (said_old kept g.sent (Promise t b e r) h).1));
        safe = λ b o a q h lt apart held. i.safe b o a q (down t b o h) lt apart (record {
          set = held.set;
          enough = held.enough;
          each = λ e m. ⊎_elim (λ k. inl (vote_down t e a q k)) (λ n. inr (subst (λ k. k ≤ a) (promise_same t e) n)) (held.each e m);
        });
        client = λ o h. let y = i.client o (down t 0 o h) in (y.0, (found_filter kept t g.clients).1 (named t 0 o h) ∙ y.1, y.2);
      }

  -- WHAT WAS LEARNED
  old_knows : (to : Party) (m : Msg) → is_old kept m ≡ true → Knows z to m
  old_knows to (Voted t b e o) h = absurd (true≢false (sym h))
  old_knows to (Decided t o) h = absurd (true≢false (sym h))
  old_knows to (Finish t o) h = absurd (true≢false (sym h))
  old_knows to (CatchPage e p es) h = absurd (true≢false (sym h))
  old_knows to _ h = tt

  client_was : (t : ℕ) (x : Client) → found nat_cmp (filter (λ (e : ℕ × Client). kept e.0) g.clients) t ≡ Some x → found nat_cmp g.clients t ≡ Some x
  client_was t x is = let f = found_filter kept t g.clients in sym (f.1 (f.0 x is)) ∙ is

  hears : Heard z
  hears =
      record {
        says = λ e i. old_knows e.to e.msg (old_in kept g.sent e i).1;
        lists = λ d. subst (λ (x : CoordNode). LearnsAll z x.durable.outcomes) (sym (at_open d))
            (subst (λ (x : CoordDurable). LearnsAll z x.outcomes) (replays d) (λ t o i. learns_on s z longer t o (heard.lists d t o i)));
        counts = λ d. subst (λ (x : CoordNode). Counts z x.volatile.votes) (sym (at_open d)) (no_counts z);
        replays = λ d sh. subst (λ (x : ShardNode). x.durable ≡ shard_replayed new_shard_durable x.log) (sym (server_open d sh)) refl;
        finished = λ d sh. subst (λ (x : ShardNode). (t : ℕ) (outcome : Outcome) → found nat_cmp x.durable.finished t ≡ Some outcome → Ended z t outcome) (sym (server_open d sh))
            (subst (λ (x : ShardDurable). (t : ℕ) (outcome : Outcome) → found nat_cmp x.finished t ≡ Some outcome → Ended z t outcome) (heard.replays d sh)
            (λ t outcome is. ended_on s z longer t outcome (heard.finished d sh t outcome is)));
        tallies = λ t x is. tallied_on s z longer t x.votes (heard.tallies t x (client_was t x is));
        outcomes = λ t x o is e. learns_on s z longer t o (heard.outcomes t x o (client_was t x is) e);
      }

  -- THE ORDER begins anew
  chosen_down : (t : ℕ) (outcome : Outcome) → ChosenIn z outcome t → ChosenIn s outcome t
  chosen_down t outcome h = chosen_of t s outcome (quorum_laws s.parties.layout g.holds.1.layout) (choice_on z s shorter t outcome (choice_of t z outcome h))

  or_first : (a : Bool) → a ≡ true → (a || false) ≡ true
  or_first true e = refl
  or_first false e = e

  orders : Ordered z
  orders =
      record {
        layout = g.holds.1.layout;
        chosen = λ t body i. absurd i;
        once = tt;
        new = tt;
        all = λ t h. or_first (is_listed start.committed t) (is_start.all t (chosen_down t Committed h));
      }

  pub reopens : Ghost (Whole c) (scene (reopened v start))
  reopens =
      record {
        clients = filter (λ (e : ℕ × Client). kept e.0) g.clients;
        sent = old_messages kept g.sent;
        holds = ((agreeing, hears), orders);
        all = λ e i. absurd i;
        known = λ t x is. never x is;
        back = λ t x is. inr ((found_filter kept t g.clients).0 x is);
      }

  -- of the messages only proposals are there still
  pub reopens_old : (e : Envelope) → In e reopens.sent → is_old kept e.msg ≡ true
  unfolding reopens
  reopens_old e i = (old_in kept g.sent e i).1

  -- what they say is what was said
  pub reopens_up : (t b : ℕ) (o : Decision) → kept t ≡ true → Proposal t s b o → Said reopens.sent (Propose t b o)
  unfolding reopens
  reopens_up t b o n h = up t b o n h

  pub reopens_down : (t b : ℕ) (o : Decision) → Said reopens.sent (Propose t b o) → Proposal t s b o × (kept t ≡ true)
  unfolding reopens
  reopens_down t b o h = said_old kept g.sent (Propose t b o) h

  -- and of the clients those that were named
  pub reopens_client : (t : ℕ) (x : Client) → found nat_cmp reopens.clients t ≡ Some x → (found nat_cmp g.clients t ≡ Some x) × (kept t ≡ true)
  unfolding reopens
  reopens_client t x is = (client_was t x is, (found_filter kept t g.clients).0 x is)

  pub reopens_found : (t : ℕ) → kept t ≡ true → found nat_cmp reopens.clients t ≡ found nat_cmp g.clients t
  unfolding reopens
  reopens_found t n = (found_filter kept t g.clients).1 n

-- What moves keep of parts, reads and the order, of a world that begins with the logs of another, and at the end of every life.
use Rattle.std.proofs.Common.{◌≡◌, ℕ, List, [], ◌∷◌, ◌++◌, refl, sym, ◌∙◌, subst, Bool, true, Some, None, inl, inr, ⊎_elim, true≢false}
use Rattle.std.specs.Ordering.{nat_cmp}
use Rattle.std.proofs.lemmas.List.{append-nil}
use Rattle.rc_ids.specs.Tables.{In, found, member}
use Rattle.rc_ids.specs.Cluster.{Layout, IsLayout, shard_of}
use Rattle.rc_ids.specs.declared.names.Outcome.TheVariants.{Commit as Committed}
use Rattle.rc_ids.specs.declared.names.Party.{Party}
use Rattle.rc_body.specs.Decisions.{outcome_of}
use Rattle.rc_body.specs.declared.entry.Entry.{Entry}
use Rattle.rc_body.specs.declared.decision.Decision.{Decision}
use Rattle.rc_body.specs.declared.decision.Decision.TheVariants.{Commit, Abort}
use Rattle.rc_msg.specs.declared.msg.Msg.{Msg}
use Rattle.rc_msg.specs.declared.msg.Msg.TheVariants.{ReadAsk, Granted, Propose, Prepare, Prepared}
use Rattle.rc_msg.specs.declared.msg.Envelope.{Envelope}
use Rattle.rc_record.specs.declared.record.Record.TheVariants.{Prepared as PartPrepared, Accepted}
use Rattle.rc_protocol.specs.Client.{Client}
use Rattle.rc_protocol.specs.Nodes.{CoordNode, ShardNode}
use Rattle.rc_runs.specs.World.{World, Start, coord_at, new_world}
use Rattle.rc_claims.specs.Outcomes.{is_named}
use Rattle.rc_claims.specs.Lives.{IsStartOf}
use Rattle.rc_agreement.proofs.PlainLives.{IsPlainLife, First, Next, reopened}
use Rattle.rc_agreement.proofs.Cases.{never}
use Rattle.rc_agreement.proofs.Places.{logged_there}
use Rattle.rc_agreement.proofs.Scenes.{Scene, scene, at, shard_in, Keeps, run_keeps}
use Rattle.rc_agreement.proofs.Said.{Said}
use Rattle.rc_agreement.proofs.Ballots.{Vote}
use Rattle.rc_agreement.proofs.Agreeing.{new_agrees}
use Rattle.rc_agreement.proofs.Choices.{choice_of}
use Rattle.rc_agreement.proofs.Learned.{new_heard}
use Rattle.rc_agreement.proofs.Learning.{Learns}
use Rattle.rc_agreement.proofs.Longer.{Longer, learns_on}
use Rattle.rc_agreement.proofs.Ordered.{new_ordered}
use Rattle.rc_agreement.proofs.Named.{is_old, part_names, shard_named}
use Rattle.rc_agreement.proofs.Ghosts.{with_ghosts, Ghost, Haunted, haunted_kept}
use Rattle.rc_agreement.proofs.Reopened.{Whole, kept, at_open, server_open, vote_up, reopens, reopens_old, reopens_up, reopens_down, reopens_client, reopens_found}
use Rattle.rc_agreement.proofs.Lives.{named_life}
use Rattle.rc_serial_order.proofs.Means.{WasPrepared, PartOf, Means, Firm, firm_with}
use Rattle.rc_serial_order.proofs.Store.{Store, sound_on}
use Rattle.rc_serial_order.proofs.Stored.{new_store}
use Rattle.rc_serial_order.proofs.Asking.{Routes, Asking, Curious, curious_kept, new_asking}
use Rattle.rc_serial_order.proofs.Bodies.{bodies}
use Rattle.rc_serial_order.proofs.Steps.{Steps}
use Rattle.rc_serial_order.proofs.Conflicts.{one_won, won_chosen}
use Rattle.rc_serial_order.proofs.Serials.{Serial, listed_in, all_learned, learned_ordered, serial_kept, new_serial}

-- all that is kept
abbrev pub History : Layout → List (ℕ × List Entry) → Scene → Type 0
History c past s = Curious c s × Serial past s

pub history_kept : (c : Layout) → IsLayout c → (past : List (ℕ × List Entry)) → Keeps (History c past)
history_kept c lay past =
    let k = curious_kept c lay in
    let m = serial_kept c lay past in
    record {
      turns = λ s d a there due p. (k.turns s d a there due p.0, (m.turns s d a there due (p.0.0, p.1)).1);
      stops = λ s d r there half p. (k.stops s d r there half p.0, (m.stops s d r there half (p.0.0, p.1)).1);
      starts = λ s d there p. (k.starts s d there p.0, (m.starts s d there (p.0.0, p.1)).1);
      serves = λ s d sh a there due p. (k.serves s d sh a there due p.0, (m.serves s d sh a there due (p.0.0, p.1)).1);
      halts = λ s d sh r there half p. (k.halts s d sh r there half p.0, (m.halts s d sh r there half (p.0.0, p.1)).1);
      wakes = λ s d sh there p. (k.wakes s d sh there p.0, (m.wakes s d sh there (p.0.0, p.1)).1);
      begins = λ s u new p. (k.begins s u new p.0, (m.begins s u new (p.0.0, p.1)).1);
      clients = λ s u x a is due p. (k.clients s u x a is due p.0, (m.clients s u x a is due (p.0.0, p.1)).1);
    }

-- the orders of these lives, of which the latest stands first, end to end
abbrev pub past_of : List World → List (ℕ × List Entry)
past_of [] = []
past_of (v ∷ earlier) = past_of earlier ++ v.parties.committed

-- a client that one of them left, whose transaction its logs name
abbrev pub Gone : List World → ℕ → Client → Type 0
Gone earlier t x = (v : World) × In v earlier × (is_named v.parties t ≡ true) × (found nat_cmp v.parties.clients t ≡ Some x)

-- PROPOSALS say nothing of parts and reads
old_means : (s : Scene) (p : ℕ → Bool) (from to : Party) (m : Msg) → is_old p m ≡ true → Means s from to m
old_means s p from to (Prepared t x None) e = absurd (true≢false (sym e))
old_means s p from to (Prepare t x) e = absurd (true≢false (sym e))
old_means s p from to (Granted t k d v y) e = absurd (true≢false (sym e))
old_means s p from to _ e = tt

old_routes : (c : Layout) (sent : List Envelope) (p : ℕ → Bool) (to : Party) (m : Msg) → is_old p m ≡ true → Routes c sent to m
old_routes c sent p to (Granted t k d v y) e = absurd (true≢false (sym e))
old_routes c sent p to (ReadAsk t k) e = absurd (true≢false (sym e))
old_routes c sent p to _ e = tt

-- THE NEXT LIFE begins
module _ (c : Layout) (lay : IsLayout c) (earlier : List World) (v : World) (start : Start) (is_start : IsStartOf v start)
    (stays : (u : World) → In u earlier → (t : ℕ) → is_named u.parties t ≡ true → is_named v.parties t ≡ true)
    (h : Haunted (Gone earlier) (History c (past_of earlier)) (scene v)) where
  abbrev whole : Ghost (Whole c) (scene v)
  whole = record { clients = h.ghost.clients; sent = h.ghost.sent; holds = h.ghost.holds.0.0.0; all = h.ghost.all; known = h.ghost.known; back = h.ghost.back }

  abbrev s : Scene
  s = with_ghosts (scene v) h.ghost.clients h.ghost.sent

  abbrev r : Ghost (Whole c) (scene (reopened v start))
  r = reopens c v start is_start whole

  abbrev z : Scene
  z = with_ghosts (scene (reopened v start)) r.clients r.sent

  abbrev is_kept : ℕ → Bool
  is_kept = kept c v start is_start whole

  store : Store s
  store = h.ghost.holds.0.0.1

  longer : Longer s z
  longer = record { layout = refl; votes = vote_up c v start is_start whole }

  -- PARTS
  prepared_again : (d sh t : ℕ) → WasPrepared s d sh t → WasPrepared z d sh t
  prepared_again d sh t w = record { part = w.part; logged = subst (λ (n : ShardNode). In (PartPrepared t w.part) n.log) (sym (server_open c v start is_start whole d sh)) w.logged }

  part_again : (d sh t : ℕ) (p : List Entry) → In (PartPrepared t p) (shard_in s d sh).log → PartOf s sh t p → PartOf z sh t p
  part_again d sh t p i w =
      let named = is_start.named t (shard_named v.parties d sh t (PartPrepared t p) (part_names t p) i) in
      record { ballot = w.ballot; body = w.body; proposed = reopens_up c v start is_start whole t w.ballot (Commit w.body) named w.proposed; is = w.is }

  firm_again : (d sh : ℕ) → Firm z sh (shard_in z d sh).log (shard_in z d sh).durable
  firm_again d sh =
      let f = store.shards d sh in
      subst (λ (n : ShardNode). Firm z sh n.log n.durable) (sym (server_open c v start is_start whole d sh))
      (subst (Firm z sh (shard_in s d sh).log) (h.ghost.holds.0.0.0.0.1.replays d sh)
      (firm_with s z longer sh (shard_in s d sh).log (shard_in s d sh).durable f (λ t p i. part_again d sh t p i (f.parts t p i))))

  store_again : Store z
  store_again =
      record {
        says = λ e i. old_means z is_kept e.from e.to e.msg (reopens_old c v start is_start whole e i);
        yes = λ d t g. subst (λ (n : CoordNode). In (t, g) n.volatile.gathers → (sh : ℕ) → In sh g.yes → WasPrepared z d sh t) (sym (at_open c v start is_start whole d)) (λ i. absurd i);
        votes = λ t d b x i sh j. prepared_again d sh t (store.votes t d b x (subst (λ (n : CoordNode). In (Accepted t b (Commit x)) n.log) (at_open c v start is_start whole d) i) sh j);
        shards = firm_again;
        clients = λ t x is. sound_on s z longer x.slots (store.clients t x (reopens_client c v start is_start whole t x is).0);
        bodies = λ t o p.
            let q = reopens_down c v start is_start whole t 0 o p in
            let w = store.bodies t o q.0 in
            (w.0, reopens_found c v start is_start whole t q.1 ∙ w.1, w.2, w.3);
      }

  -- READS
  asking_again : Asking z
  asking_again =
      record {
        says = λ e i. old_routes z.parties.layout z.sent is_kept e.to e.msg (reopens_old c v start is_start whole e i);
        waits = λ d sh k t. subst (λ (n : ShardNode). In (k, t) n.volatile.waiting → (sh ≡ shard_of z.parties.layout k) × Said z.sent (ReadAsk t k)) (sym (server_open c v start is_start whole d sh)) (λ i. absurd i);
        clients = λ t x new is. absurd (true≢false (sym (reopens_client c v start is_start whole t x is).1 ∙ new));
      }

  -- THE ORDER: what the logs chose is the order of the lives before
  begun : (t : ℕ) (body : List Entry) → In (t, body) start.committed → Learns s t (Commit body)
  begun t body i =
      let is = is_start.chosen t body i in
      let k = choice_of t s Committed (is.ballot, is.chosen) in
      record {
        ballot = is.ballot;
        held = record { set = k.set; enough = k.enough; each = λ d m. let w = k.votes d m in by is.ballot is.votes d w.0 w.1 w.2 };
      }
    where
      by : (b : ℕ) → ((d : ℕ) (x : CoordNode) (voted : List Entry) → coord_at v.parties d ≡ Some x → In (Accepted t b (Commit voted)) x.log → voted ≡ body)
          → (d : ℕ) (o : Decision) → outcome_of o ≡ Committed → Vote t s d b o → Vote t s d b (Commit body)
      by b votes d Abort e j = absurd (cc)
      by b votes d (Commit voted) e j =
          let same = votes d (at s d) voted (logged_there v.parties d (Accepted t b (Commit voted)) j) j in
          subst (λ (x : List Entry). Vote t s d b (Commit x)) same j

  serial_again : Serial (past_of earlier ++ v.parties.committed) z
  serial_again =
      let p = h.ghost.holds.0.0 in
      let o = h.ghost.holds.1 in
      let won = all_learned c lay s p (past_of earlier) o in
      record {
        explains = subst (λ (l : List (ℕ × List Entry)). Steps (λ _. 0) (bodies l)) (sym (append-nil (past_of earlier ++ v.parties.committed))) o.explains;
        earlier = λ t body i. learns_on s z longer t (Commit body) (won t body i);
        into = λ t body i.
            let l = won t body i in
            let k = listed_in t start.committed (is_start.all t (won_chosen c lay s p t body l)) in
            let same = one_won c lay s p t k.0 body (begun t k.0 k.1) l in
            subst (λ (x : List Entry). In (t, x) start.committed) same k.1;
        from = λ t body i. learned_ordered c lay s p (past_of earlier) o t body (begun t body i);
      }

  -- WHO IS GONE
  gone_again : (t : ℕ) (x : Client) → Gone (v ∷ earlier) t x → (member nat_cmp start.named t ≡ true) × (found nat_cmp r.clients t ≡ Some x)
  gone_again t x k =
      let both : (is_named v.parties t ≡ true) × (found nat_cmp h.ghost.clients t ≡ Some x) = ⊎_elim
      (λ (e : v ≡ k.0). (subst (λ (u : World). is_named u.parties t ≡ true) (sym e) k.2, h.ghost.known t x (subst (λ (u : World). found nat_cmp u.parties.clients t ≡ Some x) (sym e) k.3)))
      (λ (i : In k.0 earlier). (stays k.0 i t k.2, (h.gone t x (k.0, i, k.2, k.3)).1))
      k.1 in
      let named = is_start.named t both.0 in
      (named, reopens_found c v start is_start whole t named ∙ both.1)

  any_old : (p : ℕ → Bool) (m : Msg) → is_old p m ≡ true → is_old (λ _. true) m ≡ true
  any_old p (Propose t b o) e = refl
  any_old p _ e = e

  pub history_again : Haunted (Gone (v ∷ earlier)) (History c (past_of (v ∷ earlier))) (scene (reopened v start))
  history_again =
      record {
        ghost = record { clients = r.clients; sent = r.sent; holds = (((r.holds, store_again), asking_again), serial_again); all = r.all; known = r.known; back = r.back };
        gone = gone_again;
        said = λ e i. inr (any_old is_kept e.msg (reopens_old c v start is_start whole e i));
        new = λ t x is. never x is;
      }

-- EVERY LIFE
pub life_history : (c : Layout) → IsLayout c → (earlier : List World) (w : World) → IsPlainLife c earlier w → Haunted (Gone earlier) (History c (past_of earlier)) (scene w)
life_history c lay _ _ (First hs) =
    let s : Scene = scene (new_world c) in
    run_keeps (Haunted (Gone []) (History c [])) (haunted_kept (Gone []) (History c []) (history_kept c lay [])) (new_world c) hs
    (record {
      ghost = record {
        clients = s.parties.clients;
        sent = s.sent;
        holds = (((((new_agrees c, new_heard c), new_ordered c lay), new_store c), new_asking c), new_serial c);
        all = λ e i. i;
        known = λ t x is. is;
        back = λ t x is. inl is;
      };
      gone = λ t x k. absurd k.1;
      said = λ e i. inl i;
      new = λ t x is. never x is;
    })
life_history c lay _ _ (Next earlier v start hs before is_start) =
    run_keeps (Haunted (Gone (v ∷ earlier)) (History c (past_of (v ∷ earlier)))) (haunted_kept (Gone (v ∷ earlier)) (History c (past_of (v ∷ earlier))) (history_kept c lay (past_of (v ∷ earlier)))) (reopened v start) hs
    (history_again c lay earlier v start is_start (λ u i t n. named_life c earlier v before u i t n) (life_history c lay earlier v before))

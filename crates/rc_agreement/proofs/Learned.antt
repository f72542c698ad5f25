-- Every move keeps that what is learned and told is chosen, so it is in every run.
use Rattle.std.proofs.Common.{◌≡◌, ℕ, List, [], ◌∷◌, ◌++◌, refl, sym, ap, ◌∙◌, subst, Bool, true, false, Option, Some, None, ◌⊎◌, inl, inr, ⊎_elim}
use Rattle.std.specs.Prelude.{slice_get, replicate, ◌*◌, ◌&&◌}
use Rattle.std.specs.Ordering.{nat_cmp}
use Rattle.std.proofs.lemmas.List.{append-nil}
use Rattle.rc_ids.specs.Tables.{In, Table, found, put, maybe}
use Rattle.rc_ids.specs.Cluster.{Layout, IsLayout, is_dc, is_shard}
use Rattle.rc_ids.specs.declared.names.Outcome.{Outcome}
use Rattle.rc_ids.specs.declared.names.Party.{Party}
use Rattle.rc_body.specs.declared.decision.Decision.{Decision}
use Rattle.rc_msg.specs.declared.msg.Msg.{Msg}
use Rattle.rc_msg.specs.declared.msg.Msg.TheVariants.{Voted, Decided, Finish, CatchPage}
use Rattle.rc_msg.specs.declared.msg.Envelope.{Envelope}
use Rattle.rc_record.specs.declared.record.Record.{Record}
use Rattle.rc_record.specs.declared.record.Record.TheVariants.{Head, Prepared, Finished, Promised, Accepted, Decided as OutcomesDecided}
use Rattle.rc_record.specs.CoordState.{CoordDurable, coord_applied, outcomes_joined, outcome_of as listed_outcome}
use Rattle.rc_record.specs.ShardState.{ShardDurable, shard_applied, new_durable as new_shard_durable}
use Rattle.rc_protocol.specs.Messages.{Posts, coordinator, client_of, shard_server, most_entries}
use Rattle.rc_protocol.specs.Coordinator.{CoordAct, new_volatile as new_coord_volatile}
use Rattle.rc_protocol.specs.Shard.{ShardVolatile, new_volatile as new_shard_volatile}
use Rattle.rc_protocol.specs.Client.{Client, ClientAct, new_client}
use Rattle.rc_protocol.specs.Nodes.{CoordNode, ShardNode, shard_index, shard_started, shard_replayed, applied, logged}
use Rattle.rc_runs.specs.World.{envelopes, replaced, with_coord, with_shard, with_new_client, new_world}
use Rattle.rc_agreement.proofs.Cases.{on_cond, on_maybe, some_is, never}
use Rattle.rc_agreement.proofs.Tables.{in_right, in_either, put_cases, set_cases}
use Rattle.rc_agreement.proofs.Places.{server_at, node_is, coord_set, put_each, put_server}
use Rattle.rc_protocol.specs.Acts.{client_by_row}
use Rattle.rc_agreement.proofs.Scenes.{Scene, scene, at, shard_in, There, ThereIs, act_of, shard_act_of, ShardHalf, Naught, Entire, joined_by, acted, Half, Nothing, Whole, Keeps}
use Rattle.rc_agreement.proofs.Said.{modest_mute}
use Rattle.rc_agreement.proofs.Ballots.{Vote}
use Rattle.rc_agreement.proofs.ShardRows.{shard_modest}
use Rattle.rc_agreement.proofs.ClientRows.{client_mute}
use Rattle.rc_agreement.proofs.CoordKeeps.{moved, node_after}
use Rattle.rc_agreement.proofs.Agreeing.{AllAgree, agreeing_kept, new_get, new_node, ready_for}
use Rattle.rc_agreement.proofs.Sends.{to_none, says_to, in_sent}
use Rattle.rc_agreement.proofs.Learning.{LearnsAll, FinishesAt, cut_finishes, Knows, Tells, mute_knows, none_tallied, Counts, Ended, Heard, Notes}
use Rattle.rc_agreement.proofs.HonestRows.{Honest, act_honest, in_take, in_drop}
use Rattle.rc_agreement.proofs.ShardNotes.{ShardNotes, shard_notes, finished_after, shard_replay_logged}
use Rattle.rc_agreement.proofs.ClientLearns.{Learner, learner_of, causes_learn}
use Rattle.rc_agreement.proofs.Longer.{Longer, longer_moved, learns_on, knows_on, tallied_on, counts_on, ended_on}

-- COORDINATORS
in_joined : (es list : List (ℕ × Decision)) (x : ℕ × Decision) → In x (outcomes_joined list es) → In x list ⊎ In x es
in_joined [] list x i = inl i
in_joined (e ∷ es) list x i =
    ⊎_elim
    (λ (old : In x (maybe (listed_outcome list e.0) (list ++ e ∷ []) (λ _. list))).
    on_maybe (λ (z : List (ℕ × Decision)). In x z → In x list ⊎ In x (e ∷ es)) (listed_outcome list e.0) (list ++ e ∷ []) (λ _. list)
    (λ _ j. ⊎_elim inl (λ (k : (e ≡ x) ⊎ ⊥). inr (⊎_elim inl (λ n. absurd n) k)) (in_either x list (e ∷ []) j)) (λ _ _ j. inl j) old)
    (λ new. inr (inr new))
    (in_joined es (maybe (listed_outcome list e.0) (list ++ e ∷ []) (λ _. list)) x i)

pub listed : (s : Scene) (r : Option Record) (x : CoordDurable) → Notes s r → LearnsAll s x.outcomes → LearnsAll s (applied coord_applied x r).outcomes
listed s None x n h t o i = h t o i
listed s (Some (OutcomesDecided es)) x n h t o i = ⊎_elim (λ z. h t o z) (λ z. n t o z) (in_joined es x.outcomes (t, o) i)
listed s (Some (Promised u b)) x n h t o i = h t o i
listed s (Some (Accepted u b p)) x n h t o i = h t o i
listed s (Some (Head p)) x n h t o i = h t o i
listed s (Some (Prepared u p)) x n h t o i = h t o i
listed s (Some (Finished p)) x n h t o i = h t o i

module _ (s : Scene) (d : ℕ) (there : There s d) (up : Bool) (a : CoordAct) where
  abbrev z : Scene
  z = moved s d up a

  longer : Longer s z
  longer = longer_moved s d there up a

  now_knows : Heard s → (to : Party) (m : Msg) → Tells s d a.logs to m → Knows z to m
  now_knows w to (Voted t b e o) h =
      (h.0, subst (λ n. Vote t z n b o) (sym h.1) (⊎_elim (λ old. longer.votes t d b o old) new h.2))
    where
      in_log : (r : Option Record) (log : List Record) → r ≡ Some (Accepted t b o) → In (Accepted t b o) (logged log r)
      in_log None log e = never (Accepted t b o) e
      in_log (Some r) log e = in_right (Accepted t b o) log (r ∷ []) (inl (some_is r (Accepted t b o) e))

      new : a.logs ≡ Some (Accepted t b o) → Vote t z d b o
      new e = subst (λ (n : CoordNode). In (Accepted t b o) n.log) (sym (node_is z.parties d (node_after s d up a) (coord_set s.parties d (at s d) (node_after s d up a) a.logs there))) (in_log a.logs (at s d).log e)
  now_knows w to (Decided t o) h = knows_on s z longer to (Decided t o) h
  now_knows w to (Finish t o) h = knows_on s z longer to (Finish t o) (d, h.0, h.1, subst (FinishesAt s h.0 t) (sym h.5) (cut_finishes s h.0 t h.2 h.4))
  now_knows w to (CatchPage e p es) h = λ t o i. learns_on s z longer t o (w.lists d t o (in_drop p (t, o) _ (in_take most_entries (t, o) _ (subst (In (t, o)) h.0 i))))
  now_knows w to _ h = tt

  pub moves_heard : Honest s d a → Heard s → Heard z
  moves_heard g h =
      record {
        says = λ e i. ⊎_elim (λ old. knows_on s z longer e.to e.msg (h.says e old)) (λ new. now_knows h e.to e.msg (g.told.each e.to e.msg new.0)) (in_sent s.sent (coordinator d) a.sends e i);
        lists = put_each (λ e (n : CoordNode). LearnsAll z n.durable.outcomes) s.parties d (at s d) (node_after s d up a) a.logs there
            (λ e _ t o i. learns_on s z longer t o (h.lists e t o i))
            (λ t o i. learns_on s z longer t o (listed s a.logs (at s d).durable g.notes (h.lists d) t o i));
        counts = put_each (λ e (n : CoordNode). Counts z n.volatile.votes) s.parties d (at s d) (node_after s d up a) a.logs there (λ e _. counts_on s z longer _ (h.counts e)) (counts_on s z longer _ g.counts);
        replays = h.replays;
        finished = λ e sh t outcome is. ended_on s z longer t outcome (h.finished e sh t outcome is);
        tallies = λ t x is. tallied_on s z longer t x.votes (h.tallies t x is);
        outcomes = λ t x o is e. learns_on s z longer t o (h.outcomes t x o is e);
      }

pub no_counts : (s : Scene) → Counts s []
no_counts s = record { each = λ t tally i. absurd i }

stop_heard : (s : Scene) (d : ℕ) → There s d → (up : Bool) (r : Option Record) → Notes s r → Heard s
    → Heard (record { parties = with_coord s.parties d (record { up = up; log = logged (at s d).log r; durable = applied coord_applied (at s d).durable r; volatile = new_coord_volatile }) r; sent = s.sent })
stop_heard s d there up r n h =
    let k = moves_heard s d there up (record { logs = r; after = new_coord_volatile; sends = []; spent = false }) (record { told = to_none (Tells s d r); notes = n; counts = no_counts s }) h in
    subst (λ (l : List Envelope). Heard (record { parties = with_coord s.parties d (record { up = up; log = logged (at s d).log r; durable = applied coord_applied (at s d).durable r; volatile = new_coord_volatile }) r; sent = l })) (append-nil s.sent) k

-- SHARD SERVERS
server_heard : (s : Scene) (d sh : ℕ) → ThereIs s d sh → (up : Bool) (r : Option Record) (v : ShardVolatile) (ms : Posts) → ShardNotes s sh r → ((m : Msg) (to : Party) → In (to, m) ms → Knows s to m) → Heard s
    → Heard (record { parties = with_shard s.parties d sh (record { up = up; log = logged (shard_in s d sh).log r; durable = applied shard_applied (shard_in s d sh).durable r; volatile = v }); sent = s.sent ++ envelopes (shard_server d sh) ms })
server_heard s d sh there up r v ms notes says h =
    let y : ShardNode = record { up = up; log = logged (shard_in s d sh).log r; durable = applied shard_applied (shard_in s d sh).durable r; volatile = v } in
    let z : Scene = record { parties = with_shard s.parties d sh y; sent = s.sent ++ envelopes (shard_server d sh) ms } in
    let l : Longer s z = record { layout = refl; votes = λ t e b o w. w } in
    record {
      says = λ e i. ⊎_elim (λ old. knows_on s z l e.to e.msg (h.says e old)) (λ new. knows_on s z l e.to e.msg (says e.msg e.to new.0)) (in_sent s.sent (shard_server d sh) ms e i);
      lists = λ e t o i. learns_on s z l t o (h.lists e t o i);
      counts = λ e. counts_on s z l _ (h.counts e);
      replays = put_server (λ e eh (n : ShardNode). n.durable ≡ shard_replayed new_shard_durable n.log) s.parties d sh (shard_in s d sh) y there (λ e eh _. h.replays e eh)
          (ap (λ (x : ShardDurable). applied shard_applied x r) (h.replays d sh) ∙ shard_replay_logged r (shard_in s d sh).log);
      finished = put_server (λ e eh (n : ShardNode). (t : ℕ) (outcome : Outcome) → found nat_cmp n.durable.finished t ≡ Some outcome → Ended z t outcome) s.parties d sh (shard_in s d sh) y there
          (λ e eh _ t outcome is. ended_on s z l t outcome (h.finished e eh t outcome is))
          (λ t outcome is. ended_on s z l t outcome (finished_after s sh r (shard_in s d sh).durable notes (h.finished d sh) t outcome is));
      tallies = λ t x is. tallied_on s z l t x.votes (h.tallies t x is);
      outcomes = λ t x o is e. learns_on s z l t o (h.outcomes t x o is e);
    }

server_stops : (s : Scene) (d sh : ℕ) → ThereIs s d sh → (up : Bool) (r : Option Record) → ShardNotes s sh r → Heard s
    → Heard (record { parties = with_shard s.parties d sh (record { up = up; log = logged (shard_in s d sh).log r; durable = applied shard_applied (shard_in s d sh).durable r; volatile = new_shard_volatile }); sent = s.sent })
server_stops s d sh there up r n h =
    subst (λ (l : List Envelope). Heard (record { parties = with_shard s.parties d sh (record { up = up; log = logged (shard_in s d sh).log r; durable = applied shard_applied (shard_in s d sh).durable r; volatile = new_shard_volatile }); sent = l }))
    (append-nil s.sent) (server_heard s d sh there up r new_shard_volatile [] n (λ m to i. absurd i) h)

-- CLIENTS
client_heard : (s : Scene) (cs : Table ℕ Client) (u : ℕ) (ms : Posts) → ((m : Msg) (to : Party) → In (to, m) ms → Knows s to m)
    → ((t : ℕ) (x : Client) → found nat_cmp cs t ≡ Some x → Learner s t x) → Heard s
    → Heard (record { parties = record s.parties { clients = cs }; sent = s.sent ++ envelopes (client_of u) ms })
client_heard s cs u ms says all h =
    let z : Scene = record { parties = record s.parties { clients = cs }; sent = s.sent ++ envelopes (client_of u) ms } in
    let l : Longer s z = record { layout = refl; votes = λ t e b o w. w } in
    record {
      says = λ e i. ⊎_elim (λ old. knows_on s z l e.to e.msg (h.says e old)) (λ new. knows_on s z l e.to e.msg (says e.msg e.to new.0)) (in_sent s.sent (client_of u) ms e i);
      lists = λ e t o i. learns_on s z l t o (h.lists e t o i);
      counts = λ e. counts_on s z l _ (h.counts e);
      replays = h.replays;
      finished = λ e eh t outcome is. ended_on s z l t outcome (h.finished e eh t outcome is);
      tallies = λ t x is. tallied_on s z l t x.votes (all t x is).tally;
      outcomes = λ t x o is e. learns_on s z l t o ((all t x is).outcome o e);
    }

new_learner : (s : Scene) (t : ℕ) → Learner s t new_client
new_learner s t = record { tally = none_tallied s t; outcome = λ o is. never o is }

begin_heard : (s : Scene) (u : ℕ) → Heard s → Heard (joined_by s u)
begin_heard s u h =
    subst (λ (l : List Envelope). Heard (record { parties = with_new_client s.parties u; sent = l })) (append-nil s.sent)
    (client_heard s (put nat_cmp s.parties.clients u new_client) u [] (λ m to i. absurd i)
    (λ t x is. ⊎_elim
    (λ (same : (t ≡ u) × (found nat_cmp (put nat_cmp s.parties.clients u new_client) t ≡ Some new_client)). subst (Learner s t) (some_is new_client x (sym same.1 ∙ is)) (new_learner s t))
    (λ (other : (t ≡ u → ⊥) × (found nat_cmp (put nat_cmp s.parties.clients u new_client) t ≡ found nat_cmp s.parties.clients t)). learner_of s t x h (sym other.1 ∙ is))
    (put_cases t u new_client s.parties.clients)) h)

act_heard : (s : Scene) (u : ℕ) (y : Client) (a : ClientAct) → found nat_cmp s.parties.clients u ≡ Some y → ((m : Msg) (to : Party) → In (to, m) a.sends → Knows s to m) → Learner s u a.after → Heard s → Heard (acted s u a)
act_heard s u y a is says new h =
    client_heard s (replaced s.parties.clients u a.after) u a.sends says
    (λ t x k. ⊎_elim
    (λ (same : (t ≡ u) × (found nat_cmp (replaced s.parties.clients u a.after) t ≡ Some a.after)). subst (λ (p : ℕ × Client). Learner s p.0 p.1) (λ i. (sym same.0 i, some_is a.after x (sym same.1 ∙ k) i)) new)
    (λ (other : (t ≡ u → ⊥) × (found nat_cmp (replaced s.parties.clients u a.after) t ≡ found nat_cmp s.parties.clients t)). learner_of s t x h (sym other.1 ∙ k))
    (set_cases t u a.after y s.parties.clients is)) h

-- ALL MOVES
abbrev pub Agreed : Layout → Scene → Type 0
Agreed c s = AllAgree c s × Heard s

pub half_notes : (c : Layout) (s : Scene) → Agreed c s → (d : ℕ) (r : Option Record) → Half s d r → Notes s r
half_notes c s p d r Nothing = tt
half_notes c s p d r (Whole k due) = (act_honest c s p.0 p.1 d k due).notes

pub shard_half_notes : (s : Scene) → Heard s → (d sh : ℕ) (r : Option Record) → ShardHalf s d sh r → ShardNotes s sh r
shard_half_notes s h d sh r Naught = tt
shard_half_notes s h d sh r (Entire k due) = shard_notes s d sh h k due

pub agreed_kept : (c : Layout) → IsLayout c → Keeps (Agreed c)
agreed_kept c lay =
    let k = agreeing_kept c lay in
    record {
      turns = λ s d a there due p. (k.turns s d a there due p.0, moves_heard s d there (at s d).up (act_of s d a) (act_honest c s p.0 p.1 d a due) p.1);
      stops = λ s d r there half p. (k.stops s d r there half p.0, stop_heard s d there false r (half_notes c s p d r half) p.1);
      starts = λ s d there p. (
        k.starts s d there p.0,
        subst (λ (x : CoordDurable). Heard (record { parties = with_coord s.parties d (record { up = true; log = (at s d).log; durable = x; volatile = new_coord_volatile }) None; sent = s.sent })) ((p.0 0).coords d).replays (stop_heard s d there true None tt p.1),
      );
      serves = λ s d sh a there due p. (
        k.serves s d sh a there due p.0,
        server_heard s d sh there (shard_in s d sh).up (shard_act_of s d sh a).logs (shard_act_of s d sh a).after (shard_act_of s d sh a).sends (shard_notes s d sh p.1 a due)
            (λ m to i. mute_knows s to m (modest_mute m ((shard_modest s.parties.layout d sh (shard_in s d sh).durable (shard_in s d sh).volatile a).each m (says_to (shard_act_of s d sh a).sends to m i)))) p.1,
      );
      halts = λ s d sh r there half p. (k.halts s d sh r there half p.0, server_stops s d sh there false r (shard_half_notes s p.1 d sh r half) p.1);
      wakes = λ s d sh there p. (
        k.wakes s d sh there p.0,
        subst (λ (x : ShardDurable). Heard (record { parties = with_shard s.parties d sh (record { up = true; log = (shard_in s d sh).log; durable = x; volatile = new_shard_volatile }); sent = s.sent })) (p.1.replays d sh) (server_stops s d sh there true None tt p.1),
      );
      begins = λ s u new p. (k.begins s u new p.0, begin_heard s u p.1);
      clients = λ s u x a is due p. (
        k.clients s u x a is due p.0,
        act_heard s u x (client_by_row s.parties.layout u x a) is
            (λ m to i. mute_knows s to m (client_mute s.parties.layout u x a (ready_for s u x a due) m (says_to (client_by_row s.parties.layout u x a).sends to m i)))
            (causes_learn c s u (p.0 u) x (learner_of s u x p.1 is) p.1 a due) p.1,
      );
    }

-- AT THE START
pub new_server : (c : Layout) (d sh : ℕ) → server_at (new_world c).parties d sh ≡ shard_started []
new_server c d sh =
    on_cond (λ o. maybe o (shard_started []) (λ x. x) ≡ shard_started []) (is_dc c d && is_shard c sh) _ _
    (λ _. ⊎_elim (λ (e : slice_get (replicate (c.dcs * c.shards) (shard_started [])) (shard_index c d sh) ≡ Some (shard_started [])). ap (λ o. maybe o (shard_started []) (λ x. x)) e)
    (λ (e : slice_get (replicate (c.dcs * c.shards) (shard_started [])) (shard_index c d sh) ≡ None). ap (λ o. maybe o (shard_started []) (λ x. x)) e) (new_get (c.dcs * c.shards) (shard_index c d sh) (shard_started [])))
    (λ _. refl)

pub new_heard : (c : Layout) → Heard (scene (new_world c))
new_heard c =
    let s : Scene = scene (new_world c) in
    record {
      says = λ e i. absurd i;
      lists = λ d. subst (λ (n : CoordNode). LearnsAll s n.durable.outcomes) (sym (new_node c d)) (λ t o i. absurd i);
      counts = λ d. subst (λ (n : CoordNode). Counts s n.volatile.votes) (sym (new_node c d)) (no_counts s);
      replays = λ d sh. subst (λ (n : ShardNode). n.durable ≡ shard_replayed new_shard_durable n.log) (sym (new_server c d sh)) refl;
      finished = λ d sh. subst (λ (n : ShardNode). (t : ℕ) (outcome : Outcome) → found nat_cmp n.durable.finished t ≡ Some outcome → Ended s t outcome) (sym (new_server c d sh)) (λ t outcome is. never outcome is);
      tallies = λ t x is. never x is;
      outcomes = λ t x o is. never x is;
    }

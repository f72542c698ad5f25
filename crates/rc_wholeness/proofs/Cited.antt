-- What a shard finished stands in the list of its datacentre, and what it passed there it has finished: each move keeps it.
use Rattle.std.proofs.Common.{◌≡◌, ℕ, List, [], ◌++◌, refl, sym, ap, ◌∙◌, subst, Bool, true, false, Option, Some, None, ⊎_elim}
use Rattle.std.specs.Ordering.{nat_cmp}
use Rattle.std.proofs.lemmas.List.{append-nil}
use Rattle.rc_ids.specs.Tables.{In, Table, found, put}
use Rattle.rc_ids.specs.Cluster.{Layout, IsLayout}
use Rattle.rc_ids.specs.declared.names.Outcome.{Outcome}
use Rattle.rc_ids.specs.declared.names.Outcome.TheVariants.{Commit as Committed, Abort as Aborted}
use Rattle.rc_ids.specs.declared.names.Party.{Party}
use Rattle.rc_body.specs.Decisions.{outcome_of}
use Rattle.rc_body.specs.declared.entry.Entry.{Entry}
use Rattle.rc_body.specs.declared.decision.Decision.{Decision}
use Rattle.rc_body.specs.declared.decision.Decision.TheVariants.{Commit, Abort}
use Rattle.rc_msg.specs.declared.msg.Msg.{Msg}
use Rattle.rc_msg.specs.declared.msg.Msg.TheVariants.{Finish, CatchAsk, CatchPage}
use Rattle.rc_msg.specs.declared.msg.Envelope.{Envelope}
use Rattle.rc_record.specs.declared.record.Record.{Record}
use Rattle.rc_record.specs.declared.record.Record.TheVariants.{Head, Prepared as PartPrepared, Finished, Promised, Accepted, Decided}
use Rattle.rc_record.specs.CoordState.{CoordDurable, coord_applied, outcomes_joined}
use Rattle.rc_record.specs.ShardState.{ShardDurable, shard_applied}
use Rattle.rc_protocol.specs.Messages.{Posts, coordinator, shard_server, client_of, most_entries}
use Rattle.rc_protocol.specs.Shard.{ShardVolatile, cut_to_part, new_volatile as new_shard_volatile}
use Rattle.rc_protocol.specs.Coordinator.{CoordAct, new_volatile as new_coord_volatile}
use Rattle.rc_protocol.specs.Client.{Client, new_client}
use Rattle.rc_protocol.specs.Nodes.{CoordNode, ShardNode, applied, logged}
use Rattle.rc_runs.specs.World.{envelopes, replaced, with_coord, with_shard, new_world}
use Rattle.rc_agreement.proofs.Cases.{never}
use Rattle.rc_agreement.proofs.Tables.{in_left}
use Rattle.rc_agreement.proofs.Places.{node_is, coord_set, put_each, put_server}
use Rattle.rc_protocol.specs.Acts.{NodeCause, client_by_row}
use Rattle.rc_agreement.proofs.Scenes.{Scene, scene, at, shard_in, There, ThereIs, Due, act_of, DueTo, shard_act_of, ShardHalf, Naught, Entire, Keeps}
use Rattle.rc_agreement.proofs.Said.{Mute}
use Rattle.rc_agreement.proofs.Ballots.{Proposal, one_body}
use Rattle.rc_agreement.proofs.ClientRows.{client_mute}
use Rattle.rc_agreement.proofs.CoordKeeps.{moved, node_after}
use Rattle.rc_agreement.proofs.Agreeing.{AllAgree, laws_at, ready_for}
use Rattle.rc_agreement.proofs.Agreed.{one_outcome}
use Rattle.rc_agreement.proofs.Sends.{EachTo, to_none, says_to, in_sent}
use Rattle.rc_agreement.proofs.Learning.{Learns, learned_choice, ListedBy, Tells, Notes}
use Rattle.rc_agreement.proofs.HonestRows.{Honest, act_honest}
use Rattle.rc_agreement.proofs.ShardNotes.{settled_finished}
use Rattle.rc_agreement.proofs.Learned.{listed, new_server}
use Rattle.rc_agreement.proofs.Stays.{list_grows}
use Rattle.rc_agreement.proofs.Reopened.{Whole}
use Rattle.rc_agreement.proofs.Lives.{whole_kept}
use Rattle.rc_wholeness.proofs.Pages.{Page, in_joined, Slice, slice_of, slice_on, Passed, passed_none, passed_on}
use Rattle.rc_wholeness.proofs.ShardPages.{Cites, Asks, Enders, PageRow, page_row}

-- a shard's end stands in the list of its datacentre
abbrev pub EndsIn : Page → ShardDurable → Type 0
EndsIn list x = (t : ℕ) (outcome : Outcome) → found nat_cmp x.finished t ≡ Some outcome → (p : Decision) × In (t, p) list × (outcome_of p ≡ outcome)

pub record Cited (s : Scene) : Type 0 where
  pub says : (e : Envelope) → In e s.sent → Cites s e.from e.to e.msg
  pub ends : (d sh : ℕ) → EndsIn (at s d).durable.outcomes (shard_in s d sh).durable
  pub places : (d sh : ℕ) → Passed s.parties.layout sh (shard_in s d sh).durable.finished (shard_in s d sh).volatile.cursor (at s d).durable.outcomes

-- the lists of z begin with those of s
pub record Extends (s z : Scene) : Type 0 where
  pub layout : z.parties.layout ≡ s.parties.layout
  pub lists : (d : ℕ) → (rest : Page) × ((at z d).durable.outcomes ≡ (at s d).durable.outcomes ++ rest)

module _ (s z : Scene) (g : Extends s z) where
  listed_on : (d : ℕ) (x : ℕ × Decision) → In x (at s d).durable.outcomes → In x (at z d).durable.outcomes
  listed_on d x i = subst (In x) (sym (g.lists d).1) (in_left x (at s d).durable.outcomes (g.lists d).0 i)

  cites_on : (from to : Party) (m : Msg) → Cites s from to m → Cites z from to m
  cites_on from to (Finish u o) h = λ d sh e. let x = h d sh e in (x.0, listed_on d (u, x.0) x.1, x.2 ∙ ap (λ (c : Layout). cut_to_part c sh x.0) (sym g.layout))
  cites_on from to (CatchAsk p) h = h
  cites_on from to (CatchPage e p es) h = λ d sh e. subst (Slice p es) (sym (g.lists d).1) (slice_on p es (at s d).durable.outcomes (g.lists d).0 (h d sh e))
  cites_on from to _ h = tt

-- DECISIONS that are learned are one
pub differ : Committed ≡ Aborted → ⊥
differ e = cc

module _ (c : Layout) (lay : IsLayout c) (s : Scene) (agree : AllAgree c s) (t : ℕ) where
  pub proposed : (o : Decision) → Learns s t o → (b : ℕ) × Proposal t s b o
  proposed o l =
      let q = laws_at c lay t s (agree t) in
      let m = q.share l.held.set l.held.set l.held.enough l.held.enough in
      (l.ballot, ((agree t).coords m.0).voted l.ballot o (l.held.each m.0 m.1))

  apart : (x : List Entry) → Learns s t (Commit x) → Learns s t Abort → ⊥
  apart x a b = one_outcome c t s (laws_at c lay t s (agree t)) (agree t) Committed Aborted differ (learned_choice s t (Commit x) a) (learned_choice s t Abort b)

  pub one_decision : (o p : Decision) → Learns s t o → Learns s t p → o ≡ p
  one_decision Abort Abort a b = refl
  one_decision Abort (Commit y) a b = absurd (apart y b a)
  one_decision (Commit x) Abort a b = absurd (apart x a b)
  one_decision (Commit x) (Commit y) a b =
      let m = proposed (Commit x) a in
      let n = proposed (Commit y) b in
      ap (λ z. Commit z) (one_body c t s (agree t) m.0 n.0 x y m.1 n.1)

-- SHARD SERVERS
module _ (s : Scene) (h : Cited s) (d sh : ℕ) (there : ThereIs s d sh) (up : Bool) (r : Option Record) (v : ShardVolatile) (ms : Posts)
    (asks : EachTo (Asks d) ms) (enders : Enders s d r)
    (passed : Passed s.parties.layout sh (applied shard_applied (shard_in s d sh).durable r).finished v.cursor (at s d).durable.outcomes) where
  abbrev y : ShardNode
  y = record { up = up; log = logged (shard_in s d sh).log r; durable = applied shard_applied (shard_in s d sh).durable r; volatile = v }

  abbrev z : Scene
  z = record { parties = with_shard s.parties d sh y; sent = s.sent ++ envelopes (shard_server d sh) ms }

  same : Extends s z
  same = record { layout = refl; lists = λ e. ([], sym (append-nil (at s e).durable.outcomes)) }

  ends_now : (r : Option Record) → Enders s d r → EndsIn (at s d).durable.outcomes (applied shard_applied (shard_in s d sh).durable r)
  ends_now (Some (Finished es)) n t outcome is =
      ⊎_elim (λ old. h.ends d sh t outcome old)
      (λ (x : (o : Decision) × In (t, o) es × (outcome_of o ≡ outcome)). let w = n t x.0 x.1 in (w.0, w.1, w.2 ∙ x.2))
      (settled_finished es (shard_in s d sh).durable t outcome is)
  ends_now None n t outcome is = h.ends d sh t outcome is
  ends_now (Some (PartPrepared u p)) n t outcome is = h.ends d sh t outcome is
  ends_now (Some (Head p)) n t outcome is = h.ends d sh t outcome is
  ends_now (Some (Promised u b)) n t outcome is = h.ends d sh t outcome is
  ends_now (Some (Accepted u b o)) n t outcome is = h.ends d sh t outcome is
  ends_now (Some (Decided p)) n t outcome is = h.ends d sh t outcome is

  asked : (to : Party) (m : Msg) → Asks d to m → Cites z (shard_server d sh) to m
  asked to (Finish u o) k = absurd k
  asked to (CatchPage e p es) k = absurd k
  asked to (CatchAsk p) k = λ e eh w. let n : d ≡ e = (let f : shard_server d sh ≡ shard_server e eh = w in (cc)) in k ∙ ap coordinator n
  asked to _ k = tt

  pub shard_cited : Cited z
  shard_cited =
      record {
        says = λ e i. ⊎_elim (λ old. cites_on s z same e.from e.to e.msg (h.says e old)) (λ new. subst (λ f. Cites z f e.to e.msg) (sym new.1) (asked e.to e.msg (asks.each e.to e.msg new.0))) (in_sent s.sent (shard_server d sh) ms e i);
        ends = put_server (λ e eh (n : ShardNode). EndsIn (at s e).durable.outcomes n.durable) s.parties d sh (shard_in s d sh) y there (λ e eh _. h.ends e eh) (ends_now r enders);
        places = put_server (λ e eh (n : ShardNode). Passed s.parties.layout eh n.durable.finished n.volatile.cursor (at s e).durable.outcomes) s.parties d sh (shard_in s d sh) y there (λ e eh _. h.places e eh) passed;
      }

row : (s : Scene) → Cited s → (d sh : ℕ) (k : NodeCause) → DueTo s d sh k → PageRow s d sh (shard_act_of s d sh k)
row s h d sh k due = page_row s d sh (h.places d sh) k (λ from m is. h.says (record { from = from; to = shard_server d sh; msg = m }) (subst (DueTo s d sh) is due))

shard_stops : (s : Scene) (d sh : ℕ) → ThereIs s d sh → (up : Bool) (r : Option Record) → Enders s d r → Cited s
    → Cited (record { parties = with_shard s.parties d sh (record { up = up; log = logged (shard_in s d sh).log r; durable = applied shard_applied (shard_in s d sh).durable r; volatile = new_shard_volatile }); sent = s.sent })
shard_stops s d sh there up r n h =
    subst (λ (l : List Envelope). Cited (record { parties = with_shard s.parties d sh (record { up = up; log = logged (shard_in s d sh).log r; durable = applied shard_applied (shard_in s d sh).durable r; volatile = new_shard_volatile }); sent = l }))
    (append-nil s.sent)
    (shard_cited s h d sh there up r new_shard_volatile [] (to_none (Asks d)) n (passed_none s.parties.layout sh (applied shard_applied (shard_in s d sh).durable r).finished (at s d).durable.outcomes))

half_enders : (s : Scene) → Cited s → (d sh : ℕ) (r : Option Record) → ShardHalf s d sh r → Enders s d r
half_enders s h d sh r Naught = tt
half_enders s h d sh r (Entire k due) = (row s h d sh k due).enders

-- COORDINATORS
module _ (s : Scene) (h : Cited s) (d : ℕ) (there : There s d) (up : Bool) (a : CoordAct) where
  abbrev now : Scene
  now = moved s d up a

  pub lists_longer : Extends s (moved s d up a)
  lists_longer =
      record {
        layout = refl;
        lists = put_each (λ e (n : CoordNode). (rest : Page) × (n.durable.outcomes ≡ (at s e).durable.outcomes ++ rest)) s.parties d (at s d) (node_after s d up a) a.logs there
            (λ e _. ([], sym (append-nil (at s e).durable.outcomes))) (list_grows (at s d).durable a.logs);
      }

  pub coord_cited : ((to : Party) (m : Msg) → In (to, m) a.sends → Cites (moved s d up a) (coordinator d) to m) → Cited (moved s d up a)
  coord_cited new =
      record {
        says = λ e i. ⊎_elim (λ old. cites_on s now lists_longer e.from e.to e.msg (h.says e old)) (λ n. subst (λ f. Cites now f e.to e.msg) (sym n.1) (new e.to e.msg n.0)) (in_sent s.sent (coordinator d) a.sends e i);
        ends = λ e eh t outcome is. let x = h.ends e eh t outcome is in (x.0, listed_on s now lists_longer e (t, x.0) x.1, x.2);
        places = λ e eh. subst (Passed s.parties.layout eh (shard_in s e eh).durable.finished (shard_in s e eh).volatile.cursor) (sym (lists_longer.lists e).1)
            (passed_on s.parties.layout eh (shard_in s e eh).durable.finished (shard_in s e eh).volatile.cursor (at s e).durable.outcomes (lists_longer.lists e).0 (h.places e eh));
      }

module _ (c : Layout) (lay : IsLayout c) (s : Scene) (p : Whole c s) (h : Cited s) (d : ℕ) (there : There s d) (k : NodeCause) (due : Due s d k) where
  abbrev a : CoordAct
  a = act_of s d k

  abbrev later : Scene
  later = moved s d (at s d).up (act_of s d k)

  honest : Honest s d (act_of s d k)
  honest = act_honest c s p.0.0 p.0.1 d k due

  -- what the record lists is listed, with this very decision
  listed_now : (r : Option Record) → Notes s r → (t : ℕ) (o : Decision) → ListedBy r t o → Learns s t o → In (t, o) (applied coord_applied (at s d).durable r).outcomes
  listed_now (Some (Decided es)) n t o l w =
      let x = in_joined es (at s d).durable.outcomes t o l in
      subst (λ (q : Decision). In (t, q) (outcomes_joined (at s d).durable.outcomes es)) (one_decision c lay s p.0.0 t x.0 o (listed s (Some (Decided es)) (at s d).durable n (p.0.1.lists d) t x.0 x.1) w) x.1
  listed_now None n t o l w = absurd l
  listed_now (Some (PartPrepared u q)) n t o l w = absurd l
  listed_now (Some (Head q)) n t o l w = absurd l
  listed_now (Some (Promised u b)) n t o l w = absurd l
  listed_now (Some (Accepted u b q)) n t o l w = absurd l
  listed_now (Some (Finished q)) n t o l w = absurd l

  at_d : at (moved s d (at s d).up (act_of s d k)) d ≡ node_after s d (at s d).up (act_of s d k)
  at_d = node_is later.parties d (node_after s d (at s d).up a) (coord_set s.parties d (at s d) (node_after s d (at s d).up a) a.logs there)

  says : (to : Party) (m : Msg) → Tells s d (act_of s d k).logs to m → Cites (moved s d (at s d).up (act_of s d k)) (coordinator d) to m
  says to (Finish t o) q = λ e eh is.
      let both : shard_server d q.0 ≡ shard_server e eh = sym q.1 ∙ is in
      let n : d ≡ e = (cc) in let m : q.0 ≡ eh = (cc) in
      let here : In (t, q.2) (at later d).durable.outcomes = subst (λ (x : CoordNode). In (t, q.2) x.durable.outcomes) (sym at_d) (listed_now a.logs honest.notes t q.2 q.3 q.4) in
      (q.2, subst (λ n. In (t, q.2) (at later n).durable.outcomes) n here, q.5 ∙ ap (λ n. cut_to_part s.parties.layout n q.2) m)
  says to (CatchPage e p' es) q = λ e' eh is.
      let asked = h.says (record { from = to; to = coordinator d; msg = CatchAsk p' }) q.1 e' eh is in
      let n : d ≡ e' = (let f : coordinator d ≡ coordinator e' = asked in (cc)) in
      let g = lists_longer s h d there (at s d).up a in
      let slice : Slice p' es (at s d).durable.outcomes = subst (λ (l : Page). Slice p' l (at s d).durable.outcomes) (sym q.0) (slice_of most_entries p' (at s d).durable.outcomes) in
      let now : Slice p' es (at later d).durable.outcomes = subst (Slice p' es) (sym (g.lists d).1) (slice_on p' es (at s d).durable.outcomes (g.lists d).0 slice) in
      subst (λ n. Slice p' es (at later n).durable.outcomes) n now
  says to (CatchAsk p') q = λ e eh is. absurd (other e eh is)
    where
      other : (e eh : ℕ) → coordinator d ≡ shard_server e eh → ⊥
      other e eh is = cc
  says to _ q = tt

  pub act_cited : Cited (moved s d (at s d).up (act_of s d k))
  act_cited = coord_cited s h d there (at s d).up a (λ to m i. says to m (honest.told.each to m i))

coord_stops : (s : Scene) (d : ℕ) → There s d → (up : Bool) (r : Option Record) → Cited s
    → Cited (record { parties = with_coord s.parties d (record { up = up; log = logged (at s d).log r; durable = applied coord_applied (at s d).durable r; volatile = new_coord_volatile }) r; sent = s.sent })
coord_stops s d there up r h =
    subst (λ (l : List Envelope). Cited (record { parties = with_coord s.parties d (record { up = up; log = logged (at s d).log r; durable = applied coord_applied (at s d).durable r; volatile = new_coord_volatile }) r; sent = l }))
    (append-nil s.sent)
    (coord_cited s h d there up (record { logs = r; after = new_coord_volatile; sends = []; spent = false }) (λ to m i. absurd i))

-- CLIENTS
mute_cites : (s : Scene) (u : ℕ) (to : Party) (m : Msg) → Mute m → Cites s (client_of u) to m
mute_cites s u to (Finish t o) h = absurd h
mute_cites s u to (CatchPage e p es) h = absurd h
mute_cites s u to (CatchAsk p) h = λ d sh e. absurd (other d sh e)
  where
    other : (d sh : ℕ) → client_of u ≡ shard_server d sh → ⊥
    other d sh e = cc
mute_cites s u to _ h = tt

client_cited : (s : Scene) (u : ℕ) (cs : Table ℕ Client) (ms : Posts) → ((to : Party) (m : Msg) → In (to, m) ms → Mute m) → Cited s
    → Cited (record { parties = record s.parties { clients = cs }; sent = s.sent ++ envelopes (client_of u) ms })
client_cited s u cs ms q h =
    let z : Scene = record { parties = record s.parties { clients = cs }; sent = s.sent ++ envelopes (client_of u) ms } in
    record {
      says = λ e i. ⊎_elim
          (λ old. cites_on s z (record { layout = refl; lists = λ d. ([], sym (append-nil (at s d).durable.outcomes)) }) e.from e.to e.msg (h.says e old))
          (λ new. subst (λ f. Cites z f e.to e.msg) (sym new.1) (mute_cites z u e.to e.msg (q e.to e.msg new.0)))
          (in_sent s.sent (client_of u) ms e i);
      ends = h.ends;
      places = h.places;
    }

-- ALL MOVES
abbrev pub Cares : Layout → Scene → Type 0
Cares c s = Whole c s × Cited s

pub cares_kept : (c : Layout) → IsLayout c → Keeps (Cares c)
cares_kept c lay =
    let k = whole_kept c lay in
    record {
      turns = λ s d a there due p. (k.turns s d a there due p.0, act_cited c lay s p.0 p.1 d there a due);
      stops = λ s d r there half p. (k.stops s d r there half p.0, coord_stops s d there false r p.1);
      starts = λ s d there p. (
        k.starts s d there p.0,
        subst (λ (x : CoordDurable). Cited (record { parties = with_coord s.parties d (record { up = true; log = (at s d).log; durable = x; volatile = new_coord_volatile }) None; sent = s.sent })) ((p.0.0.0 0).coords d).replays (coord_stops s d there true None p.1),
      );
      serves = λ s d sh a there due p. (
        k.serves s d sh a there due p.0,
        (let w = row s p.1 d sh a due in shard_cited s p.1 d sh there (shard_in s d sh).up (shard_act_of s d sh a).logs (shard_act_of s d sh a).after (shard_act_of s d sh a).sends w.says w.enders w.passed),
      );
      halts = λ s d sh r there half p. (k.halts s d sh r there half p.0, shard_stops s d sh there false r (half_enders s p.1 d sh r half) p.1);
      wakes = λ s d sh there p. (
        k.wakes s d sh there p.0,
        subst (λ (x : ShardDurable). Cited (record { parties = with_shard s.parties d sh (record { up = true; log = (shard_in s d sh).log; durable = x; volatile = new_shard_volatile }); sent = s.sent })) (p.0.0.1.replays d sh) (shard_stops s d sh there true None tt p.1),
      );
      begins = λ s u new p. (k.begins s u new p.0, subst (λ (l : List Envelope). Cited (record { parties = record s.parties { clients = put nat_cmp s.parties.clients u new_client }; sent = l })) (append-nil s.sent) (client_cited s u (put nat_cmp s.parties.clients u new_client) [] (λ to m i. absurd i) p.1));
      clients = λ s u x a is due p. (
        k.clients s u x a is due p.0,
        client_cited s u (replaced s.parties.clients u (client_by_row s.parties.layout u x a).after) (client_by_row s.parties.layout u x a).sends
            (λ to m i. client_mute s.parties.layout u x a (ready_for s u x a due) m (says_to (client_by_row s.parties.layout u x a).sends to m i)) p.1,
      );
    }

-- AT THE START
pub new_cited : (c : Layout) → Cited (scene (new_world c))
new_cited c =
    let s : Scene = scene (new_world c) in
    record {
      says = λ e i. absurd i;
      ends = λ d sh. subst (λ (n : ShardNode). EndsIn (at s d).durable.outcomes n.durable) (sym (new_server c d sh)) (λ t outcome is. never outcome is);
      places = λ d sh. subst (λ (n : ShardNode). Passed s.parties.layout sh n.durable.finished n.volatile.cursor (at s d).durable.outcomes) (sym (new_server c d sh)) (passed_none s.parties.layout sh [] (at s d).durable.outcomes);
    }

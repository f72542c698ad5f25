-- Transactions whose commit is chosen: each has one body, and of two in conflict one was finished before the other was prepared.
use Rattle.std.proofs.Common.{◌≡◌, ℕ, suc, ◌+◌, ◌≤◌, List, [], ◌∷◌, ◌++◌, refl, sym, ap, ◌∙◌, subst, Bool, true, false, Option, Some, None, arith, ◌⊎◌, inl, inr, ⊎_elim, true≢false, append_assoc}
use Rattle.std.specs.Prelude.{is_some, ◌||◌, ◌==◌}
use Rattle.std.specs.Ordering.{nat_cmp}
use Rattle.std.proofs.lemmas.Bool.{eqb-true, eq-eqb}
use Rattle.rc_ids.specs.Tables.{In, found}
use Rattle.rc_ids.specs.Cluster.{Layout, IsLayout, shard_of}
use Rattle.rc_ids.specs.Quorum.{QuorumLaws}
use Rattle.rc_ids.specs.declared.names.Outcome.{Outcome}
use Rattle.rc_ids.specs.declared.names.Outcome.TheVariants.{Commit as Committed, Abort as Aborted}
use Rattle.rc_body.specs.Bodies.{part, touched}
use Rattle.rc_body.specs.Decisions.{outcome_of}
use Rattle.rc_body.specs.declared.entry.Entry.{Entry}
use Rattle.rc_body.specs.declared.decision.Decision.{Decision}
use Rattle.rc_body.specs.declared.decision.Decision.TheVariants.{Commit, Abort}
use Rattle.rc_msg.specs.declared.msg.Envelope.{Envelope}
use Rattle.rc_record.specs.declared.record.Record.{Record}
use Rattle.rc_record.specs.declared.record.Record.TheVariants.{Head, Prepared, Finished, Promised, Accepted, Decided}
use Rattle.rc_record.specs.CoordState.{CoordDurable}
use Rattle.rc_protocol.specs.Coordinator.{CoordVolatile}
use Rattle.rc_protocol.specs.Client.{KeyRead, NotRead, UnderWay, Complete, version_read, entry_of, body_of}
use Rattle.rc_protocol.specs.Nodes.{CoordNode, logged}
use Rattle.rc_runs.specs.Votes.{is_listed, is_chosen_at, ordered}
use Rattle.rc_runs.specs.World.{with_coord, new_world}
use Rattle.rc_agreement.proofs.Cases.{on_cond, or_case}
use Rattle.rc_agreement.proofs.Tables.{in_left, in_right, in_either, in_map}
use Rattle.rc_agreement.proofs.Places.{node_is, coord_set, put_each}
use Rattle.rc_agreement.proofs.Scenes.{Scene, scene, at, shard_in, There, act_of, Keeps}
use Rattle.rc_agreement.proofs.Ballots.{Vote, Agreeing, one_body}
use Rattle.rc_agreement.proofs.Votes.{old_vote}
use Rattle.rc_agreement.proofs.Agreeing.{laws_at}
use Rattle.rc_agreement.proofs.Choices.{outcomes_differ, ChosenIn, choice_of, chosen_of}
use Rattle.rc_agreement.proofs.Agreed.{one_outcome}
use Rattle.rc_agreement.proofs.Learning.{Learns, learned_choice, Ended}
use Rattle.rc_agreement.proofs.Longer.{Longer, learns_on}
use Rattle.rc_agreement.proofs.Lists.{any_some, any_of, map_in}
use Rattle.rc_serial_order.proofs.KeyFacts.{filter_in}
use Rattle.rc_serial_order.proofs.Locking.{Before}
use Rattle.rc_serial_order.proofs.Means.{Wrote, Written, learned_proposal}
use Rattle.rc_serial_order.proofs.Slots.{Granting, SlotIs}
use Rattle.rc_serial_order.proofs.Stored.{Stored, stored_kept}
use Rattle.rc_serial_order.proofs.Steps.{Steps, next}
use Rattle.rc_serial_order.proofs.Bodies.{bodies, bodies_end, writes_find, writes_by, touched_by}

module _ (c : Layout) (lay : IsLayout c) (s : Scene) (p : Stored c s) where
  agree : (t : ℕ) → Agreeing c t s
  agree = p.0.0.0

  laws : QuorumLaws s.parties.layout
  laws = laws_at c lay 0 s (agree 0)

  pub one_won : (t : ℕ) (x y : List Entry) → Learns s t (Commit x) → Learns s t (Commit y) → x ≡ y
  one_won t x y a b =
      let m = learned_proposal c t s (agree t) laws (Commit x) a in
      let n = learned_proposal c t s (agree t) laws (Commit y) b in
      one_body c t s (agree t) m.0 n.0 x y m.1 n.1

  pub not_both : (t : ℕ) (x : List Entry) → Learns s t (Commit x) → Learns s t Abort → ⊥
  not_both t x a b = one_outcome c t s laws (agree t) Committed Aborted outcomes_differ (learned_choice s t (Commit x) a) (learned_choice s t Abort b)

  pub won_chosen : (t : ℕ) (x : List Entry) → Learns s t (Commit x) → ChosenIn s Committed t
  won_chosen t x l = chosen_of t s Committed laws (learned_choice s t (Commit x) l)

  -- a commit that is chosen is learned with the body of any of its votes
  pub backed_learns : (t : ℕ) (x : List Entry) (d b : ℕ) → Vote t s d b (Commit x) → ChosenIn s Committed t → Learns s t (Commit x)
  backed_learns t x d b v h =
      let k = choice_of t s Committed h in
      record {
        ballot = k.ballot;
        held = record {
          set = k.set;
          enough = k.enough;
          each = λ e i. let w = k.votes e i in voter e k.ballot w.0 w.1 w.2;
        };
      }
    where
      voter : (e n : ℕ) (o : Decision) → outcome_of o ≡ Committed → Vote t s e n o → Vote t s e n (Commit x)
      voter e n Abort c1 w = absurd (outcomes_differ (sym c1))
      voter e n (Commit y) c1 w =
          let same = one_body c t s (agree t) n b y x (((agree t).coords e).voted n (Commit y) w) (((agree t).coords d).voted b (Commit x) v) in
          subst (λ (z : List Entry). Vote t s e n (Commit z)) same w

  pub ordered_learns : (t : ℕ) (x : List Entry) → In (t, x) s.parties.committed → Learns s t (Commit x)
  ordered_learns t x i = let h = p.0.1.chosen t x i in backed_learns t x h.voter h.ballot h.vote h.chosen

  -- TWO IN CONFLICT: t's commit is chosen and no shard has finished it; then every other chosen writer of a key of t is older
  pub older : (t : ℕ) (x : List Entry) → Learns s t (Commit x) → ((d sh : ℕ) (e : Outcome) → found nat_cmp (shard_in s d sh).durable.finished t ≡ Some e → ⊥)
      → (u : ℕ) (y : List Entry) → (u ≡ t → ⊥) → Learns s u (Commit y) → (e f : Entry) → In e x → In f y → f.key ≡ e.key → is_some f.write ≡ true → suc f.version ≤ e.version
  older t x lt open0 u y n lu e f i j same w =
      let m = laws.share lt.held.set lu.held.set lt.held.enough lu.held.enough in
      let d : ℕ = m.0 in
      let lay2 : IsLayout s.parties.layout = subst IsLayout (sym (agree t).layout) lay in
      let k : ℕ = shard_of s.parties.layout e.key in
      let wt = p.1.votes t d lt.ballot x (lt.held.each d m.1) k (touched_by s.parties.layout lay2 x e i) in
      let wu = p.1.votes u d lu.ballot y (lu.held.each d m.2) k (subst (λ (z : List ℕ). In (shard_of s.parties.layout z) (touched s.parties.layout y)) same (touched_by s.parties.layout lay2 y f j)) in
      let h = p.1.shards d k in
      let pt = h.parts t wt.part wt.logged in
      let pu = h.parts u wu.part wu.logged in
      let bt : pt.body ≡ x = let q = learned_proposal c t s (agree t) laws (Commit x) lt in one_body c t s (agree t) pt.ballot q.0 pt.body x pt.proposed q.1 in
      let bu : pu.body ≡ y = let q = learned_proposal c u s (agree u) laws (Commit y) lu in one_body c u s (agree u) pu.ballot q.0 pu.body y pu.proposed q.1 in
      let et : In e wt.part = subst (In e) (sym (pt.is ∙ ap (part s.parties.layout k) bt)) (filter_in (λ (z : Entry). shard_of s.parties.layout z.key == k) e x i (eq-eqb k k refl)) in
      let fu : In f wu.part = subst (In f) (sym (pu.is ∙ ap (part s.parties.layout k) bu)) (filter_in (λ (z : Entry). shard_of s.parties.layout z.key == k) f y j (eq-eqb (shard_of s.parties.layout f.key) k (ap (shard_of s.parties.layout) same))) in
      ⊎_elim
      (λ (b : Before (shard_in s d k).durable u f e). by b.ended (p.0.0.1.finished d k u b.ended b.finished) b.newer)
      (λ (b : Before (shard_in s d k).durable t e f). absurd (open0 d k b.ended b.finished))
      (h.kept.apart u t wu.part wt.part wu.logged wt.logged n f e fu et (same, inl w))
    where
      by : (b : Outcome) → Ended s u b → (b ≡ Committed → is_some f.write ≡ true → f.version + 1 ≤ e.version) → suc f.version ≤ e.version
      by Committed z newer = let k = newer refl w in omega (arith, k)
      by Aborted z newer = absurd (not_both u y lu (aborts z.decision z.is z.learned))
        where
          aborts : (o : Decision) → outcome_of o ≡ Aborted → Learns s u o → Learns s u Abort
          aborts Abort e l = l
          aborts (Commit v) e l = absurd (outcomes_differ e)

-- Wholeness, read off what is kept.
use Rattle.std.proofs.Common.{◌≡◌, ℕ, ◌<◌, ◌≤◌, List, [], ◌∷◌, ◌++◌, refl, sym, ap, ◌∙◌, subst, Bool, true, false, Option, Some, None, arith, ◌⊎◌, inl, inr, ⊎_elim, true≢false}
use Rattle.std.specs.Prelude.{is_some, ◌==◌, ◌||◌, nat_lt}
use Rattle.std.specs.Ordering.{nat_cmp}
use Rattle.std.proofs.lemmas.Bool.{eqb-true, ltb-true, ltb-false}
use Rattle.rc_ids.specs.Tables.{In, found, nth}
use Rattle.rc_ids.specs.Cluster.{Layout, IsLayout}
use Rattle.rc_ids.specs.declared.names.Outcome.{Outcome}
use Rattle.rc_ids.specs.declared.names.Outcome.TheVariants.{Commit as Committed}
use Rattle.rc_body.specs.Decisions.{outcome_of}
use Rattle.rc_body.specs.declared.entry.Entry.{Entry}
use Rattle.rc_body.specs.declared.decision.Decision.{Decision}
use Rattle.rc_body.specs.declared.decision.Decision.TheVariants.{Commit, Abort}
use Rattle.rc_protocol.specs.Nodes.{CoordNode, ShardNode}
use Rattle.rc_protocol.specs.Shard.{concerns}
use Rattle.rc_runs.specs.Votes.{is_listed}
use Rattle.rc_runs.specs.World.{World}
use Rattle.rc_agreement.proofs.PlainLives.{IsPlainLife}
use Rattle.rc_claims.specs.Whole.{HasOrGets, IsWhole, AppliedIsWhole, IsCaughtUp}
use Rattle.rc_agreement.proofs.Tables.{in_left, in_right}
use Rattle.rc_agreement.proofs.Places.{node_is, server_is, listed_there}
use Rattle.rc_agreement.proofs.Cases.{or_case}
use Rattle.rc_agreement.proofs.Scenes.{Scene, scene, at, shard_in}
use Rattle.rc_agreement.proofs.Ballots.{Vote, one_body}
use Rattle.rc_agreement.proofs.Agreeing.{AllAgree, laws_at}
use Rattle.rc_agreement.proofs.Choices.{chosen_of}
use Rattle.rc_agreement.proofs.Learning.{Learns, learned_choice}
use Rattle.rc_agreement.proofs.Ghosts.{with_ghosts, Ghost}
use Rattle.rc_wholeness.proofs.Pages.{nth_left, in_nth, nth_in}
use Rattle.rc_wholeness.proofs.Cited.{differ, Cited, proposed, one_decision}
use Rattle.rc_wholeness.proofs.CitedLives.{Kept, life_kept}

listed_body : (t : ℕ) (xs : List (ℕ × List Entry)) → is_listed xs t ≡ true → (body : List Entry) × In (t, body) xs
listed_body t [] e = absurd (true≢false (sym e))
listed_body t (x ∷ xs) e = go (x.0 == t) refl (listed_body t xs) e
  where
    go : (b : Bool) → (x.0 == t) ≡ b → (is_listed xs t ≡ true → (body : List Entry) × In (t, body) xs) → (b || is_listed xs t) ≡ true → (body : List Entry) × In (t, body) (x ∷ xs)
    go true k rest h = let n : x.0 ≡ t = eqb-true x.0 t k in (x.1, inl (λ i. (n i, x.1)))
    go false k rest h = let r = rest h in (r.0, inr r.1)

below : (a b : ℕ) → (a < b) ⊎ (b ≤ a)
below a b = go (nat_lt a b) refl
  where
    go : (v : Bool) → nat_lt a b ≡ v → (a < b) ⊎ (b ≤ a)
    go true is = inl (ltb-true a b is)
    go false is = inr (ltb-false a b is)

module _ (c : Layout) (lay : IsLayout c) (s : Scene) (p : Kept c s) where
  agree : AllAgree c s
  agree = p.0.0.0.0

  cited : Cited s
  cited = p.0.1

  learned : (d t : ℕ) (o : Decision) → In (t, o) (at s d).durable.outcomes → Learns s t o
  learned d t o i = p.0.0.0.1.lists d t o i

  -- an entry below the place of a shard that it has to finish
  pub caught : (d sh n t : ℕ) (o : Decision) → nth (at s d).durable.outcomes n ≡ Some (t, o) → n < (shard_in s d sh).volatile.cursor → concerns s.parties.layout sh o ≡ true
      → found nat_cmp (shard_in s d sh).durable.finished t ≡ Some (outcome_of o)
  caught d sh n t o e lt mine =
      let h = cited.places d sh in
      let m = h.many in
      let i = nth_left h.passed h.rest n (t, o) (omega (arith, m, lt)) (subst (λ (l : List (ℕ × Decision)). nth l n ≡ Some (t, o)) h.is e) in
      go (found nat_cmp (shard_in s d sh).durable.finished t) refl (h.each t o i mine)
    where
      go : (q : Option Outcome) → found nat_cmp (shard_in s d sh).durable.finished t ≡ q → is_some q ≡ true → q ≡ Some (outcome_of o)
      go None is f = absurd (true≢false (sym f))
      go (Some b) is f =
          let x = cited.ends d sh t b is in
          let same : x.0 ≡ o = one_decision c lay s agree t x.0 o (learned d t x.0 x.1) (learned d t o (nth_in (at s d).durable.outcomes n (t, o) e)) in
          ap (λ z. Some z) (sym x.2 ∙ ap outcome_of same)

  -- a chosen commit stands in the order, or in what the logs had, with the body that is learned
  pub ordered_with : (t : ℕ) (body : List Entry) → Learns s t (Commit body) → In (t, body) (s.parties.start.committed ++ s.parties.committed)
  ordered_with t body l =
      let q = laws_at c lay t s (agree t) in
      ⊎_elim
      (λ (e : is_listed s.parties.start.committed t ≡ true).
      let x = listed_body t s.parties.start.committed e in
      let v = p.1.each t x.0 x.1 in
      in_left (t, body) s.parties.start.committed s.parties.committed (subst (λ b. In (t, b) s.parties.start.committed) (same x.0 v.0 v.1 v.2) x.1))
      (λ (e : is_listed s.parties.committed t ≡ true).
      let x = listed_body t s.parties.committed e in
      let v = p.0.0.1.chosen t x.0 x.1 in
      in_right (t, body) s.parties.start.committed s.parties.committed (subst (λ b. In (t, b) s.parties.committed) (same x.0 v.voter v.ballot v.vote) x.1))
      (or_case _ _ (p.0.0.1.all t (chosen_of t s Committed q (learned_choice s t (Commit body) l))))
    where
      same : (x : List Entry) (d b : ℕ) → Vote t s d b (Commit x) → x ≡ body
      same x d b v = let m = proposed c lay s agree t (Commit body) l in one_body c t s (agree t) b m.0 x body (((agree t).coords d).voted b (Commit x) v) m.1

module _ (c : Layout) (lay : IsLayout c) (earlier : List World) (w : World) (life : IsPlainLife c earlier w) where
  g : Ghost (Kept c) (scene w)
  g = life_kept c lay earlier w life

  abbrev s : Ghost (Kept c) (scene w) → Scene
  s g = with_ghosts (scene w) g.clients g.sent

  pub is_caught_up : IsCaughtUp w
  is_caught_up d sh n t y x o here there e lt mine =
      let a = node_is w.parties d y here in
      let b = server_is w.parties d sh x there in
      subst (λ (n : ShardNode). found nat_cmp n.durable.finished t ≡ Some (outcome_of o)) b
      (caught c lay (s g) g.holds d sh n t o (subst (λ (z : CoordNode). nth z.durable.outcomes n ≡ Some (t, o)) (sym a) e) (subst (λ (z : ShardNode). n < z.volatile.cursor) (sym b) lt) mine)

  whole : (d t : ℕ) (o : Decision) → outcome_of o ≡ Committed → In (t, o) (at (scene w) d).durable.outcomes → IsWhole w d t
  whole d t Abort e i = absurd (differ (sym e))
  whole d t (Commit body) e i =
      let l = g.holds.0.0.0.1.lists d t (Commit body) i in
      let q = laws_at c lay t (s g) (g.holds.0.0.0.0 t) in
      let n = in_nth (at (scene w) d).durable.outcomes (t, Commit body) i in
      record {
        chosen = chosen_of t (s g) Committed q (learned_choice (s g) t (Commit body) l);
        coord = at (scene w) d;
        is = listed_there w.parties d (t, Commit body) i;
        body = body;
        committed = ordered_with c lay (s g) g.holds t body l;
        place = n.0;
        listed = n.1;
        others = λ sh x is touch.
            let b = server_is w.parties d sh x is in
            subst (λ (z : ShardNode). HasOrGets z t n.0) b
            (⊎_elim (λ (lt : n.0 < (shard_in (s g) d sh).volatile.cursor). inl (caught c lay (s g) g.holds d sh n.0 t (Commit body) n.1 lt touch)) inr (below n.0 (shard_in (s g) d sh).volatile.cursor));
      }

  pub applied_is_whole : AppliedIsWhole w
  applied_is_whole d sh t x is fin =
      let e = g.holds.0.1.ends d sh t Committed (subst (λ (z : ShardNode). found nat_cmp z.durable.finished t ≡ Some Committed) (sym (server_is w.parties d sh x is)) fin) in
      whole d t e.0 e.2 e.1

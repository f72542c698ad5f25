-- Why aborts are printed, in every plain life.
use Rattle.std.proofs.Common.{◌≡◌, ℕ, List, [], ◌∷◌, refl, sym, ap, ◌∙◌, subst, Bool, true, false, Some, None, ◌⊎◌, inl, inr, ⊎_elim, true≢false}
use Rattle.std.specs.Prelude.{◌||◌, is_some}
use Rattle.std.specs.Ordering.{nat_cmp}
use Rattle.rc_ids.specs.Tables.{Table, In, found, put, member}
use Rattle.rc_ids.specs.Cluster.{Layout, IsLayout}
use Rattle.rc_ids.specs.declared.names.Outcome.TheVariants.{Abort as Aborted}
use Rattle.rc_body.specs.Decisions.{outcome_of}
use Rattle.rc_body.specs.declared.decision.Decision.{Decision}
use Rattle.rc_body.specs.declared.decision.Decision.TheVariants.{Commit, Abort}
use Rattle.rc_record.specs.declared.record.Record.{Record}
use Rattle.rc_record.specs.declared.record.Record.TheVariants.{Accepted}
use Rattle.rc_protocol.specs.Client.{Client, new_client}
use Rattle.rc_protocol.specs.Acts.{client_by_row}
use Rattle.rc_protocol.specs.Nodes.{coord_started}
use Rattle.rc_runs.specs.Votes.{IsChosen}
use Rattle.rc_runs.specs.World.{World, Parties, Start, replaced, new_world}
use Rattle.rc_runs.specs.Refusals.{Happening, after_event, run}
use Rattle.rc_claims.specs.Outcomes.{Chosen}
use Rattle.rc_claims.specs.Lives.{IsStartOf}
use Rattle.rc_agreement.proofs.PlainLives.{IsPlainLife, First, Next, reopened}
use Rattle.rc_agreement.proofs.Cases.{never}
use Rattle.rc_agreement.proofs.Tables.{put_cases, set_cases}
use Rattle.rc_agreement.proofs.Places.{node_at, node_is, logged_there}
use Rattle.rc_agreement.proofs.Scenes.{Scene, scene, Keeps, event_keeps, run_keeps}
use Rattle.rc_agreement.proofs.Agreeing.{laws_at, new_node}
use Rattle.rc_agreement.proofs.Choices.{Choice, choice_of}
use Rattle.rc_agreement.proofs.Named.{vote_names, coord_named}
use Rattle.rc_agreement.proofs.Ghosts.{with_ghosts, Ghost, ghosts_kept}
use Rattle.rc_agreement.proofs.Reopened.{Whole, at_open}
use Rattle.rc_agreement.proofs.Lives.{whole_kept, life_holds}
use Rattle.rc_causes.specs.Aborts.{AbortsHaveCauses}
use Rattle.rc_causes.proofs.Clear.{NodeClear, Clear}
use Rattle.rc_causes.proofs.Aborting.{State, run_state}
use Rattle.rc_causes.proofs.Telling.{TellsNow, told_now, Lives, chosen_now}

-- a world as a plain life begins
pub data BeginsPlainly (c : Layout) : World → Type 0 where
  New : BeginsPlainly c (new_world c)
  Again : (earlier : List World) (v : World) (start : Start) → IsPlainLife c earlier v → IsStartOf v start → BeginsPlainly c (reopened v start)

-- TRANSACTIONS THAT LOGS NAME have no client
abbrev Gone : ℕ → Scene → Type 0
Gone t s = (member nat_cmp s.parties.start.named t ≡ true) × (found nat_cmp s.parties.clients t ≡ None)

named_begun : (a b : Bool) → a ≡ true → (a || b) ≡ false → ⊥
named_begun true b is no_is = true≢false no_is
named_begun false b is no_is = true≢false (sym is)

gone_kept : (t : ℕ) → Keeps (Gone t)
gone_kept t =
    record {
      turns = λ s d k there due p. (p.0, p.1);
      stops = λ s d r there half p. (p.0, p.1);
      starts = λ s d there p. (p.0, p.1);
      serves = λ s d sh k there due p. (p.0, p.1);
      halts = λ s d sh r there half p. (p.0, p.1);
      wakes = λ s d sh there p. (p.0, p.1);
      begins = λ s u new p. (
        p.0,
        ⊎_elim
            (λ (same : (t ≡ u) × (found nat_cmp (put nat_cmp s.parties.clients u new_client) t ≡ Some new_client)).
            absurd (named_begun (member nat_cmp s.parties.start.named u) (is_some (found nat_cmp s.parties.clients u)) (subst (λ (n : ℕ). member nat_cmp s.parties.start.named n ≡ true) same.0 p.0) new))
            (λ (other : (t ≡ u → ⊥) × (found nat_cmp (put nat_cmp s.parties.clients u new_client) t ≡ found nat_cmp s.parties.clients t)). other.1 ∙ p.1)
            (put_cases t u new_client s.parties.clients),
      );
      clients = λ s u x k is due p. (p.0, others s.parties.clients u x (client_by_row s.parties.layout u x k).after is p.1);
    }
  where
    others : (clients : Table ℕ Client) (u : ℕ) (x y : Client) → found nat_cmp clients u ≡ Some x → found nat_cmp clients t ≡ None → found nat_cmp (replaced clients u y) t ≡ None
    others clients u x y is none =
        ⊎_elim
        (λ (same : (t ≡ u) × (found nat_cmp (replaced clients u y) t ≡ Some y)). never x (sym none ∙ ap (λ (n : ℕ). found nat_cmp clients n) same.0 ∙ is))
        (λ (other : (t ≡ u → ⊥) × (found nat_cmp (replaced clients u y) t ≡ found nat_cmp clients t)). other.1 ∙ none)
        (set_cases t u y x clients is)

-- AS A LIFE BEGINS
module _ (c : Layout) (lay : IsLayout c) where
  life_of : (w : World) → BeginsPlainly c w → (earlier : List World) × IsPlainLife c earlier w
  life_of _ New = ([], First [])
  life_of _ (Again earlier v start life is_start) = (v ∷ earlier, Next earlier v start [] life is_start)

  started_clear : (t : ℕ) (rs : List Record) → ((b : ℕ) → In (Accepted t b Abort) rs → ⊥) → NodeClear t (coord_started rs)
  started_clear t rs none = record { takes = λ n i. absurd i; votes = none }

  new_clear : (t : ℕ) → Clear t (new_world c).parties []
  new_clear t = record {
    nodes = λ d x is. subst (NodeClear t) (sym (new_node c d) ∙ node_is (new_world c).parties d x is) (started_clear t [] (λ b i. i));
    asked = λ e i. absurd i;
  }

  module _ (earlier : List World) (v : World) (start : Start) (life : IsPlainLife c earlier v) (is_start : IsStartOf v start) where
    g : Ghost (Whole c) (scene v)
    g = life_holds c lay earlier v life

    -- what the log of a node has of t is named
    reopened_clear : (t : ℕ) → (member nat_cmp start.named t ≡ true → ⊥) → Clear t (reopened v start).parties []
    reopened_clear t new = record {
      nodes = λ d x is.
          subst (NodeClear t) (sym (at_open c v start is_start g d) ∙ node_is (reopened v start).parties d x is)
          (started_clear t (node_at v.parties d).log (λ b i. new (is_start.named t (coord_named v.parties d t (Accepted t b Abort) (vote_names t b Abort) i))));
      asked = λ e i. absurd i;
    }

  first_state : (w : World) → BeginsPlainly c w → (t : ℕ) → (Gone t (scene w)) ⊎ State c w t [] [] w.parties w.sent
  first_state _ New t = inr (record { layout = refl; counted = λ x is d i. never x is; clear = inr (new_clear t) })
  first_state _ (Again earlier v start life is_start) t = go (member nat_cmp start.named t) refl
    where
      go : (b : Bool) → member nat_cmp start.named t ≡ b → (Gone t (scene (reopened v start))) ⊎ State c (reopened v start) t [] [] (reopened v start).parties (reopened v start).sent
      go true is = inl (is, refl)
      go false is = inr (record {
        layout = ((life_holds c lay earlier v life).holds.0.0 t).layout;
        counted = λ x its d i. never x its;
        clear = inr (reopened_clear earlier v start life is_start t (λ e. true≢false (sym e ∙ is)));
      })

  -- a chosen abort has a vote
  abort_is : (o : Decision) → outcome_of o ≡ Aborted → o ≡ Abort
  abort_is Abort e = refl
  abort_is (Commit body) e = cc

  no_choice : (w : World) → Lives c lay w → (t : ℕ) → Clear t w.parties w.sent → Chosen w Aborted t → ⊥
  no_choice w g t clear chosen =
      let s : Scene = with_ghosts (scene w) g.clients g.sent in
      let h : Choice t (scene w) Aborted = choice_of t (scene w) Aborted chosen in
      let m = (laws_at c lay t s (g.holds.0.0 t)).share h.set h.set h.enough h.enough in
      let vote = h.votes m.0 m.1 in
      let abort : In (Accepted t h.ballot Abort) (node_at w.parties m.0).log = subst (λ (o : Decision). In (Accepted t h.ballot o) (node_at w.parties m.0).log) (abort_is vote.0 vote.1) vote.2 in
      (clear.nodes m.0 (node_at w.parties m.0) (logged_there w.parties m.0 (Accepted t h.ballot Abort) abort)).votes h.ballot abort

  pub aborts_have_causes : (w : World) → BeginsPlainly c w → (before : List Happening) (now : Happening) → AbortsHaveCauses c w before now
  aborts_have_causes w begins before now t i =
      let life = life_of w begins in
      let v : World = run w before in
      let g : Lives c lay v = run_keeps (Ghost (Whole c)) (ghosts_kept (Whole c) (whole_kept c lay)) w before (life_holds c lay life.0 w life.1) in
      let told : TellsNow v.parties t Aborted (after_event v now).parties = told_now v now t Aborted i in
      let chosen : Chosen v Aborted t = chosen_before v told (chosen_now c lay v now g t Aborted i) in (
        chosen,
        ⊎_elim
            (λ (gone : Gone t (scene w)). absurd (still_gone v told (run_keeps (Gone t) (gone_kept t) w before gone)))
            (λ (s : State c w t [] [] w.parties w.sent). ⊎_elim (λ k. k) (λ (q : Clear t v.parties v.sent). absurd (no_choice v g t q chosen)) (run_state c w t before [] [] w refl s).clear)
            (first_state w begins t),
      )
    where
      chosen_before : (v : World) → TellsNow v.parties t Aborted (after_event v now).parties → Chosen (after_event v now) Aborted t → Chosen v Aborted t
      chosen_before v told h = subst (λ (p : Parties). IsChosen p.layout p.coords Aborted t) told.rest h

      still_gone : (v : World) → TellsNow v.parties t Aborted (after_event v now).parties → Gone t (scene v) → ⊥
      still_gone v told gone = let after = event_keeps (Gone t) (gone_kept t) v now gone in never told.client (sym after.1 ∙ told.is)

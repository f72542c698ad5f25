-- Each outcome that is printed is chosen.
use Rattle.std.proofs.Common.{◌≡◌, ℕ, List, [], ◌∷◌, refl, sym, subst, Bool, true, false, cond, Some, ⊎_elim}
use Rattle.std.specs.Ordering.{nat_cmp}
use Rattle.rc_ids.specs.Tables.{In, found}
use Rattle.rc_ids.specs.Cluster.{Layout, IsLayout}
use Rattle.rc_ids.specs.declared.names.NodeId.{NodeId}
use Rattle.rc_ids.specs.declared.names.NodeId.TheVariants.{Coord, Shard as ShardServer}
use Rattle.rc_ids.specs.declared.names.Outcome.{Outcome}
use Rattle.rc_body.specs.Decisions.{outcome_of}
use Rattle.rc_body.specs.declared.decision.Decision.{Decision}
use Rattle.rc_report.specs.declared.line.Line.TheVariants.{Learned, Stopped, Up}
use Rattle.rc_runs.specs.declared.event.Event.{Event}
use Rattle.rc_runs.specs.declared.event.Event.TheVariants.{Restart}
use Rattle.rc_protocol.specs.Client.{Client, ClientAct}
use Rattle.rc_protocol.specs.Acts.{client_act}
use Rattle.rc_runs.specs.World.{World, Parties, Deed, ByClient, replaced, after_begin, parties_after, restart_lines, lines_of, course_deed, step, printed}
use Rattle.rc_runs.specs.Refusals.{Happening, is_event, after_event, lines_at, lines}
use Rattle.rc_claims.specs.Outcomes.{Chosen}
use Rattle.rc_agreement.proofs.PlainLives.{IsPlainLife}
use Rattle.rc_agreement.proofs.Tables.{in_either, set_cases}
use Rattle.rc_agreement.proofs.Scenes.{Scene, scene, event_keeps}
use Rattle.rc_agreement.proofs.Agreeing.{laws_at}
use Rattle.rc_agreement.proofs.Choices.{ChosenIn, chosen_of}
use Rattle.rc_agreement.proofs.Learning.{Learns, learned_choice}
use Rattle.rc_agreement.proofs.Stays.{chosen_stays}
use Rattle.rc_agreement.proofs.Ghosts.{with_ghosts, Ghost, ghosts_kept}
use Rattle.rc_agreement.proofs.Reopened.{Whole}
use Rattle.rc_agreement.proofs.Lives.{whole_kept, life_holds}
use Rattle.rc_agreement.proofs.ClientLines.{act_prints}
use Rattle.rc_causes.specs.Moments.{PrintsNow}
use Rattle.rc_causes.specs.Printed.{PrintedIsChosen}
use Rattle.rc_causes.proofs.Moves.{Move, Rests, ClientActs, CoordActs, CoordWakes, CoordHalts, CoordCrashes, ShardActs, ShardWakes, ShardHalts, ShardCrashes, move_of, client_joins}

-- t's client holds the outcome, and the client alone changed
pub record TellsNow (w : Parties) (t : ℕ) (outcome : Outcome) (after : Parties) : Type 0 where
  pub client : Client
  pub is : found nat_cmp after.clients t ≡ Some client
  pub decision : Decision
  pub held : client.outcome ≡ Some decision
  pub same : outcome_of decision ≡ outcome
  pub rest : after ≡ record w { clients = after.clients }

stop_other : (node : NodeId) (t : ℕ) (outcome : Outcome) → In (Learned t outcome) (Stopped node ∷ []) → ⊥
stop_other node t outcome i = ⊎_elim (λ (e : Stopped node ≡ Learned t outcome). absurd (cc)) (λ n. n) i

by_move : (w : World) (h : Happening) (t : ℕ) (outcome : Outcome) (d : Deed) → Move w.parties w.sent h.0 h.1 d → In (Learned t outcome) (lines_of d) → TellsNow w.parties t outcome (parties_after (after_begin w.parties h.0) d)
by_move w h t outcome _ Rests i = absurd i
by_move w h t outcome _ (ClientActs u x k is why) i =
    let a : ClientAct = client_act w.parties.layout u x k in
    let p = (act_prints w.parties.layout u x k).each t outcome i in
    subst (λ (y : Parties). TellsNow w.parties t outcome (parties_after y (ByClient u a))) (sym (client_joins w.parties w.sent h.0 u k why))
    (⊎_elim
    (λ (e : (t ≡ u) × (found nat_cmp (replaced w.parties.clients u a.after) t ≡ Some a.after)). record { client = a.after; is = e.1; decision = p.1; held = p.2; same = p.3; rest = refl })
    (λ (e : (t ≡ u → ⊥) × (found nat_cmp (replaced w.parties.clients u a.after) t ≡ found nat_cmp w.parties.clients t)). absurd (e.0 p.0))
    (set_cases t u a.after x w.parties.clients is))
by_move w h t outcome _ (CoordActs d x k there why) i = absurd i
by_move w h t outcome _ (CoordWakes d x there why) i = absurd i
by_move w h t outcome _ (CoordHalts d x k kept r there why logs course same) i = absurd (stop_other (Coord d) t outcome i)
by_move w h t outcome _ (CoordCrashes d x there why) i = absurd (stop_other (Coord d) t outcome i)
by_move w h t outcome _ (ShardActs d s x k there why) i = absurd i
by_move w h t outcome _ (ShardWakes d s x there why) i = absurd i
by_move w h t outcome _ (ShardHalts d s x k kept r there why logs course same) i = absurd (stop_other (ShardServer d s) t outcome i)
by_move w h t outcome _ (ShardCrashes d s x there why) i = absurd (stop_other (ShardServer d s) t outcome i)

starts_other : (e : Event) (t : ℕ) (outcome : Outcome) → In (Learned t outcome) (restart_lines e) → ⊥
starts_other (Restart node) t outcome i = ⊎_elim (λ (e : Up node ≡ Learned t outcome). absurd (cc)) (λ n. n) i
starts_other _ t outcome i = i

pub told_now : (w : World) (h : Happening) (t : ℕ) (outcome : Outcome) → PrintsNow w h (Learned t outcome) → TellsNow w.parties t outcome (after_event w h).parties
told_now w h t outcome i = go (is_event w h) i
  where
    go : (b : Bool) → In (Learned t outcome) (cond b (printed w h.0 h.1) []) → TellsNow w.parties t outcome (cond b (step w h.0 h.1) w).parties
    go true i =
        ⊎_elim
        (λ (k : In (Learned t outcome) (restart_lines h.0)). absurd (starts_other h.0 t outcome k))
        (λ (k : In (Learned t outcome) (lines_of (course_deed w h.0 h.1))). by_move w h t outcome _ (move_of w.parties w.sent h.0 h.1) k)
        (in_either (Learned t outcome) (restart_lines h.0) (lines_of (course_deed w h.0 h.1)) i)
    go false i = absurd i

module _ (c : Layout) (lay : IsLayout c) where
  abbrev pub Lives : World → Type 0
  Lives w = Ghost (Whole c) (scene w)

  pub lives_on : (w : World) (h : Happening) → Lives w → Lives (after_event w h)
  lives_on w h g = event_keeps (Ghost (Whole c)) (ghosts_kept (Whole c) (whole_kept c lay)) w h g

  -- it is chosen as the line is printed
  pub chosen_now : (w : World) (h : Happening) → Lives w → (t : ℕ) (outcome : Outcome) → PrintsNow w h (Learned t outcome) → Chosen (after_event w h) outcome t
  chosen_now w h g t outcome i =
      let v : World = after_event w h in
      let g2 : Lives v = lives_on w h g in
      let s : Scene = with_ghosts (scene v) g2.clients g2.sent in
      let n = told_now w h t outcome i in
      let l : Learns s t n.decision = g2.holds.0.1.outcomes t n.client n.decision (g2.known t n.client n.is) n.held in
      subst (λ (o : Outcome). ChosenIn s o t) n.same (chosen_of t s (outcome_of n.decision) (laws_at c lay t s (g2.holds.0.0 t)) (learned_choice s t n.decision l))

  all_chosen : (w : World) (hs : List Happening) → Lives w → PrintedIsChosen w hs
  all_chosen w [] g t outcome i = absurd i
  all_chosen w (h ∷ hs) g t outcome i =
      let v : World = after_event w h in
      let g2 : Lives v = lives_on w h g in
      ⊎_elim
      (λ (now : In (Learned t outcome) (lines_at w h)). chosen_stays v hs g2.holds.1.layout outcome t (chosen_now w h g t outcome now))
      (λ (later : In (Learned t outcome) (lines v hs)). all_chosen v hs g2 t outcome later)
      (in_either (Learned t outcome) (lines_at w h) (lines v hs) i)

  pub printed_is_chosen : (earlier : List World) (w : World) → IsPlainLife c earlier w → (later : List Happening) → PrintedIsChosen w later
  printed_is_chosen earlier w life later = all_chosen w later (life_holds c lay earlier w life)

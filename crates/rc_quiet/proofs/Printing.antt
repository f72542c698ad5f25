-- Where the client of t becomes done in a stretch, its outcome is printed.
use Rattle.std.proofs.Common.{◌≡◌, ℕ, List, [], ◌∷◌, ◌++◌, refl, sym, ap, ◌∙◌, subst, Bool, true, false, cond, Option, Some, None, inr, true≢false}
use Rattle.std.specs.Ordering.{nat_cmp}
use Rattle.rc_ids.specs.Tables.{In, found, maybe, member}
use Rattle.rc_ids.specs.declared.names.Outcome.{Outcome}
use Rattle.rc_ids.specs.declared.names.Outcome.TheVariants.{Commit as Committed}
use Rattle.rc_body.specs.Decisions.{outcome_of}
use Rattle.rc_body.specs.declared.decision.Decision.{Decision}
use Rattle.rc_report.specs.declared.line.Line.TheVariants.{Learned}
use Rattle.rc_report.specs.declared.fault.Wrong.TheVariants.{NotBegun, Vanished as HasVanished}
use Rattle.rc_protocol.specs.Client.{Client, NotOpen as IsNotOpen, is_open, is_done, is_vanished}
use Rattle.rc_protocol.specs.Acts.{Commits, refusal}
use Rattle.rc_runs.specs.declared.event.Event.TheVariants.{Commit}
use Rattle.rc_runs.specs.World.{World, Deed, restart_lines, lines_of, course_deed, printed, step}
use Rattle.rc_runs.specs.Refusals.{Happening, name_of, wrong, wrong_of, is_event, after_event, run, lines_at, lines}
use Rattle.rc_claims.specs.Quiet.{moments}
use Rattle.rc_agreement.proofs.Cases.{on_cond, never, some_is}
use Rattle.rc_agreement.proofs.Tables.{in_left, in_right}
use Rattle.rc_quiet.proofs.Stretches.{now_in}
use Rattle.rc_quiet.proofs.ClientDone.{done_prints}
use Rattle.rc_quiet.proofs.ClientAfter.{Becomes, Rested, Acted, client_after}
use Rattle.rc_quiet.proofs.EventSteps.{event_ok}

-- one event
done_now : (t : ℕ) (v : World) (h : Happening) → is_event v h ≡ true → (x : Client) → found nat_cmp v.parties.clients t ≡ Some x → is_done x.phase ≡ false
    → (y : Client) → found nat_cmp (step v h.0 h.1).parties.clients t ≡ Some y → is_done y.phase ≡ true → (o : Decision) × (y.outcome ≡ Some o) × In (Learned t (outcome_of o)) (printed v h.0 h.1)
done_now t v h ok x is n y at done =
    let r = client_after t v h.0 h.1 (event_ok v h ok).0 x is in
    let same : r.0 ≡ y = some_is r.0 y (sym r.1 ∙ at) in
    subst (λ (z : Client). (o : Decision) × (z.outcome ≡ Some o) × In (Learned t (outcome_of o)) (printed v h.0 h.1)) same (by r.0 r.2 (subst (λ (z : Client). is_done z.phase ≡ true) (sym same) done))
  where
    by : (z : Client) → Becomes v h.0 (course_deed v h.0 h.1) t x z → is_done z.phase ≡ true → (o : Decision) × (z.outcome ≡ Some o) × In (Learned t (outcome_of o)) (printed v h.0 h.1)
    by z (Rested e) d = absurd (true≢false (sym d ∙ ap (λ (q : Client). is_done q.phase) e ∙ n))
    by z (Acted k why e deed_is) d =
        let p = done_prints v.parties.layout t x n k (subst (λ (q : Client). is_done q.phase ≡ true) e d) in
        (p.0, ap (λ (q : Client). q.outcome) e ∙ p.1, in_right (Learned t (outcome_of p.0)) (restart_lines h.0) (lines_of (course_deed v h.0 h.1)) (subst (λ (q : Deed). In (Learned t (outcome_of p.0)) (lines_of q)) (sym deed_is) p.2))

-- over the stretch; what the client holds that is done is a commit
pub done_over : (t : ℕ) (w : World) (hs : List Happening) → ((v : World) (y : Client) (o : Decision) → In v (moments w hs) → found nat_cmp v.parties.clients t ≡ Some y → y.outcome ≡ Some o → outcome_of o ≡ Committed)
    → (x : Client) → found nat_cmp w.parties.clients t ≡ Some x → is_done x.phase ≡ false → (y : Client) → found nat_cmp (run w hs).parties.clients t ≡ Some y → is_done y.phase ≡ true → In (Learned t Committed) (lines w hs)
done_over t w [] commits x is n y at done = absurd (true≢false (sym done ∙ ap (λ (q : Client). is_done q.phase) (some_is y x (sym at ∙ is)) ∙ n))
done_over t w (h ∷ hs) commits x is n y at done = go (is_event w h) refl (done_over t (after_event w h) hs (λ v z o i. commits v z o (inr i)))
  where
    go : (b : Bool) → is_event w h ≡ b
        → ((z : Client) → found nat_cmp (after_event w h).parties.clients t ≡ Some z → is_done z.phase ≡ false → (q : Client) → found nat_cmp (run (after_event w h) hs).parties.clients t ≡ Some q → is_done q.phase ≡ true → In (Learned t Committed) (lines (after_event w h) hs))
        → In (Learned t Committed) (lines_at w h ++ lines (after_event w h) hs)
    go false e rest =
        let same : after_event w h ≡ w = ap (λ (b : Bool). cond b (step w h.0 h.1) w) e in
        in_right (Learned t Committed) (lines_at w h) (lines (after_event w h) hs) (rest x (subst (λ (v : World). found nat_cmp v.parties.clients t ≡ Some x) (sym same) is) n y at done)
    go true e rest =
        let same : after_event w h ≡ step w h.0 h.1 = ap (λ (b : Bool). cond b (step w h.0 h.1) w) e in
        let r = client_after t w h.0 h.1 (event_ok w h e).0 x is in
        now r.0 r.1 (is_done r.0.phase) refl same
      where
        now : (z : Client) → found nat_cmp (step w h.0 h.1).parties.clients t ≡ Some z → (b : Bool) → is_done z.phase ≡ b → after_event w h ≡ step w h.0 h.1 → In (Learned t Committed) (lines_at w h ++ lines (after_event w h) hs)
        now z is2 true d same =
            let p = done_now t w h e x is n z is2 d in
            let c = commits (after_event w h) z p.0 (inr (now_in (after_event w h) hs)) (subst (λ (v : World). found nat_cmp v.parties.clients t ≡ Some z) (sym same) is2) p.1 in
            let line : In (Learned t Committed) (printed w h.0 h.1) = subst (λ (o : Outcome). In (Learned t o) (printed w h.0 h.1)) c p.2 in
            in_left (Learned t Committed) (lines_at w h) (lines (after_event w h) hs) (subst (λ (b : Bool). In (Learned t Committed) (cond b (printed w h.0 h.1) [])) (sym e) line)
        now z is2 false d same = in_right (Learned t Committed) (lines_at w h) (lines (after_event w h) hs) (rest z (subst (λ (v : World). found nat_cmp v.parties.clients t ≡ Some z) (sym same) is2) d y at done)

-- THE COMMIT
-- a commit that is no wrong name is of an open client
pub commit_client : (v : World) (t : ℕ) → wrong v (Commit t) ≡ None → (x : Client) × (found nat_cmp v.parties.clients t ≡ Some x) × (refusal x Commits ≡ None) × (is_open x.phase ≡ true)
commit_client v t ok = on_cond (λ o. o ≡ None → Result) (member nat_cmp v.parties.start.named t) (Some (HasVanished t)) (maybe (found nat_cmp v.parties.clients t) (Some (NotBegun t)) (λ x. wrong_of t x Commits)) (λ _ e. never _ (sym e)) (λ _ e. there (found nat_cmp v.parties.clients t) refl e) ok
  where
    Result : Type 0
    Result = (x : Client) × (found nat_cmp v.parties.clients t ≡ Some x) × (refusal x Commits ≡ None) × (is_open x.phase ≡ true)

    opened : (x : Client) (b : Bool) → is_open x.phase ≡ b → maybe (cond b None (Some IsNotOpen)) None (name_of t) ≡ None → (cond b None (Some IsNotOpen) ≡ None) × (b ≡ true)
    opened x true is e = (refl, refl)
    opened x false is e = never _ (sym e)

    there : (o : Option Client) → found nat_cmp v.parties.clients t ≡ o → maybe o (Some (NotBegun t)) (λ x. wrong_of t x Commits) ≡ None → Result
    there None is e = never _ (sym e)
    there (Some x) is e =
        let f = on_cond (λ o. o ≡ None → maybe (refusal x Commits) None (name_of t) ≡ None) (is_vanished x.phase) (Some (HasVanished t)) (maybe (refusal x Commits) None (name_of t)) (λ _ k. never _ (sym k)) (λ _ k. k) e in
        let r = opened x (is_open x.phase) refl f in
        (x, is, r.0, r.1)

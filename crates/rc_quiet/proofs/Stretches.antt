-- An induction over a stretch: each event has its premises at both of its ends. And what lies before and behind a moment.
use Rattle.std.proofs.Common.{◌≡◌, List, [], ◌∷◌, refl, sym, ap, subst, Bool, true, false, cond, inl, inr, ⊎_elim}
use Rattle.rc_ids.specs.Tables.{In}
use Rattle.rc_runs.specs.World.{World, step}
use Rattle.rc_report.specs.declared.line.Line.{Line}
use Rattle.rc_runs.specs.Refusals.{Happening, is_event, after_event, run, lines_at, lines}
use Rattle.rc_claims.specs.Quiet.{moments, events_of}
use Rattle.rc_agreement.proofs.Tables.{in_left, in_right, in_either}

pub now_in : (w : World) (hs : List Happening) → In w (moments w hs)
now_in w [] = inl refl
now_in w (h ∷ hs) = inl refl

pub end_in : (w : World) (hs : List Happening) → In (run w hs) (moments w hs)
end_in w [] = inl refl
end_in w (h ∷ hs) = inr (end_in (after_event w h) hs)

-- the events behind the first happening
later_in : (w : World) (h : Happening) (hs : List Happening) (v : World) (k : Happening) → In (v, k) (events_of (after_event w h) hs) → In (v, k) (events_of w (h ∷ hs))
later_in w h hs v k i = in_right {A = World × Happening} (v, k) (cond (is_event w h) ((w, h) ∷ []) []) (events_of (after_event w h) hs) i

first_in : (w : World) (h : Happening) (hs : List Happening) → is_event w h ≡ true → In (w, h) (events_of w (h ∷ hs))
first_in w h hs e =
    in_left {A = World × Happening} (w, h) (cond (is_event w h) ((w, h) ∷ []) []) (events_of (after_event w h) hs)
    (subst (λ (b : Bool). In {A = World × Happening} (w, h) (cond b ((w, h) ∷ []) [])) (sym e) (inl refl))

-- M is the premise on each moment, E that on each event
module _ (M : World → Type 0) (E : World → Happening → Type 0) (P : World → Type 0)
    (keeps : (v : World) (h : Happening) → is_event v h ≡ true → M v → M (step v h.0 h.1) → E v h → P v → P (step v h.0 h.1)) where
  pub over : (w : World) (hs : List Happening) → ((v : World) → In v (moments w hs) → M v) → ((v : World) (h : Happening) → In (v, h) (events_of w hs) → E v h) → P w → P (run w hs)
  over w [] ms es p = p
  over w (h ∷ hs) ms es p = over (after_event w h) hs (λ v i. ms v (inr i)) (λ v k i. es v k (later_in w h hs v k i)) (go (is_event w h) refl)
    where
      go : (b : Bool) → is_event w h ≡ b → P (after_event w h)
      go false e = subst P (sym (ap (λ (x : Bool). cond x (step w h.0 h.1) w) e)) p
      go true e =
          let next : after_event w h ≡ step w h.0 h.1 = ap (λ (x : Bool). cond x (step w h.0 h.1) w) e in
          subst P (sym next) (keeps w h e (ms w (inl refl)) (subst M next (ms (after_event w h) (inr (now_in (after_event w h) hs)))) (es w h (first_in w h hs e)) p)

  -- and at each moment
  pub over_at : (w : World) (hs : List Happening) → ((v : World) → In v (moments w hs) → M v) → ((v : World) (h : Happening) → In (v, h) (events_of w hs) → E v h) → P w → (v : World) → In v (moments w hs) → P v
  over_at w [] ms es p v i = ⊎_elim (λ (e : w ≡ v). subst P e p) (λ n. absurd n) i
  over_at w (h ∷ hs) ms es p v i =
      ⊎_elim (λ (e : w ≡ v). subst P e p)
      (λ j. over_at (after_event w h) hs (λ x k. ms x (inr k)) (λ x k l. es x k (later_in w h hs x k l)) (next (is_event w h) refl) v j) i
    where
      next : (b : Bool) → is_event w h ≡ b → P (after_event w h)
      next false e = subst P (sym (ap (λ (x : Bool). cond x (step w h.0 h.1) w) e)) p
      next true e =
          let same : after_event w h ≡ step w h.0 h.1 = ap (λ (x : Bool). cond x (step w h.0 h.1) w) e in
          subst P (sym same) (keeps w h e (ms w (inl refl)) (subst M same (ms (after_event w h) (inr (now_in (after_event w h) hs)))) (es w h (first_in w h hs e)) p)

-- what leads to a moment
pub before_moment : (w : World) (hs : List Happening) (v : World) → In v (moments w hs) → (before : List Happening) × (run w before ≡ v)
before_moment w [] v i = ⊎_elim (λ (e : w ≡ v). ([], e)) (λ n. absurd n) i
before_moment w (h ∷ hs) v i = ⊎_elim (λ (e : w ≡ v). ([], e)) (λ j. let r = before_moment (after_event w h) hs v j in (h ∷ r.0, r.1)) i

-- the stretch from a moment on
pub record Rest (w : World) (hs : List Happening) (v : World) : Type 0 where
  pub after : List Happening
  pub ends : run v after ≡ run w hs
  pub moment : (x : World) → In x (moments v after) → In x (moments w hs)
  pub event : (x : World) (h : Happening) → In (x, h) (events_of v after) → In (x, h) (events_of w hs)
  pub line : (l : Line) → In l (lines v after) → In l (lines w hs)

all_rest : (w : World) (hs : List Happening) → Rest w hs w
all_rest w hs = record { after = hs; ends = refl; moment = λ x i. i; event = λ x h i. i; line = λ l i. i }

pub rest_of : (w : World) (hs : List Happening) (v : World) → In v (moments w hs) → Rest w hs v
rest_of w [] v i = ⊎_elim (λ (e : w ≡ v). subst (Rest w []) e (all_rest w [])) (λ n. absurd n) i
rest_of w (h ∷ hs) v i =
    ⊎_elim
    (λ (e : w ≡ v). subst (Rest w (h ∷ hs)) e (all_rest w (h ∷ hs)))
    (λ (j : In v (moments (after_event w h) hs)).
    let r = rest_of (after_event w h) hs v j in
    record { after = r.after; ends = r.ends; moment = λ x k. inr (r.moment x k); event = λ x g k. later_in w h hs x g (r.event x g k); line = λ l k. in_right l (lines_at w h) (lines (after_event w h) hs) (r.line l k) })
    i

-- an event of the stretch, with the moments at both of its ends
pub event_split : (w : World) (hs : List Happening) (v : World) (h : Happening) → In (v, h) (events_of w hs) → (is_event v h ≡ true) × In v (moments w hs) × In (step v h.0 h.1) (moments w hs)
event_split w [] v h i = absurd i
event_split w (k ∷ hs) v h i =
    ⊎_elim
    (λ (j : In (v, h) (cond (is_event w k) ((w, k) ∷ []) [])). now (is_event w k) refl j)
    (λ (j : In (v, h) (events_of (after_event w k) hs)). let r = event_split (after_event w k) hs v h j in (r.0, inr r.1, inr r.2))
    (in_either {A = World × Happening} (v, h) (cond (is_event w k) ((w, k) ∷ []) []) (events_of (after_event w k) hs) i)
  where
    now : (b : Bool) → is_event w k ≡ b → In {A = World × Happening} (v, h) (cond b ((w, k) ∷ []) []) → (is_event v h ≡ true) × In v (moments w (k ∷ hs)) × In (step v h.0 h.1) (moments w (k ∷ hs))
    now false e j = absurd j
    now true e j =
        ⊎_elim
        (λ (same : ◌≡◌ {A = World × Happening} (w, k) (v, h)).
        let a : w ≡ v = ap (λ (x : World × Happening). x.0) same in
        let next : after_event w k ≡ step w k.0 k.1 = ap (λ (x : Bool). cond x (step w k.0 k.1) w) e in
        (subst (λ (x : World × Happening). is_event x.0 x.1 ≡ true) same e, inl a, inr (subst (λ (x : World × Happening). In (step x.0 x.1.0 x.1.1) (moments (after_event w k) hs)) same (subst (λ (x : World). In x (moments (after_event w k) hs)) next (now_in (after_event w k) hs)))))
        (λ n. absurd n) j

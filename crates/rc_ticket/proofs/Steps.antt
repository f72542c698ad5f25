-- Each step of one place keeps the rule.
use Rattle.std.proofs.Common.{◌≡◌, ℕ, ◌+◌, ◌%◌, ◌^◌, ◌<◌, ◌≤◌, ◌≢◌, List, [], ◌∷◌, length, set, refl, ap, sym, ◌∙◌, subst, arith, Option, Some, None}
use Rattle.std.specs.Prelude.{slice_index}
use mathlib.Core.Option.{Option as Maybe, some, none}
use mathlib.Core.Logic.{dite}
use native.Mathlib.Decide.{ℕ_discrete}
use lib.ListN.{get_elem?}
use Rattle.atomic_table.specs.Table.{State, Me, Act, keeps, takes, gives, step, Valid, stepped, carried_after, Allows, rest}
use Rattle.atomic_table.proofs.Lists.{set_again}
use Rattle.rc_ticket.specs.declared.rule.Card.{Card}
use Rattle.rc_ticket.specs.declared.rule.View.{View}
use Rattle.rc_ticket.specs.Cards.{times, card, cards_of, idle, queued, served, is_out}
use Rattle.rc_ticket.specs.Rule.{away, CardsFit, Fits, Holds, Kept}
use Rattle.rc_ticket.specs.Plays.{Drawn, Serves, Looked, Passed}
use Rattle.rc_ticket.proofs.Totals.{total_changed, total_has, total_has_both, total_least, total_gap, each_changed, one_same, one_other}

pub only_item : {A : Type 0} (x y : A) → x ∷ [] ≡ y ∷ [] → x ≡ y
only_item x y e = cc

first_item : {A : Type 0} (x y : A) (xs ys : List A) → x ∷ xs ≡ y ∷ ys → x ≡ y
first_item x y xs ys e = cc

pub some_item : {A : Type 0} (x y : A) → Some x ≡ Some y → x ≡ y
some_item x y e = cc

-- the one slot that a place has
pub took : {A : Type 0} (xs : List (ℕ × A)) (x : ℕ × A) → xs ≡ x ∷ [] → xs ≡ x ∷ rest xs
took xs x e = e ∙ ap (λ r. x ∷ rest r) (sym e)

-- what is found in the slot is what the place has there
pub took_value : {A : Type 0} (xs more : List (ℕ × A)) (x y : A) → xs ≡ (0, x) ∷ [] → xs ≡ (0, y) ∷ more → x ≡ y
took_value {A} xs more x y e f =
    ap (λ (p : ℕ × A). p.1) (first_item (0, x) (0, y) [] more (sym e ∙ f))

-- what a place has once it has emptied its slot
pub emptied : {C X : Type 0} (fits : ℕ → C → ℕ → X → Type 0) (me after : Me (Option C) (View C X)) (c : Card X) (t : ℕ) (y z : C) → me ≡ (served t c y, (0, Some y) ∷ []) → me.1 ≡ (0, Some z) ∷ rest me.1
    → after ≡ (me.0, (0, None) ∷ rest me.1) → fits t y c.seat c.knows → (after ≡ (served t c z, (0, None) ∷ [])) × fits t z c.seat c.knows
emptied {C} {X} fits me after c t y z e f a fit =
    let slot : (0, Some y) ∷ [] ≡ (0, Some z) ∷ rest me.1 = sym (ap (λ (m : Me (Option C) (View C X)). m.1) e) ∙ f in
    let pair : (0, Some y) ≡ (0, Some z) = cc in
    let same : y ≡ z = some_item y z (ap (λ (p : ℕ × Option C). p.1) pair) in (
      a ∙ ap (λ (m : Me (Option C) (View C X)). (m.0, (0, None) ∷ rest m.1)) e ∙ ap (λ (x : C). (served t c x, (0, None) ∷ [])) same,
      subst (λ (x : C). fits t x c.seat c.knows) same fit,
    )

module _ {C X : Type 0} (n : ℕ) (fits : ℕ → C → ℕ → X → Type 0) where
  abbrev Views : Type 0
  Views = List (View C X)

  abbrev pub state : List ℕ → List (Maybe (Option C)) → Views → State (Option C) (View C X)
  state ws hs vs = record { words = ws; homes = hs; views = vs }

  abbrev Moved : (id : ℕ) → Me (Option C) (View C X) → ℕ → (ℕ → ℕ) → (ℕ → Me (Option C) (View C X) → Type 0) → State (Option C) (View C X) → Type 0
  Moved id me i f then s = (w : View C X) × (a : Act (Option C)) × Valid s.homes me.1 a × Kept n fits (stepped s i (f (slice_index s.words i)) id me.1 w a) × then (slice_index s.words i) (w, carried_after me.1 a)

  moved_at : (id : ℕ) (me : Me (Option C) (View C X)) (i : ℕ) (f : ℕ → ℕ) (then : ℕ → Me (Option C) (View C X) → Type 0) (s : State (Option C) (View C X)) (k : Kept n fits s)
      → Moved id me i f then (state (k.ticket ∷ k.serving ∷ []) (k.home ∷ []) s.views) → Moved id me i f then s
  moved_at id me i f then s k m =
      let path : state (k.ticket ∷ k.serving ∷ []) (k.home ∷ []) s.views ≡ s = λ j. state (sym k.words j) (sym k.homes j) s.views in
      subst (Moved id me i f then) path m

  module _ (ticket serving : ℕ) (home : Maybe (Option C)) (value : C) (views : Views) (h : Holds n fits ticket serving home value views) where
    -- fewer tickets wait than there are seats
    ticket_low : ticket < 2 ^ 63
    ticket_low =
        let few = total_least (λ (v : View C X). length v.tickets) (λ (v : View C X). length v.cards) views (λ j u at. (h.each j u at).few) in
        let whole = h.whole in let count = h.count in let small = h.small in let low = h.low in omega arith

    draw_holds : (id : ℕ) (c : Card X) → get_elem? views id ≡ some (idle c) → Holds n fits (ticket + 1) serving home value (set views id (queued ticket c))
    draw_holds id c at =
        let w : View C X = queued ticket c in
        record {
          small = h.small;
          low = h.low;
          waiting = λ t lo hi.
              let s = total_changed (λ (v : View C X). times t v.tickets) views id (idle c) w at in
              dite (ℕ_discrete ticket t)
              (λ e. let o = one_same ticket t e in let z = h.undrawn t (omega arith) in omega arith)
              (λ ne. let o = one_other ticket t ne in let z = h.waiting t lo (omega arith) in omega arith);
          undrawn = λ t lo.
              let s = total_changed (λ (v : View C X). times t v.tickets) views id (idle c) w at in
              let o = one_other ticket t (λ e. absurd (omega arith)) in
              let z = h.undrawn t (omega arith) in omega arith;
          count = let s = total_changed (λ (v : View C X). length v.tickets) views id (idle c) w at in let z = h.count in omega arith;
          seats = λ seat lt. let s = total_changed (λ (v : View C X). cards_of seat v.cards) views id (idle c) w at in let z = h.seats seat lt in omega arith;
          whole = let s = total_changed (λ (v : View C X). length v.cards) views id (idle c) w at in let z = h.whole in omega arith;
          out = let s = total_changed (λ (v : View C X). is_out v.held) views id (idle c) w at in let z = h.out in omega arith;
          here = h.here;
          each = each_changed (Fits n fits serving value) views id w
              (λ j u _ to. h.each j u to)
              (record { turn = omega arith; same = λ y e. cc; few = omega arith; cards = (h.each id (idle c) at).cards });
        }

    -- the place whose turn it is finds the value at home
    at_home : (id : ℕ) (c : Card X) → get_elem? views id ≡ some (queued serving c) → away home ≡ 0
    at_home id c at =
        let one = total_has (λ (v : View C X). length v.tickets) views id (queued serving c) at in
        let count = h.count in
        let line = h.waiting serving (omega arith) (omega arith) in
        let gap = total_gap (λ (v : View C X). is_out v.held) (λ (v : View C X). times serving v.tickets) views id (queued serving c) (λ j u to. (h.each j u to).turn) at in
        let same = one_same serving serving refl in
        let out = h.out in
        omega arith

  take_holds : (ticket serving : ℕ) (value : C) (views : Views) (h : Holds n fits ticket serving (some (Some value)) value views) (id : ℕ) (c : Card X) → get_elem? views id ≡ some (queued serving c)
      → Holds n fits ticket serving none value (set views id (served serving c value))
  take_holds ticket serving value views h id c at =
      let v : View C X = queued serving c in
      let w : View C X = served serving c value in
      record {
        small = h.small;
        low = h.low;
        waiting = λ t lo hi. let s = total_changed (λ (v : View C X). times t v.tickets) views id v w at in let z = h.waiting t lo hi in omega arith;
        undrawn = λ t lo. let s = total_changed (λ (v : View C X). times t v.tickets) views id v w at in let z = h.undrawn t lo in omega arith;
        count = let s = total_changed (λ (v : View C X). length v.tickets) views id v w at in let z = h.count in omega arith;
        seats = λ seat lt. let s = total_changed (λ (v : View C X). cards_of seat v.cards) views id v w at in let z = h.seats seat lt in omega arith;
        whole = let s = total_changed (λ (v : View C X). length v.cards) views id v w at in let z = h.whole in omega arith;
        out = let s = total_changed (λ (v : View C X). is_out v.held) views id v w at in let z = h.out in omega arith;
        here = tt;
        each = each_changed (Fits n fits serving value) views id w
            (λ j u _ to. h.each j u to)
            (record { turn = let same = one_same serving serving refl in omega arith; same = λ y e. sym (some_item value y e); few = omega arith; cards = (h.each id v at).cards });
      }

  look_at : (slots id t ticket serving : ℕ) (home : Maybe (Option C)) (value : C) (views : Views) (c : Card X)
      → Holds n fits ticket serving home value views → get_elem? views id ≡ some (queued t c) → Dec (t ≡ serving)
      → Moved id (queued t c, []) 1 (λ x. x) (λ x after. (t ≡ x → Serves fits t c after) × (¬ (t ≡ x) → after ≡ (queued t c, []))) (state (ticket ∷ serving ∷ []) (home ∷ []) views)
  look_at slots id t ticket serving home value views c h at (no ne) = (
    queued t c,
    keeps,
    tt,
    record {
      ticket = ticket;
      serving = serving;
      home = home;
      value = value;
      words = refl;
      homes = refl;
      holds = subst (λ (vs : Views). Holds n fits ticket serving home value vs) (sym (set_again views id (queued t c) at)) h;
    },
    ((λ e. absurd (ne e)), (λ _. refl)),
  )
  look_at slots id t ticket serving none value views c h at (yes e) =
      let at' : get_elem? views id ≡ some (queued serving c) = subst (λ (x : ℕ). get_elem? views id ≡ some (queued x c)) e at in
      absurd (let z = at_home ticket serving none value views h id c at' in omega arith)
  look_at slots id t ticket serving (some o) value views c h at (yes e) =
      let at' : get_elem? views id ≡ some (queued serving c) = subst (λ (x : ℕ). get_elem? views id ≡ some (queued x c)) e at in
      let h' : Holds n fits ticket serving (some (Some value)) value views = subst (λ (p : Option C). Holds n fits ticket serving (some p) value views) h.here h in
      let fit = (h'.each id (queued serving c) at').cards.1 in (
        served serving c value,
        takes 0 (Some value),
        ap (λ (x : Option C). some (some x)) h.here,
        record {
          ticket = ticket;
          serving = serving;
          home = none;
          value = value;
          words = refl;
          homes = refl;
          holds = take_holds ticket serving value views h' id c at';
        },
        (
          (λ _. (value, ap (λ (x : ℕ). (served x c value, (0, Some value) ∷ [])) (sym e), subst (λ (x : ℕ). fits x value c.seat c.knows) (sym e) fit)),
          (λ ne. absurd (ne e)),
        ),
      )

  pub draws : (slots id : ℕ) (c : Card X) (me : Me (Option C) (View C X)) → me ≡ (idle c, []) → Allows (Kept n fits) slots id me 0 (λ x. (x + 1) % 2 ^ 64) (Drawn (step slots 0 1 0 none) me)
  draws slots id c me e =
      subst (λ (m : Me (Option C) (View C X)). Allows (Kept n fits) slots id m 0 (λ x. (x + 1) % 2 ^ 64) (Drawn (step slots 0 1 0 none) m)) (sym e)
      (λ s k len at small.
      let lt = ticket_low k.ticket k.serving k.home k.value s.views k.holds in
      let next : (k.ticket + 1) % 2 ^ 64 ≡ k.ticket + 1 = omega arith in
      moved_at id (idle c, []) 0 (λ x. (x + 1) % 2 ^ 64) (Drawn (step slots 0 1 0 none) (idle c, [])) s k (
        queued k.ticket c,
        keeps,
        tt,
        record {
          ticket = k.ticket + 1;
          serving = k.serving;
          home = k.home;
          value = k.value;
          words = ap (λ (x : ℕ). x ∷ k.serving ∷ []) next;
          homes = refl;
          holds = draw_holds k.ticket k.serving k.home k.value s.views k.holds id c at;
        },
        (lt, λ d is. ap (λ (m : Me (Option C) (View C X)). (record { tickets = k.ticket ∷ []; held = None; cards = m.0.cards }, [])) is),
      ))

  -- what a look tells, of the ticket and the card that the place has
  looked : (t x : ℕ) (c : Card X) (after : Me (Option C) (View C X)) → (t ≡ x → Serves fits t c after) × (¬ (t ≡ x) → after ≡ (queued t c, [])) → (slots : ℕ) → Looked fits (step slots 1 0 0 none) (queued t c, []) x after
  looked t x c after told slots u d is =
      let ticket : t ≡ u = only_item t u (ap (λ (m : Me (Option C) (View C X)). m.0.tickets) is) in
      let same : c ≡ d = only_item c d (ap (λ (m : Me (Option C) (View C X)). m.0.cards) is) in
      subst (λ (p : ℕ × Card X). (p.0 ≡ x → Serves fits p.0 p.1 after) × (¬ (p.0 ≡ x) → after ≡ (queued t c, []))) (λ j. (ticket j, same j)) told

  pub looks : (slots id t : ℕ) (c : Card X) (me : Me (Option C) (View C X)) → me ≡ (queued t c, []) → Allows (Kept n fits) slots id me 1 (λ x. x) (Looked fits (step slots 1 0 0 none) me)
  looks slots id t c me e =
      subst (λ (m : Me (Option C) (View C X)). Allows (Kept n fits) slots id m 1 (λ x. x) (Looked fits (step slots 1 0 0 none) m)) (sym e)
      (λ s k len at small.
      let m = moved_at id (queued t c, []) 1 (λ x. x) (λ x after. (t ≡ x → Serves fits t c after) × (¬ (t ≡ x) → after ≡ (queued t c, []))) s k
      (look_at slots id t k.ticket k.serving k.home k.value s.views c k.holds at (ℕ_discrete t k.serving)) in
      (m.0, m.1, m.2, m.3, looked t (slice_index s.words 1) c (m.0, carried_after [] m.1) m.4 slots))

  -- what the other cards know fits the value that is left
  cards_stay : (turns seat : ℕ) (held left : C) (cards : List (Card X)) → ((other : ℕ) (x : X) → other ≢ seat → fits turns held other x → fits (turns + 1) left other x) → cards_of seat cards ≡ 0
      → CardsFit n fits turns held cards → CardsFit n fits (turns + 1) left cards
  cards_stay turns seat held left [] stay none_of fit = tt
  cards_stay turns seat held left (c ∷ cards) stay none_of fit =
      let apart : c.seat ≢ seat = λ e. absurd (let o = one_same c.seat seat e in omega arith) in
      (fit.0, stay c.seat c.knows apart fit.1, cards_stay turns seat held left cards stay (omega arith) fit.2)

  away_most : (home : Maybe (Option C)) → away home ≤ 1
  away_most none = omega arith
  away_most (some o) = omega arith

  module _ (ticket serving : ℕ) (home : Maybe (Option C)) (value : C) (views : Views) (h : Holds n fits ticket serving home value views) (id : ℕ) (c : Card X) (at : get_elem? views id ≡ some (served serving c value))
      (left : C) (x : X) (mine : fits serving value c.seat c.knows → fits (serving + 1) left c.seat x) (stay : (other : ℕ) (y : X) → other ≢ c.seat → fits serving value other y → fits (serving + 1) left other y) where
    abbrev leaver : View C X
    leaver = idle (card c.seat x)

    others_stay : (j : ℕ) (u : View C X) → j ≢ id → get_elem? views j ≡ some u → Fits n fits (serving + 1) left u
    others_stay j u ne to =
        let lt = (h.each id (served serving c value) at).cards.0 in
        let both = total_has_both (λ (v : View C X). is_out v.held) views id j (served serving c value) u (λ e. ne (sym e)) at to in
        let cards = total_has_both (λ (v : View C X). cards_of c.seat v.cards) views id j (served serving c value) u (λ e. ne (sym e)) at to in
        let out = h.out in
        let most = away_most home in
        let same = one_same c.seat c.seat refl in
        let seat = h.seats c.seat lt in
        let zero_out : is_out u.held ≡ 0 = omega arith in
        record {
          turn = omega arith;
          same = λ y e. absurd (let z : is_out u.held ≡ 1 = ap is_out e in omega arith);
          few = (h.each j u to).few;
          cards = cards_stay serving c.seat value left u.cards stay (omega arith) (h.each j u to).cards;
        }

    pub pass_holds : serving < 2 ^ 62 → Holds n fits ticket (serving + 1) (some (Some left)) left (set views id leaver)
    pass_holds low =
        let v : View C X = served serving c value in
        record {
          small = h.small;
          low = omega arith;
          waiting = λ t lo hi.
              let s = total_changed (λ (v : View C X). times t v.tickets) views id v leaver at in
              let o = one_other serving t (λ e. absurd (omega arith)) in
              let z = h.waiting t (omega arith) hi in omega arith;
          undrawn = λ t lo. let s = total_changed (λ (v : View C X). times t v.tickets) views id v leaver at in let z = h.undrawn t lo in omega arith;
          count = let s = total_changed (λ (v : View C X). length v.tickets) views id v leaver at in let z = h.count in omega arith;
          seats = λ seat lt. let s = total_changed (λ (v : View C X). cards_of seat v.cards) views id v leaver at in let z = h.seats seat lt in omega arith;
          whole = let s = total_changed (λ (v : View C X). length v.cards) views id v leaver at in let z = h.whole in omega arith;
          out = let s = total_changed (λ (v : View C X). is_out v.held) views id v leaver at in let z = h.out in let most = away_most home in omega arith;
          here = refl;
          each = each_changed (Fits n fits (serving + 1) left) views id leaver
              others_stay
              (let fit = (h.each id v at).cards in record { turn = omega arith; same = λ y e. cc; few = omega arith; cards = (fit.0, mine fit.1, tt) });
        }

  -- the ticket of a place that has the value is the one whose turn it is
  serves_now : (serving t : ℕ) (value held : C) (c : Card X) → Fits n fits serving value (served t c held) → Dec (t ≡ serving) → t ≡ serving
  serves_now serving t value held c f (yes e) = e
  serves_now serving t value held c f (no ne) = absurd (let a = f.turn in let b = one_other t serving ne in omega arith)

  -- what passing on tells, of the ticket, the card and the values that the place has
  passed : (learned : ℕ → C → X → X) (t x : ℕ) (c : Card X) (held left : C) (after : Me (Option C) (View C X)) → after ≡ (idle (card c.seat (learned (t + 1) left c.knows)), [])
      → (slots : ℕ) → Passed learned (step slots 1 1 0 none) (served t c held, (0, Some left) ∷ []) x after
  passed learned t x c held left after is slots u d held' left' e =
      let ticket : t ≡ u = only_item t u (ap (λ (m : Me (Option C) (View C X)). m.0.tickets) e) in
      let same : c ≡ d = only_item c d (ap (λ (m : Me (Option C) (View C X)). m.0.cards) e) in
      let slot : (0, Some left) ≡ (0, Some left') = only_item (0, Some left) (0, Some left') (ap (λ (m : Me (Option C) (View C X)). m.1) e) in
      let value : left ≡ left' = some_item left left' (ap (λ (p : ℕ × Option C). p.1) slot) in
      is ∙ (λ j. (idle (card (same j).seat (learned (ticket j + 1) (value j) (same j).knows)), []))

  pub passes : (learned : ℕ → C → X → X) (slots id t : ℕ) (c : Card X) (held left : C) (me : Me (Option C) (View C X)) → t < 2 ^ 62
      → (fits t held c.seat c.knows → fits (t + 1) left c.seat (learned (t + 1) left c.knows))
      → ((other : ℕ) (y : X) → other ≢ c.seat → fits t held other y → fits (t + 1) left other y)
      → me ≡ (served t c held, (0, Some left) ∷ [])
      → Allows (Kept n fits) slots id me 1 (λ x. (x + 1) % 2 ^ 64) (Passed learned (step slots 1 1 0 none) me)
  passes learned slots id t c held left me low mine stay e =
      subst (λ (m : Me (Option C) (View C X)). Allows (Kept n fits) slots id m 1 (λ x. (x + 1) % 2 ^ 64) (Passed learned (step slots 1 1 0 none) m)) (sym e)
      (λ s k len at small.
      let h = k.holds in
      let now : t ≡ k.serving = serves_now k.serving t k.value held c (h.each id (served t c held) at) (ℕ_discrete t k.serving) in
      let same : held ≡ k.value = (h.each id (served t c held) at).same held refl in
      let path : (t, held) ≡ (k.serving, k.value) = λ j. (now j, same j) in
      let at' : get_elem? s.views id ≡ some (served k.serving c k.value) = subst (λ (p : ℕ × C). get_elem? s.views id ≡ some (served p.0 c p.1)) path at in
      let x : X = learned (t + 1) left c.knows in
      let mine' : fits k.serving k.value c.seat c.knows → fits (k.serving + 1) left c.seat x = subst (λ (p : ℕ × C). fits p.0 p.1 c.seat c.knows → fits (p.0 + 1) left c.seat x) path mine in
      let stay' : (other : ℕ) (y : X) → other ≢ c.seat → fits k.serving k.value other y → fits (k.serving + 1) left other y
      = subst (λ (p : ℕ × C). (other : ℕ) (y : X) → other ≢ c.seat → fits p.0 p.1 other y → fits (p.0 + 1) left other y) path stay in
      let next : (k.serving + 1) % 2 ^ 64 ≡ k.serving + 1 = let l = h.low in omega arith in
      moved_at id (served t c held, (0, Some left) ∷ []) 1 (λ y. (y + 1) % 2 ^ 64) (Passed learned (step slots 1 1 0 none) (served t c held, (0, Some left) ∷ [])) s k (
        idle (card c.seat x),
        gives,
        tt,
        record {
          ticket = k.ticket;
          serving = k.serving + 1;
          home = some (Some left);
          value = left;
          words = ap (λ (y : ℕ). k.ticket ∷ y ∷ []) next;
          homes = refl;
          holds = pass_holds k.ticket k.serving k.home k.value s.views h id c at' left x mine' stay' (omega arith);
        },
        passed learned t k.serving c held left (idle (card c.seat x), []) refl slots,
      ))

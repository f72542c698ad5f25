-- Places that are opened, cut in two, put together and closed.
use Rattle.std.proofs.Common.{◌≡◌, ℕ, zero, suc, ◌+◌, ◌^◌, ◌<◌, ◌≤◌, ◌≢◌, List, [], ◌∷◌, ◌++◌, length, set, refl, ap, sym, ◌∙◌, subst, ⊎_elim, arith, length-append, Option, Some}
use mathlib.Core.Option.{Option as Maybe, some, none, some-ne-none, some-injective}
use mathlib.Core.Logic.{dite}
use native.Mathlib.Decide.{ℕ_discrete}
use lib.ListN.{get_elem?}
use Rattle.atomic_table.specs.Table.{State, Me, step, Splits, Joins, Final, Seen, Enters, opening as open_table}
use Rattle.atomic_table.proofs.Lists.{at_set}
use Rattle.rc_ticket.specs.declared.rule.Card.{Card}
use Rattle.rc_ticket.specs.declared.rule.View.{View}
use Rattle.rc_ticket.specs.Cards.{total, times, cards_of, dealt, at_rest, nobody, opening, idle, first_alone, without_first, together, is_out}
use Rattle.rc_ticket.specs.Rule.{away, CardsFit, Fits, Holds, Kept, Closed}
use Rattle.rc_ticket.specs.Plays.{Entered}
use Rattle.rc_ticket.proofs.Totals.{total_changed, total_has, total_least, total_gap, total_joined, each_changed, each_added, one_same, one_other, times_most, cards_most}

module _ {X : Type 0} where
  dealt_length : (q : ℕ) (xs : List X) → length (dealt q xs) ≡ length xs
  dealt_length q [] = refl
  dealt_length q (x ∷ xs) = ap suc (dealt_length (suc q) xs)

  dealt_later : (seat q : ℕ) (xs : List X) → seat < q → cards_of seat (dealt q xs) ≡ 0
  dealt_later seat q [] lt = refl
  dealt_later seat q (x ∷ xs) lt = let o = one_other q seat (λ e. absurd (omega arith)) in let r = dealt_later seat (suc q) xs (omega arith) in omega arith

  dealt_once : (seat q : ℕ) (xs : List X) → q ≤ seat → seat < q + length xs → cards_of seat (dealt q xs) ≡ 1
  dealt_once seat q [] le lt = absurd (omega arith)
  dealt_once seat q (x ∷ xs) le lt =
      dite (ℕ_discrete q seat)
      (λ e. let o = one_same q seat e in let r = dealt_later seat (suc q) xs (omega arith) in omega arith)
      (λ ne. let o = one_other q seat ne in let r = dealt_once seat (suc q) xs (omega arith) (omega arith) in omega arith)

only : {A : Type 0} (P : A → Type 0) (v : A) → P v → (i : ℕ) (u : A) → get_elem? (v ∷ []) i ≡ some u → P u
only P v p zero u at = subst P (some-injective v u at) p
only P v p (suc i) u at = absurd (some-ne-none u (sym at))

module _ {C X : Type 0} (fits : ℕ → C → ℕ → X → Type 0) where
  pub opens : (xs : List X) (value : C) → length xs < 2 ^ 32 → CardsFit (length xs) fits 0 value (dealt 0 xs) → Kept (length xs) fits (open_table (0 ∷ 0 ∷ []) (Some value ∷ []) (opening xs))
  opens xs value small fit =
      let len = dealt_length 0 xs in
      record {
        ticket = 0;
        serving = 0;
        home = some (Some value);
        value = value;
        words = refl;
        homes = refl;
        holds = record {
          small = small;
          low = omega arith;
          waiting = λ t lo hi. absurd (omega arith);
          undrawn = λ t lo. refl;
          count = refl;
          seats = λ seat lt. let b = dealt_once seat 0 xs (omega arith) (omega arith) in omega arith;
          whole = omega arith;
          out = refl;
          here = refl;
          each = only (Fits (length xs) fits 0 value) (opening xs) (record { turn = omega arith; same = λ y e. cc; few = omega arith; cards = fit });
        };
      }

module _ {C X : Type 0} (n : ℕ) (fits : ℕ → C → ℕ → X → Type 0) where
  fit_both : (turns : ℕ) (value : C) (cards others : List (Card X)) → CardsFit n fits turns value cards → CardsFit n fits turns value others → CardsFit n fits turns value (cards ++ others)
  fit_both turns value [] others a b = b
  fit_both turns value (c ∷ cards) others a b = (a.0, a.1, fit_both turns value cards others a.2 b)

  module _ (ticket serving : ℕ) (home : Maybe (Option C)) (value : C) (views : List (View C X)) (h : Holds n fits ticket serving home value views) where
    -- views that only pass cards on to one another keep the rule
    regroup : (views' : List (View C X))
        → ((f : View C X → ℕ) → f nobody ≡ 0 → ((cs ds : List (Card X)) → f (at_rest (cs ++ ds)) ≡ f (at_rest cs) + f (at_rest ds)) → total f views' ≡ total f views)
        → ((i : ℕ) (v : View C X) → get_elem? views' i ≡ some v → Fits n fits serving value v)
        → Holds n fits ticket serving home value views'
    regroup views' same each = record {
      small = h.small;
      low = h.low;
      waiting = λ t lo hi. same (λ v. times t v.tickets) refl (λ cs ds. refl) ∙ h.waiting t lo hi;
      undrawn = λ t lo. same (λ v. times t v.tickets) refl (λ cs ds. refl) ∙ h.undrawn t lo;
      count = let s = same (λ v. length v.tickets) refl (λ cs ds. refl) in let z = h.count in omega arith;
      seats = λ seat lt. same (λ v. cards_of seat v.cards) refl (λ cs ds. total_joined _ cs ds) ∙ h.seats seat lt;
      whole = same (λ v. length v.cards) refl (λ cs ds. length-append cs ds) ∙ h.whole;
      out = same (λ v. is_out v.held) refl (λ cs ds. refl) ∙ h.out;
      here = h.here;
      each = each;
    }

    rests : (cards : List (Card X)) → CardsFit n fits serving value cards → Fits n fits serving value (at_rest cards)
    rests cards f = record { turn = omega arith; same = λ y e. cc; few = omega arith; cards = f }

    split_holds : (id : ℕ) (c : Card X) (cards : List (Card X)) → get_elem? views id ≡ some (at_rest (c ∷ cards)) → Holds n fits ticket serving home value (set views id (at_rest cards) ++ idle c ∷ [])
    split_holds id c cards at =
        let fit = (h.each id (at_rest (c ∷ cards)) at).cards in
        regroup (set views id (at_rest cards) ++ idle c ∷ [])
        (λ f none parts.
        let s = total_changed f views id (at_rest (c ∷ cards)) (at_rest cards) at in
        let a = total_joined f (set views id (at_rest cards)) (idle c ∷ []) in
        let p = parts (c ∷ []) cards in
        omega arith)
        (each_added (Fits n fits serving value) (set views id (at_rest cards)) (idle c)
        (each_changed (Fits n fits serving value) views id (at_rest cards) (λ j u _ to. h.each j u to) (rests cards fit.2))
        (rests (c ∷ []) (fit.0, fit.1, tt)))

    join_holds : (id other : ℕ) (cs ds : List (Card X)) → get_elem? views id ≡ some (at_rest cs) → get_elem? (set views id (at_rest (cs ++ ds))) other ≡ some (at_rest ds) → other ≢ id
        → Holds n fits ticket serving home value (set (set views id (at_rest (cs ++ ds))) other nobody)
    join_holds id other cs ds at to ne =
        let first : View C X = at_rest (cs ++ ds) in
        let to' = ⊎_elim (λ (x : (other ≡ id) × (first ≡ at_rest ds)). absurd (ne x.0)) (λ (x : (other ≢ id) × (get_elem? views other ≡ some (at_rest ds))). x.1) (at_set views id other first (at_rest ds) to) in
        let mine = (h.each id (at_rest cs) at).cards in
        let theirs = (h.each other (at_rest ds) to').cards in
        regroup (set (set views id first) other nobody)
        (λ f none parts.
        let s = total_changed f views id (at_rest cs) first at in
        let a = total_changed f (set views id first) other (at_rest ds) nobody to in
        let p = parts cs ds in
        omega arith)
        (each_changed (Fits n fits serving value) (set views id first) other nobody
        (λ j u _ there. each_changed (Fits n fits serving value) views id first (λ i v _ here. h.each i v here) (rests (cs ++ ds) (fit_both serving value cs ds mine theirs)) j u there)
        (rests [] tt))

    enter_holds : Holds n fits ticket serving home value (views ++ nobody ∷ [])
    enter_holds =
        regroup (views ++ nobody ∷ [])
        (λ f none parts. let a = total_joined f views (nobody ∷ []) in omega arith)
        (each_added (Fits n fits serving value) views nobody h.each (rests [] tt))

  again : (s : State (Option C) (View C X)) (k : Kept n fits s) (views : List (View C X)) → Holds n fits k.ticket k.serving k.home k.value views → Kept n fits (record { words = s.words; homes = s.homes; views = views })
  again s k views h = record { ticket = k.ticket; serving = k.serving; home = k.home; value = k.value; words = k.words; homes = k.homes; holds = h }

  pub splits : (id : ℕ) (me : Me (Option C) (View C X)) (c : Card X) (cards : List (Card X)) → me ≡ (at_rest (c ∷ cards), []) → Splits (Kept n fits) id me.0 (without_first me.0) (first_alone me.0)
  splits id me c cards e =
      subst (λ (m : Me (Option C) (View C X)). Splits (Kept n fits) id m.0 (without_first m.0) (first_alone m.0)) (sym e)
      (λ s k at. again s k _ (split_holds k.ticket k.serving k.home k.value s.views k.holds id c cards at))

  pub joins : (id other : ℕ) (me him : Me (Option C) (View C X)) (cs ds : List (Card X)) → me ≡ (at_rest cs, []) → him ≡ (at_rest ds, []) → Joins (Kept n fits) id me.0 other him.0 (together me.0 him.0) nobody
  joins id other me him cs ds e f =
      subst (λ (m : Me (Option C) (View C X) × Me (Option C) (View C X)). Joins (Kept n fits) id m.0.0 other m.1.0 (together m.0.0 m.1.0) nobody) (λ j. (sym e j, sym f j))
      (λ s k at ne to. again s k _ (join_holds k.ticket k.serving k.home k.value s.views k.holds id other cs ds at to ne))

  pub enters : (slots : ℕ) (first : View C X) → Enters (Kept n fits) slots 0 (λ x w. Entered (step slots 0 0 0 none) (first, []) x (w, []))
  enters slots first s k len small = (nobody, again s k _ (enter_holds k.ticket k.serving k.home k.value s.views k.holds), refl)

  module _ (ticket serving : ℕ) (views : List (View C X)) (id : ℕ) (cards : List (Card X)) (all : length cards ≡ n) (at : get_elem? views id ≡ some (at_rest cards)) where
    closed_home : (home : Maybe (Option C)) (value : C) (h : Holds n fits ticket serving home value views) → away home ≡ 0
    closed_home home value h =
        let a = total_gap (λ (v : View C X). length v.tickets) (λ (v : View C X). length v.cards) views id (at_rest cards) (λ j u to. (h.each j u to).few) at in
        let b = total_least (λ (v : View C X). is_out v.held) (λ (v : View C X). length v.tickets) views (λ j u to. let x = (h.each j u to).turn in let y = times_most serving u.tickets in omega arith) in
        let w = h.whole in
        let o = h.out in
        omega arith

    closed_seats : (home : Maybe (Option C)) (value : C) (h : Holds n fits ticket serving home value views) (seat : ℕ) → seat < n → cards_of seat cards ≡ 1
    closed_seats home value h seat lt =
        let a = total_gap (λ (v : View C X). cards_of seat v.cards) (λ (v : View C X). length v.cards) views id (at_rest cards) (λ j u to. cards_most seat u.cards) at in
        let b = total_has (λ (v : View C X). cards_of seat v.cards) views id (at_rest cards) at in
        let w = h.whole in
        let o = h.seats seat lt in
        omega arith

    closed_at : (xs : List (Option C)) (home : Maybe (Option C)) (value : C) (h : Holds n fits ticket serving home value views) → ((o : Option C) → home ≡ some o → get_elem? xs 0 ≡ some o)
        → (y : C) × (get_elem? xs 0 ≡ some (Some y)) × Closed n fits y cards
    closed_at xs none value h there = absurd (let z = closed_home none value h in omega arith)
    closed_at xs (some o) value h there =
        (value, there o refl ∙ ap (λ (x : Option C). some x) h.here, record { turns = serving; fit = (h.each id (at_rest cards) at).cards; seats = closed_seats (some o) value h })

  -- a lock that is taken apart by a place that has as many cards as there are seats
  pub closes : (id : ℕ) (me : Me (Option C) (View C X)) (cards : List (Card X)) (ws : List ℕ) (xs : List (Option C)) → me ≡ (at_rest cards, []) → length cards ≡ n → Final (Seen (Kept n fits) id me.0) ws xs
      → (y : C) × (get_elem? xs 0 ≡ some (Some y)) × Closed n fits y cards
  closes id me cards ws xs e all end =
      let final = subst (λ (m : Me (Option C) (View C X)). Final (Seen (Kept n fits) id m.0) ws xs) e end in
      let s = final.0 in
      let k = final.1.0 in
      closed_at k.ticket k.serving s.views id cards all final.1.1 xs k.home k.value k.holds
      (λ o h. final.4 0 o (subst (λ (l : List (Maybe (Option C))). get_elem? l 0 ≡ some (some o)) (sym k.homes) (ap some h)))

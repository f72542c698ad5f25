-- The rule of the ticket lock.
use Rattle.std.specs.Prelude.{◌≡◌, ℕ, ◌+◌, ◌^◌, ◌<◌, ◌≤◌, List, [], ◌∷◌, length, Option, Some}
use mathlib.Core.Option.{Option as Maybe, some, none}
use lib.ListN.{get_elem?}
use Rattle.atomic_table.specs.Table.{State}
use Rattle.rc_ticket.specs.declared.rule.Card.{Card}
use Rattle.rc_ticket.specs.declared.rule.View.{View}
use Rattle.rc_ticket.specs.Cards.{total, times, cards_of, is_out}

module _ {C : Type 0} where
  -- 1 where the slot is not at home
  abbrev pub away : Maybe (Option C) → ℕ
  away none = 1
  away (some o) = 0

  -- the slot has the value, while it is at home
  abbrev pub IsHome : Maybe (Option C) → C → Type 0
  IsHome none value = Unit {0}
  IsHome (some o) value = o ≡ Some value

module _ {C X : Type 0} (n : ℕ) (fits : ℕ → C → ℕ → X → Type 0) where
  -- each card is of one of the n seats, and what it knows fits the value
  abbrev pub CardsFit : ℕ → C → List (Card X) → Type 0
  CardsFit turns value [] = Unit {0}
  CardsFit turns value (c ∷ cards) = (c.seat < n) × fits turns value c.seat c.knows × CardsFit turns value cards

  -- a place has the value only at its turn, has it as it was, and has no more tickets than cards
  pub record Fits (serving : ℕ) (value : C) (v : View C X) : Type 0 where
    pub turn : is_out v.held ≤ times serving v.tickets
    pub same : (y : C) → v.held ≡ Some y → y ≡ value
    pub few : length v.tickets ≤ length v.cards
    pub cards : CardsFit serving value v.cards

  -- each ticket that waits was drawn once, each seat has one card, and the value is out with one place or at home
  pub record Holds (ticket serving : ℕ) (home : Maybe (Option C)) (value : C) (views : List (View C X)) : Type 0 where
    pub small : n < 2 ^ 32
    pub low : serving ≤ 2 ^ 62
    pub waiting : (t : ℕ) → serving ≤ t → t < ticket → total (λ v. times t v.tickets) views ≡ 1
    pub undrawn : (t : ℕ) → ticket ≤ t → total (λ v. times t v.tickets) views ≡ 0
    pub count : total (λ v. length v.tickets) views + serving ≡ ticket
    pub seats : (seat : ℕ) → seat < n → total (λ v. cards_of seat v.cards) views ≡ 1
    pub whole : total (λ v. length v.cards) views ≡ n
    pub out : total (λ v. is_out v.held) views ≡ away home
    pub here : IsHome home value
    pub each : (i : ℕ) (v : View C X) → get_elem? views i ≡ some v → Fits serving value v

  pub record Kept (s : State (Option C) (View C X)) : Type 0 where
    pub ticket : ℕ
    pub serving : ℕ
    pub home : Maybe (Option C)
    pub value : C
    pub words : s.words ≡ ticket ∷ serving ∷ []
    pub homes : s.homes ≡ home ∷ []
    pub holds : Holds ticket serving home value s.views

  -- each seat's card is there once, and what it knows fits the value
  pub record Closed (value : C) (cards : List (Card X)) : Type 0 where
    pub turns : ℕ
    pub fit : CardsFit turns value cards
    pub seats : (seat : ℕ) → seat < n → cards_of seat cards ≡ 1

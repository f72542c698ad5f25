-- Views of places, made of cards.
use Rattle.std.specs.Prelude.{ℕ, suc, ◌+◌, ◌==◌, Bool, true, false, List, [], ◌∷◌, ◌++◌, Option, Some, None}
use Rattle.rc_ticket.specs.declared.rule.Card.{Card}
use Rattle.rc_ticket.specs.declared.rule.View.{View}

-- a number for each item, added up
abbrev pub total : {A : Type 0} → (A → ℕ) → List A → ℕ
total f [] = 0
total f (x ∷ xs) = f x + total f xs

abbrev pub one_if : Bool → ℕ
one_if true = 1
one_if false = 0

-- how often the ticket stands in the list
abbrev pub times : ℕ → List ℕ → ℕ
times ticket tickets = total (λ (t : ℕ). one_if (t == ticket)) tickets

module _ {X : Type 0} where
  abbrev pub card : ℕ → X → Card X
  card seat x = record { seat = seat; knows = x }

  -- how many cards are of this seat
  abbrev pub cards_of : ℕ → List (Card X) → ℕ
  cards_of seat cards = total (λ (c : Card X). one_if (c.seat == seat)) cards

  -- a card for each, the first of seat n
  abbrev pub dealt : ℕ → List X → List (Card X)
  dealt n [] = []
  dealt n (x ∷ xs) = card n x ∷ dealt (suc n) xs

  abbrev first_of : List (Card X) → List (Card X)
  first_of [] = []
  first_of (c ∷ cards) = c ∷ []

  abbrev rest_of : List (Card X) → List (Card X)
  rest_of [] = []
  rest_of (c ∷ cards) = cards

module _ {C X : Type 0} where
  -- a place that has these cards and no ticket
  abbrev pub at_rest : List (Card X) → View C X
  at_rest cards = record { tickets = []; held = None; cards = cards }

  abbrev pub nobody : View C X
  nobody = at_rest []

  abbrev pub opening : List X → View C X
  opening xs = at_rest (dealt 0 xs)

  -- one card alone: at rest, with a ticket, and at its turn
  abbrev pub idle : Card X → View C X
  idle c = at_rest (c ∷ [])

  abbrev pub queued : ℕ → Card X → View C X
  queued ticket c = record { tickets = ticket ∷ []; held = None; cards = c ∷ [] }

  abbrev pub served : ℕ → Card X → C → View C X
  served ticket c value = record { tickets = ticket ∷ []; held = Some value; cards = c ∷ [] }

  abbrev pub first_alone : View C X → View C X
  first_alone v = at_rest (first_of v.cards)

  abbrev pub without_first : View C X → View C X
  without_first v = at_rest (rest_of v.cards)

  abbrev pub together : View C X → View C X → View C X
  together v w = at_rest (v.cards ++ w.cards)

-- 1 where the place has taken the value out
abbrev pub is_out : {C : Type 0} → Option C → ℕ
is_out (Some value) = 1
is_out None = 0

-- What each step tells its place.
use Rattle.std.specs.Prelude.{◌≡◌, ℕ, ◌+◌, ◌^◌, ◌<◌, [], ◌∷◌, Option, Some}
use Rattle.atomic_table.specs.Table.{Me, Step}
use Rattle.rc_ticket.specs.declared.rule.Card.{Card}
use Rattle.rc_ticket.specs.declared.rule.View.{View}
use Rattle.rc_ticket.specs.Cards.{card, idle, queued, served, nobody}

module _ {C X : Type 0} where
  -- the place has this ticket now
  abbrev pub Drawn : Step (Option C) → Me (Option C) (View C X) → ℕ → Me (Option C) (View C X) → Type 0
  Drawn s me n after = (n < 2 ^ 63) × ((c : Card X) → me ≡ (idle c, []) → after ≡ (queued n c, []))

  -- the place has taken this value, which its card fits
  abbrev pub Serves : (ℕ → C → ℕ → X → Type 0) → ℕ → Card X → Me (Option C) (View C X) → Type 0
  Serves fits t c after = (y : C) × (after ≡ (served t c y, (0, Some y) ∷ [])) × fits t y c.seat c.knows

  -- at its turn the place takes the value, which its card fits, and else nothing changes
  abbrev pub Looked : (ℕ → C → ℕ → X → Type 0) → Step (Option C) → Me (Option C) (View C X) → ℕ → Me (Option C) (View C X) → Type 0
  Looked fits s me n after = (t : ℕ) (c : Card X) → me ≡ (queued t c, [])
      → (t ≡ n → Serves fits t c after) × (¬ (t ≡ n) → after ≡ me)

  -- the turn had the number of the ticket, and the place has learned from the value that it leaves
  abbrev pub Passed : (ℕ → C → X → X) → Step (Option C) → Me (Option C) (View C X) → ℕ → Me (Option C) (View C X) → Type 0
  Passed learned s me n after = (t : ℕ) (c : Card X) (held left : C) → me ≡ (served t c held, (0, Some left) ∷ [])
      → after ≡ (idle (card c.seat (learned (t + 1) left c.knows)), [])

  abbrev pub Entered : Step (Option C) → Me (Option C) (View C X) → ℕ → Me (Option C) (View C X) → Type 0
  Entered s me n after = after ≡ (nobody, [])

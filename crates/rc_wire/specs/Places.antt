-- Places at the lock, as passes have them.
use Rattle.std.specs.Prelude.{◌≡◌, ℕ, ◌+◌, ◌==◌, List, [], ◌∷◌, map, None}
use Rattle.atomic_table.specs.Seated.{TableId}
use Rattle.rc_ids.specs.declared.names.Party.TheVariants.{Client}
use Rattle.rc_ticket.specs.Cards.{card, idle, served, one_if}
use Rattle.rc_ticket.specs.declared.rule.Card.{Card}
use Rattle.rc_wire.specs.Chronicle.{Chronicle}
use Rattle.rc_wire.specs.declared.pass.Known.{Known}
use Rattle.rc_wire.specs.declared.pass.SeatPlace.{SeatPlace}
use Rattle.rc_wire.specs.Passes.{known_at_first, IsPass, Fits, Follows}

-- what the first card knows; without a card there is nothing to know
abbrev pub first_known : Chronicle → List (Card Known) → Known
first_known names [] = known_at_first names 0 (Client 0)
first_known names (c ∷ cs) = c.knows

abbrev pub known_at : Chronicle → SeatPlace → Known
known_at names p = first_known names p.place.me.0.cards

abbrev pub all_known_at : Chronicle → List SeatPlace → List Known
all_known_at names ps = map (known_at names) ps

abbrev pub cards_at : Chronicle → List SeatPlace → List (Card Known)
cards_at names ps = map (λ (p : SeatPlace). card p.seat (known_at names p)) ps

-- a place of this lock with the card of its seat alone, which is a pass of the wire
pub record IsSeatOf (table : TableId) (names : Chronicle) (p : SeatPlace) : Type 0 where
  pub lock : p.place.table_id ≡ table
  pub alone : p.place.me ≡ (idle (card p.seat (known_at names p)), [])
  pub knows : IsPass names p.seat (known_at names p)

abbrev pub AreSeatsOf : TableId → Chronicle → List SeatPlace → Type 0
AreSeatsOf table names [] = Unit {0}
AreSeatsOf table names (p ∷ ps) = IsSeatOf table names p × AreSeatsOf table names ps

-- the seat is at its turn, took the wire out as it was held, and leaves it with at most one entry more of its party
pub record IsServed (names : Chronicle) (p : SeatPlace) (ticket : ℕ) (left : Chronicle) : Type 0 where
  pub x : Known
  pub held : Chronicle
  pub me : p.place.me ≡ (served ticket (card p.seat x) held, (0, None) ∷ [])
  pub knows : IsPass names p.seat x
  pub fits : Fits ticket held p.seat x
  pub follows : Follows held x.party left

-- how many of these passes are of this seat
abbrev pub passes_of : ℕ → List Known → ℕ
passes_of seat [] = 0
passes_of seat (x ∷ xs) = one_if (x.seat == seat) + passes_of seat xs

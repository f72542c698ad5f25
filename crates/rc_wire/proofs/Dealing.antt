-- Cards that are dealt and gathered, seat by seat.
use Rattle.std.proofs.Common.{◌≡◌, ℕ, zero, suc, ◌+◌, ◌<◌, List, [], ◌∷◌, ◌++◌, length, take, drop, slice_get, refl, ap, sym, ◌∙◌, subst, arith, Some, None}
use Rattle.atomic_table.specs.Seated.{TableId}
use Rattle.rc_ids.specs.declared.names.Party.{Party}
use Rattle.rc_ticket.specs.Cards.{card, idle, served, dealt}
use Rattle.rc_wire.specs.declared.pass.Known.{Known}
use Rattle.rc_wire.specs.declared.pass.SeatPlace.{SeatPlace}
use Rattle.rc_wire.specs.Chronicle.{Chronicle}
use Rattle.rc_wire.specs.Standings.{by}
use Rattle.rc_wire.specs.Passes.{known_at_first, known_from, IsPass, Fits, Follows}
use Rattle.rc_wire.specs.Places.{IsSeatOf, AreSeatsOf, IsServed, first_known, known_at, all_known_at}

-- the next party, where there is one
pub record Next (ps : List Party) (k : ℕ) : Type 0 where
  pub party : Party
  pub at : slice_get ps k ≡ Some party
  pub rest : drop k ps ≡ party ∷ drop (suc k) ps

pub next : (ps : List Party) (k : ℕ) → k < length ps → Next ps k
next [] k lt = absurd (omega arith)
next (p ∷ ps) zero lt = record { party = p; at = refl; rest = refl }
next (p ∷ ps) (suc k) lt = let n = next ps k (omega arith) in record { party = n.party; at = n.at; rest = n.rest }

-- the cards that are left, and the first of them
pub first_card : (c : Chronicle) (k : ℕ) (n : Next c.parties k)
    → dealt k (known_from c k (drop k c.parties)) ≡ card k (known_at_first c k n.party) ∷ dealt (k + 1) (known_from c (k + 1) (drop (k + 1) c.parties))
first_card c k n =
    let one : suc k ≡ k + 1 = omega arith in
    ap (λ (ps : List Party). dealt k (known_from c k ps)) n.rest
    ∙ ap (λ (i : ℕ). card k (known_at_first c k n.party) ∷ dealt i (known_from c i (drop i c.parties))) one

-- the place that got it is one of its seat
pub seat_dealt : (table : TableId) (c : Chronicle) (k : ℕ) (n : Next c.parties k) (p : SeatPlace) → c.turns ≡ [] → p.place.table_id ≡ table → p.seat ≡ k → p.place.me ≡ (idle (card k (known_at_first c k n.party)), [])
    → IsSeatOf table c p × (known_at c p ≡ known_at_first c k n.party)
seat_dealt table c k n p none lock seat me =
    let knows : known_at c p ≡ known_at_first c k n.party = ap (λ m. first_known c m.0.cards) me in (
      record {
        lock = lock;
        alone = me ∙ (λ j. (idle (card (sym seat j) (sym knows j)), []));
        knows = subst (λ (y : ℕ × Known). IsPass c y.0 y.1) (λ j. (sym seat j, sym knows j)) (record { seat_is = refl; rules = refl; parties = refl; party = n.at; mine = sym (ap (by n.party) none) });
      },
      knows,
    )

pub seats_more : (table : TableId) (c : Chronicle) (ps : List SeatPlace) (p : SeatPlace) → AreSeatsOf table c ps → IsSeatOf table c p → AreSeatsOf table c (ps ++ p ∷ [])
seats_more table c [] p all one = (one, tt)
seats_more table c (x ∷ xs) p all one = (all.0, seats_more table c xs p all.1 one)

pub seats_front : (table : TableId) (c : Chronicle) (ps : List SeatPlace) (p : SeatPlace) → AreSeatsOf table c (ps ++ p ∷ []) → AreSeatsOf table c ps × IsSeatOf table c p
seats_front table c [] p all = (tt, all.0)
seats_front table c (x ∷ xs) p all = let r = seats_front table c xs p all.1 in ((all.0, r.0), r.1)

pub known_more : (c : Chronicle) (ps : List SeatPlace) (p : SeatPlace) → all_known_at c (ps ++ p ∷ []) ≡ all_known_at c ps ++ known_at c p ∷ []
known_more c [] p = refl
known_more c (x ∷ xs) p = ap (λ (ys : List Known). known_at c x ∷ ys) (known_more c xs p)

pub known_last : (c : Chronicle) (k : ℕ) (n : Next c.parties k) → known_from c 0 (take k c.parties) ++ known_at_first c k n.party ∷ [] ≡ known_from c 0 (take (k + 1) c.parties)
known_last c k n = let one : suc k ≡ k + 1 = omega arith in let none : k ≡ 0 + k = omega arith in
    ap (λ (i : ℕ). known_from c 0 (take k c.parties) ++ known_at_first c i n.party ∷ []) none ∙ go 0 c.parties k n.party n.at ∙ ap (λ (i : ℕ). known_from c 0 (take i c.parties)) one
  where
    go : (i : ℕ) (ps : List Party) (k : ℕ) (p : Party) → slice_get ps k ≡ Some p → known_from c i (take k ps) ++ known_at_first c (i + k) p ∷ [] ≡ known_from c i (take (suc k) ps)
    go i [] k p at = absurd cc
    go i (x ∷ xs) zero p at = let e : i + 0 ≡ i = omega arith in let same : p ≡ x = cc in λ j. known_at_first c (e j) (same j) ∷ []
    go i (x ∷ xs) (suc k) p at = let e : i + suc k ≡ suc i + k = omega arith in
        ap (λ (m : ℕ). known_at_first c i x ∷ (known_from c (suc i) (take k xs) ++ known_at_first c m p ∷ [])) e ∙ ap (λ (ys : List Known). known_at_first c i x ∷ ys) (go (suc i) xs k p at)

-- what a place knows that has one card
pub seat_knows : (c : Chronicle) (p : SeatPlace) (seat : ℕ) (x : Known) → p.place.me ≡ (idle (card seat x), []) → known_at c p ≡ x
seat_knows c p seat x me = ap (λ m. first_known c m.0.cards) me

-- a place whose card is a pass
pub seat_left : (table : TableId) (c : Chronicle) (seat : ℕ) (p : SeatPlace) (x : Known) → p.place.table_id ≡ table → p.seat ≡ seat → p.place.me ≡ (idle (card seat x), []) → IsPass c seat x → IsSeatOf table c p
seat_left table c seat p x lock at me pass =
    let knows = seat_knows c p seat x me in
    record {
      lock = lock;
      alone = me ∙ (λ j. (idle (card (sym at j) (sym knows j)), []));
      knows = subst (λ (y : ℕ × Known). IsPass c y.0 y.1) (λ j. (sym at j, sym knows j)) pass;
    }

-- a place at its turn
pub served_me : (old new : SeatPlace) (n : ℕ) (held : Chronicle) (x : Known) → new.seat ≡ old.seat → new.place.me ≡ (served n (card old.seat x) held, (0, None) ∷ []) → new.place.me ≡ (served n (card new.seat x) held, (0, None) ∷ [])
served_me old new n held x seat me = me ∙ ap (λ (s : ℕ). (served n (card s x) held, (0, None) ∷ [])) (sym seat)

pub is_served : (names : Chronicle) (old new : SeatPlace) (n : ℕ) (held left : Chronicle) (x : Known) → IsPass names old.seat x → new.seat ≡ old.seat
    → new.place.me ≡ (served n (card old.seat x) held, (0, None) ∷ []) → Fits n held old.seat x → Follows held x.party left → IsServed names new n left
is_served names old new n held left x pass seat me fits follows = record {
  x = x;
  held = held;
  me = served_me old new n held x seat me;
  knows = subst (λ (s : ℕ). IsPass names s x) (sym seat) pass;
  fits = subst (λ (s : ℕ). Fits n held s x) (sym seat) fits;
  follows = follows;
}

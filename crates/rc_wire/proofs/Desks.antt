-- Desks that change one at a time.
use Rattle.std.proofs.Common.{◌≡◌, ℕ, zero, suc, ◌<◌, List, [], ◌∷◌, length, set, get_or, ap, arith}
use Rattle.rc_ids.specs.declared.names.Party.{Party}
use Rattle.rc_wire.specs.declared.standing.Desk.{Desk}
use Rattle.rc_wire.specs.declared.standing.Standing.{Standing}
use Rattle.rc_wire.specs.declared.turn.Act.{Act}
use Rattle.rc_wire.specs.Standings.{turn, after, stood, noted}

pub stood_set : (desks : List Desk) (k : ℕ) (d : Desk) (act : Act) (s : Standing) → k < length desks → s ≡ after (get_or desks k d).standing act
    → set desks k (record { party = (get_or desks k d).party; standing = s }) ≡ stood desks k act
stood_set [] k d act s lt e = absurd (omega arith)
stood_set (x ∷ xs) zero d act s lt e = λ j. record { party = x.party; standing = e j } ∷ xs
stood_set (x ∷ xs) (suc k) d act s lt e = ap (λ r. x ∷ r) (stood_set xs k d act s (omega arith) e)

pub noted_at : (desks : List Desk) (k : ℕ) (d : Desk) (act : Act) (p : Party) → k < length desks → p ≡ (get_or desks k d).party → turn p act ∷ [] ≡ noted desks k act
noted_at [] k d act p lt e = absurd (omega arith)
noted_at (x ∷ xs) zero d act p lt e = ap (λ q. turn q act ∷ []) e
noted_at (x ∷ xs) (suc k) d act p lt e = noted_at xs k d act p (omega arith) e

-- What a closed wire tells of its passes.
use Rattle.std.proofs.Common.{◌≡◌, ℕ, suc, ◌+◌, ◌==◌, Bool, true, false, ◌&&◌, List, [], ◌∷◌, ◌++◌, length, refl, ap, sym, ◌∙◌, subst, append_assoc, arith}
use Rattle.std.proofs.lemmas.List.{append-nil}
use Rattle.atomic_table.specs.Seated.{TableId}
use Rattle.rc_ids.specs.declared.names.Party.{Party}
use Rattle.rc_ticket.specs.Cards.{card, cards_of, one_if}
use Rattle.rc_ticket.specs.Rule.{CardsFit}
use Rattle.rc_wire.specs.declared.pass.Known.{Known}
use Rattle.rc_wire.specs.declared.pass.SeatPlace.{SeatPlace}
use Rattle.rc_wire.specs.declared.rules.Rules.{Rules}
use Rattle.rc_wire.specs.declared.turn.Turn.{Turn}
use Rattle.rc_wire.specs.Chronicle.{Chronicle, chronicle, replayed}
use Rattle.rc_wire.specs.Passes.{Fits, IsPass, may_follow, may_all_follow}
use Rattle.rc_wire.specs.Places.{AreSeatsOf, known_at, all_known_at, cards_at, passes_of}
use Rattle.rc_wire.specs.Replay.{is_quiescent}
use Rattle.rc_wire.specs.Turns.{IsPart, AreParts}
use Rattle.rc_wire.proofs.Quiet.{quiet_more}

-- QUIESCENCE STAYS
first_may : (a b : Bool) → a && b ≡ true → (a ≡ true) × (b ≡ true)
first_may true b e = (refl, e)
first_may false b e = absurd cc

legal_later : (rules : Rules) (ps : List Party) (turns front later : List Turn) → may_all_follow rules ps turns (front ++ later) ≡ true → may_all_follow rules ps (turns ++ front) later ≡ true
legal_later rules ps turns [] later e = subst (λ (ts : List Turn). may_all_follow rules ps ts later ≡ true) (sym (append-nil turns)) e
legal_later rules ps turns (t ∷ ts) later e =
    subst (λ (us : List Turn). may_all_follow rules ps us later ≡ true) (append_assoc turns (t ∷ []) ts)
    (legal_later rules ps (turns ++ t ∷ []) ts later (first_may (may_follow (chronicle rules ps turns) t.party t.act) (may_all_follow rules ps (turns ++ t ∷ []) (ts ++ later)) e).1)

quiet_on : (rules : Rules) (ps : List Party) (turns later : List Turn) → is_quiescent (replayed (chronicle rules ps turns)) ≡ true → may_all_follow rules ps turns later ≡ true → is_quiescent (replayed (chronicle rules ps (turns ++ later))) ≡ true
quiet_on rules ps turns [] quiet legal = subst (λ (ts : List Turn). is_quiescent (replayed (chronicle rules ps ts)) ≡ true) (sym (append-nil turns)) quiet
quiet_on rules ps turns (t ∷ ts) quiet legal =
    let m = first_may (may_follow (chronicle rules ps turns) t.party t.act) (may_all_follow rules ps (turns ++ t ∷ []) ts) legal in
    subst (λ (us : List Turn). is_quiescent (replayed (chronicle rules ps us)) ≡ true) (append_assoc turns (t ∷ []) ts)
    (quiet_on rules ps (turns ++ t ∷ []) ts (quiet_more (chronicle rules ps turns) t.party t.act quiet m.0) m.1)

-- A PASS
part_of : (names : Chronicle) (n : ℕ) (c : Chronicle) (seat : ℕ) (x : Known) → IsPass names seat x → Fits n c seat x → IsPart (chronicle names.rules names.parties c.turns) x
part_of names n c seat x pass fits =
    let same : chronicle names.rules names.parties c.turns ≡ chronicle x.seen.rules x.seen.parties c.turns = λ j. chronicle (sym pass.rules j) (sym pass.parties j) c.turns in
    let whole : c.turns ≡ x.seen.turns ++ fits.seen.0 = fits.seen.1 in
    let legal : may_all_follow x.seen.rules x.seen.parties [] (x.seen.turns ++ fits.seen.0) ≡ true = (λ j. may_all_follow (fits.rules j) (fits.parties j) [] (sym whole j)) ∙ fits.legal in
    record {
      seen = fits.seen;
      mine = fits.mine;
      quiet = λ quiet. ap (λ (z : Chronicle). is_quiescent (replayed z)) (same ∙ ap (chronicle x.seen.rules x.seen.parties) whole)
          ∙ quiet_on x.seen.rules x.seen.parties x.seen.turns fits.seen.0 quiet (legal_later x.seen.rules x.seen.parties [] x.seen.turns fits.seen.0 legal);
    }

pub all_parts : (table : TableId) (names : Chronicle) (seats n : ℕ) (c : Chronicle) (ps : List SeatPlace) → AreSeatsOf table names ps → CardsFit seats Fits n c (cards_at names ps) → AreParts (chronicle names.rules names.parties c.turns) (all_known_at names ps)
all_parts table names seats n c [] all fit = tt
all_parts table names seats n c (p ∷ ps) all fit = (part_of names n c p.seat (known_at names p) all.0.knows fit.1, all_parts table names seats n c ps all.1 fit.2)

pub all_counted : (table : TableId) (names : Chronicle) (seat : ℕ) (ps : List SeatPlace) → AreSeatsOf table names ps → passes_of seat (all_known_at names ps) ≡ cards_of seat (cards_at names ps)
all_counted table names seat [] all = refl
all_counted table names seat (p ∷ ps) all = λ j. one_if (all.0.knows.seat_is j == seat) + all_counted table names seat ps all.1 j

pub cards_length : (names : Chronicle) (ps : List SeatPlace) → length (cards_at names ps) ≡ length (all_known_at names ps)
cards_length names [] = refl
cards_length names (p ∷ ps) = ap suc (cards_length names ps)

pub cards_more : (names : Chronicle) (ps : List SeatPlace) (p : SeatPlace) → cards_at names (ps ++ p ∷ []) ≡ cards_at names ps ++ card p.seat (known_at names p) ∷ []
cards_more names [] p = refl
cards_more names (x ∷ xs) p = ap (λ cs. card x.seat (known_at names x) ∷ cs) (cards_more names xs p)

pub none_left : {A : Type 0} (xs ys zs : List A) → xs ++ ys ≡ zs → length ys ≡ 0 → xs ≡ zs
none_left xs [] zs e no_more = sym (append-nil xs) ∙ e
none_left xs (y ∷ ys) zs e no_more = absurd (omega arith)

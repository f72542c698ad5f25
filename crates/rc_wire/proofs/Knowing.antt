-- What passes know still fits the wire after a turn.
use Rattle.std.proofs.Common.{◌≡◌, ◌≢◌, ℕ, zero, suc, ◌+◌, Bool, true, false, not, ◌&&◌, ◌||◌, List, [], ◌∷◌, ◌++◌, length, slice_get, refl, ap, sym, ◌∙◌, subst, append_assoc, arith, Some, inl, inr}
use Rattle.std.specs.List.{list_any}
use Rattle.std.proofs.lemmas.List.{append-nil}
use Rattle.rc_ids.specs.Parties.{is_same_party}
use Rattle.rc_ids.specs.declared.names.Party.{Party}
use Rattle.rc_ticket.specs.Cards.{dealt}
use Rattle.rc_ticket.specs.Rule.{CardsFit}
use Rattle.rc_wire.specs.declared.pass.Known.{Known}
use Rattle.rc_wire.specs.declared.turn.Turn.{Turn}
use Rattle.rc_wire.specs.Chronicle.{Chronicle, chronicle}
use Rattle.rc_wire.specs.Parties.{all_differ}
use Rattle.rc_wire.specs.Standings.{turn, by}
use Rattle.rc_wire.specs.Passes.{IsFront, Follows, is_legal, Fits, learned, known_from, all_known}
use Rattle.rc_wire.proofs.Hubs.{by_other, party_back}
use Rattle.rc_wire.proofs.Quiet.{legal_more}

-- PARTIES AT THEIR SEATS
some_party : (p q : Party) → Some p ≡ Some q → p ≡ q
some_party p q e = cc

none_same : (p q : Party) (ps : List Party) (k : ℕ) → list_any (is_same_party p) ps ≡ false → slice_get ps k ≡ Some q → is_same_party p q ≡ false
none_same p q [] k none at = absurd cc
none_same p q (x ∷ xs) zero none at = ap (is_same_party p) (sym (some_party x q at)) ∙ first (is_same_party p x) none
  where
    first : (b : Bool) → b || list_any (is_same_party p) xs ≡ false → b ≡ false
    first true e = e
    first false e = refl
none_same p q (x ∷ xs) (suc k) none at = none_same p q xs k (rest (is_same_party p x) none) at
  where
    rest : (b : Bool) → b || list_any (is_same_party p) xs ≡ false → list_any (is_same_party p) xs ≡ false
    rest true e = absurd cc
    rest false e = e

differ_first : (a b : Bool) → not a && b ≡ true → a ≡ false
differ_first true b e = absurd cc
differ_first false b e = refl

differ_rest : (a b : Bool) → not a && b ≡ true → b ≡ true
differ_rest true b e = absurd cc
differ_rest false b e = e

pub seats_differ : (ps : List Party) (j k : ℕ) (p q : Party) → all_differ ps ≡ true → j ≢ k → slice_get ps j ≡ Some p → slice_get ps k ≡ Some q → is_same_party p q ≡ false
seats_differ [] j k p q differ ne atp atq = absurd cc
seats_differ (x ∷ xs) zero zero p q differ ne atp atq = absurd (ne refl)
seats_differ (x ∷ xs) zero (suc k) p q differ ne atp atq =
    ap (λ (z : Party). is_same_party z q) (sym (some_party x p atp)) ∙ none_same x q xs k (differ_first (list_any (is_same_party x) xs) (all_differ xs) differ) atq
seats_differ (x ∷ xs) (suc j) zero p q differ ne atp atq =
    party_back p q ∙ ap (λ (z : Party). is_same_party z p) (sym (some_party x q atq)) ∙ none_same x p xs j (differ_first (list_any (is_same_party x) xs) (all_differ xs) differ) atp
seats_differ (x ∷ xs) (suc j) (suc k) p q differ ne atp atq = seats_differ xs j k p q (differ_rest (list_any (is_same_party x) xs) (all_differ xs) differ) (λ e. ne (ap suc e)) atp atq

-- FRONTS
front_same : {A : Type 0} (xs : List A) → IsFront xs xs
front_same xs = ([], sym (append-nil xs))

pub front_on : {A : Type 0} (xs ys zs : List A) → IsFront xs ys → IsFront ys zs → IsFront xs zs
front_on xs ys zs f g = (f.0 ++ g.0, g.1 ∙ ap (λ l. l ++ g.0) f.1 ∙ append_assoc xs f.0 g.0)

-- A TURN
pub follows_front : (c after : Chronicle) (p : Party) → Follows c p after → IsFront c.turns after.turns
follows_front c after p (inl same) = ([], ap (λ (x : Chronicle). x.turns) same ∙ sym (append-nil c.turns))
follows_front c after p (inr made) = (turn p made.0 ∷ [], ap (λ (x : Chronicle). x.turns) made.1)

pub follows_rules : (c after : Chronicle) (p : Party) → Follows c p after → after.rules ≡ c.rules
follows_rules c after p (inl same) = ap (λ (x : Chronicle). x.rules) same
follows_rules c after p (inr made) = ap (λ (x : Chronicle). x.rules) made.1

pub follows_parties : (c after : Chronicle) (p : Party) → Follows c p after → after.parties ≡ c.parties
follows_parties c after p (inl same) = ap (λ (x : Chronicle). x.parties) same
follows_parties c after p (inr made) = ap (λ (x : Chronicle). x.parties) made.1

follows_legal : (c after : Chronicle) (p : Party) → Follows c p after → is_legal c ≡ true → is_legal after ≡ true
follows_legal c after p (inl same) legal = ap is_legal same ∙ legal
follows_legal c after p (inr made) legal = ap is_legal made.1 ∙ legal_more c p made.0 legal made.2

follows_other : (c after : Chronicle) (p q : Party) → Follows c p after → is_same_party p q ≡ false → by q after.turns ≡ by q c.turns
follows_other c after p q (inl same) other = ap (λ (x : Chronicle). by q x.turns) same
follows_other c after p q (inr made) other = ap (λ (x : Chronicle). by q x.turns) made.1 ∙ by_other q c.turns (turn p made.0) other

-- the pass whose turn it was knows the wire as it left it
pub own_fits : (n : ℕ) (c after : Chronicle) (seat : ℕ) (x : Known) → Follows c x.party after → Fits n c seat x → Fits (n + 1) after seat (learned (n + 1) after x)
own_fits n c after seat x f h = record {
  seat_is = h.seat_is;
  rules = refl;
  parties = refl;
  party = ap (λ (ps : List Party). slice_get ps seat) (follows_parties c after x.party f) ∙ h.party;
  last = omega arith;
  seen = front_same after.turns;
  mine = refl;
  legal = follows_legal c after x.party f h.legal;
  differ = ap all_differ (follows_parties c after x.party f) ∙ h.differ;
}

-- the others know what they knew
pub other_fits : (n : ℕ) (c after : Chronicle) (seat other : ℕ) (x y : Known) → Follows c x.party after → Fits n c seat x → other ≢ seat → Fits n c other y → Fits (n + 1) after other y
other_fits n c after seat other x y f h ne o =
    let apart = seats_differ c.parties seat other x.party y.party h.differ (λ e. ne (sym e)) h.party o.party in
    record {
      seat_is = o.seat_is;
      rules = o.rules ∙ sym (follows_rules c after x.party f);
      parties = o.parties ∙ sym (follows_parties c after x.party f);
      party = ap (λ (ps : List Party). slice_get ps other) (follows_parties c after x.party f) ∙ o.party;
      last = let l = o.last in omega arith;
      seen = front_on y.seen.turns c.turns after.turns o.seen (follows_front c after x.party f);
      mine = o.mine ∙ sym (follows_other c after x.party y.party f apart);
      legal = follows_legal c after x.party f o.legal;
      differ = ap all_differ (follows_parties c after x.party f) ∙ o.differ;
    }

-- AT FIRST
drop_is : (ps : List Party) (front : List Party) (p : Party) (rest : List Party) → ps ≡ front ++ p ∷ rest → slice_get ps (length front) ≡ Some p
drop_is ps front p rest is = ap (λ (xs : List Party). slice_get xs (length front)) is ∙ at front
  where
    at : (front : List Party) → slice_get (front ++ p ∷ rest) (length front) ≡ Some p
    at [] = refl
    at (x ∷ xs) = at xs

fits_from : (c : Chronicle) (front ps : List Party) → c.turns ≡ [] → c.parties ≡ front ++ ps → all_differ c.parties ≡ true → CardsFit (length c.parties) Fits 0 c (dealt (length front) (known_from c (length front) ps))
fits_from c front [] none is differ = tt
fits_from c front (p ∷ ps) none is differ =
    let long : length c.parties ≡ length front + suc (length ps) = ap length is ∙ lengths front in (
      omega arith,
      record {
        seat_is = refl;
        rules = refl;
        parties = refl;
        party = drop_is c.parties front p ps is;
        last = omega arith;
        seen = front_same c.turns;
        mine = sym (ap (by p) none);
        legal = ap (λ (ts : List Turn). is_legal (chronicle c.rules c.parties ts)) none;
        differ = differ;
      },
      subst (λ (n : ℕ). CardsFit (length c.parties) Fits 0 c (dealt n (known_from c n ps))) (one_more front)
          (fits_from c (front ++ p ∷ []) ps none (is ∙ sym (append_assoc front (p ∷ []) ps)) differ),
    )
  where
    lengths : (xs : List Party) → length (xs ++ p ∷ ps) ≡ length xs + suc (length ps)
    lengths [] = omega arith
    lengths (x ∷ xs) = let r = lengths xs in omega arith

    one_more : (xs : List Party) → length (xs ++ p ∷ []) ≡ suc (length xs)
    one_more [] = refl
    one_more (x ∷ xs) = ap suc (one_more xs)

pub fits_at_first : (c : Chronicle) → c.turns ≡ [] → all_differ c.parties ≡ true → CardsFit (length c.parties) Fits 0 c (dealt 0 (all_known c))
fits_at_first c none differ = fits_from c [] c.parties none refl differ

pub known_length : (c : Chronicle) (seat : ℕ) (ps : List Party) → length (known_from c seat ps) ≡ length ps
known_length c seat [] = refl
known_length c seat (p ∷ ps) = ap suc (known_length c (suc seat) ps)

-- Grants offered one after the other.
use Rattle.std.proofs.Common.{◌≡◌, ◌+◌, ◌-◌, Bool, true, false, cond, List, [], ◌∷◌, ◌++◌, length, take, Option, None, Some, refl, sym, ap, ◌∙◌, arith}
use Rattle.std.proofs.lemmas.List.{append-nil, append_assoc, length-append}
use Rattle.std.proofs.Math.Seq.{take-append_seam}
use Rattle.rc_ids.specs.Tables.{maybe}
use Rattle.rc_protocol.specs.Client.{Grant}
use Rattle.rc_read.specs.declared.state.ReadDone.{ReadDone}
use Rattle.rc_read.specs.Reads.{Reading, is_done, counts, with_grant, shown, ended, answer_to, after_offer}
use Rattle.rc_read.specs.Polls.{outcome, after_offers, Gives, Taken}

not_none : (b : Bool) (x : ReadDone) → b ≡ true → cond b (Some x) None ≡ None → ⊥
not_none true x is e = cc
not_none false x is e = cc

-- a read that goes on is not done
still_open : (r : Reading) (g : Grant) → is_done r ≡ false → answer_to r g ≡ None → is_done (after_offer r g) ≡ false
still_open r g waits none =
    by (counts r g.dc) (is_done (with_grant r g)) refl refl
  where
    by : (c h : Bool) → counts r g.dc ≡ c → is_done (with_grant r g) ≡ h → is_done (after_offer r g) ≡ false
    by false h counted done = ap (λ b. is_done (cond b (shown (with_grant r g)) r)) counted ∙ waits
    by true false counted done = ap (λ b. is_done (cond b (shown (with_grant r g)) r)) counted ∙ done
    by true true counted done =
        let full = ap (λ b. cond b (ended (with_grant r g)) None) counted in
        let e : ended (with_grant r g) ≡ None = sym full ∙ none in
        absurd (not_none (is_done (with_grant r g)) _ done e)

pub goes_on : (r then : Reading) (g : Grant) → is_done r ≡ false → then ≡ after_offer r g → None ≡ answer_to r g → is_done then ≡ false
goes_on r then g waits stands says = ap is_done stands ∙ still_open r g waits (sym says)

after_more : (r : Reading) (gs : List Grant) (g : Grant) → after_offers r (gs ++ g ∷ []) ≡ after_offer (after_offers r gs) g
after_more r [] g = refl
after_more r (x ∷ gs) g = after_more (after_offer r x) gs g

-- where the first grants give nothing, the others give what they do from there
outcome_later : (r : Reading) (gs hs : List Grant) → outcome r gs ≡ None → outcome r (gs ++ hs) ≡ outcome (after_offers r gs) hs
outcome_later r [] hs none = refl
outcome_later r (x ∷ gs) hs none =
    by (answer_to r x) none (outcome_later (after_offer r x) gs hs)
  where
    by : (o : Option ReadDone) → maybe o (outcome (after_offer r x) gs) Some ≡ None
        → (outcome (after_offer r x) gs ≡ None → outcome (after_offer r x) (gs ++ hs) ≡ outcome (after_offers r (x ∷ gs)) hs)
        → maybe o (outcome (after_offer r x) (gs ++ hs)) Some ≡ outcome (after_offers r (x ∷ gs)) hs
    by None is rest = rest is
    by (Some done) is rest = cc

alone : (o : Option ReadDone) → maybe o None Some ≡ o
alone None = refl
alone (Some done) = refl

but_last : (gs : List Grant) (g : Grant) → take (length (gs ++ g ∷ []) - 1) (gs ++ g ∷ []) ≡ gs
but_last gs g =
    let count : length (gs ++ g ∷ []) ≡ length gs + 1 = length-append gs (g ∷ []) in
    let fewer : length (gs ++ g ∷ []) - 1 ≡ length gs = omega (arith, count) in
    ap (λ n. take n (gs ++ g ∷ [])) fewer ∙ take-append_seam gs (g ∷ [])

pub taken_none : (given : List Grant) (r : Reading) → Taken given r given r None
taken_none given r = record { grants = []; given = sym (append-nil given); state = refl; gave = refl; before = refl }

pub taken_more : (start given next : List Grant) (r now then : Reading) (g : Grant) (o : Option ReadDone) → Taken start r given now None
    → next ≡ given ++ g ∷ [] → then ≡ after_offer now g → o ≡ answer_to now g → Taken start r next then o
taken_more start given next r now then g o t came stands says = record {
  grants = t.grants ++ g ∷ [];
  given = came ∙ ap (λ gs. gs ++ g ∷ []) t.given ∙ append_assoc start t.grants (g ∷ []);
  state = stands ∙ ap (λ s. after_offer s g) t.state ∙ sym (after_more r t.grants g);
  gave =
      says ∙ ap (λ s. answer_to s g) t.state ∙ sym (alone (answer_to (after_offers r t.grants) g))
      ∙ sym (outcome_later r t.grants (g ∷ []) (sym t.gave));
  before = ap (outcome r) (but_last t.grants g) ∙ sym t.gave;
}

-- nothing more was given
pub taken_same : (start given next : List Grant) (r now : Reading) → Taken start r given now None → next ≡ given → Taken start r next now None
taken_same start given next r now t is = record { grants = t.grants; given = is ∙ t.given; state = t.state; gave = t.gave; before = t.before }

pub gives_taken : (start given : List Grant) (r now : Reading) (done : ReadDone) → Taken start r given now (Some done) → Gives r done
gives_taken start given r now done t = (t.grants, sym t.gave)

pub gives_later : (start given : List Grant) (r now : Reading) (done : ReadDone) → Taken start r given now None → Gives now done → Gives r done
gives_later start given r now done t later =
    (t.grants ++ later.0, outcome_later r t.grants later.0 (sym t.gave) ∙ ap (λ s. outcome s later.0) (sym t.state) ∙ later.1)

-- The row of a page of outcomes.
use Rattle.std.proofs.Common.{◌≡◌, ℕ, ◌+◌, ◌≤◌, ◌<◌, ◌==◌, not, false, true, Bool, cond, List, [], ◌∷◌, ◌++◌, length, take, slice_get, Option, None, Some, is_none, if◌then◌else◌, refl, sym, ap, subst, ◌∙◌, arith}
use Rattle.std.specs.Ordering.{nat_cmp, is_eq}
use Rattle.std.proofs.lemmas.Bool.{or_parts}
use Rattle.std.proofs.lemmas.List.{length-take}
use Rattle.rc_ids.specs.Cluster.{Layout}
use Rattle.rc_body.specs.declared.decision.Decision.{Decision}
use Rattle.rc_body.specs.Pages.{has_tx, TxsDiffer, IsPage}
use Rattle.rc_body.proofs.Places.{none_passes-filter, length-filter_le, filter-chosen, filter-skipped}
use Rattle.rc_body.proofs.PageFacts.{TxsDiffer-before}
use Rattle.rc_record.specs.CoordState.{outcome_of}
use Rattle.rc_protocol.specs.Messages.{Posts, most_entries, coordinator}
use Rattle.rc_protocol.specs.Coordinator.{CoordDurable, CoordVolatile, CoordAct, undecided, is_next_coord_page, takes_page, with_coord_cursor, on_catch_page, coord_stays, asks_next_coord_page}
use Rattle.rc_msg.specs.Posts.{posted_all}
use Rattle.rc_node.specs.Acts.{Site, Acts, coord_does}
use Rattle.rc_coord.specs.Rows.{AreNew, asks_at, takes_new}

-- NEW OUTCOMES
unequal : (t u : ℕ) → (u == t) ≡ false → is_eq (nat_cmp t u) ≡ false
unequal t u other = grind arith

found-behind : (outcomes : List (ℕ × Decision)) (e : ℕ × Decision) (t : ℕ) → outcome_of outcomes t ≡ None → (e.0 == t) ≡ false → outcome_of (outcomes ++ e ∷ []) t ≡ None
found-behind [] e t none other = ap (λ b. cond b (Some e.1) None) (unequal t e.0 other)
found-behind (x ∷ xs) e t none other = at (is_eq (nat_cmp t x.0)) none (λ rest. found-behind xs e t rest other)
  where
    at : (b : Bool) → cond b (Some x.1) (outcome_of xs t) ≡ None → (outcome_of xs t ≡ None → outcome_of (xs ++ e ∷ []) t ≡ None)
        → cond b (Some x.1) (outcome_of (xs ++ e ∷ []) t) ≡ None
    at true none rest = absurd cc
    at false none rest = rest none

-- none of these has an outcome
AreAbsent : List (ℕ × Decision) → List (ℕ × Decision) → Type 0
AreAbsent outcomes [] = Unit {0}
AreAbsent outcomes (e ∷ es) = (outcome_of outcomes e.0 ≡ None) × AreAbsent outcomes es

turned : (a b : ℕ) → (a == b) ≡ false → (b == a) ≡ false
turned a b h = grind arith

absent-behind : (outcomes : List (ℕ × Decision)) (e : ℕ × Decision) (es : List (ℕ × Decision)) → AreAbsent outcomes es → has_tx e.0 es ≡ false → AreAbsent (outcomes ++ e ∷ []) es
unfolding AreAbsent
absent-behind outcomes e [] absent none = tt
absent-behind outcomes e (x ∷ xs) absent none =
    let parts = or_parts (x.0 == e.0) (has_tx e.0 xs) none in
    (found-behind outcomes e x.0 absent.0 (turned x.0 e.0 parts.0), absent-behind outcomes e xs absent.1 parts.1)

new-from : (outcomes es : List (ℕ × Decision)) → TxsDiffer es → AreAbsent outcomes es → AreNew outcomes es
unfolding AreAbsent
new-from outcomes [] apart absent = tt
new-from outcomes (e ∷ es) apart absent = (absent.0, new-from (outcomes ++ e ∷ []) es apart.1 (absent-behind outcomes e es absent.1 apart.0))

absent-none : (es : List (ℕ × Decision)) → AreAbsent [] es
unfolding AreAbsent
absent-none [] = tt
absent-none (e ∷ es) = (refl, absent-none es)

-- where there is none yet, those of transactions that differ are new
pub differ-new : (es : List (ℕ × Decision)) → TxsDiffer es → AreNew [] es
differ-new es apart = new-from [] es apart (absent-none es)

absent-undecided : (outcomes page : List (ℕ × Decision)) → AreAbsent outcomes (undecided outcomes page)
unfolding AreAbsent
absent-undecided outcomes [] = tt
absent-undecided outcomes (e ∷ es) = at (outcome_of outcomes e.0) refl (absent-undecided outcomes es)
  where
    at : (o : Option Decision) → outcome_of outcomes e.0 ≡ o → AreAbsent outcomes (undecided outcomes es) → AreAbsent outcomes (cond (is_none o) (e ∷ undecided outcomes es) (undecided outcomes es))
    at None is rest = (is, rest)
    at (Some d) is rest = rest

apart-undecided : (outcomes page : List (ℕ × Decision)) → TxsDiffer page → TxsDiffer (undecided outcomes page)
apart-undecided outcomes [] apart = tt
apart-undecided outcomes (e ∷ es) apart = at (is_none (outcome_of outcomes e.0)) (apart-undecided outcomes es apart.1)
  where
    at : (b : Bool) → TxsDiffer (undecided outcomes es) → TxsDiffer (cond b (e ∷ undecided outcomes es) (undecided outcomes es))
    at true rest = (none_passes-filter (λ x. x.0 == e.0) (λ (x : ℕ × Decision). is_none (outcome_of outcomes x.0)) es apart.0, rest)
    at false rest = rest

pub undecided-new : (outcomes page fresh : List (ℕ × Decision)) → fresh ≡ undecided outcomes page → TxsDiffer page → AreNew outcomes fresh
undecided-new outcomes page fresh is apart =
    subst (AreNew outcomes) (sym is) (new-from outcomes (undecided outcomes page) (apart-undecided outcomes page apart) (absent-undecided outcomes page))

-- WHAT IS NEW, one entry further
pub fresh-absent : (outcomes page fresh : List (ℕ × Decision)) (i t : ℕ) (o : Decision) → IsPage page → slice_get page i ≡ Some (t, o)
    → fresh ≡ undecided outcomes (take i page) → has_tx t fresh ≡ false
fresh-absent outcomes page fresh i t o is at same =
    ap (has_tx t) same
    ∙ none_passes-filter (λ x. x.0 == t) (λ (e : ℕ × Decision). is_none (outcome_of outcomes e.0)) (take i page) (TxsDiffer-before page i t o is.apart at)

pub fresh-room : (outcomes page fresh : List (ℕ × Decision)) (i : ℕ) → IsPage page → i < length page → fresh ≡ undecided outcomes (take i page)
    → length fresh < 64
fresh-room outcomes page fresh i is lt same =
    let few : length (undecided outcomes (take i page)) ≤ length (take i page) =
    length-filter_le (λ (e : ℕ × Decision). is_none (outcome_of outcomes e.0)) (take i page) in
    omega (arith, is.few, ap length same, length-take i page)

pub fresh-more : (outcomes page : List (ℕ × Decision)) (i t : ℕ) (o : Decision) → slice_get page i ≡ Some (t, o) → is_none (outcome_of outcomes t) ≡ true
    → undecided outcomes (take (i + 1) page) ≡ undecided outcomes (take i page) ++ (t, o) ∷ []
fresh-more outcomes page i t o at none = filter-chosen (λ (e : ℕ × Decision). is_none (outcome_of outcomes e.0)) page i (t, o) at none

pub fresh-same : (outcomes page : List (ℕ × Decision)) (i t : ℕ) (o : Decision) → slice_get page i ≡ Some (t, o) → is_none (outcome_of outcomes t) ≡ false
    → undecided outcomes (take (i + 1) page) ≡ undecided outcomes (take i page)
fresh-same outcomes page i t o at some = filter-skipped (λ (e : ℕ × Decision). is_none (outcome_of outcomes e.0)) page i (t, o) at some

-- A PAGE
module _ (c : Layout) (d : ℕ) (s : CoordDurable) (v : CoordVolatile) (from place : ℕ) (page : List (ℕ × Decision)) where
  abbrev next_at : Bool → Option ℕ
  next_at b = if b then Some (place + length page) else None

  abbrev act_at : Bool → CoordAct
  act_at b = if b then takes_page c d (with_coord_cursor v from (place + length page)) (undecided s.outcomes page) (asks_next_coord_page (coordinator from) place page) else coord_stays v

  pub ignored-is : None ≡ next_at (is_next_coord_page d v from place page) → coord_stays v ≡ on_catch_page c d s v from place page
  ignored-is is = at (is_next_coord_page d v from place page) is
    where
      at : (b : Bool) → None ≡ next_at b → coord_stays v ≡ act_at b
      at true e = absurd cc
      at false e = refl

  asks-is : (next : ℕ) → next ≡ place + length page → asks_at from (if length page == most_entries then Some next else None) ≡ asks_next_coord_page (coordinator from) place page
  asks-is next is = ap (λ (n : ℕ). asks_at from (if length page == most_entries then Some n else None)) is ∙ at (length page == most_entries)
    where
      at : (b : Bool) → asks_at from (if b then Some (place + length page) else None) ≡ (if b then asks_at from (Some (place + length page)) else [])
      at true = refl
      at false = refl

  pub page-is : (next : ℕ) (fresh : List (ℕ × Decision)) (ask : Option ℕ) → Some next ≡ next_at (is_next_coord_page d v from place page) → fresh ≡ undecided s.outcomes page
      → ask ≡ (if length page == most_entries then Some next else None)
      → takes_page c d (with_coord_cursor v from next) fresh (asks_at from ask) ≡ on_catch_page c d s v from place page
  page-is next fresh ask is fresh_is ask_is = at (is_next_coord_page d v from place page) is
    where
      at : (b : Bool) → Some next ≡ next_at b → takes_page c d (with_coord_cursor v from next) fresh (asks_at from ask) ≡ act_at b
      at false e = absurd cc
      at true e =
          let next_is : next ≡ place + length page = cc in
          ap (λ (n : ℕ). takes_page c d (with_coord_cursor v from n) fresh (asks_at from ask)) next_is
          ∙ ap (λ (es : List (ℕ × Decision)). takes_page c d (with_coord_cursor v from (place + length page)) es (asks_at from ask)) fresh_is
          ∙ ap (λ (ms : Posts). takes_page c d (with_coord_cursor v from (place + length page)) (undecided s.outcomes page) ms) (ap (asks_at from) ask_is ∙ asks-is next next_is)

-- with something new, a page is learned
pub new-is : (c : Layout) (d : ℕ) (v : CoordVolatile) (fresh : List (ℕ × Decision)) (more : Posts) → (length fresh == 0) ≡ false → takes_new c d v fresh more ≡ takes_page c d v fresh more
new-is c d v [] more none = absurd cc
new-is c d v (e ∷ es) more none = refl

-- with nothing new, it is passed
pub pass-acts : (c : Layout) (d : ℕ) (old new : Site CoordDurable CoordVolatile) (from next : ℕ) (fresh : List (ℕ × Decision)) (more : Posts) → (length fresh == 0) ≡ true
    → new ≡ (let z : Site CoordDurable CoordVolatile = record { durable = old.durable; volatile = with_coord_cursor old.volatile from next; journal = old.journal; out = posted_all old.out more } in z)
    → Acts old new (coord_does old.durable (takes_page c d (with_coord_cursor old.volatile from next) fresh more))
pass-acts c d old new from next [] more empty is = record {
  durable = ap (λ (x : Site CoordDurable CoordVolatile). x.durable) is;
  volatile = ap (λ (x : Site CoordDurable CoordVolatile). x.volatile) is;
  logs = ap (λ (x : Site CoordDurable CoordVolatile). x.journal) is;
  sends = ap (λ (x : Site CoordDurable CoordVolatile). x.out) is;
  left = refl;
}
pass-acts c d old new from next (e ∷ es) more empty is = absurd (grind arith)

pub not_true : (x : Bool) → not x ≡ true → x ≡ false
not_true true e = absurd cc
not_true false e = refl

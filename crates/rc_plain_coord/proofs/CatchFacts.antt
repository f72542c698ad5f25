-- Pages, entry by entry.
use Rattle.std.proofs.Common.{◌≡◌, ℕ, ◌+◌, ◌≤◌, ◌<◌, ◌==◌, false, true, Bool, List, [], ◌∷◌, ◌++◌, length, take, drop, slice_get, Option, None, Some, is_some, is_none, not, Bor, sym, ap, ◌∙◌, append_assoc, arith}
use Rattle.std.specs.Option.{option_copied}
use Rattle.std.proofs.lemmas.List.{append-nil, length-take}
use Rattle.rc_ids.specs.Cluster.{Layout}
use Rattle.rc_body.specs.declared.decision.Decision.{Decision}
use Rattle.rc_body.specs.Pages.{has_tx, TxsDiffer, IsPage}
use Rattle.rc_body.proofs.Places.{none_passes-filter, length-filter_le, filter-chosen, filter-skipped}
use Rattle.rc_body.proofs.PageFacts.{TxsDiffer-before}
use Rattle.rc_record.proofs.Rest.{drop_step, drop_end}
use Rattle.rc_record.specs.CoordState.{outcome_of}
use Rattle.rc_protocol.specs.Messages.{Posts}
use Rattle.rc_protocol.specs.Coordinator.{CoordVolatile, forgotten, forgotten_all, finish_posts, finish_all_posts, undecided}

-- one more transaction is forgotten
pub forgotten_step : (v : CoordVolatile) (page : List (ℕ × Decision)) (i : ℕ) (e : ℕ × Decision) (new whole : CoordVolatile) → slice_get page i ≡ Some e
    → new ≡ forgotten v e.0 → forgotten_all v (drop i page) ≡ whole → forgotten_all new (drop (i + 1) page) ≡ whole
forgotten_step v page i e new whole at is before =
    ap (λ (u : CoordVolatile). forgotten_all u (drop (i + 1) page)) is ∙ (ap (forgotten_all v) (sym (drop_step page i e at)) ∙ before)

-- the shards are told one more outcome
pub finishes_step : (c : Layout) (d : ℕ) (page : List (ℕ × Decision)) (i : ℕ) (e : ℕ × Decision) (out new whole : Posts) → slice_get page i ≡ Some e
    → new ≡ out ++ finish_posts c d e.0 e.1 → out ++ finish_all_posts c d (drop i page) ≡ whole → new ++ finish_all_posts c d (drop (i + 1) page) ≡ whole
finishes_step c d page i e out new whole at is before =
    ap (λ (ms : Posts). ms ++ finish_all_posts c d (drop (i + 1) page)) is
    ∙ append_assoc out (finish_posts c d e.0 e.1) (finish_all_posts c d (drop (i + 1) page))
    ∙ ap (λ (es : List (ℕ × Decision)). out ++ finish_all_posts c d es) (sym (drop_step page i e at)) ∙ before

pub finishes_end : (c : Layout) (d : ℕ) (page : List (ℕ × Decision)) (i : ℕ) (out whole : Posts) → length page ≤ i
    → out ++ finish_all_posts c d (drop i page) ≡ whole → out ≡ whole
finishes_end c d page i out whole le before =
    sym (append-nil out) ∙ ap (λ (es : List (ℕ × Decision)). out ++ finish_all_posts c d es) (sym (drop_end page i le)) ∙ before

-- what is new, one entry further
pub fresh_absent : (outcomes page fresh : List (ℕ × Decision)) (i t : ℕ) (o : Decision) → IsPage page → slice_get page i ≡ Some (t, o)
    → fresh ≡ undecided outcomes (take i page) → has_tx t fresh ≡ false
fresh_absent outcomes page fresh i t o is at same =
    ap (has_tx t) same
    ∙ none_passes-filter (λ x. x.0 == t) (λ (e : ℕ × Decision). is_none (outcome_of outcomes e.0)) (take i page) (TxsDiffer-before page i t o is.apart at)

pub fresh_room : (outcomes page fresh : List (ℕ × Decision)) (i : ℕ) → IsPage page → i < length page → fresh ≡ undecided outcomes (take i page)
    → length fresh < 64
fresh_room outcomes page fresh i is lt same =
    let few : length (undecided outcomes (take i page)) ≤ length (take i page) =
    length-filter_le (λ (e : ℕ × Decision). is_none (outcome_of outcomes e.0)) (take i page) in
    omega (arith, is.few, ap length same, length-take i page)

pub fresh_more : (outcomes page : List (ℕ × Decision)) (i t : ℕ) (o : Decision) → slice_get page i ≡ Some (t, o) → is_none (outcome_of outcomes t) ≡ true
    → undecided outcomes (take (i + 1) page) ≡ undecided outcomes (take i page) ++ (t, o) ∷ []
fresh_more outcomes page i t o at none = filter-chosen (λ (e : ℕ × Decision). is_none (outcome_of outcomes e.0)) page i (t, o) at none

pub fresh_same : (outcomes page : List (ℕ × Decision)) (i t : ℕ) (o : Decision) → slice_get page i ≡ Some (t, o) → is_none (outcome_of outcomes t) ≡ false
    → undecided outcomes (take (i + 1) page) ≡ undecided outcomes (take i page)
fresh_same outcomes page i t o at some = filter-skipped (λ (e : ℕ × Decision). is_none (outcome_of outcomes e.0)) page i (t, o) at some

-- a look-up by reference, and its test
pub copied_none : {X : Type 0} (r : Option (Bor X)) (there : Option X) (b : Bool) → option_copied r ≡ there → is_some r ≡ not b → is_none there ≡ b
copied_none None there true e s = sym (ap is_none e)
copied_none None there false e s = cc
copied_none (Some x) there true e s = cc
copied_none (Some x) there false e s = sym (ap is_none e)

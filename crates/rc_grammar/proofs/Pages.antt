-- Pages that are cut from lists of outcomes, and lists of outcomes that a page joins.
use Rattle.std.proofs.Common.{◌≡◌, ℕ, zero, suc, ◌≤◌, ◌==◌, Bool, false, List, [], ◌∷◌, ◌++◌, length, refl, ap, ◌∙◌, arith, Option, Some, None}
use Rattle.std.specs.Prelude.{filter, map, take, drop, ◌||◌, ◌&&◌, is_none}
use Rattle.std.specs.List.{AllByRecursion, list_any}
use Rattle.std.specs.Ordering.{nat_cmp}
use Rattle.rc_ids.specs.Tables.{found, maybe}
use Rattle.rc_ids.specs.Cluster.{Layout}
use Rattle.rc_body.specs.Pages.{has_tx, TxsDiffer}
use Rattle.rc_body.specs.Spelling.{HasDecision, HasOutcome, HasPage}
use Rattle.rc_body.specs.declared.decision.Decision.{Decision}
use Rattle.rc_body.proofs.PageFacts.{TxsDiffer-push}
use Rattle.rc_body.proofs.PartFacts.{none-found}
use Rattle.rc_fields.specs.Ranges.{IsTxNumber}
use Rattle.rc_record.specs.Spelling.{HasFullPage}
use Rattle.rc_record.specs.CoordState.{outcome_of, outcomes_joined}
use Rattle.rc_record.specs.ShardState.{ShardDurable}
use Rattle.rc_protocol.specs.Messages.{most_entries}
use Rattle.rc_protocol.specs.Shard.{cut_to_part, concerns, unfinished}
use Rattle.rc_protocol.specs.Coordinator.{page_from, undecided}
use Rattle.rc_grammar.proofs.Lists.{on_cond, or_none, or_first, or_second, all_both, all_filter, all_take, all_drop, all_map, none_filtered}
use Rattle.rc_grammar.proofs.Bodies.{filter_short, has_cut}

abbrev Outcomes : Type 0
Outcomes = List (ℕ × Decision)

-- NONE TWICE
none_taken : {A : Type 0} (test : A → Bool) (n : ℕ) (xs : List A) → list_any test xs ≡ false → list_any test (take n xs) ≡ false
none_taken test zero xs none = refl
none_taken test (suc n) [] none = refl
none_taken test (suc n) (x ∷ xs) none = or_none (test x) (list_any test (take n xs)) (or_first (test x) (list_any test xs) none) (none_taken test n xs (or_second (test x) (list_any test xs) none))

txs_filtered : (kept : ℕ × Decision → Bool) (page : Outcomes) → TxsDiffer page → TxsDiffer (filter kept page)
txs_filtered kept [] apart = tt
txs_filtered kept (e ∷ es) apart =
    on_cond TxsDiffer (kept e) (e ∷ filter kept es) (filter kept es)
    (λ _. (none_filtered (λ (x : ℕ × Decision). x.0 == e.0) kept es apart.0, txs_filtered kept es apart.1))
    (λ _. txs_filtered kept es apart.1)

txs_taken : (n : ℕ) (list : Outcomes) → TxsDiffer list → TxsDiffer (take n list)
txs_taken zero list apart = tt
txs_taken (suc n) [] apart = tt
txs_taken (suc n) (e ∷ es) apart = (none_taken (λ (x : ℕ × Decision). x.0 == e.0) n es apart.0, txs_taken n es apart.1)

txs_dropped : (n : ℕ) (list : Outcomes) → TxsDiffer list → TxsDiffer (drop n list)
txs_dropped zero list apart = apart
txs_dropped (suc n) [] apart = tt
txs_dropped (suc n) (e ∷ es) apart = txs_dropped n es apart.1

take_short : {A : Type 0} (n : ℕ) (xs : List A) → length (take n xs) ≤ n
take_short zero xs = omega arith
take_short (suc n) [] = omega arith
take_short (suc n) (x ∷ xs) = let rest = take_short n xs in omega arith

-- PAGES
pub has_filtered_page : (kept : ℕ × Decision → Bool) (page : Outcomes) → HasPage page → HasPage (filter kept page)
has_filtered_page kept page h =
    let short = filter_short kept page in
    let few = h.allowed.few in
    record {
      allowed = record { few = omega arith; apart = txs_filtered kept page h.allowed.apart };
      outcomes = all_filter HasOutcome kept page h.outcomes;
    }

pub has_undecided : (outcomes page : Outcomes) → HasPage page → HasPage (undecided outcomes page)
has_undecided outcomes page h = has_filtered_page (λ (e : ℕ × Decision). is_none (outcome_of outcomes e.0)) page h

pub has_page_from : (outcomes : Outcomes) (place : ℕ) → AllByRecursion HasOutcome outcomes → TxsDiffer outcomes → HasPage (page_from outcomes place)
has_page_from outcomes place all apart = record {
  allowed = record { few = take_short most_entries (drop place outcomes); apart = txs_taken most_entries (drop place outcomes) (txs_dropped place outcomes apart) };
  outcomes = all_take HasOutcome most_entries (drop place outcomes) (all_drop HasOutcome place outcomes all);
}

-- one outcome alone
pub has_single : (t : ℕ) (o : Decision) → IsTxNumber t → HasDecision o → HasFullPage ((t, o) ∷ [])
has_single t o tx d = (omega arith, record { allowed = record { few = omega arith; apart = (refl, tt) }; outcomes = ((tx, d), tt) })

module _ (cut : Decision → Decision) (fits : (o : Decision) → HasDecision o → HasDecision (cut o)) where
  abbrev cut_entry : ℕ × Decision → ℕ × Decision
  cut_entry e = (e.0, cut e.1)

  cut_has : (t : ℕ) (page : Outcomes) → has_tx t (map cut_entry page) ≡ has_tx t page
  cut_has t [] = refl
  cut_has t (e ∷ es) = ap (λ (b : Bool). (e.0 == t) || b) (cut_has t es)

  cut_apart : (page : Outcomes) → TxsDiffer page → TxsDiffer (map cut_entry page)
  cut_apart [] apart = tt
  cut_apart (e ∷ es) apart = (cut_has e.0 es ∙ apart.0, cut_apart es apart.1)

  cut_long : (page : Outcomes) → length (map cut_entry page) ≡ length page
  cut_long [] = refl
  cut_long (e ∷ es) = ap suc (cut_long es)

  has_cut_page : (page : Outcomes) → HasPage page → HasPage (map cut_entry page)
  has_cut_page page h =
      let long = cut_long page in
      let few = h.allowed.few in
      record {
        allowed = record { few = omega arith; apart = cut_apart page h.allowed.apart };
        outcomes = all_map HasOutcome HasOutcome cut_entry (λ e p. (p.0, fits e.1 p.1)) page h.outcomes;
      }

pub has_unfinished : (c : Layout) (sh : ℕ) (s : ShardDurable) (page : Outcomes) → HasPage page → HasPage (unfinished c sh s page)
has_unfinished c sh s page h =
    has_cut_page (cut_to_part c sh) (has_cut c sh) _ (has_filtered_page (λ (e : ℕ × Decision). is_none (found nat_cmp s.finished e.0) && concerns c sh e.1) page h)

-- JOINING
pub record HasOutcomes (list : Outcomes) : Type 0 where
  pub all : AllByRecursion HasOutcome list
  pub apart : TxsDiffer list

pub joined : (page list : Outcomes) → AllByRecursion HasOutcome page → HasOutcomes list → HasOutcomes (outcomes_joined list page)
joined [] list p h = h
joined (e ∷ es) list p h = joined es (maybe (outcome_of list e.0) (list ++ e ∷ []) (λ _. list)) p.1 (one (outcome_of list e.0) refl)
  where
    one : (o : Option Decision) → outcome_of list e.0 ≡ o → HasOutcomes (maybe o (list ++ e ∷ []) (λ _. list))
    one None is = record { all = all_both HasOutcome list (e ∷ []) h.all (p.0, tt); apart = TxsDiffer-push list e.0 e.1 h.apart (none-found list e.0 is) }
    one (Some d) is = h

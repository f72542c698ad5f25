-- Pages: one more transaction.
use Rattle.std.proofs.Common.{◌≡◌, ℕ, zero, suc, ◌<◌, ◌==◌, false, ◌||◌, List, [], ◌∷◌, ◌++◌, length, length-append, take, slice_get, Some, refl, ◌∙◌, arith}
use Rattle.std.proofs.lemmas.Bool.{or_parts, or_from}
use Rattle.std.proofs.lemmas.List.Folds.{list_any-append}
use Rattle.std.proofs.lemmas.Cmp.{nat_eq_equiv}
use Rattle.rc_body.specs.declared.decision.Decision.{Decision}
use Rattle.rc_body.specs.Pages.{has_tx, TxsDiffer, IsPage}
use Rattle.rc_body.proofs.Places.{none_passes}

pub TxsDiffer-push : {X : Type 0} (xs : List (ℕ × X)) (t : ℕ) (v : X) → TxsDiffer xs → has_tx t xs ≡ false → TxsDiffer (xs ++ ((t, v) ∷ []))
TxsDiffer-push [] t v apart none = (refl, tt)
TxsDiffer-push (x ∷ xs) t v apart none =
    let parts = or_parts (x.0 == t) (has_tx t xs) none in (
      list_any-append (λ y. y.0 == x.0) xs ((t, v) ∷ [])
          ∙ or_from (has_tx x.0 xs) ((t == x.0) || false) apart.0
          (or_from (t == x.0) false (nat_eq_equiv.symm t x.0 ∙ parts.0) refl),
      TxsDiffer-push xs t v apart.1 parts.1,
    )

-- the transaction at a place stands at no earlier one
pub TxsDiffer-before : {X : Type 0} (xs : List (ℕ × X)) (i : ℕ) (t : ℕ) (v : X) → TxsDiffer xs → slice_get xs i ≡ Some (t, v) → has_tx t (take i xs) ≡ false
TxsDiffer-before [] i t v apart at = cc
TxsDiffer-before (x ∷ xs) zero t v apart at = refl
TxsDiffer-before (x ∷ xs) (suc i) t v apart at =
    or_from (x.0 == t) (has_tx t (take i xs))
    (nat_eq_equiv.symm x.0 t ∙ none_passes (λ y. y.0 == x.0) xs i (t, v) apart.0 at)
    (TxsDiffer-before xs i t v apart.1 at)

-- a page with one more transaction
pub IsPage-push : (page : List (ℕ × Decision)) (t : ℕ) (d : Decision) → IsPage page → has_tx t page ≡ false → length page < 64
    → IsPage (page ++ ((t, d) ∷ []))
IsPage-push page t d is none room = record {
  few = omega (arith, length-append page ((t, d) ∷ []));
  apart = TxsDiffer-push page t d is.apart none;
}

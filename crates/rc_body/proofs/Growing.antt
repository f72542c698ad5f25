-- Lists that may not grow so, and that no more elements mend.
use Rattle.std.proofs.Common.{◌≡◌, ℕ, ◌≤◌, Bool, true, false, ◌||◌, List, [], ◌∷◌, ◌++◌, length, length-append, refl, sym, ◌∙◌, arith}
use Rattle.std.specs.List.{list_any}
use Rattle.std.specs.Prelude.{nat_eq}
use Rattle.std.proofs.lemmas.Bool.{or_parts}
use Rattle.std.proofs.lemmas.List.Folds.{list_any-append}
use Rattle.std.proofs.lemmas.Cmp.{nat_list_eq_equiv, nat_eq_equiv}
use Rattle.rc_ids.specs.Texts.{same_key}
use Rattle.rc_body.specs.declared.entry.Entry.{Entry}
use Rattle.rc_body.specs.declared.decision.Decision.{Decision}
use Rattle.rc_body.specs.Entries.{wears_out}
use Rattle.rc_body.specs.Bodies.{has_key, KeysDiffer, IsBody}
use Rattle.rc_body.specs.Pages.{has_tx, TxsDiffer, IsPage}
use Rattle.rc_body.specs.Reading.{is_body, is_page}
use Rattle.rc_body.proofs.ReadingLaws.{IsBody-from_test, is_body-holds, IsPage-from_test, is_page-holds}

none-front : {X : Type 0} (p : X → Bool) (xs ys : List X) → list_any p (xs ++ ys) ≡ false → list_any p xs ≡ false
none-front p xs ys none = (or_parts (list_any p xs) (list_any p ys) (sym (list_any-append p xs ys) ∙ none)).0

KeysDiffer-front : (xs ys : List Entry) → KeysDiffer (xs ++ ys) → KeysDiffer xs
KeysDiffer-front [] ys apart = tt
KeysDiffer-front (x ∷ xs) ys apart = (none-front (λ e. same_key e.key x.key) xs ys apart.0, KeysDiffer-front xs ys apart.1)

-- a body's front is one
IsBody-front : (xs ys : List Entry) → IsBody (xs ++ ys) → IsBody xs
IsBody-front xs ys is = record {
  few = omega (arith, is.few, length-append xs ys);
  lasting = none-front wears_out xs ys is.lasting;
  apart = KeysDiffer-front xs ys is.apart;
}

fails : (a b : Bool) → (b ≡ true → a ≡ true) → a ≡ false → b ≡ false
fails a true leads failing = absurd (cc (leads refl, failing))
fails a false leads failing = refl

pub is_body-more : (front more : List Entry) → is_body front ≡ false → is_body (front ++ more) ≡ false
is_body-more front more failing =
    fails (is_body front) (is_body (front ++ more)) (λ h. is_body-holds front (IsBody-front front more (IsBody-from_test (front ++ more) h))) failing

-- the last key stands at no place before
KeysDiffer-last : (xs : List Entry) (e : Entry) → KeysDiffer (xs ++ (e ∷ [])) → has_key e.key xs ≡ false
KeysDiffer-last [] e apart = refl
KeysDiffer-last (x ∷ xs) e apart =
    let parts = or_parts (has_key x.key xs) (has_key x.key (e ∷ [])) (sym (list_any-append (λ y. same_key y.key x.key) xs (e ∷ [])) ∙ apart.0) in
    let other = (or_parts (same_key e.key x.key) false parts.1).0 in
    either (same_key x.key e.key) (has_key e.key xs) (nat_list_eq_equiv.symm x.key e.key ∙ other) (KeysDiffer-last xs e apart.1)
  where
    either : (a b : Bool) → a ≡ false → b ≡ false → (a || b) ≡ false
    either true b h k = absurd cc
    either false b h k = k

pub is_body-repeated : (body : List Entry) (e : Entry) → has_key e.key body ≡ true → is_body (body ++ (e ∷ [])) ≡ false
is_body-repeated body e there = chosen (is_body (body ++ (e ∷ []))) (λ h. KeysDiffer-last body e (IsBody-from_test (body ++ (e ∷ [])) h).apart)
  where
    chosen : (b : Bool) → (b ≡ true → has_key e.key body ≡ false) → b ≡ false
    chosen true leads = absurd (cc (leads refl, there))
    chosen false leads = refl

-- PAGES
TxsDiffer-front : (xs ys : List (ℕ × Decision)) → TxsDiffer (xs ++ ys) → TxsDiffer xs
TxsDiffer-front [] ys apart = tt
TxsDiffer-front (x ∷ xs) ys apart = (none-front (λ y. nat_eq y.0 x.0) xs ys apart.0, TxsDiffer-front xs ys apart.1)

IsPage-front : (xs ys : List (ℕ × Decision)) → IsPage (xs ++ ys) → IsPage xs
IsPage-front xs ys is = record {
  few = omega (arith, is.few, length-append xs ys);
  apart = TxsDiffer-front xs ys is.apart;
}

pub is_page-more : (front more : List (ℕ × Decision)) → is_page front ≡ false → is_page (front ++ more) ≡ false
is_page-more front more failing =
    fails (is_page front) (is_page (front ++ more)) (λ h. is_page-holds front (IsPage-front front more (IsPage-from_test (front ++ more) h))) failing

TxsDiffer-last : (xs : List (ℕ × Decision)) (t : ℕ) (d : Decision) → TxsDiffer (xs ++ ((t, d) ∷ [])) → has_tx t xs ≡ false
TxsDiffer-last [] t d apart = refl
TxsDiffer-last (x ∷ xs) t d apart =
    let parts = or_parts (has_tx x.0 xs) (has_tx x.0 ((t, d) ∷ [])) (sym (list_any-append (λ (y : ℕ × Decision). nat_eq y.0 x.0) xs ((t, d) ∷ [])) ∙ apart.0) in
    let other = (or_parts (nat_eq t x.0) false parts.1).0 in
    either (nat_eq x.0 t) (has_tx t xs) (nat_eq_equiv.symm x.0 t ∙ other) (TxsDiffer-last xs t d apart.1)
  where
    either : (a b : Bool) → a ≡ false → b ≡ false → (a || b) ≡ false
    either true b h k = absurd cc
    either false b h k = k

-- a page of 64 has room for none
full : (page : List (ℕ × Decision)) (t : ℕ) (d : Decision) → 64 ≤ length page → IsPage (page ++ ((t, d) ∷ [])) → ⊥
full page t d le is = omega (arith, is.few, length-append page ((t, d) ∷ []))

pub is_page-full : (page : List (ℕ × Decision)) (t : ℕ) (d : Decision) → 64 ≤ length page → is_page (page ++ ((t, d) ∷ [])) ≡ false
is_page-full page t d le = chosen (is_page (page ++ ((t, d) ∷ []))) (λ h. full page t d le (IsPage-from_test (page ++ ((t, d) ∷ [])) h))
  where
    chosen : (b : Bool) → (b ≡ true → ⊥) → b ≡ false
    chosen true leads = absurd (leads refl)
    chosen false leads = refl

pub is_page-repeated : (page : List (ℕ × Decision)) (t : ℕ) (d : Decision) → has_tx t page ≡ true → is_page (page ++ ((t, d) ∷ [])) ≡ false
is_page-repeated page t d there = chosen (is_page (page ++ ((t, d) ∷ []))) (λ h. TxsDiffer-last page t d (IsPage-from_test (page ++ ((t, d) ∷ [])) h).apart)
  where
    chosen : (b : Bool) → (b ≡ true → has_tx t page ≡ false) → b ≡ false
    chosen true leads = absurd (cc (leads refl, there))
    chosen false leads = refl

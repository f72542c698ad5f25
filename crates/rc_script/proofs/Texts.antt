-- Words that hold no space, and how a text is cut.
use Rattle.std.proofs.Common.{◌≡◌, ℕ, ◌+◌, ◌%◌, ◌^◌, ◌<◌, eqb, leb, Bool, true, false, ◌&&◌, not, cond, List, [], ◌∷◌, ◌++◌, length, take, drop, Option, Some, None, refl, sym, ap, ◌∙◌, subst, arith, inl, inr}
use Rattle.std.specs.Prelude.{position}
use Rattle.std.specs.Option.{option_map}
use Rattle.std.specs.Str.{bytes_eq}
use Rattle.std.proofs.lemmas.Slice.Eq.{bytes_eq-Decides}
use Rattle.std.proofs.lemmas.List.{take-append-drop}
use Rattle.rc_ids.specs.declared.fault.TextFault.TheVariants.{BadLength, BadByte}
use Rattle.std.specs.List.{list_all}
use Rattle.std.specs.Fmt.{decimal}
use Rattle.std.proofs.lemmas.Bool.{cases_Bool, eqb-true, eq-eqb, ne_eqb, leb-true, le-leb, false≢true}
use Rattle.std.proofs.lemmas.Option.{none-some, same_Some}
use Rattle.std.proofs.lemmas.List.Folds.{list_all-append}
use Rattle.std.proofs.lemmas.Fmt.{decimal_by_steps}
use Rattle.rc_ids.specs.declared.fault.TextFault.{TextFault}
use Rattle.rc_ids.specs.Texts.{is_key_byte, is_value_byte, IsKey, IsText, key_fault, value_fault, bad_byte}
use Rattle.rc_ids.proofs.TextFacts.{all_pass, none_fails}
use Rattle.rc_script.specs.Words.{cut, key_from, key_of, val_of, text_after}
use Rattle.rc_script.proofs.Cuts.{cut-cons_yes, cut-cons_no}
use Rattle.rc_script.proofs.Steps.{and_second, only_if_some}

pub and_first : (a b : Bool) → (a && b) ≡ true → a ≡ true
and_first true b e = refl
and_first false b e = absurd cc

-- no such byte stands in the text
abbrev pub lacks : ℕ → List ℕ → Bool
lacks byte text = list_all (λ b. not (eqb b byte)) text

pub lacks_append : (byte : ℕ) (xs ys : List ℕ) → lacks byte xs ≡ true → lacks byte ys ≡ true → lacks byte (xs ++ ys) ≡ true
lacks_append byte xs ys p q = rw (list_all-append (λ b. not (eqb b byte)) xs ys, p, q) refl

-- what passes a test that the byte fails lacks the byte
pub lacks_from : (byte : ℕ) (passes : ℕ → Bool) → passes byte ≡ false → (text : List ℕ) → list_all passes text ≡ true → lacks byte text ≡ true
lacks_from byte passes fails [] all = refl
lacks_from byte passes fails (b ∷ bs) all =
    elim (cases_Bool (eqb b byte)) [
      | inl same ↦ let is : b ≡ byte = eqb-true _ _ same in let first : passes b ≡ true = and_first _ _ all in let bad : false ≡ true = rw (is, fails) at first in absurd (false≢true bad)
      | inr other ↦ rw (other, lacks_from byte passes fails bs (and_second (passes b) (list_all passes bs) all)) refl
    ]

lacks_one : (byte n : ℕ) → byte < 48 → n < 10 → lacks byte ((48 + n) ∷ []) ≡ true
lacks_one byte n low small = let other : eqb (48 + n) byte ≡ false = ne_eqb _ _ (λ same. absurd (omega arith)) in rw other refl

pub lacks_decimal : (byte n : ℕ) → byte < 48 → n < 2 ^ 64 → lacks byte (decimal n) ≡ true
lacks_decimal byte n low small =
    decimal_by_steps (λ _ digits. lacks byte digits ≡ true) (λ n one. lacks_one byte n low one)
    (λ n digits long more. lacks_append byte digits ((48 + n % 10) ∷ []) more (lacks_one byte (n % 10) low (omega arith))) n small

-- ---- cuts

pub cut_free : (byte : ℕ) (text : List ℕ) → lacks byte text ≡ true → cut byte text ≡ (text, None)
cut_free byte [] free = refl
cut_free byte (b ∷ bs) free =
    elim (cases_Bool (eqb b byte)) [
      | inl same ↦ let bad : false ≡ true = rw same at free in absurd (false≢true bad)
      | inr other ↦ rw (cut-cons_no byte b bs other, cut_free byte bs (rw other at free)) refl
    ]

pub cut_joined : (byte : ℕ) (text rest : List ℕ) → lacks byte text ≡ true → cut byte (text ++ byte ∷ rest) ≡ (text, Some rest)
cut_joined byte [] rest free = cut-cons_yes byte byte rest (eq-eqb byte byte refl)
cut_joined byte (b ∷ bs) rest free =
    elim (cases_Bool (eqb b byte)) [
      | inl same ↦ let bad : false ≡ true = rw same at free in absurd (false≢true bad)
      | inr other ↦ rw (cut-cons_no byte b (bs ++ byte ∷ rest) other, cut_joined byte bs rest (rw other at free)) refl
    ]

-- a text, and one behind it with the byte between them
abbrev pub with_later : ℕ → List ℕ → Option (List ℕ) → List ℕ
with_later byte text None = text
with_later byte text (Some later) = text ++ byte ∷ later

with_later_front : (byte b : ℕ) (text : List ℕ) (later : Option (List ℕ)) → with_later byte (b ∷ text) later ≡ b ∷ with_later byte text later
with_later_front byte b text None = refl
with_later_front byte b text (Some later) = refl

pub cut_whole : (byte : ℕ) (text : List ℕ) → text ≡ with_later byte (cut byte text).0 (cut byte text).1
cut_whole byte [] = refl
cut_whole byte (b ∷ bs) =
    elim (cases_Bool (eqb b byte)) [
      | inl same ↦ let is : b ≡ byte = eqb-true _ _ same in rw (cut-cons_yes byte b bs same, is) refl
      | inr other ↦ let split = cut-cons_no byte b bs other in rw (split, with_later_front byte b (cut byte bs).0 (cut byte bs).1, ← cut_whole byte bs) refl
    ]

-- ---- keys and values

key_from_some : (bytes : List ℕ) (fault : Option TextFault) (k : List ℕ) → key_from bytes fault ≡ Some k → (bytes ≡ k) × (fault ≡ None)
key_from_some bytes None k e = (same_Some _ _ e, refl)
key_from_some bytes (Some fault) k e = absurd (none-some k e)

fault_none : (t : Bool) (o : Option TextFault) (d : TextFault) → cond t o (Some d) ≡ None → (t ≡ true) × (o ≡ None)
fault_none true o d e = (refl, e)
fault_none false o d e = absurd (none-some d (sym e))

no_place : (place : Option ℕ) → option_map BadByte place ≡ None → place ≡ None
no_place None e = refl
no_place (Some at) e = absurd (none-some (BadByte at) (sym e))

pub key_taken : (bytes k : List ℕ) → key_of bytes ≡ Some k → (bytes ≡ k) × IsKey k
key_taken bytes k e =
    let a = key_from_some bytes (key_fault bytes) k e in
    let b = fault_none (leb 1 (length bytes) && leb (length bytes) 64) (bad_byte is_key_byte bytes) BadLength a.1 in
    let long = leb-true 1 (length bytes) (and_first _ _ b.0) in
    let short = leb-true (length bytes) 64 (and_second _ _ b.0) in
    let all = all_pass is_key_byte bytes (no_place (position (λ b. not (is_key_byte b)) bytes) b.1) in
    (a.0, subst IsKey a.0 (long, short, all))

pub key_again : (k : List ℕ) → IsKey k → key_of k ≡ Some k
key_again k fits =
    let long : leb 1 (length k) ≡ true = le-leb _ _ fits.0 in
    let short : leb (length k) 64 ≡ true = le-leb _ _ fits.1 in
    rw (long, short, none_fails is_key_byte k fits.2) refl

pub val_taken : (bytes v : List ℕ) → val_of bytes ≡ Some v → (bytes ≡ v) × IsText v
val_taken bytes v e =
    let a = key_from_some bytes (value_fault bytes) v e in
    let b = fault_none (leb (length bytes) 1024) (bad_byte is_value_byte bytes) BadLength a.1 in
    let short = leb-true (length bytes) 1024 b.0 in
    let all = all_pass is_value_byte bytes (no_place (position (λ b. not (is_value_byte b)) bytes) b.1) in
    (a.0, subst IsText a.0 (short, all))

pub val_again : (v : List ℕ) → IsText v → val_of v ≡ Some v
val_again v fits =
    let short : leb (length v) 1024 ≡ true = le-leb _ _ fits.0 in
    rw (short, none_fails is_value_byte v fits.1) refl

pub lacks_key : (k : List ℕ) → IsKey k → lacks 32 k ≡ true
lacks_key k fits = lacks_from 32 is_key_byte refl k fits.2

-- ---- a text at the front

pub behind_taken : (front text rest : List ℕ) → text_after front text ≡ Some rest → text ≡ front ++ rest
behind_taken front text rest e =
    let a = only_if_some (bytes_eq (take (length front) text) front) (drop (length front) text) rest e in
    let same : take (length front) text ≡ front = (bytes_eq-Decides (take (length front) text) front).0 a.0 in
    sym (take-append-drop (length front) text) ∙ ap (λ (t : List ℕ). t ++ drop (length front) text) same ∙ ap (λ (t : List ℕ). front ++ t) a.1

-- Bodies: the map inside, and one more entry.
use Rattle.std.proofs.Common.{◌≡◌, ℕ, zero, suc, ◌<◌, Bool, true, false, cond, ◌||◌, List, [], ◌∷◌, ◌++◌, length, length-append, take, slice_get, is_some, Some, refl, ap, ◌∙◌, arith}
use Rattle.std.specs.List.{list_any}
use Rattle.std.specs.Map.{lookup, keys_of}
use Rattle.std.proofs.lemmas.Bool.{or_parts, or_from}
use Rattle.std.proofs.lemmas.List.Folds.{list_any-append}
use Rattle.std.proofs.lemmas.Cmp.{nat_list_eq_equiv}
use Rattle.indexmap.specs.IndexMap.{insert_entry}
use Rattle.rc_ids.specs.Texts.{same_key}
use Rattle.rc_body.specs.declared.entry.Entry.{Entry}
use Rattle.rc_body.specs.declared.entry.Access.{Access}
use Rattle.rc_body.specs.Entries.{entry_of, entries_of, wears_out}
use Rattle.rc_body.specs.Bodies.{has_key, KeysDiffer, IsBody}
use Rattle.rc_body.proofs.Places.{none_passes}

-- the map has the key where an entry of the body has it
pub found-has_key : (k : List ℕ) (es : List (List ℕ × Access)) → is_some (lookup (same_key k) es) ≡ has_key k (entries_of es)
found-has_key k [] = refl
found-has_key k (e ∷ es) = chosen (same_key k e.0) (same_key e.0 k) (nat_list_eq_equiv.symm k e.0) (found-has_key k es)
  where
    chosen : (b d : Bool) → b ≡ d → is_some (lookup (same_key k) es) ≡ has_key k (entries_of es)
        → is_some (cond b (Some e.1) (lookup (same_key k) es)) ≡ (d || has_key k (entries_of es))
    chosen true true same rest = refl
    chosen true false same rest = cc
    chosen false true same rest = cc
    chosen false false same rest = rest

-- a new key goes last
pub insert_entry-last : (k : List ℕ) (v : Access) (es : List (List ℕ × Access)) → has_key k (entries_of es) ≡ false
    → entries_of (insert_entry same_key es k v) ≡ entries_of es ++ (entry_of (k, v) ∷ [])
insert_entry-last k v [] none = refl
insert_entry-last k v (e ∷ es) none =
    let parts = or_parts (same_key e.0 k) (has_key k (entries_of es)) none in
    chosen (same_key k e.0) (nat_list_eq_equiv.symm k e.0 ∙ parts.0) (insert_entry-last k v es parts.1)
  where
    chosen : (b : Bool) → b ≡ false → entries_of (insert_entry same_key es k v) ≡ entries_of es ++ (entry_of (k, v) ∷ [])
        → entries_of (cond b ((e.0, v) ∷ es) (e ∷ insert_entry same_key es k v)) ≡ entries_of (e ∷ es) ++ (entry_of (k, v) ∷ [])
    chosen true other rest = cc
    chosen false other rest = ap (λ xs. entry_of e ∷ xs) rest

KeysDiffer-push : (body : List Entry) (e : Entry) → KeysDiffer body → has_key e.key body ≡ false → KeysDiffer (body ++ (e ∷ []))
KeysDiffer-push [] e apart none = (refl, tt)
KeysDiffer-push (x ∷ xs) e apart none =
    let parts = or_parts (same_key x.key e.key) (has_key e.key xs) none in (
      list_any-append (λ y. same_key y.key x.key) xs (e ∷ [])
          ∙ or_from (has_key x.key xs) (same_key e.key x.key || false) apart.0
          (or_from (same_key e.key x.key) false (nat_list_eq_equiv.symm e.key x.key ∙ parts.0) refl),
      KeysDiffer-push xs e apart.1 parts.1,
    )

-- a body with one more entry
pub IsBody-push : (body : List Entry) (e : Entry) → IsBody body → has_key e.key body ≡ false → length body < 32 → wears_out e ≡ false
    → IsBody (body ++ (e ∷ []))
IsBody-push body e is none room lasting = record {
  few = omega (arith, length-append body (e ∷ []));
  lasting = list_any-append wears_out body (e ∷ []) ∙ or_from (list_any wears_out body) (wears_out e || false) is.lasting (or_from (wears_out e) false lasting refl);
  apart = KeysDiffer-push body e is.apart none;
}

-- the key at a place stands at no earlier one
pub KeysDiffer-before : (body : List Entry) (i : ℕ) (e : Entry) → KeysDiffer body → slice_get body i ≡ Some e → has_key e.key (take i body) ≡ false
KeysDiffer-before [] i e apart at = cc
KeysDiffer-before (x ∷ xs) zero e apart at = refl
KeysDiffer-before (x ∷ xs) (suc i) e apart at =
    or_from (same_key x.key e.key) (has_key e.key (take i xs))
    (nat_list_eq_equiv.symm x.key e.key ∙ none_passes (λ y. same_key y.key x.key) xs i e apart.0 at)
    (KeysDiffer-before xs i e apart.1 at)

-- the keys of the map are those of the entries
pub list_any-keys : (p : List ℕ → Bool) (es : List (List ℕ × Access)) → list_any p (keys_of es) ≡ list_any (λ e. p e.key) (entries_of es)
list_any-keys p [] = refl
list_any-keys p (e ∷ es) = ap (λ b. p e.0 || b) (list_any-keys p es)

-- Slots whose read is dropped.
use Rattle.std.proofs.Common.{◌≡◌, ℕ, ◌≤◌, ◌==◌, ◌-◌, ◌^◌, Bool, true, false, cond, not, ◌&&◌, ◌||◌, List, [], ◌∷◌, ◌++◌, length, map, filter, Option, Some, None, is_some, refl, sym, ap, ◌∙◌, arith}
use Rattle.std.specs.Prelude.{if◌then◌else◌}
use Rattle.std.specs.List.{list_any, flat_map}
use Rattle.std.proofs.lemmas.Bool.{or_parts, or_from}
use Rattle.std.proofs.lemmas.List.Folds.{list_any-append}
use Rattle.rc_ids.specs.Tables.{maybe}
use Rattle.rc_ids.specs.Texts.{same_key}
use Rattle.rc_body.specs.Entries.{wears_out}
use Rattle.rc_body.proofs.Places.{length-filter_le}
use Rattle.rc_protocol.specs.Client.{Slot, NotRead, UnderWay, slot_of, slot_set, with_read, read_dropped, entry_of, is_worn}
use Rattle.rc_client.specs.Slots.{keys_of, has_key, Differ, IsSlots, written_at}
use Rattle.rc_client.proofs.SlotFacts.{none_parts, none_from, same_itself, same_is, slot_of-key}

-- where no key is the key, no slot is found
slot_of-absent : (xs : List Slot) (k : List ℕ) → has_key (keys_of xs) k ≡ false → slot_of xs k ≡ None
slot_of-absent [] k none = refl
slot_of-absent (x ∷ xs) k none =
    let parts = or_parts (same_key x.key k) (has_key (keys_of xs) k) none in none_from x xs k parts.0 (slot_of-absent xs k parts.1)

-- what is dropped of a slot, whether it has the key
abbrev dropped : Slot → Bool → List Slot
dropped s same = if same then maybe s.write [] (λ value. with_read s NotRead ∷ []) else s ∷ []

dropped-absent : (xs : List Slot) (k : List ℕ) → slot_of xs k ≡ None → flat_map (read_dropped k) xs ≡ xs
dropped-absent [] k none = refl
dropped-absent (x ∷ xs) k none =
    let parts = none_parts x xs k none in
    ap (λ b. dropped x b ++ flat_map (read_dropped k) xs) parts.0 ∙ ap (λ ys. x ∷ ys) (dropped-absent xs k parts.1)

abbrev keeps : List ℕ → Slot → Bool
keeps k s = not (same_key s.key k)

filter-absent : (xs : List Slot) (k : List ℕ) → slot_of xs k ≡ None → filter (keeps k) xs ≡ xs
filter-absent [] k none = refl
filter-absent (x ∷ xs) k none =
    let parts = none_parts x xs k none in
    ap (λ b. cond (not b) (x ∷ filter (keeps k) xs) (filter (keeps k) xs)) parts.0 ∙ ap (λ ys. x ∷ ys) (filter-absent xs k parts.1)

written-some : (w : Option (List ℕ)) → is_some w ≡ true → (ys : List Slot) (make : List ℕ → List Slot) (zs : List Slot) → ((v : List ℕ) → make v ≡ zs) → maybe w ys make ≡ zs
written-some None some ys make zs h = cc
written-some (Some v) some ys make zs h = h v

written-none : (w : Option (List ℕ)) → is_some w ≡ false → (ys : List Slot) (make : List ℕ → List Slot) → maybe w ys make ≡ ys
written-none None none ys make = refl
written-none (Some v) none ys make = cc

-- a written key stays, unread
pub dropped-written : (xs : List Slot) (k : List ℕ) → Differ (keys_of xs) → written_at xs k ≡ true
    → maybe (slot_of xs k) xs (λ (s : Slot). slot_set xs (with_read s NotRead)) ≡ flat_map (read_dropped k) xs
dropped-written [] k apart written = refl
dropped-written (x ∷ xs) k apart written = chosen (same_key x.key k) refl written (dropped-written xs k apart.1)
  where
    stays : (o : Option Slot) → slot_of xs k ≡ o → same_key x.key k ≡ false → maybe o false (λ s. is_some s.write) ≡ true
        → (maybe o false (λ s. is_some s.write) ≡ true → maybe o xs (λ (s : Slot). slot_set xs (with_read s NotRead)) ≡ flat_map (read_dropped k) xs)
        → maybe o (x ∷ xs) (λ (s : Slot). slot_set (x ∷ xs) (with_read s NotRead)) ≡ x ∷ flat_map (read_dropped k) xs
    stays None found other written rest = cc
    stays (Some s) found other written rest =
        let is : same_key x.key s.key ≡ false = ap (same_key x.key) (slot_of-key xs k s found) ∙ other in
        ap (λ b. cond b (with_read s NotRead ∷ xs) (x ∷ slot_set xs (with_read s NotRead))) is ∙ ap (λ ys. x ∷ ys) (rest written)

    chosen : (b : Bool) → same_key x.key k ≡ b → maybe (cond b (Some x) (slot_of xs k)) false (λ s. is_some s.write) ≡ true
        → (written_at xs k ≡ true → maybe (slot_of xs k) xs (λ (s : Slot). slot_set xs (with_read s NotRead)) ≡ flat_map (read_dropped k) xs)
        → maybe (cond b (Some x) (slot_of xs k)) (x ∷ xs) (λ (s : Slot). slot_set (x ∷ xs) (with_read s NotRead)) ≡ dropped x b ++ flat_map (read_dropped k) xs
    chosen true is some rest =
        let absent : slot_of xs k ≡ None = ap (slot_of xs) (sym (same_is x.key k is)) ∙ slot_of-absent xs x.key apart.0 in
        ap (λ b. cond b (with_read x NotRead ∷ xs) (x ∷ slot_set xs (with_read x NotRead))) (same_itself x.key)
        ∙ ap (λ ys. with_read x NotRead ∷ ys) (sym (dropped-absent xs k absent))
        ∙ ap (λ ys. ys ++ flat_map (read_dropped k) xs) (sym (written-some x.write some [] (λ value. with_read x NotRead ∷ []) (with_read x NotRead ∷ []) (λ v. refl)))
    chosen false is some rest = stays (slot_of xs k) refl is some rest

-- any other key goes
pub dropped-unwritten : (xs : List Slot) (k : List ℕ) → Differ (keys_of xs) → written_at xs k ≡ false
    → filter (λ (s : Slot). not (same_key s.key k)) xs ≡ flat_map (read_dropped k) xs
dropped-unwritten [] k apart none = refl
dropped-unwritten (x ∷ xs) k apart none = chosen (same_key x.key k) refl none (dropped-unwritten xs k apart.1)
  where
    chosen : (b : Bool) → same_key x.key k ≡ b → maybe (cond b (Some x) (slot_of xs k)) false (λ s. is_some s.write) ≡ false
        → (written_at xs k ≡ false → filter (keeps k) xs ≡ flat_map (read_dropped k) xs)
        → cond (not b) (x ∷ filter (keeps k) xs) (filter (keeps k) xs) ≡ dropped x b ++ flat_map (read_dropped k) xs
    chosen true is none rest =
        let absent : slot_of xs k ≡ None = ap (slot_of xs) (sym (same_is x.key k is)) ∙ slot_of-absent xs x.key apart.0 in
        filter-absent xs k absent ∙ sym (dropped-absent xs k absent)
        ∙ ap (λ ys. ys ++ flat_map (read_dropped k) xs) (sym (written-none x.write none [] (λ value. with_read x NotRead ∷ [])))
    chosen false is none rest = ap (λ ys. x ∷ ys) (rest none)

-- FEWER SLOTS
absent-filter : (p : Slot → Bool) (xs : List Slot) (k : List ℕ) → has_key (keys_of xs) k ≡ false → has_key (keys_of (filter p xs)) k ≡ false
absent-filter p [] k none = refl
absent-filter p (x ∷ xs) k none =
    let parts = or_parts (same_key x.key k) (has_key (keys_of xs) k) none in
    let rest = absent-filter p xs k parts.1 in
    chosen (p x) (or_from (same_key x.key k) (has_key (keys_of (filter p xs)) k) parts.0 rest) rest
  where
    chosen : (b : Bool) → has_key (keys_of (x ∷ filter p xs)) k ≡ false → has_key (keys_of (filter p xs)) k ≡ false
        → has_key (keys_of (cond b (x ∷ filter p xs) (filter p xs))) k ≡ false
    chosen true kept left = kept
    chosen false kept left = left

Differ-filter : (p : Slot → Bool) (xs : List Slot) → Differ (keys_of xs) → Differ (keys_of (filter p xs))
Differ-filter p [] apart = apart
Differ-filter p (x ∷ xs) apart = chosen (p x) (absent-filter p xs x.key apart.0) (Differ-filter p xs apart.1)
  where
    chosen : (b : Bool) → has_key (keys_of (filter p xs)) x.key ≡ false → Differ (keys_of (filter p xs))
        → Differ (keys_of (cond b (x ∷ filter p xs) (filter p xs)))
    chosen true none rest = (none, rest)
    chosen false none rest = rest

pub IsSlots-filter : (p : Slot → Bool) (xs ys : List Slot) → IsSlots xs → ys ≡ filter p xs → IsSlots ys
IsSlots-filter p xs ys is left = rw left (record {
  few = omega (arith, is.few, length-filter_le p xs);
  apart = Differ-filter p xs is.apart;
})

-- VERSIONS THAT LAST
no_worn : (b : Bool) → (b && (0 == 2 ^ 62 - 1)) ≡ false
no_worn true = refl
no_worn false = refl

-- a key that is asked for is not written
pub is_worn-asked : (xs : List Slot) (k : List ℕ) → is_worn xs ≡ false
    → is_worn (xs ++ record { key = k; write = None; read = UnderWay true [] } ∷ []) ≡ false
is_worn-asked xs k lasts =
    list_any-append (λ (s : Slot). wears_out (entry_of s)) xs (record { key = k; write = None; read = UnderWay true [] } ∷ [])
    ∙ or_from (is_worn xs) (is_worn (record { key = k; write = None; read = UnderWay true [] } ∷ [])) lasts refl

pub is_worn-dropped : (xs : List Slot) (k : List ℕ) → is_worn xs ≡ false → is_worn (flat_map (read_dropped k) xs) ≡ false
is_worn-dropped [] k lasts = refl
is_worn-dropped (x ∷ xs) k lasts =
    let parts = or_parts (wears_out (entry_of x)) (is_worn xs) lasts in
    let rest = is_worn-dropped xs k parts.1 in
    list_any-append (λ (s : Slot). wears_out (entry_of s)) (read_dropped k x) (flat_map (read_dropped k) xs)
    ∙ or_from (is_worn (read_dropped k x)) (is_worn (flat_map (read_dropped k) xs)) (chosen (same_key x.key k) x.write parts.0) rest
  where
    chosen : (b : Bool) (w : Option (List ℕ)) → wears_out (entry_of x) ≡ false
        → is_worn (if b then maybe w [] (λ value. with_read x NotRead ∷ []) else x ∷ []) ≡ false
    chosen true None h = refl
    chosen true (Some v) h = or_from (is_some x.write && (0 == 2 ^ 62 - 1)) false (no_worn (is_some x.write)) refl
    chosen false w h = or_from (wears_out (entry_of x)) false h refl

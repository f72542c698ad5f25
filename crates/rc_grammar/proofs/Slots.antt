-- The slots of a client make a body with a spelling, also after a change.
use Rattle.std.proofs.Common.{◌≡◌, ℕ, suc, ◌<◌, ◌≤◌, Bool, true, false, List, [], ◌∷◌, ◌++◌, length, refl, sym, ap, ◌∙◌, subst, arith, Option, Some, None, eqb}
use Rattle.std.specs.Prelude.{nat_lt, nat_le, ◌&&◌, ◌||◌, is_none}
use Rattle.std.specs.List.{AllByRecursion, list_any, flat_map}
use Rattle.std.proofs.lemmas.Bool.{eqb-true}
use Rattle.std.proofs.lemmas.Cmp.{nat_eq_equiv}
use Rattle.rc_ids.specs.Texts.{same_key}
use Rattle.rc_body.specs.Bodies.{has_key, KeysDiffer}
use Rattle.rc_body.specs.Entries.{wears_out}
use Rattle.rc_body.specs.Spelling.{HasEntry, HasBody}
use Rattle.rc_fields.specs.Ranges.{IsVersionNumber}
use Rattle.rc_protocol.specs.Client.{Client, Grant, KeyRead, NotRead, UnderWay, Complete, Slot, slot_of, slot_set, with_read, is_unread, grants_of, version_read, entry_of, body_of, is_worn, most_keys, is_out_of_slots, read_begun, reads_begun, read_dropped, best_grant}
use Rattle.rc_grammar.specs.Clients.{HasGrant, HasRead, HasSlot}
use Rattle.rc_grammar.proofs.Lists.{on_cond, on_maybe, some_is, never, or_none, or_first, or_second, and_left, and_right, and_false, all_both, all_map, all_flat}

pub record HasSlots (xs : List Slot) : Type 0 where
  pub few : length xs ≤ most_keys
  pub apart : KeysDiffer (body_of xs)
  pub slots : AllByRecursion HasSlot xs

-- KEYS
key_flip : (a b : List ℕ) → same_key a b ≡ same_key b a
key_flip [] [] = refl
key_flip [] (y ∷ b) = refl
key_flip (x ∷ a) [] = refl
key_flip (x ∷ a) (y ∷ b) =
    let first : eqb x y ≡ eqb y x = nat_eq_equiv.symm x y in
    let rest : same_key a b ≡ same_key b a = key_flip a b in
    λ i. first i && rest i

pub key_is : (a b : List ℕ) → same_key a b ≡ true → a ≡ b
key_is [] [] e = refl
key_is [] (y ∷ b) e = absurd (cc)
key_is (x ∷ a) [] e = absurd (cc)
key_is (x ∷ a) (y ∷ b) e =
    let h : x ≡ y = eqb-true x y (and_left (eqb x y) (same_key a b) e) in
    let t : a ≡ b = key_is a b (and_right (eqb x y) (same_key a b) e) in
    λ i. h i ∷ t i

-- the slot that is found
pub slot_has : (xs : List Slot) (k : List ℕ) (s : Slot) → AllByRecursion HasSlot xs → slot_of xs k ≡ Some s → HasSlot s
slot_has [] k s h is = never s is
slot_has (x ∷ xs) k s h is =
    on_cond (λ (z : Option Slot). z ≡ Some s → HasSlot s) (same_key x.key k) (Some x) (slot_of xs k) (λ _ e. subst HasSlot (some_is x s e) h.0) (λ _ e. slot_has xs k s h.1 e) is

-- THE BODY
entry_has : (s : Slot) → HasSlot s → HasEntry (entry_of s)
entry_has s h = record { key = h.key; version = version s.read h.read; write = h.write }
  where
    version : (r : KeyRead) → HasRead r → IsVersionNumber (version_read r)
    version NotRead own = omega arith
    version (UnderWay prints grants) own = omega arith
    version (Complete v value) own = own

body_long : (xs : List Slot) → length (body_of xs) ≡ length xs
body_long [] = refl
body_long (x ∷ xs) = ap suc (body_long xs)

body_worn : (xs : List Slot) → list_any wears_out (body_of xs) ≡ is_worn xs
body_worn [] = refl
body_worn (x ∷ xs) = ap (λ (b : Bool). wears_out (entry_of x) || b) (body_worn xs)

pub has_body : (xs : List Slot) → HasSlots xs → is_worn xs ≡ false → HasBody (body_of xs)
has_body xs h lasting =
    let long = body_long xs in
    let few = h.few in
    record {
      allowed = record { few = omega arith; lasting = body_worn xs ∙ lasting; apart = h.apart };
      entries = all_map HasSlot HasEntry entry_of entry_has xs h.slots;
    }

-- ONE SLOT MORE
none_new : (q : List ℕ) (xs : List Slot) (new : Slot) → has_key q (body_of xs) ≡ false → same_key new.key q ≡ false → has_key q (body_of (xs ++ new ∷ [])) ≡ false
none_new q [] new none other = or_none (same_key new.key q) false other refl
none_new q (x ∷ xs) new none other =
    or_none (same_key x.key q) (has_key q (body_of (xs ++ new ∷ []))) (or_first (same_key x.key q) (has_key q (body_of xs)) none)
    (none_new q xs new (or_second (same_key x.key q) (has_key q (body_of xs)) none) other)

apart_new : (xs : List Slot) (new : Slot) → KeysDiffer (body_of xs) → slot_of xs new.key ≡ None → KeysDiffer (body_of (xs ++ new ∷ []))
apart_new [] new apart none = (refl, tt)
apart_new (x ∷ xs) new apart none =
    on_cond (λ (z : Option Slot). z ≡ None → KeysDiffer (body_of (x ∷ (xs ++ new ∷ [])))) (same_key x.key new.key) (Some x) (slot_of xs new.key)
    (λ _ e. never x (sym e))
    (λ other e. (none_new x.key xs new apart.0 (key_flip new.key x.key ∙ other), apart_new xs new apart.1 e)) none

long_new : (xs : List Slot) (new : Slot) → length (xs ++ new ∷ []) ≡ suc (length xs)
long_new [] new = refl
long_new (x ∷ xs) new = ap suc (long_new xs new)

pub has_new : (xs : List Slot) (new : Slot) → HasSlots xs → length xs < most_keys → slot_of xs new.key ≡ None → HasSlot new → HasSlots (xs ++ new ∷ [])
has_new xs new h room none own =
    let long = long_new xs new in
    record { few = omega arith; apart = apart_new xs new h.apart none; slots = all_both HasSlot xs (new ∷ []) h.slots (own, tt) }

-- there is room for a key that has no slot
pub has_room : (x : Client) (k : List ℕ) → is_out_of_slots x k ≡ false → slot_of x.slots k ≡ None → length x.slots < most_keys
has_room x k fits none =
    let full : nat_le most_keys (length x.slots) ≡ false = and_false (is_none (slot_of x.slots k)) (nat_le most_keys (length x.slots)) (ap is_none none) fits in
    grind (arith, full)

-- A SLOT IN THE PLACE OF THAT WITH ITS KEY
has_set : (q : List ℕ) (xs : List Slot) (s : Slot) → has_key q (body_of (slot_set xs s)) ≡ has_key q (body_of xs)
has_set q [] s = refl
has_set q (x ∷ xs) s =
    on_cond (λ (z : List Slot). has_key q (body_of z) ≡ has_key q (body_of (x ∷ xs))) (same_key x.key s.key) (s ∷ xs) (x ∷ slot_set xs s)
    (λ is. let same : x.key ≡ s.key = key_is x.key s.key is in ap (λ (k : List ℕ). same_key k q || has_key q (body_of xs)) (sym same))
    (λ _. ap (λ (b : Bool). same_key x.key q || b) (has_set q xs s))

apart_set : (xs : List Slot) (s : Slot) → KeysDiffer (body_of xs) → KeysDiffer (body_of (slot_set xs s))
apart_set [] s apart = tt
apart_set (x ∷ xs) s apart =
    on_cond (λ (z : List Slot). KeysDiffer (body_of z)) (same_key x.key s.key) (s ∷ xs) (x ∷ slot_set xs s)
    (λ is. let same : x.key ≡ s.key = key_is x.key s.key is in (subst (λ (k : List ℕ). has_key k (body_of xs) ≡ false) same apart.0, apart.1))
    (λ _. (has_set x.key xs s ∙ apart.0, apart_set xs s apart.1))

long_set : (xs : List Slot) (s : Slot) → length (slot_set xs s) ≡ length xs
long_set [] s = refl
long_set (x ∷ xs) s = on_cond (λ (z : List Slot). length z ≡ suc (length xs)) (same_key x.key s.key) (s ∷ xs) (x ∷ slot_set xs s) (λ _. refl) (λ _. ap suc (long_set xs s))

all_slots_set : (xs : List Slot) (s : Slot) → AllByRecursion HasSlot xs → HasSlot s → AllByRecursion HasSlot (slot_set xs s)
all_slots_set [] s h own = tt
all_slots_set (x ∷ xs) s h own =
    on_cond (AllByRecursion HasSlot) (same_key x.key s.key) (s ∷ xs) (x ∷ slot_set xs s) (λ _. (own, h.1)) (λ _. (h.0, all_slots_set xs s h.1 own))

pub has_slot_set : (xs : List Slot) (s : Slot) → HasSlots xs → HasSlot s → HasSlots (slot_set xs s)
has_slot_set xs s h own =
    let long = long_set xs s in
    let few = h.few in
    record { few = omega arith; apart = apart_set xs s h.apart; slots = all_slots_set xs s h.slots own }

-- READS BEGIN
begun_key : (s : Slot) → (read_begun s).key ≡ s.key
begun_key s = on_cond (λ (z : Slot). z.key ≡ s.key) (is_unread s.read) (with_read s (UnderWay false [])) s (λ _. refl) (λ _. refl)

begun_has : (q : List ℕ) (xs : List Slot) → has_key q (body_of (reads_begun xs)) ≡ has_key q (body_of xs)
begun_has q [] = refl
begun_has q (x ∷ xs) =
    let key = begun_key x in
    let rest : has_key q (body_of (reads_begun xs)) ≡ has_key q (body_of xs) = begun_has q xs in
    λ i. same_key (key i) q || rest i

begun_apart : (xs : List Slot) → KeysDiffer (body_of xs) → KeysDiffer (body_of (reads_begun xs))
begun_apart [] apart = tt
begun_apart (x ∷ xs) apart =
    (begun_has (read_begun x).key xs ∙ ap (λ (k : List ℕ). has_key k (body_of xs)) (begun_key x) ∙ apart.0, begun_apart xs apart.1)

begun_long : (xs : List Slot) → length (reads_begun xs) ≡ length xs
begun_long [] = refl
begun_long (x ∷ xs) = ap suc (begun_long xs)

begun_slot : (s : Slot) → HasSlot s → HasSlot (read_begun s)
begun_slot s h = on_cond HasSlot (is_unread s.read) (with_read s (UnderWay false [])) s (λ _. record { key = h.key; write = h.write; read = tt }) (λ _. h)

pub has_begun : (xs : List Slot) → HasSlots xs → HasSlots (reads_begun xs)
has_begun xs h =
    let long = begun_long xs in
    let few = h.few in
    record { few = omega arith; apart = begun_apart xs h.apart; slots = all_map HasSlot HasSlot read_begun begun_slot xs h.slots }

-- A READ IS DROPPED
module _ (k : List ℕ) where
  -- what is left of a slot: nothing, or one with its key
  dropped_cases : (P : List Slot → Type 0) (x : Slot) → P [] → P (with_read x NotRead ∷ []) → P (x ∷ []) → P (read_dropped k x)
  dropped_cases P x none unread same =
      on_cond P (same_key x.key k) _ (x ∷ []) (λ _. on_maybe P x.write [] (λ value. with_read x NotRead ∷ []) (λ _. none) (λ _ _. unread)) (λ _. same)

  dropped_none : (q : List ℕ) (xs : List Slot) → has_key q (body_of xs) ≡ false → has_key q (body_of (flat_map (read_dropped k) xs)) ≡ false
  dropped_none q [] none = refl
  dropped_none q (x ∷ xs) none =
      let other = or_first (same_key x.key q) (has_key q (body_of xs)) none in
      let rest : has_key q (body_of (flat_map (read_dropped k) xs)) ≡ false = dropped_none q xs (or_second (same_key x.key q) (has_key q (body_of xs)) none) in
      let more : has_key q (body_of (x ∷ flat_map (read_dropped k) xs)) ≡ false = or_none (same_key x.key q) (has_key q (body_of (flat_map (read_dropped k) xs))) other rest in
      dropped_cases (λ (z : List Slot). has_key q (body_of (z ++ flat_map (read_dropped k) xs)) ≡ false) x rest more more

  dropped_apart : (xs : List Slot) → KeysDiffer (body_of xs) → KeysDiffer (body_of (flat_map (read_dropped k) xs))
  dropped_apart [] apart = tt
  dropped_apart (x ∷ xs) apart =
      let rest : KeysDiffer (body_of (flat_map (read_dropped k) xs)) = dropped_apart xs apart.1 in
      let none = dropped_none x.key xs apart.0 in
      dropped_cases (λ (z : List Slot). KeysDiffer (body_of (z ++ flat_map (read_dropped k) xs))) x rest (none, rest) (none, rest)

  dropped_short : (xs : List Slot) → length (flat_map (read_dropped k) xs) ≤ length xs
  dropped_short [] = omega arith
  dropped_short (x ∷ xs) =
      let rest = dropped_short xs in
      dropped_cases (λ (z : List Slot). length (z ++ flat_map (read_dropped k) xs) ≤ suc (length xs)) x (omega arith) (omega arith) (omega arith)

  dropped_slot : (x : Slot) → HasSlot x → AllByRecursion HasSlot (read_dropped k x)
  dropped_slot x h = dropped_cases (AllByRecursion HasSlot) x tt (record { key = h.key; write = h.write; read = tt }, tt) (h, tt)

  pub has_dropped : (xs : List Slot) → HasSlots xs → HasSlots (flat_map (read_dropped k) xs)
  has_dropped xs h =
      let short = dropped_short xs in
      let few = h.few in
      record { few = omega arith; apart = dropped_apart xs h.apart; slots = all_flat HasSlot HasSlot (read_dropped k) dropped_slot xs h.slots }

-- GRANTS
pub grants_are : (r : KeyRead) → HasRead r → AllByRecursion HasGrant (grants_of r)
grants_are NotRead h = tt
grants_are (UnderWay prints grants) h = h
grants_are (Complete version value) h = tt

pub best_is : (grants : List Grant) → AllByRecursion HasGrant grants → IsVersionNumber (best_grant grants).0
best_is [] h = omega arith
best_is (g ∷ gs) h = on_cond (λ (z : ℕ × Option (List ℕ)). IsVersionNumber z.0) (nat_lt g.version (best_grant gs).0) (best_grant gs) (g.version, g.value) (λ _. best_is gs h.1) (λ _. h.0)

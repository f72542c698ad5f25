-- Slots, place by place.
use Rattle.std.proofs.Common.{◌≡◌, ℕ, zero, suc, ◌+◌, ◌<◌, Bool, true, false, cond, ◌||◌, List, [], ◌∷◌, ◌++◌, length, length-append, ◌≤◌, take, drop, set, get_or, slice_get, Option, Some, None, refl, sym, ap, ◌∙◌, arith, add-one}
use Rattle.std.proofs.Math.ListN.{length-set}
use Rattle.std.proofs.Math.Seq.{drop-cons, take-append_seam}
use Rattle.std.proofs.lemmas.List.{take_all, take_more, take_more_set, drop-set-lt}
use Rattle.std.proofs.lemmas.Option.{slice_get-get_or}
use Rattle.std.specs.Cmp.Lexicographic.{same_text}
use Rattle.std.proofs.lemmas.Bool.{or_parts, or_from}
use Rattle.std.proofs.lemmas.List.Folds.{list_any-append}
use Rattle.std.proofs.lemmas.Cmp.{nat_list_eq_equiv}
use Rattle.rc_ids.specs.Texts.{same_key}
use Rattle.rc_body.specs.Bodies.{has_key as body_has}
use Rattle.rc_protocol.specs.Client.{Slot, KeyRead, slot_of, slot_set, with_read, read_begun, reads_begun, is_under_way, is_unread, waits_for_read, body_of}
use Rattle.rc_ids.specs.Tables.{maybe}
use Rattle.rc_client.specs.Slots.{keys_of, has_key, Differ, IsSlots, IsPlace, waits_once_begun}

-- the first slot does not have the key, nor the rest
pub none_parts : (x : Slot) (xs : List Slot) (k : List ℕ) → slot_of (x ∷ xs) k ≡ None → (same_key x.key k ≡ false) × (slot_of xs k ≡ None)
none_parts x xs k none = chosen (same_key x.key k) none
  where
    chosen : (b : Bool) → cond b (Some x) (slot_of xs k) ≡ None → (b ≡ false) × (slot_of xs k ≡ None)
    chosen true h = cc
    chosen false h = (refl, h)

pub none_from : (x : Slot) (xs : List Slot) (k : List ℕ) → same_key x.key k ≡ false → slot_of xs k ≡ None → slot_of (x ∷ xs) k ≡ None
none_from x xs k other none = rw other none

pub same_itself : (k : List ℕ) → same_key k k ≡ true
same_itself k = nat_list_eq_equiv.refl k

pub same_is : (k l : List ℕ) → same_key k l ≡ true → k ≡ l
same_is k l h = same_text k l (sym h)

-- a slot that is found has the key
pub slot_of-key : (xs : List Slot) (k : List ℕ) (s : Slot) → slot_of xs k ≡ Some s → s.key ≡ k
slot_of-key [] k s h = cc
slot_of-key (x ∷ xs) k s h = chosen (same_key x.key k) refl h (slot_of-key xs k s)
  where
    chosen : (b : Bool) → same_key x.key k ≡ b → cond b (Some x) (slot_of xs k) ≡ Some s → (slot_of xs k ≡ Some s → s.key ≡ k) → s.key ≡ k
    chosen true is found rest = let e : x ≡ s = cc in sym (ap (λ (z : Slot). z.key) e) ∙ same_is x.key k is
    chosen false is found rest = rest found

-- one slot more that has not the key
pub slot_of-more : (xs : List Slot) (k : List ℕ) (i : ℕ) (d : Slot) → i < length xs → slot_of (take i xs) k ≡ None
    → same_key (get_or xs i d).key k ≡ false → slot_of (take (suc i) xs) k ≡ None
slot_of-more [] k i d lt none other = absurd (omega arith)
slot_of-more (x ∷ xs) k zero d lt none other = none_from x [] k other refl
slot_of-more (x ∷ xs) k (suc i) d lt none other =
    let parts = none_parts x (take i xs) k none in
    none_from x (take (suc i) xs) k parts.0 (slot_of-more xs k i d (omega arith) parts.1 other)

-- the first slot that has the key
pub slot_of-at : (xs : List Slot) (k : List ℕ) (i : ℕ) (d : Slot) → i < length xs → slot_of (take i xs) k ≡ None
    → same_key (get_or xs i d).key k ≡ true → slot_of xs k ≡ slice_get xs i
slot_of-at [] k i d lt none is = absurd (omega arith)
slot_of-at (x ∷ xs) k zero d lt none is = rw is refl
slot_of-at (x ∷ xs) k (suc i) d lt none is =
    let parts = none_parts x (take i xs) k none in
    rw parts.0 (slot_of-at xs k i d (omega arith) parts.1 is)

-- a slot goes in the place of the first that has its key
pub slot_set-at : (xs : List Slot) (k : List ℕ) (i : ℕ) (y d : Slot) → i < length xs → slot_of (take i xs) k ≡ None
    → (get_or xs i d).key ≡ k → y.key ≡ k → slot_set xs y ≡ set xs i y
slot_set-at [] k i y d lt none at is = absurd (omega arith)
slot_set-at (x ∷ xs) k zero y d lt none at is =
    let e : same_key x.key y.key ≡ true = rw (at, is) (same_itself k) in rw e refl
slot_set-at (x ∷ xs) k (suc i) y d lt none at is =
    let parts = none_parts x (take i xs) k none in
    let e : same_key x.key y.key ≡ false = rw is parts.0 in
    rw e (ap (λ zs. x ∷ zs) (slot_set-at xs k i y d (omega arith) parts.1 at is))

-- where no slot is found, no key is the key
pub absent_key : (xs : List Slot) (k : List ℕ) → slot_of xs k ≡ None → has_key (keys_of xs) k ≡ false
absent_key [] k none = refl
absent_key (x ∷ xs) k none =
    let parts = none_parts x xs k none in or_from (same_key x.key k) (has_key (keys_of xs) k) parts.0 (absent_key xs k parts.1)

pub Differ-push : (ks : List (List ℕ)) (k : List ℕ) → Differ ks → has_key ks k ≡ false → Differ (ks ++ k ∷ [])
Differ-push [] k apart none = (refl, tt)
Differ-push (l ∷ ls) k apart none =
    let parts = or_parts (same_key l k) (has_key ls k) none in (
      list_any-append (λ y. same_key y l) ls (k ∷ [])
          ∙ or_from (has_key ls l) (same_key k l || false) apart.0
          (or_from (same_key k l) false (nat_list_eq_equiv.symm k l ∙ parts.0) refl),
      Differ-push ls k apart.1 parts.1,
    )

pub keys_of-push : (xs : List Slot) (s : Slot) → keys_of (xs ++ s ∷ []) ≡ keys_of xs ++ s.key ∷ []
keys_of-push [] s = refl
keys_of-push (x ∷ xs) s = ap (λ ks. x.key ∷ ks) (keys_of-push xs s)

-- a slot in the place of one with its key
pub keys_of-set : (xs : List Slot) (i : ℕ) (y d : Slot) → i < length xs → y.key ≡ (get_or xs i d).key → keys_of (set xs i y) ≡ keys_of xs
keys_of-set [] i y d lt is = refl
keys_of-set (x ∷ xs) zero y d lt is = ap (λ k. k ∷ keys_of xs) is
keys_of-set (x ∷ xs) (suc i) y d lt is = ap (λ ks. x.key ∷ ks) (keys_of-set xs i y d (omega arith) is)

read_begun-key : (s : Slot) → (read_begun s).key ≡ s.key
read_begun-key s = grind arith

pub keys_of-begun : (xs : List Slot) → keys_of (reads_begun xs) ≡ keys_of xs
keys_of-begun [] = refl
keys_of-begun (x ∷ xs) = rw (read_begun-key x, keys_of-begun xs) refl

pub length-begun : (xs : List Slot) → length (reads_begun xs) ≡ length xs
length-begun [] = refl
length-begun (x ∷ xs) = ap suc (length-begun xs)

-- INVARIANTS
pub IsSlots-push : (xs : List Slot) (s : Slot) → IsSlots xs → slot_of xs s.key ≡ None → length xs < 32 → IsSlots (xs ++ s ∷ [])
IsSlots-push xs s is none room = record {
  few = omega (arith, length-append xs (s ∷ []));
  apart = rw (keys_of-push xs s) (Differ-push (keys_of xs) s.key is.apart (absent_key xs s.key none));
}

pub IsSlots-set : (xs : List Slot) (i : ℕ) (y item : Slot) → IsSlots xs → i < length xs → item ≡ get_or xs i item → y.key ≡ item.key
    → IsSlots (set xs i y)
IsSlots-set xs i y item is lt at same = record {
  few = omega (arith, is.few, length-set xs i y);
  apart = rw (keys_of-set xs i y item lt (same ∙ ap (λ (z : Slot). z.key) at)) is.apart;
}

pub IsSlots-begun : (xs : List Slot) → IsSlots xs → IsSlots (reads_begun xs)
IsSlots-begun xs is = record {
  few = omega (arith, is.few, length-begun xs);
  apart = rw (keys_of-begun xs) is.apart;
}

-- WRITES IN PLACE
pub found_at : (xs : List Slot) (k : List ℕ) (i : ℕ) (item : Slot) → IsPlace xs k i → item ≡ get_or xs i item → slot_of xs k ≡ Some item
found_at xs k i item place at = place.here ∙ slice_get-get_or xs i item place.within ∙ ap Some (sym at)

replaced_at : (xs : List Slot) (k : List ℕ) (i : ℕ) (item y : Slot) → IsPlace xs k i → item ≡ get_or xs i item → y.key ≡ item.key
    → set xs i y ≡ slot_set xs y
replaced_at xs k i item y place at same =
    let is : item.key ≡ k = slot_of-key xs k item (found_at xs k i item place at) in
    sym (slot_set-at xs k i y item place.within place.first (sym (ap (λ (z : Slot). z.key) at) ∙ is) (same ∙ is))

-- what a change of the slot at its place makes of the slots
pub changed-set : (f : Slot → Slot) (xs ys : List Slot) (k : List ℕ) (i : ℕ) (item new : Slot) → IsPlace xs k i → item ≡ get_or xs i item
    → (f item).key ≡ item.key → new ≡ f item → set xs i new ≡ maybe (slot_of xs k) ys (λ (s : Slot). slot_set xs (f s))
changed-set f xs ys k i item new place at same is =
    let found = found_at xs k i item place at in rw (found, is) (replaced_at xs k i item (f item) place at same)

-- BEGINNING READS
reads_begun-push : (xs : List Slot) (s : Slot) → reads_begun (xs ++ s ∷ []) ≡ reads_begun xs ++ read_begun s ∷ []
reads_begun-push [] s = refl
reads_begun-push (x ∷ xs) s = ap (λ zs. read_begun x ∷ zs) (reads_begun-push xs s)

-- where two lists are the same from a place on, so is the element there, and the rest
same_from : (xs ys : List Slot) (i : ℕ) (d : Slot) → i < length xs → i < length ys → drop i xs ≡ drop i ys
    → (get_or xs i d ≡ get_or ys i d) × (drop (i + 1) xs ≡ drop (i + 1) ys)
same_from xs ys i d lx ly e =
    let both : get_or xs i d ∷ drop (suc i) xs ≡ get_or ys i d ∷ drop (suc i) ys = sym (drop-cons xs i d lx) ∙ e ∙ drop-cons ys i d ly in
    let here : get_or xs i d ≡ get_or ys i d = cc in
    let rest : drop (suc i) xs ≡ drop (suc i) ys = cc in
    (here, rw add-one rest)

pub begun-done : (xs ys : List Slot) (i : ℕ) (item new : Slot) → i < length ys → length xs ≡ length ys
    → take i xs ≡ reads_begun (take i ys) → drop i xs ≡ drop i ys → new ≡ read_begun (get_or xs i item)
    → take (i + 1) (set xs i new) ≡ reads_begun (take (i + 1) ys)
begun-done xs ys i item new lt long done left is =
    let lx : i < length xs = omega arith in
    let here = (same_from xs ys i item lx lt left).0 in
    rw (take_more_set xs i new lx, take_more ys i item lt, done, is, here) (sym (reads_begun-push (take i ys) (get_or ys i item)))

pub begun-left : (xs ys : List Slot) (i : ℕ) (item new : Slot) → i < length ys → length xs ≡ length ys → drop i xs ≡ drop i ys
    → drop (i + 1) (set xs i new) ≡ drop (i + 1) ys
begun-left xs ys i item new lt long left =
    let lx : i < length xs = omega arith in
    drop-set-lt (i + 1) xs i new (omega arith) ∙ (same_from xs ys i item lx lt left).1

pub begun-all : (xs ys : List Slot) (i : ℕ) → length xs ≡ length ys → length ys ≤ i → take i xs ≡ reads_begun (take i ys) → xs ≡ reads_begun ys
begun-all xs ys i long past done =
    sym (take_all i xs (omega arith)) ∙ done ∙ ap (λ zs. reads_begun zs) (take_all i ys past)

-- what a vector shows of a list written in front of what was there
pub shown : (n : ℕ) (xs ys : List Slot) → length xs ≡ n → take n (xs ++ ys) ≡ xs
shown n xs ys is = rw (← is) (take-append_seam xs ys)

begun_waits : (s : Slot) → is_under_way (read_begun s).read ≡ (is_under_way s.read || is_unread s.read)
begun_waits s = grind arith

pub waits-begun : (xs : List Slot) → waits_once_begun xs ≡ waits_for_read (reads_begun xs)
waits-begun [] = refl
waits-begun (x ∷ xs) = rw (begun_waits x, waits-begun xs) refl

-- BODIES
none_at : (xs : List Slot) (k : List ℕ) (i : ℕ) (d : Slot) → has_key (keys_of xs) k ≡ false → i < length xs → same_key (get_or xs i d).key k ≡ false
none_at [] k i d none lt = absurd (omega arith)
none_at (x ∷ xs) k zero d none lt = (or_parts (same_key x.key k) (has_key (keys_of xs) k) none).0
none_at (x ∷ xs) k (suc i) d none lt = none_at xs k i d (or_parts (same_key x.key k) (has_key (keys_of xs) k) none).1 (omega arith)

-- the key at a place stands in no earlier entry
pub body-absent : (xs : List Slot) (i : ℕ) (d : Slot) → Differ (keys_of xs) → i < length xs → body_has (get_or xs i d).key (body_of (take i xs)) ≡ false
body-absent [] i d apart lt = absurd (omega arith)
body-absent (x ∷ xs) zero d apart lt = refl
body-absent (x ∷ xs) (suc i) d apart lt =
    or_from (same_key x.key (get_or xs i d).key) (body_has (get_or xs i d).key (body_of (take i xs)))
    (nat_list_eq_equiv.symm x.key (get_or xs i d).key ∙ none_at xs x.key i d apart.0 (omega arith))
    (body-absent xs i d apart.1 (omega arith))

-- WHAT WAS REPLACED IS PUT BACK
found-set : (xs : List Slot) (y : Slot) (k : List ℕ) (s : Slot) → slot_of xs k ≡ Some s → y.key ≡ k → slot_of (slot_set xs y) k ≡ Some y
found-set [] y k s found is = cc
found-set (x ∷ xs) y k s found is = chosen (same_key x.key k) refl found (λ rest. found-set xs y k s rest is)
  where
    chosen : (b : Bool) → same_key x.key k ≡ b → cond b (Some x) (slot_of xs k) ≡ Some s
        → (slot_of xs k ≡ Some s → slot_of (slot_set xs y) k ≡ Some y)
        → slot_of (cond (same_key x.key y.key) (y ∷ xs) (x ∷ slot_set xs y)) k ≡ Some y
    chosen true same here rest =
        let e : same_key x.key y.key ≡ true = ap (same_key x.key) is ∙ same in
        let f : same_key y.key k ≡ true = ap (λ l. same_key l k) is ∙ same_itself k in
        ap (λ b. slot_of (cond b (y ∷ xs) (x ∷ slot_set xs y)) k) e ∙ ap (λ b. cond b (Some y) (slot_of xs k)) f
    chosen false other later rest =
        let e : same_key x.key y.key ≡ false = ap (same_key x.key) is ∙ other in
        ap (λ b. slot_of (cond b (y ∷ xs) (x ∷ slot_set xs y)) k) e ∙ ap (λ b. cond b (Some x) (slot_of (slot_set xs y) k)) other ∙ rest later

set-back : (xs : List Slot) (y s : Slot) (k : List ℕ) → slot_of xs k ≡ Some s → y.key ≡ k → s.key ≡ k → slot_set (slot_set xs y) s ≡ xs
set-back [] y s k found is key = cc
set-back (x ∷ xs) y s k found is key = chosen (same_key x.key k) refl found (λ rest. set-back xs y s k rest is key)
  where
    chosen : (b : Bool) → same_key x.key k ≡ b → cond b (Some x) (slot_of xs k) ≡ Some s
        → (slot_of xs k ≡ Some s → slot_set (slot_set xs y) s ≡ xs)
        → slot_set (cond (same_key x.key y.key) (y ∷ xs) (x ∷ slot_set xs y)) s ≡ x ∷ xs
    chosen true same here rest =
        let e : same_key x.key y.key ≡ true = ap (same_key x.key) is ∙ same in
        let f : same_key y.key s.key ≡ true = ap (λ l. same_key l s.key) is ∙ ap (same_key k) key ∙ same_itself k in
        let x_is : s ≡ x = cc in
        ap (λ b. slot_set (cond b (y ∷ xs) (x ∷ slot_set xs y)) s) e ∙ ap (λ b. cond b (s ∷ xs) (y ∷ slot_set xs s)) f ∙ ap (λ (z : Slot). z ∷ xs) x_is
    chosen false other later rest =
        let e : same_key x.key y.key ≡ false = ap (same_key x.key) is ∙ other in
        let g : same_key x.key s.key ≡ false = ap (same_key x.key) key ∙ other in
        ap (λ b. slot_set (cond b (y ∷ xs) (x ∷ slot_set xs y)) s) e
        ∙ ap (λ b. cond b (s ∷ slot_set xs y) (x ∷ slot_set (slot_set xs y) s)) g ∙ ap (λ ys. x ∷ ys) (rest later)

-- a read that was replaced, and is put back
pub read-back : (xs ys zs : List Slot) (k : List ℕ) (r old : KeyRead) → ys ≡ maybe (slot_of xs k) xs (λ (s : Slot). slot_set xs (with_read s r))
    → old ≡ maybe (slot_of xs k) r (λ (s : Slot). s.read) → zs ≡ maybe (slot_of ys k) ys (λ (s : Slot). slot_set ys (with_read s old)) → zs ≡ xs
read-back xs ys zs k r old put was back = chosen (slot_of xs k) refl put was
  where
    chosen : (o : Option Slot) → slot_of xs k ≡ o → ys ≡ maybe o xs (λ (s : Slot). slot_set xs (with_read s r))
        → old ≡ maybe o r (λ (s : Slot). s.read) → zs ≡ xs
    chosen None none ys_is old_is =
        let absent : slot_of ys k ≡ None = rw ys_is none in
        back ∙ ap (λ (o : Option Slot). maybe o ys (λ (s : Slot). slot_set ys (with_read s old))) absent ∙ ys_is
    chosen (Some s) found ys_is old_is =
        let key : s.key ≡ k = slot_of-key xs k s found in
        let there : slot_of ys k ≡ Some (with_read s r) = rw ys_is (found-set xs (with_read s r) k s found key) in
        let same : with_read (with_read s r) old ≡ s = ap (λ (z : KeyRead). with_read s z) old_is in
        back ∙ ap (λ (o : Option Slot). maybe o ys (λ (z : Slot). slot_set ys (with_read z old))) there
        ∙ ap (λ (z : Slot). slot_set ys z) same ∙ ap (λ (zs : List Slot). slot_set zs s) ys_is ∙ set-back xs (with_read s r) s k found key key

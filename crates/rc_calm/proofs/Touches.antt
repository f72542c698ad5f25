-- The touched keys of a transaction after one more is read or written.
use Rattle.std.proofs.Common.{◌≡◌, ℕ, suc, ◌≤◌, List, [], ◌∷◌, refl, sym, ap, ◌∙◌, subst, arith, Bool, true, false, cond, Option, Some, None, ◌⊎◌, inl, inr, ⊎_elim}
use Rattle.std.specs.Prelude.{map, length, is_some, is_none, nat_lt, nat_le, ◌||◌, ◌&&◌}
use Rattle.std.proofs.lemmas.Bool.{lt-leb, ltb-true}
use Rattle.rc_ids.specs.Tables.{In, maybe}
use Rattle.rc_ids.specs.Texts.{same_key}
use Rattle.rc_protocol.specs.Client.{Client, Slot, slot_of, is_out_of_slots}
use Rattle.rc_serial.specs.OneMap.{Map}
use Rattle.rc_claims.specs.Calm.{Touched, touched_of, touched_set}
use Rattle.rc_claims.specs.CalmScripts.{has_room}
use Rattle.rc_calm_batches.proofs.Reading.{same_itself}
use Rattle.rc_calm_batches.proofs.Slots.{same_key_eq}
use Rattle.rc_calm.proofs.Frames.{Short}
use Rattle.rc_calm.proofs.Touching.{slots_from, slot_from, OnceTouched}
use Rattle.rc_calm.proofs.Counts.{Used}
use Rattle.rc_calm.proofs.Commands.{slot_is}

abbrev pub keys_of : List Touched → List (List ℕ)
keys_of xs = map (λ (x : Touched). x.key) xs

abbrev pub InRange : List Touched → Type 0
InRange xs = (x : Touched) → In x xs → (length x.key ≤ 64) × Short x.write

pub in_keys : (xs : List Touched) (z : Touched) → In z xs → In z.key (keys_of xs)
in_keys [] z i = absurd i
in_keys (x ∷ xs) z (inl e) = inl (ap (λ (y : Touched). y.key) e)
in_keys (x ∷ xs) z (inr i) = inr (in_keys xs z i)

pub keys_in : (xs : List Touched) (k : List ℕ) → In k (keys_of xs) → (x : Touched) × In x xs × (x.key ≡ k)
keys_in [] k i = absurd i
keys_in (x ∷ xs) k (inl e) = (x, inl refl, e)
keys_in (x ∷ xs) k (inr i) = let z = keys_in xs k i in (z.0, inr z.1, z.2)

-- WHO IS THERE THEN
pub set_in : (xs : List Touched) (n z : Touched) → In z (touched_set xs n) → (n ≡ z) ⊎ In z xs
set_in [] n z h = h
set_in (x ∷ xs) n z h = go (same_key x.key n.key) h (set_in xs n z)
  where
    go : (v : Bool) → In z (cond v (n ∷ xs) (x ∷ touched_set xs n)) → (In z (touched_set xs n) → (n ≡ z) ⊎ In z xs) → (n ≡ z) ⊎ In z (x ∷ xs)
    go true (inl e) more = inl e
    go true (inr i) more = inr (inr i)
    go false (inl e) more = inr (inl e)
    go false (inr i) more = ⊎_elim (λ e. inl e) (λ j. inr (inr j)) (more i)

pub set_new_in : (xs : List Touched) (n : Touched) → In n (touched_set xs n)
set_new_in [] n = inl refl
set_new_in (x ∷ xs) n = go (same_key x.key n.key) (set_new_in xs n)
  where
    go : (v : Bool) → In n (touched_set xs n) → In n (cond v (n ∷ xs) (x ∷ touched_set xs n))
    go true i = inl refl
    go false i = inr i

-- no key goes
pub set_keys : (xs : List Touched) (n : Touched) (k : List ℕ) → In k (keys_of xs) → In k (keys_of (touched_set xs n))
set_keys [] n k h = absurd h
set_keys (x ∷ xs) n k h = go (same_key x.key n.key) refl h (set_keys xs n k)
  where
    go : (v : Bool) → same_key x.key n.key ≡ v → In k (keys_of (x ∷ xs)) → (In k (keys_of xs) → In k (keys_of (touched_set xs n))) → In k (keys_of (cond v (n ∷ xs) (x ∷ touched_set xs n)))
    go true q (inl e) more = inl (sym (same_key_eq x.key n.key q) ∙ e)
    go true q (inr i) more = inr i
    go false q (inl e) more = inl e
    go false q (inr i) more = inr (more i)

pub set_once : (xs : List Touched) (n : Touched) → OnceTouched xs → OnceTouched (touched_set xs n)
set_once [] n o = ((λ z i. absurd i), tt)
set_once (x ∷ xs) n o = go (same_key x.key n.key) refl (set_once xs n o.1)
  where
    go : (v : Bool) → same_key x.key n.key ≡ v → OnceTouched (touched_set xs n) → OnceTouched (cond v (n ∷ xs) (x ∷ touched_set xs n))
    go true q more = ((λ z i e. o.0 z i (same_key_eq x.key n.key q ∙ e)), o.1)
    go false q more = (
      (λ z i e. ⊎_elim
          (λ (w : n ≡ z).
          let s : same_key x.key n.key ≡ true = ap (λ (k : List ℕ). same_key k n.key) (e ∙ ap (λ (y : Touched). y.key) (sym w)) ∙ same_itself n.key in
          let c : true ≡ false = sym s ∙ q in absurd (cc))
          (λ j. o.0 z j e) (set_in xs n z i)),
      more,
    )

pub set_used : (xs : List Touched) (n : Touched) → Used xs → (n.is_read ≡ false → is_some n.write ≡ true) → Used (touched_set xs n)
set_used xs n u h z i = ⊎_elim (λ (e : n ≡ z). subst (λ (y : Touched). y.is_read ≡ false → is_some y.write ≡ true) e h) (λ j. u z j) (set_in xs n z i)

pub set_ranges : (xs : List Touched) (n : Touched) → InRange xs → length n.key ≤ 64 → Short n.write → InRange (touched_set xs n)
set_ranges xs n r k w z i = ⊎_elim (λ (e : n ≡ z). subst (λ (y : Touched). (length y.key ≤ 64) × Short y.write) e (k, w)) (λ j. r z j) (set_in xs n z i)

-- HOW MANY
set_length : (xs : List Touched) (n : Touched) → length (touched_set xs n) ≤ suc (length xs)
set_length [] n = omega arith
set_length (x ∷ xs) n = go (same_key x.key n.key) (set_length xs n)
  where
    go : (v : Bool) → length (touched_set xs n) ≤ suc (length xs) → length (cond v (n ∷ xs) (x ∷ touched_set xs n)) ≤ suc (suc (length xs))
    go true h = omega arith
    go false h = omega (arith, h)

set_same_length : (xs : List Touched) (n : Touched) → is_some (touched_of xs n.key) ≡ true → length (touched_set xs n) ≡ length xs
set_same_length [] n h = absurd (cc)
set_same_length (x ∷ xs) n h = go (same_key x.key n.key) h (set_same_length xs n)
  where
    go : (v : Bool) → is_some (cond v (Some x) (touched_of xs n.key)) ≡ true → (is_some (touched_of xs n.key) ≡ true → length (touched_set xs n) ≡ length xs) → length (cond v (n ∷ xs) (x ∷ touched_set xs n)) ≡ suc (length xs)
    go true h more = refl
    go false h more = ap suc (more h)

pub set_few : (xs : List Touched) (n : Touched) → length xs ≤ 32 → has_room xs n.key ≡ true → length (touched_set xs n) ≤ 32
set_few xs n few h = go (is_some (touched_of xs n.key)) refl h
  where
    go : (v : Bool) → is_some (touched_of xs n.key) ≡ v → (v || nat_lt (length xs) 32) ≡ true → length (touched_set xs n) ≤ 32
    go true e k = let l = set_same_length xs n e in omega (arith, l, few)
    go false e k = let l = set_length xs n in let m = ltb-true (length xs) 32 k in omega (arith, l, m)

-- THE CLIENT HAS ROOM TOO
slots_length : (m : Map) (xs : List Touched) → length (slots_from m xs) ≡ length xs
slots_length m [] = refl
slots_length m (x ∷ xs) = ap suc (slots_length m xs)

pub client_room : (m : Map) (xs : List Touched) (y : Client) (k : List ℕ) → y.slots ≡ slots_from m xs → has_room xs k ≡ true → is_out_of_slots y k ≡ false
client_room m xs y k s h =
    ap (λ (ss : List Slot). is_none (slot_of ss k) && nat_le 32 (length ss)) s
    ∙ (ap (λ (o : Option Slot). is_none o && nat_le 32 (length (slots_from m xs))) (slot_is m xs k) ∙ (ap (λ (n : ℕ). is_none (maybe (touched_of xs k) None (λ x. Some (slot_from m x))) && nat_le 32 n) (slots_length m xs) ∙ go (touched_of xs k) h))
  where
    go : (o : Option Touched) → (is_some o || nat_lt (length xs) 32) ≡ true → (is_none (maybe o None (λ x. Some (slot_from m x))) && nat_le 32 (length xs)) ≡ false
    go (Some x) e = refl
    go None e = lt-leb 32 (length xs) (ltb-true (length xs) 32 e)

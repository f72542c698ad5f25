-- The slots of a client that reads its unread keys one after another: those that still wait, those that are complete.
use Rattle.std.proofs.Common.{◌≡◌, ℕ, List, [], ◌∷◌, refl, sym, ap, ◌∙◌, subst, Bool, true, false, cond, Option, Some, None, inl, inr}
use Rattle.std.specs.Prelude.{map, ◌||◌, ◌&&◌, if◌then◌else◌, nat_eq}
use Rattle.std.proofs.lemmas.Bool.{eqb-true}
use Rattle.rc_ids.specs.Tables.{In}
use Rattle.rc_ids.specs.Texts.{same_key}
use Rattle.rc_record.specs.ShardState.{version_at, value_at}
use Rattle.rc_serial.specs.OneMap.{Map}
use Rattle.rc_protocol.specs.Client.{Slot, KeyRead, NotRead, UnderWay, Complete, slot_of, slot_set, with_read, is_unread, is_under_way, reads_begun, waits_for_read}
use Rattle.rc_calm_batches.proofs.Reading.{same_itself}

pub same_key_eq : (a b : List ℕ) → same_key a b ≡ true → a ≡ b
same_key_eq [] [] e = refl
same_key_eq [] (y ∷ b) e = absurd (cc)
same_key_eq (x ∷ a) [] e = absurd (cc)
same_key_eq (x ∷ a) (y ∷ b) e = go (nat_eq x y) refl e (same_key_eq a b)
  where
    go : (v : Bool) → nat_eq x y ≡ v → (v && same_key a b) ≡ true → (same_key a b ≡ true → a ≡ b) → x ∷ a ≡ y ∷ b
    go true h e more = ap (λ (z : ℕ). z ∷ a) (eqb-true x y h) ∙ ap (λ (z : List ℕ). y ∷ z) (more e)
    go false h e more = absurd (cc)

pub other_key : (a b : List ℕ) → (a ≡ b → ⊥) → same_key a b ≡ false
other_key a b n = go (same_key a b) refl
  where
    go : (v : Bool) → same_key a b ≡ v → v ≡ false
    go true e = absurd (n (same_key_eq a b e))
    go false e = refl

-- no key comes twice
abbrev pub Once : List Slot → Type 0
Once [] = Unit {0}
Once (s ∷ ss) = ((z : Slot) → In z ss → s.key ≡ z.key → ⊥) × Once ss

pub some_is : {A : Type 0} (x y : A) → Some x ≡ Some y → x ≡ y
some_is {A} x y e = ap out e
  where
    out : Option A → A
    out None = x
    out (Some w) = w

pub set_same : (xs : List Slot) (k : List ℕ) (s : Slot) → slot_of xs k ≡ Some s → s.key ≡ k → slot_set xs s ≡ xs
set_same [] k s h e = refl
set_same (z ∷ zs) k s h e = go (same_key z.key k) refl (ap (same_key z.key) e) h (set_same zs k s)
  where
    go : (v : Bool) → same_key z.key k ≡ v → same_key z.key s.key ≡ same_key z.key k → cond v (Some z) (slot_of zs k) ≡ Some s → (slot_of zs k ≡ Some s → s.key ≡ k → slot_set zs s ≡ zs) → slot_set (z ∷ zs) s ≡ z ∷ zs
    go true q r h more = let a : same_key z.key s.key ≡ true = r ∙ q in let i : s ≡ z = sym (some_is z s h) in rw a (ap (λ (w : Slot). w ∷ zs) i)
    go false q r h more = let a : same_key z.key s.key ≡ false = r ∙ q in let m = more h e in rw (a, m)

module _ (m : Map) where
  -- an unread key waits for its read where the test holds, and else has the map's row
  abbrev pub filled : (List ℕ → Bool) → List ℕ → KeyRead → KeyRead
  filled f k NotRead = if f k then UnderWay false [] else Complete (version_at m k) (value_at m k)
  filled f k (UnderWay prints gs) = UnderWay prints gs
  filled f k (Complete version value) = Complete version value

  abbrev pub fill : (List ℕ → Bool) → Slot → Slot
  fill f s = with_read s (filled f s.key s.read)

  abbrev pub fills : (List ℕ → Bool) → List Slot → List Slot
  fills f ss = map (fill f) ss

  pub slot_filled : (f : List ℕ → Bool) (ss : List Slot) (k : List ℕ) (s : Slot) → slot_of ss k ≡ Some s → slot_of (fills f ss) k ≡ Some (fill f s)
  slot_filled f [] k s h = absurd (cc)
  slot_filled f (z ∷ zs) k s h = go (same_key z.key k) h (slot_filled f zs k s)
    where
      go : (v : Bool) → cond v (Some z) (slot_of zs k) ≡ Some s → (slot_of zs k ≡ Some s → slot_of (fills f zs) k ≡ Some (fill f s)) → cond v (Some (fill f z)) (slot_of (fills f zs) k) ≡ Some (fill f s)
      go true h more = ap (λ (w : Slot). Some (fill f w)) (some_is z s h)
      go false h more = more h

  same_filled : (f g : List ℕ → Bool) (s : Slot) → f s.key ≡ g s.key → fill f s ≡ fill g s
  same_filled f g s e = ap (with_read s) (go s.read)
    where
      go : (r : KeyRead) → filled f s.key r ≡ filled g s.key r
      go NotRead = rw e
      go (UnderWay prints gs) = refl
      go (Complete version value) = refl

  same_fills : (f g : List ℕ → Bool) (ss : List Slot) → ((s : Slot) → In s ss → f s.key ≡ g s.key) → fills f ss ≡ fills g ss
  same_fills f g [] h = refl
  same_fills f g (s ∷ ss) h = ap (λ (z : Slot). z ∷ fills f ss) (same_filled f g s (h s (inl refl))) ∙ ap (λ (z : List Slot). fill g s ∷ z) (same_fills f g ss (λ z i. h z (inr i)))

  -- one more is complete
  pub fills_one : (f g : List ℕ → Bool) (ss : List Slot) (k : List ℕ) (s : Slot) → Once ss → slot_of ss k ≡ Some s → s.key ≡ k → s.read ≡ NotRead → g k ≡ false → ((j : List ℕ) → (k ≡ j → ⊥) → f j ≡ g j)
      → slot_set (fills f ss) (with_read s (Complete (version_at m k) (value_at m k))) ≡ fills g ss
  fills_one f g [] k s o h e r n w = absurd (cc)
  fills_one f g (z ∷ zs) k s o h e r n w = go (same_key z.key k) refl (ap (same_key z.key) e) h (fills_one f g zs k s o.1)
    where
      go : (v : Bool) → same_key z.key k ≡ v → same_key z.key s.key ≡ same_key z.key k → cond v (Some z) (slot_of zs k) ≡ Some s
          → (slot_of zs k ≡ Some s → s.key ≡ k → s.read ≡ NotRead → g k ≡ false → ((j : List ℕ) → (k ≡ j → ⊥) → f j ≡ g j) → slot_set (fills f zs) (with_read s (Complete (version_at m k) (value_at m k))) ≡ fills g zs)
          → slot_set (fills f (z ∷ zs)) (with_read s (Complete (version_at m k) (value_at m k))) ≡ fills g (z ∷ zs)
      go true q p h more =
          let a : same_key z.key s.key ≡ true = p ∙ q in
          let i : z ≡ s = some_is z s h in
          let zk : z.key ≡ k = same_key_eq z.key k q in
          let now : with_read s (Complete (version_at m k) (value_at m k)) ≡ fill g z =
          subst (λ (y : Slot). with_read y (Complete (version_at m k) (value_at m k)) ≡ fill g z) i
          (ap (with_read z) (let zr : z.read ≡ NotRead = ap (λ (y : Slot). y.read) i ∙ r in rw (zr, zk, n))) in
          rw a (ap (λ (y : Slot). y ∷ fills f zs) now ∙ ap (λ (y : List Slot). fill g z ∷ y) (same_fills f g zs (λ y j. w y.key (λ c. o.0 y j (zk ∙ c)))))
      go false q p h more =
          let a : same_key z.key s.key ≡ false = p ∙ q in
          let m' = more h e r n w in
          let now : fill f z ≡ fill g z = same_filled f g z (w z.key (λ c. absurd (let y : same_key z.key k ≡ true = ap (λ (x : List ℕ). same_key x k) (sym c) ∙ same_itself k in let v : true ≡ false = sym y ∙ q in cc))) in
          rw (a, m') (ap (λ (y : Slot). y ∷ fills g zs) now)

  -- the reads of a commit begin
  pub begun_filled : (f : List ℕ → Bool) (ss : List Slot) → ((s : Slot) → In s ss → s.read ≡ NotRead → f s.key ≡ true) → reads_begun ss ≡ fills f ss
  begun_filled f [] h = refl
  begun_filled f (s ∷ ss) h = ap (λ (z : Slot). z ∷ reads_begun ss) (go s.read refl) ∙ ap (λ (z : List Slot). fill f s ∷ z) (begun_filled f ss (λ z i. h z (inr i)))
    where
      go : (r : KeyRead) → s.read ≡ r → (if is_unread r then with_read s (UnderWay false []) else with_read s s.read) ≡ with_read s (filled f s.key r)
      go NotRead e = let k = h s (inl refl) e in rw k
      go (UnderWay prints gs) e = ap (with_read s) e
      go (Complete version value) e = ap (with_read s) e

  -- who waits
  abbrev pub NoneWaits : List Slot → Type 0
  NoneWaits ss = (s : Slot) → In s ss → is_under_way s.read ≡ false

  pub waits_still : (f : List ℕ → Bool) (ss : List Slot) (s : Slot) → In s ss → s.read ≡ NotRead → f s.key ≡ true → waits_for_read (fills f ss) ≡ true
  waits_still f [] s i r e = absurd i
  waits_still f (z ∷ zs) s (inl c) r e = let zr : z.read ≡ NotRead = ap (λ (y : Slot). y.read) c ∙ r in let k : f z.key ≡ true = ap (λ (y : Slot). f y.key) c ∙ e in rw (zr, k)
  waits_still f (z ∷ zs) s (inr i) r e = go (is_under_way (fill f z).read) (waits_still f zs s i r e)
    where
      go : (v : Bool) → waits_for_read (fills f zs) ≡ true → (v || waits_for_read (fills f zs)) ≡ true
      go true h = refl
      go false h = h

  pub waits_no_more : (f : List ℕ → Bool) (ss : List Slot) → NoneWaits ss → ((s : Slot) → In s ss → s.read ≡ NotRead → f s.key ≡ false) → waits_for_read (fills f ss) ≡ false
  waits_no_more f [] n h = refl
  waits_no_more f (s ∷ ss) n h = let now = go s.read refl (n s (inl refl)) in let more = waits_no_more f ss (λ z i. n z (inr i)) (λ z i. h z (inr i)) in rw (now, more)
    where
      go : (r : KeyRead) → s.read ≡ r → is_under_way s.read ≡ false → is_under_way (filled f s.key s.read) ≡ false
      go NotRead e k = let a = h s (inl refl) e in rw (e, a)
      go (UnderWay prints gs) e k = absurd (let v : true ≡ false = ap is_under_way (sym e) ∙ k in cc)
      go (Complete version value) e k = rw e

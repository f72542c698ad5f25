-- Reads of touched keys and writes at the client of an open transaction: its slots stay those of the touched keys.
use Rattle.std.proofs.Common.{◌≡◌, ℕ, List, [], ◌∷◌, ◌++◌, refl, sym, ap, ◌∙◌, Bool, true, false, cond, Option, Some, None, inl, inr}
use Rattle.std.specs.Prelude.{is_some}
use Rattle.rc_ids.specs.Tables.{In, maybe}
use Rattle.rc_ids.specs.Texts.{same_key}
use Rattle.rc_ids.specs.Cluster.{Layout}
use Rattle.rc_report.specs.declared.line.Line.TheVariants.{Read as ReadLine, Own}
use Rattle.rc_record.specs.ShardState.{version_at, value_at}
use Rattle.rc_serial.specs.OneMap.{Map}
use Rattle.rc_protocol.specs.Client.{Client, Slot, NotRead, UnderWay, Complete, slot_of, slot_set, with_slots, with_write, do_read, reads_again, client_prints, client_says, asks}
use Rattle.rc_claims.specs.Calm.{Touched, touched_of, touched_set}
use Rattle.rc_calm_batches.proofs.Reading.{same_itself}
use Rattle.rc_calm_batches.proofs.Slots.{same_key_eq, some_is}
use Rattle.rc_calm.proofs.Touching.{slot_from, slots_from, read_of}

module _ (m : Map) where
  pub slot_is : (xs : List Touched) (k : List ℕ) → slot_of (slots_from m xs) k ≡ maybe (touched_of xs k) None (λ x. Some (slot_from m x))
  slot_is [] k = refl
  slot_is (x ∷ xs) k = go (same_key x.key k) (slot_is xs k)
    where
      go : (v : Bool) → slot_of (slots_from m xs) k ≡ maybe (touched_of xs k) None (λ x. Some (slot_from m x))
          → cond v (Some (slot_from m x)) (slot_of (slots_from m xs) k) ≡ maybe (cond v (Some x) (touched_of xs k)) None (λ x. Some (slot_from m x))
      go true h = refl
      go false h = h

  pub touched_key : (xs : List Touched) (k : List ℕ) (x : Touched) → touched_of xs k ≡ Some x → (x.key ≡ k) × In x xs
  touched_key [] k x h = absurd (cc)
  touched_key (z ∷ xs) k x h = go (same_key z.key k) refl h (touched_key xs k x)
    where
      go : (v : Bool) → same_key z.key k ≡ v → cond v (Some z) (touched_of xs k) ≡ Some x → (touched_of xs k ≡ Some x → (x.key ≡ k) × In x xs) → (x.key ≡ k) × In x (z ∷ xs)
      go true e h more = let i = some_is z x h in (ap (λ (y : Touched). y.key) (sym i) ∙ same_key_eq z.key k e, inl i)
      go false e h more = let w = more h in (w.0, inr w.1)

  -- WRITES
  set_new : (xs : List Touched) (n : Touched) → touched_of xs n.key ≡ None → slots_from m (touched_set xs n) ≡ slots_from m xs ++ slot_from m n ∷ []
  set_new [] n h = refl
  set_new (x ∷ xs) n h = go (same_key x.key n.key) h (set_new xs n)
    where
      go : (v : Bool) → cond v (Some x) (touched_of xs n.key) ≡ None → (touched_of xs n.key ≡ None → slots_from m (touched_set xs n) ≡ slots_from m xs ++ slot_from m n ∷ [])
          → slots_from m (cond v (n ∷ xs) (x ∷ touched_set xs n)) ≡ slots_from m (x ∷ xs) ++ slot_from m n ∷ []
      go true h more = absurd (cc)
      go false h more = ap (λ (z : List Slot). slot_from m x ∷ z) (more h)

  set_old : (xs : List Touched) (n x : Touched) → touched_of xs n.key ≡ Some x → slots_from m (touched_set xs n) ≡ slot_set (slots_from m xs) (slot_from m n)
  set_old [] n x h = absurd (cc)
  set_old (z ∷ xs) n x h = go (same_key z.key n.key) h (set_old xs n x)
    where
      go : (v : Bool) → cond v (Some z) (touched_of xs n.key) ≡ Some x → (touched_of xs n.key ≡ Some x → slots_from m (touched_set xs n) ≡ slot_set (slots_from m xs) (slot_from m n))
          → slots_from m (cond v (n ∷ xs) (z ∷ touched_set xs n)) ≡ cond v (slot_from m n ∷ slots_from m xs) (slot_from m z ∷ slot_set (slots_from m xs) (slot_from m n))
      go true h more = refl
      go false h more = ap (λ (y : List Slot). slot_from m z ∷ y) (more h)

  pub write_is : (xs : List Touched) (k value : List ℕ)
      → maybe (slot_of (slots_from m xs) k) (slots_from m xs ++ record { key = k; write = Some value; read = NotRead } ∷ []) (λ s. slot_set (slots_from m xs) (with_write s value))
      ≡ slots_from m (touched_set xs (record { key = k; is_read = maybe (touched_of xs k) false (λ x. x.is_read); write = Some value }))
  write_is xs k value = ap (λ (o : Option Slot). maybe o (slots_from m xs ++ record { key = k; write = Some value; read = NotRead } ∷ []) (λ s. slot_set (slots_from m xs) (with_write s value))) (slot_is xs k) ∙ go (touched_of xs k) refl
    where
      go : (o : Option Touched) → touched_of xs k ≡ o
          → maybe (maybe o None (λ x. Some (slot_from m x))) (slots_from m xs ++ record { key = k; write = Some value; read = NotRead } ∷ []) (λ s. slot_set (slots_from m xs) (with_write s value))
          ≡ slots_from m (touched_set xs (record { key = k; is_read = maybe o false (λ x. x.is_read); write = Some value }))
      go None h = sym (set_new xs (record { key = k; is_read = false; write = Some value }) h)
      go (Some x) h =
          ap (λ (j : List ℕ). slot_set (slots_from m xs) (record { key = j; write = Some value; read = read_of m x.is_read j })) (touched_key xs k x h).0
          ∙ sym (set_old xs (record { key = k; is_read = x.is_read; write = Some value }) x h)

  -- READS of a touched key print, and change nothing
  pub reads_touched : (c : Layout) (t : ℕ) (y : Client) (xs : List Touched) (k : List ℕ) (x : Touched) → y.slots ≡ slots_from m xs → touched_of xs k ≡ Some x → (x.is_read ≡ false → is_some x.write ≡ true)
      → do_read c t y k ≡ client_prints y (maybe x.write (ReadLine t k (version_at m k) (value_at m k)) (λ value. Own t k value))
  reads_touched c t y xs k x slots h used =
      let at : slot_of y.slots k ≡ Some (slot_from m x) = ap (λ (s : List Slot). slot_of s k) slots ∙ (slot_is xs k ∙ ap (λ (o : Option Touched). maybe o None (λ x. Some (slot_from m x))) h) in
      let key = (touched_key xs k x h).0 in
      rw at (go x.write refl x.is_read refl key)
    where
      go : (w : Option (List ℕ)) → x.write ≡ w → (v : Bool) → x.is_read ≡ v → x.key ≡ k
          → maybe w (reads_again t y k (read_of m v x.key)) (λ value. client_prints y (Own t k value)) ≡ client_prints y (maybe w (ReadLine t k (version_at m k) (value_at m k)) (λ value. Own t k value))
      go (Some value) e v f key = refl
      go None e true f key = ap (λ (j : List ℕ). client_prints y (ReadLine t k (version_at m j) (value_at m j))) key
      go None e false f key = absurd (let u = used f in let z : false ≡ true = ap is_some (sym e) ∙ u in cc)

  -- A FRESH READ asks, and its slot stands at the end
  abbrev pub asking : List ℕ → Slot
  asking k = record { key = k; write = None; read = UnderWay true [] }

  pub reads_fresh : (c : Layout) (t : ℕ) (y : Client) (xs : List Touched) (k : List ℕ) → y.slots ≡ slots_from m xs → touched_of xs k ≡ None
      → do_read c t y k ≡ client_says (with_slots y (slots_from m xs ++ asking k ∷ [])) (asks c t k)
  reads_fresh c t y xs k slots h =
      let at : slot_of (slots_from m xs) k ≡ None = slot_is xs k ∙ ap (λ (o : Option Touched). maybe o None (λ x. Some (slot_from m x))) h in
      rw (slots, at)

  pub slot_end : (xs : List Touched) (k : List ℕ) (s : Slot) → touched_of xs k ≡ None → s.key ≡ k → slot_of (slots_from m xs ++ s ∷ []) k ≡ Some s
  slot_end [] k s h e = let q : same_key s.key k ≡ true = ap (λ (z : List ℕ). same_key z k) e ∙ same_itself k in rw q
  slot_end (x ∷ xs) k s h e = go (same_key x.key k) h (slot_end xs k s)
    where
      go : (v : Bool) → cond v (Some x) (touched_of xs k) ≡ None → (touched_of xs k ≡ None → s.key ≡ k → slot_of (slots_from m xs ++ s ∷ []) k ≡ Some s)
          → cond v (Some (slot_from m x)) (slot_of (slots_from m xs ++ s ∷ []) k) ≡ Some s
      go true h more = absurd (cc)
      go false h more = more h e

  set_end : (xs : List Touched) (s new : Slot) → touched_of xs new.key ≡ None → s.key ≡ new.key → slot_set (slots_from m xs ++ s ∷ []) new ≡ slots_from m xs ++ new ∷ []
  set_end [] s new h e = let q : same_key s.key new.key ≡ true = ap (λ (z : List ℕ). same_key z new.key) e ∙ same_itself new.key in rw q
  set_end (x ∷ xs) s new h e = go (same_key x.key new.key) h (set_end xs s new)
    where
      go : (v : Bool) → cond v (Some x) (touched_of xs new.key) ≡ None → (touched_of xs new.key ≡ None → s.key ≡ new.key → slot_set (slots_from m xs ++ s ∷ []) new ≡ slots_from m xs ++ new ∷ [])
          → cond v (new ∷ (slots_from m xs ++ s ∷ [])) (slot_from m x ∷ slot_set (slots_from m xs ++ s ∷ []) new) ≡ slot_from m x ∷ (slots_from m xs ++ new ∷ [])
      go true h more = absurd (cc)
      go false h more = ap (λ (z : List Slot). slot_from m x ∷ z) (more h e)

  -- complete, it is that of a key that was read
  pub fresh_done : (xs : List Touched) (k : List ℕ) → touched_of xs k ≡ None
      → slot_set (slots_from m xs ++ asking k ∷ []) (record { key = k; write = None; read = Complete (version_at m k) (value_at m k) }) ≡ slots_from m (touched_set xs (record { key = k; is_read = true; write = None }))
  fresh_done xs k h = set_end xs (asking k) (record { key = k; write = None; read = Complete (version_at m k) (value_at m k) }) h refl ∙ sym (set_new xs (record { key = k; is_read = true; write = None }) h)

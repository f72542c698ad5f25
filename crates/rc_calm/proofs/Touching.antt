-- The client of an open transaction as the one map sees it: its slots are made of the touched keys. What its commit's body then is.
use Rattle.std.proofs.Common.{◌≡◌, ℕ, List, [], ◌∷◌, refl, sym, ap, ◌∙◌, Bool, true, false, cond, inl, inr}
use Rattle.std.specs.Prelude.{map, filter, length, ◌==◌, ◌||◌}
use Rattle.std.proofs.lemmas.Bool.{eq-eqb, or_right}
use Rattle.rc_ids.specs.Tables.{In, up_to}
use Rattle.rc_ids.specs.Cluster.{Layout, shard_of}
use Rattle.rc_body.specs.Bodies.{touches, touched}
use Rattle.rc_body.specs.declared.entry.Entry.{Entry}
use Rattle.rc_record.specs.ShardState.{version_at, value_at}
use Rattle.rc_serial.specs.OneMap.{Map, entry_applied, body_applied}
use Rattle.rc_protocol.specs.Client.{Slot, KeyRead, NotRead, Complete, is_under_way, body_of, entry_of}
use Rattle.rc_claims.specs.Calm.{Touched, written, in_shard, shards_held}
use Rattle.rc_calm_batches.proofs.Rows.{Fits}
use Rattle.rc_calm_batches.proofs.Slots.{Once, NoneWaits, fill, fills}

-- no key comes twice
abbrev pub OnceTouched : List Touched → Type 0
OnceTouched [] = Unit {0}
OnceTouched (x ∷ xs) = ((z : Touched) → In z xs → x.key ≡ z.key → ⊥) × OnceTouched xs

module _ (m : Map) where
  abbrev pub read_of : Bool → List ℕ → KeyRead
  read_of true k = Complete (version_at m k) (value_at m k)
  read_of false k = NotRead

  abbrev pub slot_from : Touched → Slot
  slot_from x = record { key = x.key; write = x.write; read = read_of x.is_read x.key }

  abbrev pub slots_from : List Touched → List Slot
  slots_from xs = map slot_from xs

  -- the body of its commit
  abbrev pub entry_from : Touched → Entry
  entry_from x = record { key = x.key; version = version_at m x.key; write = x.write }

  abbrev pub body_from : List Touched → List Entry
  body_from xs = map entry_from xs

  pub body_is : (xs : List Touched) → body_of (fills m (λ k. false) (slots_from xs)) ≡ body_from xs
  body_is [] = refl
  body_is (x ∷ xs) = ap (λ (e : Entry). e ∷ body_of (fills m (λ k. false) (slots_from xs))) (go x.is_read) ∙ ap (λ (es : List Entry). entry_from x ∷ es) (body_is xs)
    where
      go : (v : Bool) → entry_of (fill m (λ k. false) (record { key = x.key; write = x.write; read = read_of v x.key })) ≡ entry_from x
      go true = refl
      go false = refl

  in_slots : (xs : List Touched) (s : Slot) → In s (slots_from xs) → (x : Touched) × In x xs × (slot_from x ≡ s)
  in_slots [] s i = absurd i
  in_slots (x ∷ xs) s (inl e) = (x, inl refl, e)
  in_slots (x ∷ xs) s (inr i) = let z = in_slots xs s i in (z.0, inr z.1, z.2)

  pub slots_once : (xs : List Touched) → OnceTouched xs → Once (slots_from xs)
  slots_once [] o = tt
  slots_once (x ∷ xs) o = ((λ s i e. let z = in_slots xs s i in o.0 z.0 z.1 (e ∙ ap (λ (y : Slot). y.key) (sym z.2))), slots_once xs o.1)

  pub slots_calm : (xs : List Touched) → NoneWaits m (slots_from xs)
  slots_calm xs s i = let z = in_slots xs s i in ap (λ (y : Slot). is_under_way y.read) (sym z.2) ∙ go z.0.is_read z.0.key
    where
      go : (v : Bool) (k : List ℕ) → is_under_way (read_of v k) ≡ false
      go true k = refl
      go false k = refl

  pub in_body : (xs : List Touched) (f : Entry) → In f (body_from xs) → (x : Touched) × In x xs × (entry_from x ≡ f)
  in_body [] f i = absurd i
  in_body (x ∷ xs) f (inl e) = (x, inl refl, e)
  in_body (x ∷ xs) f (inr i) = let z = in_body xs f i in (z.0, inr z.1, z.2)

  pub body_fits : (xs : List Touched) → OnceTouched xs → Fits m (body_from xs)
  body_fits [] o = tt
  body_fits (x ∷ xs) o = (refl, (λ f i e. let z = in_body xs f i in o.0 z.0 z.1 (e ∙ ap (λ (y : Entry). y.key) (sym z.2))), body_fits xs o.1)

  -- every key that it touched is of a touched shard
  pub body_touches : (c : Layout) (xs : List Touched) (k : List ℕ) → In k (map (λ (x : Touched). x.key) xs) → touches c (body_from xs) (shard_of c k) ≡ true
  body_touches c [] k i = absurd i
  body_touches c (x ∷ xs) k (inl e) = let q = eq-eqb (shard_of c x.key) (shard_of c k) (ap (shard_of c) e) in rw q
  body_touches c (x ∷ xs) k (inr i) = or_right (shard_of c x.key == shard_of c k) _ (body_touches c xs k i)

  -- COUNTS
  same_shard : (c : Layout) (xs : List Touched) (s : ℕ) → touches c (body_from xs) s ≡ in_shard c xs s
  same_shard c [] s = refl
  same_shard c (x ∷ xs) s = ap (λ (v : Bool). (shard_of c x.key == s) || v) (same_shard c xs s)

  same_kept : (f g : ℕ → Bool) (ns : List ℕ) → ((n : ℕ) → f n ≡ g n) → filter f ns ≡ filter g ns
  same_kept f g [] h = refl
  same_kept f g (n ∷ ns) h = ap (λ (v : Bool). cond v (n ∷ filter f ns) (filter f ns)) (h n) ∙ ap (λ (w : List ℕ). cond (g n) (n ∷ w) w) (same_kept f g ns h)

  pub held_is : (c : Layout) (xs : List Touched) → length (touched c (body_from xs)) ≡ shards_held c xs
  held_is c xs = ap length (same_kept (touches c (body_from xs)) (in_shard c xs) (up_to c.shards) (same_shard c xs))

-- the versions do not matter to the map
pub applied_written : (m n : Map) (xs : List Touched) → body_applied n (body_from m xs) ≡ body_applied n (map written xs)
applied_written m n [] = refl
applied_written m n (x ∷ xs) = applied_written m (entry_applied n (written x)) xs

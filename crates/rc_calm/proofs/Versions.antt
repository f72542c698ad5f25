-- Versions rise by at most one with each commit, so that none is worn out.
use Rattle.std.proofs.Common.{◌≡◌, ℕ, ◌+◌, ◌-◌, ◌≤◌, ◌^◌, List, [], ◌∷◌, refl, sym, ap, ◌∙◌, subst, arith, Bool, true, false, Option, Some, None, inl, inr, ⊎_elim}
use Rattle.std.specs.Prelude.{map, is_some, ◌==◌, ◌&&◌}
use Rattle.std.proofs.lemmas.Bool.{ne_eqb}
use Rattle.rc_ids.specs.Tables.{In, maybe, put}
use Rattle.rc_ids.specs.Texts.{key_cmp}
use Rattle.rc_body.specs.Entries.{wears_out}
use Rattle.rc_body.specs.declared.entry.Entry.{Entry}
use Rattle.rc_record.specs.ShardState.{version_at, value_at}
use Rattle.rc_serial.specs.OneMap.{Map, entry_applied, body_applied}
use Rattle.rc_protocol.specs.Client.{is_worn, entry_of}
use Rattle.rc_claims.specs.Calm.{Touched, written}
use Rattle.rc_calm_batches.proofs.Puts.{put_found, put_other, key_same, key_eq_of, same_key_or_not}
use Rattle.rc_calm_batches.proofs.Slots.{fill, fills}
use Rattle.rc_calm.proofs.Frames.{Short}
use Rattle.rc_calm.proofs.Touches.{InRange}
use Rattle.rc_calm.proofs.Touching.{slot_from, slots_from, read_of, OnceTouched}

-- A WRITE
entry_other : (m : Map) (e : Entry) (k : List ℕ) → (e.key ≡ k → ⊥) → version_at (entry_applied m e) k ≡ version_at m k
entry_other m e k n = go e.write
  where
    go : (w : Option (List ℕ)) → version_at (maybe w m (λ value. put key_cmp m e.key (version_at m e.key + 1, value))) k ≡ version_at m k
    go None = refl
    go (Some v) = ap (λ (o : Option (ℕ × List ℕ)). maybe o 0 (λ row. row.0)) (put_other key_cmp key_same key_eq_of m e.key k (version_at m e.key + 1, v) n)

entry_rises : (m : Map) (e : Entry) → version_at (entry_applied m e) e.key ≤ version_at m e.key + 1
entry_rises m e = go e.write
  where
    go : (w : Option (List ℕ)) → version_at (maybe w m (λ value. put key_cmp m e.key (version_at m e.key + 1, value))) e.key ≤ version_at m e.key + 1
    go None = omega arith
    go (Some v) =
        let p : version_at (put key_cmp m e.key (version_at m e.key + 1, v)) e.key ≡ version_at m e.key + 1 =
        ap (λ (o : Option (ℕ × List ℕ)). maybe o 0 (λ row. row.0)) (put_found key_cmp key_same key_eq_of m e.key (version_at m e.key + 1, v)) in
        omega (arith, p)

-- A COMMIT
others_stay : (m : Map) (xs : List Touched) (k : List ℕ) → ((x : Touched) → In x xs → x.key ≡ k → ⊥) → version_at (body_applied m (map written xs)) k ≡ version_at m k
others_stay m [] k n = refl
others_stay m (x ∷ xs) k n = others_stay (entry_applied m (written x)) xs k (λ z i. n z (inr i)) ∙ entry_other m (written x) k (n x (inl refl))

pub version_rises : (m : Map) (xs : List Touched) (k : List ℕ) → OnceTouched xs → version_at (body_applied m (map written xs)) k ≤ version_at m k + 1
version_rises m [] k o = omega arith
version_rises m (x ∷ xs) k o = ⊎_elim
    (λ (e : x.key ≡ k).
    let a = others_stay (entry_applied m (written x)) xs k (λ z i h. o.0 z i (e ∙ sym h)) in
    let b = subst (λ (j : List ℕ). version_at (entry_applied m (written x)) j ≤ version_at m j + 1) e (entry_rises m (written x)) in
    omega (arith, a, b))
    (λ n. let a = version_rises (entry_applied m (written x)) xs k o.1 in let b = entry_other m (written x) k n in omega (arith, a, b)) (same_key_or_not x.key k)

-- VALUES stay short
entry_short : (m : Map) (e : Entry) → Short e.write → ((k : List ℕ) → Short (value_at m k)) → (k : List ℕ) → Short (value_at (entry_applied m e) k)
entry_short m e w h k = go e.write w
  where
    go : (x : Option (List ℕ)) → Short x → Short (value_at (maybe x m (λ value. put key_cmp m e.key (version_at m e.key + 1, value))) k)
    go None s = h k
    go (Some v) s = ⊎_elim
        (λ (i : e.key ≡ k).
        let p : value_at (put key_cmp m e.key (version_at m e.key + 1, v)) e.key ≡ Some v =
        ap (λ (o : Option (ℕ × List ℕ)). maybe o None (λ row. Some row.1)) (put_found key_cmp key_same key_eq_of m e.key (version_at m e.key + 1, v)) in
        subst (λ (j : List ℕ). Short (value_at (put key_cmp m e.key (version_at m e.key + 1, v)) j)) i (subst Short (sym p) s))
        (λ n.
        let p : value_at (put key_cmp m e.key (version_at m e.key + 1, v)) k ≡ value_at m k =
        ap (λ (o : Option (ℕ × List ℕ)). maybe o None (λ row. Some row.1)) (put_other key_cmp key_same key_eq_of m e.key k (version_at m e.key + 1, v) n) in
        subst Short (sym p) (h k)) (same_key_or_not e.key k)

pub values_short : (m : Map) (xs : List Touched) → ((k : List ℕ) → Short (value_at m k)) → InRange xs → (k : List ℕ) → Short (value_at (body_applied m (map written xs)) k)
values_short m [] h r k = h k
values_short m (x ∷ xs) h r k = values_short (entry_applied m (written x)) xs (entry_short m (written x) (r x (inl refl)).1 h) (λ z i. r z (inr i)) k

-- NONE IS WORN OUT
fresh_entry : (e : Entry) → e.version ≤ 1024 → wears_out e ≡ false
fresh_entry e h = let f : (e.version == 2 ^ 62 - 1) ≡ false = ne_eqb e.version (2 ^ 62 - 1) (λ k. omega (arith, h, k)) in rw f (go (is_some e.write))
  where
    go : (v : Bool) → (v && false) ≡ false
    go true = refl
    go false = refl

pub none_worn : (m : Map) (xs : List Touched) → ((k : List ℕ) → version_at m k ≤ 1024) → is_worn (fills m (λ k. false) (slots_from m xs)) ≡ false
none_worn m [] low = refl
none_worn m (x ∷ xs) low = let now = fresh_entry (entry_of (fill m (λ k. false) (slot_from m x))) (go x.is_read) in let more = none_worn m xs low in rw (now, more)
  where
    go : (v : Bool) → (entry_of (fill m (λ k. false) (record { key = x.key; write = x.write; read = read_of m v x.key }))).version ≤ 1024
    go true = low x.key
    go false = low x.key

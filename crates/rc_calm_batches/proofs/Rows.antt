-- The rows of a shard follow the one map when a commit's part is applied to them.
use Rattle.std.proofs.Common.{◌≡◌, ℕ, ◌+◌, List, [], ◌∷◌, refl, sym, ap, ◌∙◌, subst, arith, Bool, true, false, cond, Option, Some, None, inl, inr, ⊎_elim}
use Rattle.std.specs.Prelude.{◌==◌, ◌||◌, filter, if◌then◌else◌, nat_lt}
use Rattle.std.proofs.lemmas.Bool.{lt-ltb, eqb-true, eqb-false}
use Rattle.rc_ids.specs.Tables.{In, found, put, maybe}
use Rattle.rc_ids.specs.Texts.{key_cmp}
use Rattle.rc_ids.specs.Cluster.{Layout, shard_of}
use Rattle.rc_body.specs.Bodies.{part, touches}
use Rattle.rc_body.specs.declared.entry.Entry.{Entry}
use Rattle.rc_record.specs.ShardState.{version_at, value_at, set_row, set_rows}
use Rattle.rc_serial.specs.OneMap.{Map, entry_applied, body_applied}
use Rattle.rc_calm_batches.proofs.Puts.{put_found, put_other, key_same, key_eq_of, same_key_or_not}

-- the versions are the map's, and no key comes twice
abbrev pub Apart : Entry → List Entry → Type 0
Apart e es = (f : Entry) → In f es → e.key ≡ f.key → ⊥

abbrev pub Fits : Map → List Entry → Type 0
Fits m [] = Unit {0}
Fits m (e ∷ es) = (e.version ≡ version_at m e.key) × Apart e es × Fits m es

pub fits_version : (m : Map) (es : List Entry) → Fits m es → (f : Entry) → In f es → f.version ≡ version_at m f.key
fits_version m [] h f i = absurd i
fits_version m (e ∷ es) h f (inl k) = subst (λ (z : Entry). z.version ≡ version_at m z.key) k h.0
fits_version m (e ∷ es) h f (inr i) = fits_version m es h.2 f i

applied_other : (m : Map) (e : Entry) (k : List ℕ) → (e.key ≡ k → ⊥) → found key_cmp (entry_applied m e) k ≡ found key_cmp m k
applied_other m e k n = go e.write
  where
    go : (w : Option (List ℕ)) → found key_cmp (maybe w m (λ value. put key_cmp m e.key (version_at m e.key + 1, value))) k ≡ found key_cmp m k
    go None = refl
    go (Some v) = put_other key_cmp key_same key_eq_of m e.key k (version_at m e.key + 1, v) n

fits_on : (m : Map) (e : Entry) (es : List Entry) → Apart e es → Fits m es → Fits (entry_applied m e) es
fits_on m e [] n h = tt
fits_on m e (f ∷ es) n h =
    let k = applied_other m e f.key (n f (inl refl)) in
    (h.0 ∙ ap (λ (o : Option (ℕ × List ℕ)). maybe o 0 (λ row. row.0)) (sym k), h.1, fits_on m e es (λ g i. n g (inr i)) h.2)

module _ (c : Layout) (s : ℕ) where
  pub record Agree (rows m : Map) : Type 0 where
    pub version : (k : List ℕ) → shard_of c k ≡ s → version_at rows k ≡ version_at m k
    pub value : (k : List ℕ) → shard_of c k ≡ s → value_at rows k ≡ value_at m k

  put_agree : (rows m : Map) (k : List ℕ) (x : ℕ × List ℕ) → Agree rows m → Agree (put key_cmp rows k x) (put key_cmp m k x)
  put_agree rows m k x h = record {
    version = λ j i. ⊎_elim
        (λ (e : k ≡ j). subst (λ (z : List ℕ). version_at (put key_cmp rows k x) z ≡ version_at (put key_cmp m k x) z) e
        (let a = put_found key_cmp key_same key_eq_of rows k x in let f = put_found key_cmp key_same key_eq_of m k x in rw (a, f)))
        (λ n. let a = put_other key_cmp key_same key_eq_of rows k j x n in let f = put_other key_cmp key_same key_eq_of m k j x n in let o = h.version j i in rw (a, f, o)) (same_key_or_not k j);
    value = λ j i. ⊎_elim
        (λ (e : k ≡ j). subst (λ (z : List ℕ). value_at (put key_cmp rows k x) z ≡ value_at (put key_cmp m k x) z) e
        (let a = put_found key_cmp key_same key_eq_of rows k x in let f = put_found key_cmp key_same key_eq_of m k x in rw (a, f)))
        (λ n. let a = put_other key_cmp key_same key_eq_of rows k j x n in let f = put_other key_cmp key_same key_eq_of m k j x n in let o = h.value j i in rw (a, f, o)) (same_key_or_not k j);
  }

  row_agrees : (rows m : Map) (e : Entry) → e.version ≡ version_at m e.key → shard_of c e.key ≡ s → Agree rows m → Agree (set_row rows e) (entry_applied m e)
  row_agrees rows m e v i h = go e.write
    where
      low : nat_lt (version_at rows e.key) (e.version + 1) ≡ true
      low = let r = h.version e.key i in lt-ltb (version_at rows e.key) (e.version + 1) (omega (arith, r, v))

      go : (w : Option (List ℕ)) → Agree (maybe w rows (λ x. if nat_lt (version_at rows e.key) (e.version + 1) then put key_cmp rows e.key (e.version + 1, x) else rows)) (maybe w m (λ value. put key_cmp m e.key (version_at m e.key + 1, value)))
      go None = h
      go (Some x) =
          subst (λ (z : Bool). Agree (if z then put key_cmp rows e.key (e.version + 1, x) else rows) (put key_cmp m e.key (version_at m e.key + 1, x))) (sym low)
          (subst (λ (n : ℕ). Agree (put key_cmp rows e.key (e.version + 1, x)) (put key_cmp m e.key (n + 1, x))) v (put_agree rows m e.key (e.version + 1, x) h))

  other_agrees : (rows m : Map) (e : Entry) → (shard_of c e.key ≡ s → ⊥) → Agree rows m → Agree rows (entry_applied m e)
  other_agrees rows m e n h = record {
    version = λ j i. h.version j i ∙ ap (λ (o : Option (ℕ × List ℕ)). maybe o 0 (λ row. row.0)) (sym (applied_other m e j (λ k. n (ap (shard_of c) k ∙ i))));
    value = λ j i. h.value j i ∙ ap (λ (o : Option (ℕ × List ℕ)). maybe o None (λ row. Some row.1)) (sym (applied_other m e j (λ k. n (ap (shard_of c) k ∙ i))));
  }

  pub rows_follow : (body : List Entry) (rows m : Map) → Agree rows m → Fits m body → Agree (set_rows rows (part c s body)) (body_applied m body)
  rows_follow [] rows m h f = h
  rows_follow (e ∷ es) rows m h f = go (shard_of c e.key == s) refl (rows_follow es)
    where
      go : (v : Bool) → (shard_of c e.key == s) ≡ v → ((rows m : Map) → Agree rows m → Fits m es → Agree (set_rows rows (part c s es)) (body_applied m es))
          → Agree (set_rows rows (cond v (e ∷ part c s es) (part c s es))) (body_applied (entry_applied m e) es)
      go true k more = more (set_row rows e) (entry_applied m e) (row_agrees rows m e f.0 (eqb-true _ _ k) h) (fits_on m e es f.1 f.2)
      go false k more = more rows (entry_applied m e) (other_agrees rows m e (eqb-false _ _ k) h) (fits_on m e es f.1 f.2)

  pub no_part : (body : List Entry) → touches c body s ≡ false → part c s body ≡ []
  no_part [] h = refl
  no_part (e ∷ es) h = go (shard_of c e.key == s) h (no_part es)
    where
      go : (v : Bool) → (v || touches c es s) ≡ false → (touches c es s ≡ false → part c s es ≡ []) → cond v (e ∷ part c s es) (part c s es) ≡ []
      go true h more = absurd (cc)
      go false h more = more h

pub in_test : {A : Type 0} (f : A → Bool) (x : A) (xs : List A) → In x (filter f xs) → f x ≡ true
in_test f x [] h = absurd h
in_test f x (y ∷ xs) h = go (f y) refl (in_test f x xs) h
  where
    go : (b : Bool) → f y ≡ b → (In x (filter f xs) → f x ≡ true) → In x (cond b (y ∷ filter f xs) (filter f xs)) → f x ≡ true
    go true q more (inl e) = ap f (sym e) ∙ q
    go true q more (inr i) = more i
    go false q more i = more i

pub in_part : (c : Layout) (s : ℕ) (body : List Entry) (e : Entry) → In e (part c s body) → shard_of c e.key ≡ s
in_part c s body e i = eqb-true _ _ (in_test (λ (x : Entry). shard_of c x.key == s) e body i)

-- From versions counted along the order to the map that explains it.
use Rattle.std.proofs.Common.{◌≡◌, ℕ, suc, ◌+◌, ◌≤◌, List, [], ◌∷◌, refl, sym, ap, ◌∙◌, subst, Bool, true, false, cond, Option, Some, None, arith, ◌⊎◌, inl, inr, ⊎_elim, true≢false}
use Rattle.std.specs.Prelude.{is_some, ◌&&◌, ◌||◌}
use Rattle.rc_ids.specs.Tables.{In, found, put, maybe}
use Rattle.rc_ids.specs.Texts.{key_cmp, same_key}
use Rattle.rc_body.specs.Bodies.{writes}
use Rattle.rc_body.specs.declared.entry.Entry.{Entry}
use Rattle.rc_record.specs.ShardState.{version_at, value_at}
use Rattle.rc_serial.specs.OneMap.{Map, entry_applied, body_applied, Explains}
use Rattle.rc_agreement.proofs.Cases.{on_maybe}
use Rattle.rc_agreement.proofs.Lists.{map_in}
use Rattle.rc_agreement.proofs.ClientSlots.{key_dec, key_same}
use Rattle.rc_serial_order.proofs.KeyFacts.{key_put_same, key_put_other}
use Rattle.rc_serial_order.proofs.Steps.{Steps}
use Rattle.rc_serial_order.proofs.Bodies.{bodies, writes_find, writes_by}

-- the keys of a body differ
abbrev pub Apart : List Entry → Type 0
Apart [] = Unit {0}
Apart (e ∷ es) = ((f : Entry) → In f es → e.key ≡ f.key → ⊥) × Apart es

-- entries of one body with one key are one
one_entry : (x : List Entry) → Apart x → (e f : Entry) → In e x → In f x → e.key ≡ f.key → e ≡ f
one_entry [] h e f i j k = absurd i
one_entry (g ∷ x) h e f i j k =
    ⊎_elim
    (λ (a : g ≡ e). ⊎_elim
    (λ (b : g ≡ f). sym a ∙ b)
    (λ (b : In f x). absurd (h.0 f b (ap (λ (z : Entry). z.key) a ∙ k))) j)
    (λ (a : In e x). ⊎_elim
    (λ (b : g ≡ f). absurd (h.0 e a (ap (λ (z : Entry). z.key) b ∙ sym k)))
    (λ (b : In f x). one_entry x h.1 e f a b k) j) i

-- WRITING
other_key : (m : Map) (e : Entry) (k : List ℕ) → (e.key ≡ k → ⊥) → found key_cmp (entry_applied m e) k ≡ found key_cmp m k
other_key m e k n =
    on_maybe (λ (z : Map). found key_cmp z k ≡ found key_cmp m k) e.write m (λ x. put key_cmp m e.key (version_at m e.key + 1, x)) (λ _. refl)
    (λ x _. key_put_other k e.key (version_at m e.key + 1, x) m (λ q. n (sym q)))

no_write : (m : Map) (e : Entry) (k : List ℕ) → (same_key e.key k && is_some e.write) ≡ false → found key_cmp (entry_applied m e) k ≡ found key_cmp m k
no_write m e k h =
    ⊎_elim
    (λ (q : e.key ≡ k). on_maybe (λ (z : Map). found key_cmp z k ≡ found key_cmp m k) e.write m (λ x. put key_cmp m e.key (version_at m e.key + 1, x)) (λ _. refl)
    (λ x w. let a : (same_key e.key k && is_some e.write) ≡ true = rw (key_same e.key k q, w) in absurd (true≢false (sym a ∙ h))))
    (λ n. other_key m e k n)
    (key_dec e.key k)

or_false : (a b : Bool) → (a || b) ≡ false → (a ≡ false) × (b ≡ false)
or_false true b e = absurd (true≢false e)
or_false false b e = (refl, e)

keep : (m : Map) (x : List Entry) (k : List ℕ) → writes k x ≡ false → found key_cmp (body_applied m x) k ≡ found key_cmp m k
keep m [] k h = refl
keep m (e ∷ x) k h = let r = or_false (same_key e.key k && is_some e.write) (writes k x) h in keep (entry_applied m e) x k r.1 ∙ no_write m e k r.0

writes_none : (k : List ℕ) (x : List Entry) → ((f : Entry) → In f x → k ≡ f.key → ⊥) → writes k x ≡ false
writes_none k x n = go (writes k x) refl
  where
    go : (b : Bool) → writes k x ≡ b → b ≡ false
    go true e = let f = writes_find k x e in absurd (n f.0 f.1 (sym f.2))
    go false e = refl

set : (m : Map) (x : List Entry) → Apart x → (e : Entry) (v : List ℕ) → In e x → e.write ≡ Some v → found key_cmp (body_applied m x) e.key ≡ Some (version_at m e.key + 1, v)
set m [] h e v i w = absurd i
set m (g ∷ x) h e v i w =
    ⊎_elim
    (λ (a : g ≡ e).
    let rest : found key_cmp (body_applied (entry_applied m g) x) g.key ≡ found key_cmp (entry_applied m g) g.key = keep (entry_applied m g) x g.key (writes_none g.key x h.0) in
    let here : found key_cmp (entry_applied m g) g.key ≡ Some (version_at m g.key + 1, v) = put_here (ap (λ (z : Entry). z.write) a ∙ w) in
    subst (λ (z : Entry). found key_cmp (body_applied (entry_applied m g) x) z.key ≡ Some (version_at m z.key + 1, v)) a (rest ∙ here))
    (λ (a : In e x).
    let k = set (entry_applied m g) x h.1 e v a w in
    let q : found key_cmp (entry_applied m g) e.key ≡ found key_cmp m e.key = other_key m g e.key (h.0 e a) in
    k ∙ ap (λ (z : Option (ℕ × List ℕ)). Some (maybe z 0 (λ r. r.0) + 1, v)) q)
    i
  where
    put_here : g.write ≡ Some v → found key_cmp (entry_applied m g) g.key ≡ Some (version_at m g.key + 1, v)
    put_here e = rw e (key_put_same g.key (version_at m g.key + 1, v) m)

of_some : (o : Option (List ℕ)) → is_some o ≡ true → (v : List ℕ) × (o ≡ Some v)
of_some None e = absurd (true≢false (sym e))
of_some (Some v) e = (v, refl)

-- the version of a key after a body
body_version : (m : Map) (x : List Entry) → Apart x → (k : List ℕ) → version_at (body_applied m x) k ≡ version_at m k + cond (writes k x) 1 0
body_version m x h k = go (writes k x) refl
  where
    go : (b : Bool) → writes k x ≡ b → version_at (body_applied m x) k ≡ version_at m k + cond b 1 0
    go false e = ap (λ (z : Option (ℕ × List ℕ)). maybe z 0 (λ r. r.0)) (keep m x k e) ∙ zero_more (version_at m k)
      where
        zero_more : (n : ℕ) → n ≡ n + 0
        zero_more n = omega arith
    go true e =
        let f = writes_find k x e in
        let v = of_some f.0.write f.3 in
        let s = set m x h f.0 v.0 f.1 v.1 in
        subst (λ (q : List ℕ). version_at (body_applied m x) q ≡ version_at m q + 1) f.2 (ap (λ (z : Option (ℕ × List ℕ)). maybe z 0 (λ r. r.0)) s)

-- WRITERS ALONG THE ORDER
abbrev pub AllApart : List (List Entry) → Type 0
AllApart [] = Unit {0}
AllApart (x ∷ o) = Apart x × AllApart o

writer_above : (at : List ℕ → ℕ) (o : List (List Entry)) (k : List ℕ) (y : List Entry) (e : Entry) → Steps at o → In y o → In e y → e.key ≡ k → at k ≤ e.version
writer_above at [] k y e h i j q = absurd i
writer_above at (x ∷ o) k y e h i j q =
    ⊎_elim
    (λ (a : x ≡ y). let v = h.0 e (subst (In e) (sym a) j) in let z : at e.key ≡ at k = ap at q in omega (arith, v, z))
    (λ (a : In y o). let v = writer_above (λ j. at j + cond (writes j x) 1 0) o k y e h.1 a j q in omega (arith, v)) i

-- two writers of one version of a key are one entry
pub one_writer : (at : List ℕ → ℕ) (o : List (List Entry)) → Steps at o → AllApart o → (y z : List Entry) (e f : Entry) → In y o → In z o → In e y → In f z → e.key ≡ f.key
    → is_some e.write ≡ true → is_some f.write ≡ true → e.version ≡ f.version → e ≡ f
one_writer at [] h a y z e f iy iz ie jf q we wf v = absurd iy
one_writer at (x ∷ o) h a y z e f iy iz ie jf q we wf v =
    ⊎_elim
    (λ (p : x ≡ y). ⊎_elim
    (λ (r : x ≡ z). one_entry x a.0 e f (subst (In e) (sym p) ie) (subst (In f) (sym r) jf) q)
    (λ (r : In z o). absurd (apart y z e f p r ie jf q we v)) iz)
    (λ (p : In y o). ⊎_elim
    (λ (r : x ≡ z). absurd (apart z y f e r p jf ie (sym q) wf (sym v)))
    (λ (r : In z o). one_writer (λ j. at j + cond (writes j x) 1 0) o h.1 a.1 y z e f p r ie jf q we wf v) iz)
    iy
  where
    apart : (y z : List Entry) (e f : Entry) → x ≡ y → In z o → In e y → In f z → e.key ≡ f.key → is_some e.write ≡ true → e.version ≡ f.version → ⊥
    apart y z e f p r ie jf q we v =
        let i : In e x = subst (In e) (sym p) ie in
        let low = h.0 e i in
        let up = writer_above (λ j. at j + cond (writes j x) 1 0) o e.key z f h.1 r jf (sym q) in
        let w : writes e.key x ≡ true = writes_by e.key x e i refl we in
        let one : ◌≡◌ {A = ℕ} (cond (writes e.key x) 1 0) 1 = rw w in
        absurd (omega (arith, low, up, one, v))

-- THE MAP
-- the value in m of a key whose version a writer among o made is what it wrote
abbrev pub Newest : List (List Entry) → Map → Type 0
Newest o m = (y : List Entry) (e : Entry) → In y o → In e y → is_some e.write ≡ true → suc e.version ≡ version_at m e.key → value_at m e.key ≡ e.write

-- no row has version 0
abbrev pub Above0 : Map → Type 0
Above0 m = (k : List ℕ) → version_at m k ≡ 0 → value_at m k ≡ None

newest_after : (o : List (List Entry)) → Steps (λ _. 0) o → AllApart o → (m : Map) (x : List Entry) → In x o → Apart x → ((e : Entry) → In e x → e.version ≡ version_at m e.key) → Newest o m → Newest o (body_applied m x)
newest_after o h a m x ix ax vs n y e iy ie we v = go (writes e.key x) refl
  where
    go : (b : Bool) → writes e.key x ≡ b → value_at (body_applied m x) e.key ≡ e.write
    go false k =
        let s = keep m x e.key k in
        ap (λ (z : Option (ℕ × List ℕ)). maybe z None (λ r. Some r.1)) s ∙ n y e iy ie we (v ∙ ap (λ (z : Option (ℕ × List ℕ)). maybe z 0 (λ r. r.0)) s)
    go true k =
        let f = writes_find e.key x k in
        let w = of_some f.0.write f.3 in
        let s : found key_cmp (body_applied m x) e.key ≡ Some (version_at m e.key + 1, w.0) = subst (λ (q : List ℕ). found key_cmp (body_applied m x) q ≡ Some (version_at m q + 1, w.0)) f.2 (set m x ax f.0 w.0 f.1 w.1) in
        let u : version_at (body_applied m x) e.key ≡ version_at m e.key + 1 = ap (λ (z : Option (ℕ × List ℕ)). maybe z 0 (λ r. r.0)) s in
        let low : f.0.version ≡ version_at m e.key = vs f.0 f.1 ∙ ap (version_at m) f.2 in
        let same : f.0 ≡ e = one_writer (λ _. 0) o h a x y f.0 e ix iy f.1 ie f.2 f.3 we (omega (arith, u, low, v)) in
        ap (λ (z : Option (ℕ × List ℕ)). maybe z None (λ r. Some r.1)) s ∙ sym w.1 ∙ ap (λ (z : Entry). z.write) same

above_after : (m : Map) (x : List Entry) → Apart x → Above0 m → Above0 (body_applied m x)
above_after m x ax h k z = go (writes k x) refl
  where
    go : (b : Bool) → writes k x ≡ b → value_at (body_applied m x) k ≡ None
    go false e =
        let s = keep m x k e in
        ap (λ (z : Option (ℕ × List ℕ)). maybe z None (λ r. Some r.1)) s ∙ h k (sym (ap (λ (z : Option (ℕ × List ℕ)). maybe z 0 (λ r. r.0)) s) ∙ z)
    go true e =
        let v = body_version m x ax k in
        let one : ◌≡◌ {A = ℕ} (cond (writes k x) 1 0) 1 = rw e in
        absurd (omega (arith, v, z, one))

-- READS
abbrev pub Reads : Type 1
Reads = ℕ → List ℕ → ℕ → Option (List ℕ) → Type 0

-- a read has an entry of its key and version in the body of its transaction, and is of a write among all
pub record Sourced (all : List (ℕ × List Entry)) (R : Reads) : Type 0 where
  pub entry : (t : ℕ) (x : List Entry) → In (t, x) all → (k : List ℕ) (v : ℕ) (y : Option (List ℕ)) → R t k v y → (e : Entry) × In e x × (e.key ≡ k) × (e.version ≡ v)
  pub from : (t : ℕ) (x : List Entry) → In (t, x) all → (k : List ℕ) (v : ℕ) (y : Option (List ℕ)) → R t k v y
      → ((v ≡ 0) × (y ≡ None)) ⊎ ((z : List Entry) × (e : Entry) × In z (bodies all) × In e z × (e.key ≡ k) × (suc e.version ≡ v) × (e.write ≡ y) × (is_some y ≡ true))

pub explained : (all : List (ℕ × List Entry)) (R : Reads) → Sourced all R → Steps (λ _. 0) (bodies all) → AllApart (bodies all)
    → (o : List (ℕ × List Entry)) → ((t : ℕ) (x : List Entry) → In (t, x) o → In (t, x) all) → AllApart (bodies o)
    → (at : List ℕ → ℕ) → Steps at (bodies o) → (m : Map) → ((k : List ℕ) → at k ≡ version_at m k) → Newest (bodies all) m → Above0 m → Explains m o R
explained all R src h a [] sub ao at st m same n z = tt
explained all R src h a (x ∷ o) sub ao at st m same n z =
    let vs : (e : Entry) → In e x.1 → e.version ≡ version_at m e.key = λ e i. st.0 e i ∙ same e.key in
    let here : In (x.0, x.1) all = sub x.0 x.1 (inl refl) in (
      vs,
      (λ k v y r.
          let e = src.entry x.0 x.1 here k v y r in
          let ve : v ≡ version_at m k = sym e.3 ∙ vs e.0 e.1 ∙ ap (version_at m) e.2 in (
            ve,
            ⊎_elim
                (λ (f : (v ≡ 0) × (y ≡ None)). f.1 ∙ sym (z k (sym ve ∙ f.0)))
                (λ (f : (z : List Entry) × (e : Entry) × In z (bodies all) × In e z × (e.key ≡ k) × (suc e.version ≡ v) × (e.write ≡ y) × (is_some y ≡ true)).
                sym (ap (value_at m) (sym f.4) ∙ n f.0 f.1 f.2 f.3 (ap is_some f.6 ∙ f.7) (f.5 ∙ ve ∙ ap (version_at m) (sym f.4)) ∙ f.6))
                (src.from x.0 x.1 here k v y r),
          )),
      explained all R src h a o (λ t y i. sub t y (inr i)) ao.1 (λ k. at k + cond (writes k x.1) 1 0) st.1 (body_applied m x.1)
          (λ k. ap (λ n. n + cond (writes k x.1) 1 0) (same k) ∙ sym (body_version m x.1 ao.0 k))
          (newest_after (bodies all) h a m x.1 (map_in (λ (e : ℕ × List Entry). e.1) (x.0, x.1) all here) ao.0 vs n)
          (above_after m x.1 ao.0 z),
    )

-- The map that logs give: each of its rows is a write of a transaction that they chose, and no write of these is newer.
use Rattle.std.proofs.Common.{◌≡◌, ℕ, suc, ◌+◌, ◌≤◌, List, [], ◌∷◌, ◌++◌, refl, sym, ap, ◌∙◌, subst, true, cond, Option, Some, None, arith, inl, inr, ⊎_elim}
use Rattle.std.specs.Prelude.{is_some}
use Rattle.rc_ids.specs.Tables.{In, found, maybe}
use Rattle.rc_ids.specs.Texts.{key_cmp}
use Rattle.rc_body.specs.Bodies.{writes}
use Rattle.rc_body.specs.declared.entry.Entry.{Entry}
use Rattle.rc_record.specs.ShardState.{version_at}
use Rattle.rc_serial.specs.OneMap.{base}
use Rattle.rc_agreement.proofs.Cases.{never}
use Rattle.rc_agreement.proofs.Tables.{in_map}
use Rattle.rc_agreement.proofs.Lists.{map_in}
use Rattle.rc_serial_order.proofs.Rows.{EachRow, rows_set, set_rows_up, set_rows_has}
use Rattle.rc_serial_order.proofs.Steps.{Steps, Writer, count, last_writer, writer_below}
use Rattle.rc_serial_order.proofs.Bodies.{bodies, writes_find, writes_by}
use Rattle.rc_serial_order.proofs.Explained.{AllApart, Newest, Above0, one_writer}

-- version v of k with value y is a write of one of these
pub record WroteIn (xs : List (ℕ × List Entry)) (k : List ℕ) (v : ℕ) (y : List ℕ) : Type 0 where
  pub tx : ℕ
  pub body : List Entry
  pub entry : Entry
  pub among : In (tx, body) xs
  pub within : In entry body
  pub key : entry.key ≡ k
  pub version : entry.version + 1 ≡ v
  pub write : entry.write ≡ Some y

wrote_more : (x : ℕ × List Entry) (xs : List (ℕ × List Entry)) (k : List ℕ) (v : ℕ) (y : List ℕ) → WroteIn xs k v y → WroteIn (x ∷ xs) k v y
wrote_more x xs k v y h = record { tx = h.tx; body = h.body; entry = h.entry; among = inr h.among; within = h.within; key = h.key; version = h.version; write = h.write }

pub base_wrote : (xs : List (ℕ × List Entry)) → EachRow (WroteIn xs) (base xs)
base_wrote [] k r is = never r is
base_wrote (x ∷ xs) k r is =
    rows_set (WroteIn (x ∷ xs)) (base xs) x.1
    (λ e i y w. record { tx = x.0; body = x.1; entry = e; among = inl refl; within = i; key = refl; version = refl; write = w })
    (λ q row at. wrote_more x xs q row.0 row.1 (base_wrote xs q row at)) k r is

pub base_has : (xs : List (ℕ × List Entry)) (t : ℕ) (body : List Entry) (e : Entry) → In (t, body) xs → In e body → is_some e.write ≡ true → e.version + 1 ≤ version_at (base xs) e.key
base_has [] t body e i j w = absurd i
base_has (x ∷ xs) t body e (inl is) j w = set_rows_has (base xs) x.1 e (subst (In e) (ap (λ (z : ℕ × List Entry). z.1) (sym is)) j) w
base_has (x ∷ xs) t body e (inr i) j w = let a = base_has xs t body e i j w in let b = set_rows_up (base xs) x.1 e.key in omega (arith, a, b)

-- STEPS of bodies that follow others
pub bodies_more : (xs ys : List (ℕ × List Entry)) → bodies (xs ++ ys) ≡ bodies xs ++ bodies ys
bodies_more [] ys = refl
bodies_more (x ∷ xs) ys = ap (λ (z : List (List Entry)). x.1 ∷ z) (bodies_more xs ys)

pub steps_after : (at : List ℕ → ℕ) (xs ys : List (List Entry)) → Steps at (xs ++ ys) → Steps (λ k. at k + count k xs) ys
steps_after at [] ys h = subst (λ (f : List ℕ → ℕ). Steps f ys) (λ i k. more (at k) i) h
  where
    more : (n : ℕ) → n ≡ n + 0
    more n = omega arith
steps_after at (x ∷ xs) ys h = subst (λ (f : List ℕ → ℕ). Steps f ys) (λ i k. joined (at k) (cond (writes k x) 1 0) (count k xs) i) (steps_after (λ k. at k + cond (writes k x) 1 0) xs ys h.1)
  where
    joined : (a b d : ℕ) → a + b + d ≡ a + (b + d)
    joined a b d = omega arith

pub steps_before : (at : List ℕ → ℕ) (xs ys : List (List Entry)) → Steps at (xs ++ ys) → Steps at xs
steps_before at [] ys h = tt
steps_before at (x ∷ xs) ys h = (h.0, steps_before (λ k. at k + cond (writes k x) 1 0) xs ys h.1)

-- THE SAME TRANSACTIONS in an order that steps, and as logs have them
module _ (past : List (ℕ × List Entry)) (chosen : List (ℕ × List Entry))
    (into : (t : ℕ) (body : List Entry) → In (t, body) past → In (t, body) chosen)
    (from : (t : ℕ) (body : List Entry) → In (t, body) chosen → In (t, body) past) where
  wrote_past : (k : List ℕ) (v : ℕ) (y : List ℕ) → (w : WroteIn chosen k v y) → Writer k (bodies past) w.entry.version
  wrote_past k v y w =
      record {
        body = w.body;
        entry = w.entry;
        among = map_in (λ (e : ℕ × List Entry). e.1) (w.tx, w.body) past (from w.tx w.body w.among);
        within = w.within;
        key = w.key;
        write = ap is_some w.write;
        version = refl;
      }

  writer_low : (k : List ℕ) (v : ℕ) → Writer k (bodies past) v → v + 1 ≤ version_at (base chosen) k
  writer_low k v w =
      let z = in_map (λ (e : ℕ × List Entry). e.1) w.body past w.among in
      let i : In w.entry z.0.1 = subst (In w.entry) (sym z.2) w.within in
      let h = base_has chosen z.0.0 z.0.1 w.entry (into z.0.0 z.0.1 z.1) i w.write in
      subst (λ (q : List ℕ). v + 1 ≤ version_at (base chosen) q) w.key (subst (λ n. n + 1 ≤ version_at (base chosen) w.entry.key) w.version h)

  pub base_counts : Steps (λ _. 0) (bodies past) → (k : List ℕ) → 0 + count k (bodies past) ≡ version_at (base chosen) k
  base_counts h k = go (found key_cmp (base chosen) k) refl
    where
      go : (o : Option (ℕ × List ℕ)) → found key_cmp (base chosen) k ≡ o → 0 + count k (bodies past) ≡ maybe o 0 (λ row. row.0)
      go None is = ⊎_elim
          (λ (none : count k (bodies past) ≡ 0). omega (arith, none))
          (λ (l : (v : ℕ) × (suc v ≡ 0 + count k (bodies past)) × Writer k (bodies past) v).
          let low = writer_low k l.0 l.2 in
          let z : version_at (base chosen) k ≡ 0 = ap (λ (o : Option (ℕ × List ℕ)). maybe o 0 (λ row. row.0)) is in
          absurd (omega (arith, low, z)))
          (last_writer (λ _. 0) (bodies past) k (writes_find k) h)
      go (Some r) is =
          let w = base_wrote chosen k r is in
          let below = writer_below (λ _. 0) (bodies past) k (writes_by k) h w.entry.version (wrote_past k r.0 r.1 w) in
          let version = w.version in
          let z : version_at (base chosen) k ≡ r.0 = ap (λ (o : Option (ℕ × List ℕ)). maybe o 0 (λ row. row.0)) is in
          ⊎_elim
          (λ (none : count k (bodies past) ≡ 0). absurd (omega (arith, none, below)))
          (λ (l : (v : ℕ) × (suc v ≡ 0 + count k (bodies past)) × Writer k (bodies past) v).
          let low = writer_low k l.0 l.2 in
          let last = l.1 in
          omega (arith, low, last, below, version, z))
          (last_writer (λ _. 0) (bodies past) k (writes_find k) h)

  -- among all of which these are the first
  pub base_newest : (all : List (ℕ × List Entry)) → ((t : ℕ) (body : List Entry) → In (t, body) past → In (t, body) all) → Steps (λ _. 0) (bodies all) → AllApart (bodies all) → Newest (bodies all) (base chosen)
  base_newest all sub h apart y e iy ie we version = go (found key_cmp (base chosen) e.key) refl
    where
      go : (o : Option (ℕ × List ℕ)) → found key_cmp (base chosen) e.key ≡ o → maybe o None (λ row. Some row.1) ≡ e.write
      go None is =
          let z : version_at (base chosen) e.key ≡ 0 = ap (λ (o : Option (ℕ × List ℕ)). maybe o 0 (λ row. row.0)) is in
          absurd (omega (arith, version, z))
      go (Some r) is =
          let w = base_wrote chosen e.key r is in
          let z : version_at (base chosen) e.key ≡ r.0 = ap (λ (o : Option (ℕ × List ℕ)). maybe o 0 (λ row. row.0)) is in
          let written = w.version in
          let i : In w.body (bodies all) = map_in (λ (e : ℕ × List Entry). e.1) (w.tx, w.body) all (sub w.tx w.body (from w.tx w.body w.among)) in
          let same : w.entry ≡ e = one_writer (λ _. 0) (bodies all) h apart w.body y w.entry e i iy w.within ie w.key (ap is_some w.write) we (omega (arith, written, version, z)) in
          sym w.write ∙ ap (λ (f : Entry). f.write) same

  pub base_above : Above0 (base chosen)
  base_above k version = go (found key_cmp (base chosen) k) refl
    where
      go : (o : Option (ℕ × List ℕ)) → found key_cmp (base chosen) k ≡ o → maybe o None (λ row. Some row.1) ≡ None
      go None is = refl
      go (Some r) is =
          let w = base_wrote chosen k r is in
          let written = w.version in
          let z : version_at (base chosen) k ≡ r.0 = ap (λ (o : Option (ℕ × List ℕ)). maybe o 0 (λ row. row.0)) is in
          absurd (omega (arith, written, version, z))

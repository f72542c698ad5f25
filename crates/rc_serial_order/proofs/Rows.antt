-- Rows to which the writes of entries are set, each where its version is higher.
use Rattle.std.proofs.Common.{◌≡◌, ℕ, ◌+◌, ◌≤◌, List, [], ◌∷◌, refl, sym, ap, ◌∙◌, subst, true, Option, Some, None, arith, inl, inr, ⊎_elim, true≢false}
use Rattle.std.specs.Prelude.{cond, is_some, nat_lt}
use Rattle.std.proofs.lemmas.Bool.{ltb-true, ltb-false}
use Rattle.rc_ids.specs.Tables.{In, Table, found, put, maybe}
use Rattle.rc_ids.specs.Texts.{key_cmp}
use Rattle.rc_body.specs.declared.entry.Entry.{Entry}
use Rattle.rc_record.specs.ShardState.{version_at, set_row, set_rows}
use Rattle.rc_agreement.proofs.Cases.{on_cond, on_maybe, some_is}
use Rattle.rc_agreement.proofs.ClientSlots.{key_dec}
use Rattle.rc_serial_order.proofs.KeyFacts.{key_put_same, key_put_other, put_version}

-- VERSIONS only rise, and are as high as those of the writes
pub set_row_up : (rows : Table (List ℕ) (ℕ × List ℕ)) (e : Entry) (q : List ℕ) → version_at rows q ≤ version_at (set_row rows e) q
set_row_up rows e q =
    on_maybe (λ (z : Table (List ℕ) (ℕ × List ℕ)). version_at rows q ≤ version_at z q) e.write _ _ (λ _. omega arith)
    (λ x _. on_cond (λ (z : Table (List ℕ) (ℕ × List ℕ)). version_at rows q ≤ version_at z q) (nat_lt (version_at rows e.key) (e.version + 1)) (put key_cmp rows e.key (e.version + 1, x)) rows
    (λ lt. let l = ltb-true (version_at rows e.key) (e.version + 1) lt in ⊎_elim
    (λ (y : (q ≡ e.key) × (version_at (put key_cmp rows e.key (e.version + 1, x)) q ≡ e.version + 1)). let k : version_at rows q ≡ version_at rows e.key = ap (version_at rows) y.0 in let z = y.1 in omega (arith, k, z))
    (λ (y : (q ≡ e.key → ⊥) × (version_at (put key_cmp rows e.key (e.version + 1, x)) q ≡ version_at rows q)). let z = y.1 in omega (arith, z))
    (put_version e.key (e.version + 1) x rows q))
    (λ _. omega arith))

set_row_has : (rows : Table (List ℕ) (ℕ × List ℕ)) (e : Entry) → is_some e.write ≡ true → e.version + 1 ≤ version_at (set_row rows e) e.key
set_row_has rows e =
    on_maybe2 e.write
  where
    on_maybe2 : (w : Option (List ℕ)) → is_some w ≡ true → e.version + 1 ≤ version_at (maybe w rows (λ x. cond (nat_lt (version_at rows e.key) (e.version + 1)) (put key_cmp rows e.key (e.version + 1, x)) rows)) e.key
    on_maybe2 None h = absurd (true≢false (sym h))
    on_maybe2 (Some x) h =
        on_cond (λ (z : Table (List ℕ) (ℕ × List ℕ)). e.version + 1 ≤ version_at z e.key) (nat_lt (version_at rows e.key) (e.version + 1)) (put key_cmp rows e.key (e.version + 1, x)) rows
        (λ _. ⊎_elim (λ y. let z = y.1 in omega (arith, z)) (λ y. absurd (y.0 refl)) (put_version e.key (e.version + 1) x rows e.key))
        (λ ge. ltb-false (version_at rows e.key) (e.version + 1) ge)

pub set_rows_up : (rows : Table (List ℕ) (ℕ × List ℕ)) (body : List Entry) (q : List ℕ) → version_at rows q ≤ version_at (set_rows rows body) q
set_rows_up rows [] q = omega arith
set_rows_up rows (e ∷ es) q = let a = set_row_up rows e q in let b = set_rows_up (set_row rows e) es q in omega (arith, a, b)

pub set_rows_has : (rows : Table (List ℕ) (ℕ × List ℕ)) (body : List Entry) (e : Entry) → In e body → is_some e.write ≡ true → e.version + 1 ≤ version_at (set_rows rows body) e.key
set_rows_has rows [] e i w = absurd i
set_rows_has rows (x ∷ xs) e (inl is) w =
    let here : x.version + 1 ≤ version_at (set_row rows x) x.key = set_row_has rows x (ap (λ (z : Entry). is_some z.write) is ∙ w) in
    let up = set_rows_up (set_row rows x) xs x.key in
    let k : x.version + 1 ≤ version_at (set_rows (set_row rows x) xs) x.key = omega (arith, here, up) in
    subst (λ (z : Entry). z.version + 1 ≤ version_at (set_rows (set_row rows x) xs) z.key) is k
set_rows_has rows (x ∷ xs) e (inr i) w = set_rows_has (set_row rows x) xs e i w

-- EACH ROW is as each write is
module _ (Q : List ℕ → ℕ → List ℕ → Type 0) where
  abbrev pub EachRow : Table (List ℕ) (ℕ × List ℕ) → Type 0
  EachRow rows = (k : List ℕ) (r : ℕ × List ℕ) → found key_cmp rows k ≡ Some r → Q k r.0 r.1

  row_put : (rows : Table (List ℕ) (ℕ × List ℕ)) (b : List ℕ) (x : ℕ × List ℕ) → EachRow rows → Q b x.0 x.1 → EachRow (put key_cmp rows b x)
  row_put rows b x h w k r is =
      ⊎_elim
      (λ (e : k ≡ b).
      let z : x ≡ r = some_is x r (sym (key_put_same b x rows) ∙ ap (λ y. found key_cmp (put key_cmp rows b x) y) (sym e) ∙ is) in
      subst (λ (y : List ℕ × (ℕ × List ℕ)). Q y.0 y.1.0 y.1.1) (λ i. (sym e i, z i)) w)
      (λ (n : k ≡ b → ⊥). h k r (sym (key_put_other k b x rows n) ∙ is))
      (key_dec k b)

  row_set : (rows : Table (List ℕ) (ℕ × List ℕ)) (e : Entry) → ((x : List ℕ) → e.write ≡ Some x → Q e.key (e.version + 1) x) → EachRow rows → EachRow (set_row rows e)
  row_set rows e q h =
      on_maybe EachRow e.write rows _ (λ _. h)
      (λ x w. on_cond EachRow (nat_lt (maybe (found key_cmp rows e.key) 0 (λ r. r.0)) (e.version + 1)) (put key_cmp rows e.key (e.version + 1, x)) rows
      (λ _. row_put rows e.key (e.version + 1, x) h (q x w))
      (λ _. h))

  pub rows_set : (rows : Table (List ℕ) (ℕ × List ℕ)) (es : List Entry) → ((e : Entry) → In e es → (x : List ℕ) → e.write ≡ Some x → Q e.key (e.version + 1) x) → EachRow rows → EachRow (set_rows rows es)
  rows_set rows [] q h = h
  rows_set rows (e ∷ es) q h = rows_set (set_row rows e) es (λ f i. q f (inr i)) (row_set rows e (q e (inl refl)) h)

-- A shard server lets wait, and grants, what was asked of it; and it grants a key that nobody holds, at the version it has.
use Rattle.std.proofs.Common.{◌≡◌, ℕ, List, [], ◌∷◌, ◌++◌, refl, sym, ap, subst, true, Option, Some, None, ◌⊎◌, inl, inr, ⊎_elim, true≢false}
use Rattle.std.specs.Prelude.{filter, map, not, is_some, ◌==◌, length, ◌+◌}
use Rattle.std.specs.Ordering.{nat_cmp}
use Rattle.rc_ids.specs.Tables.{In, found, member}
use Rattle.rc_ids.specs.Cluster.{Layout, is_dc}
use Rattle.rc_ids.specs.declared.names.Party.{Party}
use Rattle.rc_body.specs.declared.entry.Entry.{Entry}
use Rattle.rc_body.specs.declared.decision.Decision.{Decision}
use Rattle.rc_msg.specs.declared.msg.Msg.{Msg}
use Rattle.rc_msg.specs.declared.msg.Msg.TheVariants.{ReadAsk, ReadCancel, Granted, Prepare, Prepared, Finish, CatchAsk, CatchPage}
use Rattle.rc_record.specs.ShardState.{ShardDurable, version_at, settled_all, shard_applied}
use Rattle.rc_protocol.specs.Messages.{coordinator, client_of}
use Rattle.rc_protocol.specs.Shard.{Mark, mark_cmp, ShardVolatile, ShardAct, holder, shard_stays, test, grant_of, is_free, grants, ignores_ask, on_read_ask, is_other, on_prepare, on_finish, forgotten, forgotten_all, unfinished, is_next_shard_page, with_shard_cursor, asks_next_shard_page, then_says, takes_page, on_catch_page, shard_row}
use Rattle.rc_protocol.specs.Nodes.{applied}
use Rattle.rc_agreement.proofs.Cases.{on_cond, on_maybe}
use Rattle.rc_agreement.proofs.Tables.{in_either, in_map}
use Rattle.rc_protocol.specs.Acts.{NodeCause, Came, Catches, Takes, shard_act}
use Rattle.rc_agreement.proofs.Sends.{EachTo, to_none, to_one, to_both}
use Rattle.rc_serial_order.proofs.KeyFacts.{in_filtered}

-- t waits for q, or asks now
abbrev pub Asked : ShardVolatile → NodeCause → List ℕ → ℕ → Type 0
Asked v k q t = In (q, t) v.waiting ⊎ ((from : Party) × (k ≡ Came from (ReadAsk t q)))

pub record Granting (d : ℕ) (z : ShardDurable) (v : ShardVolatile) (k : NodeCause) (to : Party) (t : ℕ) (q : List ℕ) (e n : ℕ) : Type 0 where
  pub to_it : to ≡ client_of t
  pub own : e ≡ d
  pub asked : Asked v k q t
  pub version : n ≡ version_at z.rows q
  pub free : holder z.parts q ≡ None

-- what it says, where z is its durable state after the act
abbrev pub Grants : ℕ → ShardDurable → ShardVolatile → NodeCause → Party → Msg → Type 0
Grants d z v k to (Granted t q e n y) = Granting d z v k to t q e n
Grants d z v k to (ReadAsk t q) = ⊥
Grants d z v k to _ = Unit {0}

pub record AskRow (d : ℕ) (s : ShardDurable) (v : ShardVolatile) (k : NodeCause) (a : ShardAct) : Type 0 where
  pub waits : (q : List ℕ) (t : ℕ) → In (q, t) a.after.waiting → Asked v k q t
  pub says : EachTo (Grants d (applied shard_applied s a.logs) v k) a.sends

is_none : {A : Type 0} (o : Option A) → not (is_some o) ≡ true → o ≡ None
is_none None e = refl
is_none (Some x) e = absurd (true≢false (sym e))

to_map_in : {A : Type 0} (Q : Party → Msg → Type 0) (f : A → Party × Msg) (xs : List A) → ((x : A) → In x xs → Q (f x).0 (f x).1) → EachTo Q (map f xs)
to_map_in Q f xs all = record { each = λ to m i. let z = in_map f (to, m) xs i in subst (λ (p : Party × Msg). Q p.0 p.1) z.2 (all z.0 z.1) }

left_in : (v : ShardVolatile) (es : List (ℕ × Decision)) (x : Mark) → In x (forgotten_all v es).waiting → In x v.waiting
left_in v [] x i = i
left_in v (e ∷ es) x i = (in_filtered (λ (m : Mark). not (m.1 == e.0)) x v.waiting (left_in (forgotten v e.0) es x i)).0

module _ (c : Layout) (d sh : ℕ) (s : ShardDurable) (v : ShardVolatile) where
  idle : (k : NodeCause) → AskRow d s v k (shard_stays v)
  idle k = record { waits = λ q t i. inl i; says = to_none (Grants d s v k) }

  grants_all : (k : NodeCause) (z : ShardDurable) (w : ShardVolatile) → ((x : Mark) → In x w.waiting → In x v.waiting) → EachTo (Grants d z v k) (grants d z w)
  grants_all k z w sub =
      to_map_in (Grants d z v k) (grant_of d z.rows) (filter (is_free z.parts) w.waiting)
      (λ x i. let f = in_filtered (is_free z.parts) x w.waiting i in record { to_it = refl; own = refl; asked = inl (sub x f.0); version = refl; free = is_none _ f.1 })

  next_asks : (k : NodeCause) (z : ShardDurable) (place : ℕ) (es : List (ℕ × Decision)) → EachTo (Grants d z v k) (asks_next_shard_page d place es)
  next_asks k z place es = on_cond (EachTo (Grants d z v k)) (length es == 64) _ _ (λ _. to_one (Grants d z v k) (coordinator d) (CatchAsk (place + length es)) tt) (λ _. to_none (Grants d z v k))

  ask : (from : Party) (t : ℕ) (q : List ℕ) → AskRow d s v (Came from (ReadAsk t q)) (on_read_ask d s v t q)
  ask from t q =
      on_cond R (ignores_ask s v t q) _ _ (λ _. idle _)
      (λ _. on_cond R (is_free s.parts (q, t)) _ _
      (λ f. record {
        waits = λ q t i. inl i;
        says = to_one (Grants d s v (Came from (ReadAsk t q))) (grant_of d s.rows (q, t)).0 (grant_of d s.rows (q, t)).1 (record { to_it = refl; own = refl; asked = inr (from, refl); version = refl; free = is_none _ f });
      })
      (λ _. record {
        waits = λ r u i. on_cond (λ (z : List Mark). In (r, u) z → Asked v (Came from (ReadAsk t q)) r u) (member mark_cmp v.waiting (q, t)) v.waiting (v.waiting ++ (q, t) ∷ [])
            (λ _ j. inl j)
            (λ _ j. ⊎_elim inl (λ (n : ((q, t) ≡ (r, u)) ⊎ ⊥). ⊎_elim (λ (e : (q, t) ≡ (r, u)). inr (from, ap (λ (z : Mark). Came from (ReadAsk z.1 z.0)) e)) (λ z. absurd z) n) (in_either (r, u) v.waiting ((q, t) ∷ []) j)) i;
        says = to_none (Grants d s v (Came from (ReadAsk t q)));
      }))
    where
      R : ShardAct → Type 0
      R = AskRow d s v (Came from (ReadAsk t q))

  prepare : (k : NodeCause) (t : ℕ) (p : List Entry) → AskRow d s v k (on_prepare d sh s v t p)
  prepare k t p =
      on_cond (AskRow d s v k) (is_some (found nat_cmp s.finished t)) _ _ (λ _. idle k)
      (λ _. on_cond (AskRow d s v k) (is_some (found nat_cmp s.parts t)) _ _
      (λ _. record { waits = λ q t i. inl i; says = to_one (Grants d s v k) (coordinator d) (Prepared t sh None) tt })
      (λ _. on_maybe (AskRow d s v k) (test s v t p) _ _
      (λ _. record { waits = λ q u i. inl (in_filtered (λ (m : Mark). not (m.1 == t)) (q, u) v.waiting i).0; says = to_one (Grants d _ v k) (coordinator d) (Prepared t sh None) tt })
      (λ r _. record { waits = λ q t i. inl i; says = to_one (Grants d s v k) (coordinator d) (Prepared t sh (Some r)) tt })))

  finish : (k : NodeCause) (t : ℕ) (o : Decision) → AskRow d s v k (on_finish d s v t o)
  finish k t o =
      on_cond (AskRow d s v k) (is_some (found nat_cmp s.finished t)) _ _ (λ _. idle k)
      (λ _. let z : ShardDurable = settled_all s ((t, o) ∷ []) in let w : ShardVolatile = forgotten_all v ((t, o) ∷ []) in record {
        waits = λ q u i. inl (left_in v ((t, o) ∷ []) (q, u) (in_filtered (λ (m : Mark). not (is_free z.parts m)) (q, u) w.waiting i).0);
        says = grants_all k z w (left_in v ((t, o) ∷ []));
      })

  page : (k : NodeCause) (place : ℕ) (es : List (ℕ × Decision)) → AskRow d s v k (on_catch_page c d sh s v place es)
  page k place es =
      on_cond (AskRow d s v k) (is_next_shard_page v place es) _ _ (λ _. takes (unfinished c sh s es)) (λ _. idle k)
    where
      takes : (new : List (ℕ × Decision)) → AskRow d s v k (then_says (takes_page d s (with_shard_cursor v (place + length es)) new) (asks_next_shard_page d place es))
      takes [] = record { waits = λ q t i. inl i; says = to_both (Grants d s v k) [] _ (to_none (Grants d s v k)) (next_asks k s place es) }
      takes (x ∷ xs) =
          let z : ShardDurable = settled_all s (x ∷ xs) in
          let w : ShardVolatile = forgotten_all (with_shard_cursor v (place + length es)) (x ∷ xs) in
          record {
            waits = λ q u i. inl (left_in (with_shard_cursor v (place + length es)) (x ∷ xs) (q, u) (in_filtered (λ (m : Mark). not (is_free z.parts m)) (q, u) w.waiting i).0);
            says = to_both (Grants d z v k) _ _ (grants_all k z w (left_in (with_shard_cursor v (place + length es)) (x ∷ xs))) (next_asks k z place es);
          }

  pub ask_row : (k : NodeCause) → AskRow d s v k (shard_act c d sh s v k)
  ask_row Catches = record { waits = λ q t i. inl i; says = to_one (Grants d s v Catches) (coordinator d) (CatchAsk v.cursor) tt }
  ask_row (Takes t) = idle (Takes t)
  ask_row (Came from m) = comes m
    where
      comes : (m : Msg) → AskRow d s v (Came from m) (shard_row c d sh s v m)
      comes (ReadAsk t q) = ask from t q
      comes (ReadCancel t q) = record { waits = λ r u i. inl (in_filtered (is_other (q, t)) (r, u) v.waiting i).0; says = to_none (Grants d s v (Came from (ReadCancel t q))) }
      comes (Prepare t p) = prepare _ t p
      comes (Finish t o) = finish _ t o
      comes (CatchPage e place es) = on_cond (AskRow d s v (Came from (CatchPage e place es))) (is_dc c e) _ _ (λ _. page _ place es) (λ _. idle _)
      comes _ = idle _

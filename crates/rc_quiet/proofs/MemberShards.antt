-- A shard server of a member grants t's reads, says yes to its prepare, and loses none of its locks, where nobody else is prepared with a
-- key of t and no row of such a key is newer than what t read.
use Rattle.std.proofs.Common.{◌≡◌, ℕ, ◌≤◌, suc, List, [], ◌∷◌, refl, sym, ap, ◌∙◌, subst, Bool, true, false, cond, Option, Some, None, ◌⊎◌, inl, inr, ⊎_elim, true≢false, arith}
use Rattle.std.specs.Prelude.{filter, not, ◌&&◌, ◌||◌, is_some, ◌==◌, nat_lt, length, ◌+◌}
use Rattle.std.specs.Ordering.{nat_cmp, is_eq}
use Rattle.std.specs.FinMap.{nat_cmp-IsAntisymmetric}
use Rattle.std.proofs.lemmas.Bool.{eq-eqb, ltb-true}
use Rattle.rc_ids.specs.Tables.{In, Table, found, member, maybe}
use Rattle.rc_ids.specs.Texts.{same_key}
use Rattle.rc_ids.specs.Cluster.{Layout, is_dc}
use Rattle.rc_ids.specs.declared.names.Party.{Party}
use Rattle.rc_body.specs.Bodies.{has_key, writes}
use Rattle.rc_body.specs.declared.entry.Entry.{Entry}
use Rattle.rc_body.specs.declared.decision.Decision.{Decision}
use Rattle.rc_body.specs.declared.reason.Reason.{Reason}
use Rattle.rc_body.specs.declared.reason.Reason.TheVariants.{Locked}
use Rattle.rc_msg.specs.declared.msg.Msg.{Msg}
use Rattle.rc_msg.specs.declared.msg.Msg.TheVariants.{ReadAsk, ReadCancel, Granted, Prepare, Prepared, Finish, CatchAsk, CatchPage}
use Rattle.rc_record.specs.ShardState.{ShardDurable, version_at, value_at, settled_all}
use Rattle.rc_record.specs.declared.record.Record.TheVariants.{Prepared as PartPrepared}
use Rattle.rc_protocol.specs.Messages.{Posts, coordinator, client_of}
use Rattle.rc_protocol.specs.Shard.{mark_cmp, ShardVolatile, ShardAct, first_part, holder, reader, locked, lost_by, stale, first_reason, test, shard_stays, shard_says, grant_of, is_free, grants, ignores_ask, on_read_ask, locks_plain, is_taken, answers, on_prepare, finishes_page, forgotten_all, unfinished, is_next_shard_page, with_shard_cursor, asks_next_shard_page, then_says, takes_page, shard_row}
use Rattle.rc_protocol.specs.Acts.{NodeCause, Came as Comes, Takes, Catches, shard_act}
use Rattle.rc_agreement.proofs.Cases.{on_cond, on_maybe, never, and_left, and_right, not_true}
use Rattle.rc_agreement.proofs.Tables.{RisesFrom, to_equal, nat_tied}
use Rattle.rc_agreement.proofs.Sends.{EachTo, to_none, to_one, to_both, to_map}
use Rattle.rc_serial_order.proofs.KeyFacts.{in_filtered}
use Rattle.rc_quiet.proofs.ShardFitRows.{fewer_all, in_added_all}

-- TABLES
-- in a table whose keys rise what stands is found
pub in_found : {X : Type 0} (n : ℕ) (table : Table ℕ X) (u : ℕ) (v : X) → RisesFrom n table → In (u, v) table → (n ≤ u) × (found nat_cmp table u ≡ Some v)
in_found n [] u v r i = absurd i
in_found {X} n (e ∷ es) u v r i = ⊎_elim here (later (in_found (suc e.0) es u v r.1)) i
  where
    here : e ≡ (u, v) → (n ≤ u) × (found nat_cmp (e ∷ es) u ≡ Some v)
    here is =
        let k : e.0 ≡ u = ap (λ (z : ℕ × X). z.0) is in
        let low = r.0 in
        (subst (λ (m : ℕ). n ≤ m) k low, subst (λ (z : ℕ × X). found nat_cmp (z ∷ es) u ≡ Some v) (sym is) (let tied = nat_tied u in rw tied refl))

    later : (In (u, v) es → (suc e.0 ≤ u) × (found nat_cmp es u ≡ Some v)) → In (u, v) es → (n ≤ u) × (found nat_cmp (e ∷ es) u ≡ Some v)
    later rest j =
        let h = rest j in
        let low = r.0 in let high = h.0 in
        (omega (arith, low, high), go (is_eq (nat_cmp u e.0)) refl h.1 (λ (same : u ≡ e.0). omega (arith, high, same)))
      where
        go : (b : Bool) → is_eq (nat_cmp u e.0) ≡ b → found nat_cmp es u ≡ Some v → (u ≡ e.0 → ⊥) → cond b (Some e.1) (found nat_cmp es u) ≡ Some v
        go true at f apart = absurd (apart (nat_cmp-IsAntisymmetric u e.0 (to_equal (nat_cmp u e.0) at)))
        go false at f apart = f

first_none : (p : List Entry → Bool) (parts : Table ℕ (List Entry)) → ((u : ℕ) (part : List Entry) → In (u, part) parts → p part ≡ false) → first_part p parts ≡ None
first_none p [] h = refl
first_none p (e ∷ es) h = on_cond (λ (o : Option ℕ). o ≡ None) (p e.1) (Some e.0) (first_part p es) (λ yes. absurd (true≢false (sym yes ∙ h e.0 e.1 (inl refl)))) (λ _. first_none p es (λ u part i. h u part (inr i)))

none_of : {A : Type 0} (o : Option A) → is_some o ≡ false → o ≡ None
none_of None e = refl
none_of (Some x) e = absurd (true≢false e)

pub writes_has : (k : List ℕ) (part : List Entry) → has_key k part ≡ false → writes k part ≡ false
writes_has k [] h = refl
writes_has k (e ∷ es) h = go (writes_has k es) (same_key e.key k) h
  where
    go : (has_key k es ≡ false → writes k es ≡ false) → (b : Bool) → (b || has_key k es) ≡ false → ((b && is_some e.write) || writes k es) ≡ false
    go ih true f = absurd (true≢false f)
    go ih false f = ih f

-- THE TEST
module _ (t : ℕ) (s : ShardDurable) (v : ShardVolatile) where
  -- nobody is prepared with the key
  abbrev pub Unheld : List ℕ → Type 0
  Unheld k = (u : ℕ) (part : List Entry) → In (u, part) s.parts → has_key k part ≡ false

  pub held_by_none : (k : List ℕ) → Unheld k → holder s.parts k ≡ None
  held_by_none k h = first_none (writes k) s.parts (λ u part i. writes_has k part (h u part i))

  pub read_by_none : (k : List ℕ) → Unheld k → reader s.parts k ≡ None
  read_by_none k h = first_none (has_key k) s.parts h

  no_reason : (f : Entry → Option Reason) (es : List Entry) → ((e : Entry) → In e es → f e ≡ None) → first_reason f es ≡ None
  no_reason f [] h = refl
  no_reason f (e ∷ es) h = let a = h e (inl refl) in let b = no_reason f es (λ x i. h x (inr i)) in rw (a, b) refl

  no_lock : (e : Entry) → Unheld e.key → locked s.parts e ≡ None
  no_lock e h =
      let a = held_by_none e.key h in
      let b = read_by_none e.key h in
      subst (λ (o : Option ℕ × Option ℕ). maybe o.0 (cond (is_some e.write) (maybe o.1 None (λ u. Some (Locked e.key u))) None) (λ u. Some (Locked e.key u)) ≡ None) (λ i. (sym a i, sym b i))
      (on_cond (λ (o : Option Reason). o ≡ None) (is_some e.write) None None (λ _. refl) (λ _. refl))

  not_lost : (e : Entry) → member mark_cmp v.lost (e.key, t) ≡ false → lost_by v.lost t e ≡ None
  not_lost e h = rw h refl

  not_stale : (e : Entry) → version_at s.rows e.key ≤ e.version → stale s.rows e ≡ None
  not_stale e le = on_cond (λ (o : Option Reason). o ≡ None) (nat_lt e.version (version_at s.rows e.key)) _ None (λ lt. let l = ltb-true e.version (version_at s.rows e.key) lt in absurd (omega (arith, l, le))) (λ _. refl)

  pub passes : (part : List Entry) → ((e : Entry) → In e part → Unheld e.key × (member mark_cmp v.lost (e.key, t) ≡ false) × (version_at s.rows e.key ≤ e.version)) → test s v t part ≡ None
  passes part h =
      let a = no_reason (locked s.parts) part (λ e i. no_lock e (h e i).0) in
      let b = no_reason (lost_by v.lost t) part (λ e i. not_lost e (h e i).1) in
      let f = no_reason (stale s.rows) part (λ e i. not_stale e (h e i).2) in
      rw (a, b, f) refl

-- ROWS
-- a message that says no to t
abbrev pub NotNo : ℕ → Party → Msg → Type 0
NotNo t to (Prepared u sh (Some reason)) = u ≡ t → ⊥
NotNo t to _ = Unit {0}

module _ (t : ℕ) (c : Layout) (d sh : ℕ) (s : ShardDurable) (v : ShardVolatile) where
  -- a read of t is granted, or it is ignored as t is prepared or finished here
  pub read_answered : (k : List ℕ) → member mark_cmp v.lost (k, t) ≡ false → holder s.parts k ≡ None
      → ((is_some (found nat_cmp s.finished t) || is_some (found nat_cmp s.parts t)) ≡ true) ⊎ In (client_of t, Granted t k d (version_at s.rows k) (value_at s.rows k)) (on_read_ask d s v t k).sends
  read_answered k kept free =
      on_cond P (ignores_ask s v t k) (shard_stays v) _
      (λ ignored. inl (left (is_some (found nat_cmp s.finished t) || is_some (found nat_cmp s.parts t)) (member mark_cmp v.lost (k, t)) ignored kept))
      (λ _. on_cond P (is_free s.parts (k, t)) (shard_says (locks_plain v (k, t)) (grant_of d s.rows (k, t) ∷ [])) _
      (λ _. inr (inl refl))
      (λ no. absurd (true≢false (sym (ap (λ (o : Option ℕ). not (is_some o)) free) ∙ no))))
    where
      P : ShardAct → Type 0
      P a = ((is_some (found nat_cmp s.finished t) || is_some (found nat_cmp s.parts t)) ≡ true) ⊎ In (client_of t, Granted t k d (version_at s.rows k) (value_at s.rows k)) a.sends

      left : (a b : Bool) → (a || b) ≡ true → b ≡ false → a ≡ true
      left true b e f = refl
      left false b e f = absurd (true≢false (sym e ∙ f))

  -- a prepare of t is answered with yes, if it passes the test
  pub prepare_answered : (p : List Entry) → (found nat_cmp s.finished t ≡ None) → ((found nat_cmp s.parts t ≡ None) → test s v t p ≡ None) → In (coordinator d, Prepared t sh None) (on_prepare d sh s v t p).sends
  prepare_answered p new ok =
      on_cond P (is_some (found nat_cmp s.finished t)) (shard_stays v) _
      (λ yes. absurd (true≢false (sym yes ∙ ap is_some new)))
      (λ _. on_cond P (is_some (found nat_cmp s.parts t)) (shard_says v (answers d sh t None)) _ (λ _. inl refl)
      (λ none. on_maybe P (test s v t p) _ _ (λ _. inl refl) (λ r is. never r (sym (ok (none_of (found nat_cmp s.parts t) none)) ∙ is))))
    where
      P : ShardAct → Type 0
      P a = In (coordinator d, Prepared t sh None) a.sends

  -- WHAT IS SAID: no to t by none but its prepare
  abbrev Q : ShardAct → Type 0
  Q a = EachTo (NotNo t) a.sends

  grants_so : (z : ShardDurable) (w : ShardVolatile) → EachTo (NotNo t) (grants d z w)
  grants_so z w = to_map (NotNo t) (grant_of d z.rows) (filter (is_free z.parts) w.waiting) (λ m. tt)

  next_so : (place : ℕ) (es : List (ℕ × Decision)) → EachTo (NotNo t) (asks_next_shard_page d place es)
  next_so place es = on_cond (EachTo (NotNo t)) (length es == 64) _ _ (λ _. to_one (NotNo t) (coordinator d) (CatchAsk (place + length es)) tt) (λ _. to_none (NotNo t))

  prepare_so : (u : ℕ) (p : List Entry) → (u ≡ t → (found nat_cmp s.finished t ≡ None) → (found nat_cmp s.parts t ≡ None) → test s v t p ≡ None) → Q (on_prepare d sh s v u p)
  prepare_so u p ok =
      on_cond Q (is_some (found nat_cmp s.finished u)) _ _ (λ _. to_none (NotNo t))
      (λ f. on_cond Q (is_some (found nat_cmp s.parts u)) _ _ (λ _. to_one (NotNo t) (coordinator d) (Prepared u sh None) tt)
      (λ n. on_maybe Q (test s v u p) _ _ (λ _. to_one (NotNo t) (coordinator d) (Prepared u sh None) tt)
      (λ r is. to_one (NotNo t) (coordinator d) (Prepared u sh (Some r))
      (λ e. never r (sym (ok e (none_of _ (subst (λ (k : ℕ). is_some (found nat_cmp s.finished k) ≡ false) e f)) (none_of _ (subst (λ (k : ℕ). is_some (found nat_cmp s.parts k) ≡ false) e n))) ∙ subst (λ (k : ℕ). test s v k p ≡ Some r) e is)))))

  -- the test of t's prepare is passed, if one comes
  abbrev pub Passes : NodeCause → Type 0
  Passes (Comes from (Prepare u p)) = u ≡ t → (found nat_cmp s.finished t ≡ None) → (found nat_cmp s.parts t ≡ None) → test s v t p ≡ None
  Passes k = Unit {0}

  pub never_no : (k : NodeCause) → Passes k → Q (shard_act c d sh s v k)
  never_no Catches ok = to_one (NotNo t) (coordinator d) (CatchAsk v.cursor) tt
  never_no (Takes u) ok = to_none (NotNo t)
  never_no (Comes from m) ok = comes m ok
    where
      comes : (m : Msg) → Passes (Comes from m) → Q (shard_row c d sh s v m)
      comes (ReadAsk u k) ok =
          on_cond Q (ignores_ask s v u k) _ _ (λ _. to_none (NotNo t))
          (λ _. on_cond Q (is_free s.parts (k, u)) _ _ (λ _. to_one (NotNo t) (grant_of d s.rows (k, u)).0 (grant_of d s.rows (k, u)).1 tt) (λ _. to_none (NotNo t)))
      comes (ReadCancel u k) ok = to_none (NotNo t)
      comes (Prepare u p) ok = prepare_so u p ok
      comes (Finish u o) ok = on_cond Q (is_some (found nat_cmp s.finished u)) _ _ (λ _. to_none (NotNo t)) (λ _. grants_so (settled_all s ((u, o) ∷ [])) (forgotten_all v ((u, o) ∷ [])))
      comes (CatchPage e place es) ok =
          on_cond Q (is_dc c e) _ _ (λ _. on_cond Q (is_next_shard_page v place es) _ _ (λ _. to_both (NotNo t) _ _ (takes (unfinished c sh s es)) (next_so place es)) (λ _. to_none (NotNo t))) (λ _. to_none (NotNo t))
        where
          takes : (new : List (ℕ × Decision)) → EachTo (NotNo t) (takes_page d s (with_shard_cursor v (place + length es)) new).sends
          takes [] = to_none (NotNo t)
          takes (y ∷ ys) = grants_so (settled_all s (y ∷ ys)) (forgotten_all (with_shard_cursor v (place + length es)) (y ∷ ys))
      comes _ ok = to_none (NotNo t)

  -- WHAT IS LOST: a lock of t is lost by another's prepare alone, which writes its key
  pub record Taken (k : List ℕ) (a : ShardAct) : Type 0 where
    pub tx : ℕ
    pub part : List Entry
    pub other : tx ≡ t → ⊥
    pub writes_it : writes k part ≡ true
    pub plain : In (k, t) v.plain
    pub logged : a.logs ≡ Some (PartPrepared tx part)

  abbrev Loses : ShardAct → Type 0
  Loses a = (k : List ℕ) → In (k, t) a.after.lost → In (k, t) v.lost ⊎ Taken k a

  same_lost : (ms : Posts) → Loses (shard_says v ms)
  same_lost ms k i = inl i

  not_same : (u : ℕ) → not (t == u) ≡ true → u ≡ t → ⊥
  not_same u e is = true≢false (sym (eq-eqb t u (sym is)) ∙ not_true (t == u) e)

  prepare_lost : (u : ℕ) (p : List Entry) → Loses (on_prepare d sh s v u p)
  prepare_lost u p =
      on_cond Loses (is_some (found nat_cmp s.finished u)) _ _ (λ _ k i. inl i)
      (λ _. on_cond Loses (is_some (found nat_cmp s.parts u)) _ _ (λ _ k i. inl i)
      (λ _. on_maybe Loses (test s v u p) _ _
      (λ _ k i. ⊎_elim inl
      (λ (j : In (k, t) (filter (is_taken u p) v.plain)).
      let f = in_filtered (is_taken u p) (k, t) v.plain j in
      inr (record { tx = u; part = p; other = not_same u (and_left _ _ f.1); writes_it = and_right (not (t == u)) _ f.1; plain = f.0; logged = refl }))
      (in_added_all (k, t) (filter (is_taken u p) v.plain) v.lost i))
      (λ r _ k i. inl i)))

  finish_lost : (w : ShardVolatile) → w.lost ≡ v.lost → (es : List (ℕ × Decision)) → Loses (finishes_page d s w es)
  finish_lost w e es k i = inl (subst (In (k, t)) e ((fewer_all w es).1 (k, t) i))

  pub lost_by_other : (k : NodeCause) → Loses (shard_act c d sh s v k)
  lost_by_other Catches = λ k i. inl i
  lost_by_other (Takes u) = λ k i. inl i
  lost_by_other (Comes from m) = comes m
    where
      comes : (m : Msg) → Loses (shard_row c d sh s v m)
      comes (ReadAsk u q) = on_cond Loses (ignores_ask s v u q) _ _ (λ _ k i. inl i) (λ _. on_cond Loses (is_free s.parts (q, u)) _ _ (λ _ k i. inl i) (λ _ k i. inl i))
      comes (ReadCancel u q) = λ k i. inl i
      comes (Prepare u p) = prepare_lost u p
      comes (Finish u o) = on_cond Loses (is_some (found nat_cmp s.finished u)) _ _ (λ _ k i. inl i) (λ _. finish_lost v refl ((u, o) ∷ []))
      comes (CatchPage e place es) =
          on_cond Loses (is_dc c e) _ _ (λ _. on_cond Loses (is_next_shard_page v place es) _ _ (λ _. takes (unfinished c sh s es)) (λ _ k i. inl i)) (λ _ k i. inl i)
        where
          takes : (new : List (ℕ × Decision)) → Loses (then_says (takes_page d s (with_shard_cursor v (place + length es)) new) (asks_next_shard_page d place es))
          takes [] = λ k i. inl i
          takes (y ∷ ys) = λ k i. ⊎_elim inl (λ (w : Taken k _). inr (record { tx = w.tx; part = w.part; other = w.other; writes_it = w.writes_it; plain = w.plain; logged = w.logged })) (finish_lost (with_shard_cursor v (place + length es)) refl (y ∷ ys) k i)
      comes _ = λ k i. inl i

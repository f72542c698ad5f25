-- What a log of a node's own kind names is what stands in its replay.
use Rattle.std.proofs.Common.{◌≡◌, ℕ, List, [], ◌∷◌, ◌++◌, refl, sym, ap, ◌∙◌, subst, Bool, true, false, cond, Option, Some, None, ◌⊎◌, inl, inr, ⊎_elim, max}
use Rattle.std.specs.Ordering.{nat_cmp, is_eq}
use Rattle.std.specs.FinMap.{nat_cmp-IsAntisymmetric}
use Rattle.rc_ids.specs.Tables.{In, Table, found, put, without, added, maybe}
use Rattle.rc_ids.specs.declared.names.Outcome.{Outcome}
use Rattle.rc_ids.specs.declared.names.Outcome.TheVariants.{Commit as Committed, Abort as Aborted}
use Rattle.rc_body.specs.declared.decision.Decision.{Decision}
use Rattle.rc_body.specs.declared.decision.Decision.TheVariants.{Commit, Abort}
use Rattle.rc_record.specs.CoordState.{CoordDurable, promise_of, outcome_of, outcomes_joined, coord_applied, new_durable as new_coord_durable}
use Rattle.rc_record.specs.ShardState.{ShardDurable, settled, settled_new, settled_all, set_rows, shard_applied, new_durable as new_shard_durable}
use Rattle.rc_record.specs.declared.record.Record.{Record}
use Rattle.rc_record.specs.declared.record.Record.TheVariants.{Head, Prepared, Finished, Promised, Accepted, Decided}
use Rattle.rc_protocol.specs.Nodes.{coord_replayed, shard_replayed, with_txs, with_named, with_log}
use Rattle.rc_agreement.proofs.Cases.{nat_dec, never}
use Rattle.rc_agreement.proofs.Tables.{in_added, added_has, put_cases, without_other, nat_tied, to_equal}
use Rattle.rc_starts.specs.Kinds.{IsOfCoord, IsOfShard, AreAll, CoordNamesFollow, ShardNamesFollow}

-- the table has something at the key
abbrev HasKey : {X : Type 0} → ℕ → Table ℕ X → Type 0
HasKey {X} t table = (v : X) × (found nat_cmp table t ≡ Some v)

-- names and what a state has are the same
abbrev Same : {S : Type 0} → (ℕ → S → Type 0) → List ℕ → S → Type 0
Same Has named s = (t : ℕ) → (In t named → Has t s) × (Has t s → In t named)

module _ {X : Type 0} where
  key_put : (t u : ℕ) (v : X) (m : Table ℕ X) → (t ≡ u) ⊎ HasKey t m → HasKey t (put nat_cmp m u v)
  key_put t u v m h =
      ⊎_elim
      (λ (own : (t ≡ u) × (found nat_cmp (put nat_cmp m u v) t ≡ Some v)). (v, own.1))
      (λ (other : (t ≡ u → ⊥) × (found nat_cmp (put nat_cmp m u v) t ≡ found nat_cmp m t)). ⊎_elim (λ e. absurd (other.0 e)) (λ (k : HasKey t m). (k.0, other.1 ∙ k.1)) h)
      (put_cases t u v m)

  put_key : (t u : ℕ) (v : X) (m : Table ℕ X) → HasKey t (put nat_cmp m u v) → (t ≡ u) ⊎ HasKey t m
  put_key t u v m h =
      ⊎_elim
      (λ (own : (t ≡ u) × (found nat_cmp (put nat_cmp m u v) t ≡ Some v)). inl own.0)
      (λ (other : (t ≡ u → ⊥) × (found nat_cmp (put nat_cmp m u v) t ≡ found nat_cmp m t)). inr (h.0, sym other.1 ∙ h.1))
      (put_cases t u v m)

  -- at the end of a list
  key_end : (t : ℕ) (e : ℕ × X) (m : Table ℕ X) → (t ≡ e.0) ⊎ HasKey t m → HasKey t (m ++ e ∷ [])
  key_end t e [] (inl same) = (e.1, subst (λ (k : ℕ). found nat_cmp (e ∷ []) k ≡ Some e.1) (sym same) (own e))
    where
      own : (e : ℕ × X) → found nat_cmp (e ∷ []) e.0 ≡ Some e.1
      own e = let tied = nat_tied e.0 in rw tied
  key_end t e [] (inr h) = never h.0 h.1
  key_end t e (x ∷ m) h = go (key_end t e m) (is_eq (nat_cmp t x.0)) refl
    where
      go : ((t ≡ e.0) ⊎ HasKey t m → HasKey t (m ++ e ∷ [])) → (b : Bool) → is_eq (nat_cmp t x.0) ≡ b → HasKey t (x ∷ (m ++ e ∷ []))
      go ih true at = (x.1, rw at)
      go ih false at =
          let r = ih (⊎_elim inl (λ (k : HasKey t (x ∷ m)). inr (k.0, subst (λ (v : Bool). cond v (Some x.1) (found nat_cmp m t) ≡ Some k.0) at k.1)) h) in
          (r.0, subst (λ (v : Bool). cond v (Some x.1) (found nat_cmp (m ++ e ∷ []) t) ≡ Some r.0) (sym at) r.1)

  end_key : (t : ℕ) (e : ℕ × X) (m : Table ℕ X) → HasKey t (m ++ e ∷ []) → (t ≡ e.0) ⊎ HasKey t m
  end_key t e [] h = go (is_eq (nat_cmp t e.0)) refl h.1
    where
      go : (b : Bool) → is_eq (nat_cmp t e.0) ≡ b → cond b (Some e.1) None ≡ Some h.0 → (t ≡ e.0) ⊎ HasKey {X = X} t []
      go true at is = inl (nat_cmp-IsAntisymmetric t e.0 (to_equal (nat_cmp t e.0) at))
      go false at is = never h.0 is
  end_key t e (x ∷ m) h = go (end_key t e m) (is_eq (nat_cmp t x.0)) refl h.1
    where
      go : (HasKey t (m ++ e ∷ []) → (t ≡ e.0) ⊎ HasKey t m) → (b : Bool) → is_eq (nat_cmp t x.0) ≡ b → cond b (Some x.1) (found nat_cmp (m ++ e ∷ []) t) ≡ Some h.0 → (t ≡ e.0) ⊎ HasKey t (x ∷ m)
      go ih true at is = inr (x.1, rw at)
      go ih false at is = ⊎_elim inl (λ (k : HasKey t m). inr (k.0, rw at k.1)) (ih (h.0, is))

-- one more name, where the state has that and no other more
same_added : {S : Type 0} (Has : ℕ → S → Type 0) (named : List ℕ) (s z : S) (u : ℕ) → Same Has named s → ((t : ℕ) → (t ≡ u) ⊎ Has t s → Has t z) → ((t : ℕ) → Has t z → (t ≡ u) ⊎ Has t s) → Same Has (added nat_cmp named u) z
same_added Has named s z u h up down t = (
  (λ i. up t (⊎_elim inl (λ j. inr ((h t).0 j)) (in_added t u named i))),
  (λ k. added_has t u named (⊎_elim inl (λ j. inr ((h t).1 j)) (down t k))),
)

-- COORDINATORS
abbrev InCoord : ℕ → CoordDurable → Type 0
InCoord t s = HasKey t s.promises ⊎ HasKey t s.outcomes

promises_named : (named : List ℕ) (s : CoordDurable) (u v : ℕ) (accepted : Table ℕ (ℕ × Decision)) → Same InCoord named s
    → Same InCoord (added nat_cmp named u) (record { promises = put nat_cmp s.promises u v; accepted = accepted; outcomes = s.outcomes })
promises_named named s u v accepted h =
    same_added InCoord named s (record { promises = put nat_cmp s.promises u v; accepted = accepted; outcomes = s.outcomes }) u h
    (λ t k. ⊎_elim (λ (e : t ≡ u). inl (key_put t u v s.promises (inl e))) (λ (o : InCoord t s). ⊎_elim (λ p. inl (key_put t u v s.promises (inr p))) (λ p. inr p) o) k)
    (λ t k. ⊎_elim (λ (p : HasKey t (put nat_cmp s.promises u v)). ⊎_elim (λ e. inl e) (λ o. inr (inl o)) (put_key t u v s.promises p)) (λ p. inr (inr p)) k)

outcomes_named : (page : List (ℕ × Decision)) (named : List ℕ) (s : CoordDurable) → Same InCoord named s → Same InCoord (with_txs named page) (record s { outcomes = outcomes_joined s.outcomes page })
outcomes_named [] named s h = h
outcomes_named (e ∷ page) named s h = outcomes_named page (added nat_cmp named e.0) (record s { outcomes = maybe (outcome_of s.outcomes e.0) (s.outcomes ++ e ∷ []) (λ _. s.outcomes) }) (one (outcome_of s.outcomes e.0) refl)
  where
    one : (o : Option Decision) → outcome_of s.outcomes e.0 ≡ o → Same InCoord (added nat_cmp named e.0) (record s { outcomes = maybe o (s.outcomes ++ e ∷ []) (λ _. s.outcomes) })
    one None is =
        same_added InCoord named s (record s { outcomes = s.outcomes ++ e ∷ [] }) e.0 h
        (λ t k. ⊎_elim (λ (i : t ≡ e.0). inr (key_end t e s.outcomes (inl i))) (λ (o : InCoord t s). ⊎_elim (λ p. inl p) (λ p. inr (key_end t e s.outcomes (inr p))) o) k)
        (λ t k. ⊎_elim (λ p. inr (inl p)) (λ (p : HasKey t (s.outcomes ++ e ∷ [])). ⊎_elim (λ i. inl i) (λ o. inr (inr o)) (end_key t e s.outcomes p)) k)
    one (Some d) is =
        same_added InCoord named s s e.0 h
        (λ t k. ⊎_elim (λ (i : t ≡ e.0). inr (d, ap (λ (n : ℕ). found nat_cmp s.outcomes n) i ∙ is)) (λ (o : InCoord t s). o) k) (λ t k. inr k)

coord_named : (r : Record) → IsOfCoord r → (named : List ℕ) (s : CoordDurable) → Same InCoord named s → Same InCoord (with_named named r) (coord_applied s r)
coord_named (Promised u b) own named s h = promises_named named s u (max (promise_of s.promises u) b) s.accepted h
coord_named (Accepted u b o) own named s h = promises_named named s u (max (promise_of s.promises u) b) (put nat_cmp s.accepted u (b, o)) h
coord_named (Decided page) own named s h = outcomes_named page named s h
coord_named (Head p) own named s h = h
coord_named (Prepared u p) own named s h = absurd own
coord_named (Finished p) own named s h = absurd own

coord_log : (rs : List Record) → AreAll IsOfCoord rs → (named : List ℕ) (s : CoordDurable) → Same InCoord named s → Same InCoord (with_log named rs) (coord_replayed s rs)
coord_log [] own named s h = h
coord_log (r ∷ rs) own named s h = coord_log rs (λ q i. own q (inr i)) (with_named named r) (coord_applied s r) (coord_named r (own r (inl refl)) named s h)

-- SHARD SERVERS
abbrev InShard : ℕ → ShardDurable → Type 0
InShard t s = HasKey t s.parts ⊎ HasKey t s.finished

settled_named : (named : List ℕ) (s : ShardDurable) (u : ℕ) (outcome : Outcome) (rows : Table (List ℕ) (ℕ × List ℕ)) → Same InShard named s
    → Same InShard (added nat_cmp named u) (record { rows = rows; parts = without nat_cmp s.parts u; finished = put nat_cmp s.finished u outcome })
settled_named named s u outcome rows h t = (
  (λ i. ⊎_elim
      (λ (e : t ≡ u). inr (key_put t u outcome s.finished (inl e)))
      (λ (n : t ≡ u → ⊥). ⊎_elim (λ (e : t ≡ u). absurd (n e))
      (λ (j : In t named). ⊎_elim
      (λ (p : HasKey t s.parts). inl (p.0, without_other t u s.parts n ∙ p.1)) (λ (p : HasKey t s.finished). inr (key_put t u outcome s.finished (inr p))) ((h t).0 j))
      (in_added t u named i))
      (nat_dec t u)),
  (λ k. added_has t u named (⊎_elim
      (λ (e : t ≡ u). inl e)
      (λ (n : t ≡ u → ⊥). ⊎_elim
      (λ (p : HasKey t (without nat_cmp s.parts u)). inr ((h t).1 (inl (p.0, sym (without_other t u s.parts n) ∙ p.1))))
      (λ (p : HasKey t (put nat_cmp s.finished u outcome)). ⊎_elim inl (λ o. inr ((h t).1 (inr o))) (put_key t u outcome s.finished p))
      k)
      (nat_dec t u))),
)

page_named : (page : List (ℕ × Decision)) (named : List ℕ) (s : ShardDurable) → Same InShard named s → Same InShard (with_txs named page) (settled_all s page)
page_named [] named s h = h
page_named (e ∷ page) named s h = page_named page (added nat_cmp named e.0) (settled_new s e) (one (found nat_cmp s.finished e.0) refl e.1)
  where
    one : (o : Option Outcome) → found nat_cmp s.finished e.0 ≡ o → (d : Decision) → Same InShard (added nat_cmp named e.0) (maybe o (settled s e.0 d) (λ _. s))
    one None is Abort = settled_named named s e.0 Aborted s.rows h
    one None is (Commit part) = settled_named named s e.0 Committed (set_rows s.rows part) h
    one (Some outcome) is d =
        same_added InShard named s s e.0 h
        (λ t k. ⊎_elim (λ (i : t ≡ e.0). inr (outcome, ap (λ (n : ℕ). found nat_cmp s.finished n) i ∙ is)) (λ (o : InShard t s). o) k) (λ t k. inr k)

shard_named : (r : Record) → IsOfShard r → (named : List ℕ) (s : ShardDurable) → Same InShard named s → Same InShard (with_named named r) (shard_applied s r)
shard_named (Prepared u part) own named s h =
    same_added InShard named s (record s { parts = put nat_cmp s.parts u part }) u h
    (λ t k. ⊎_elim (λ (e : t ≡ u). inl (key_put t u part s.parts (inl e))) (λ (o : InShard t s). ⊎_elim (λ p. inl (key_put t u part s.parts (inr p))) (λ p. inr p) o) k)
    (λ t k. ⊎_elim (λ (p : HasKey t (put nat_cmp s.parts u part)). ⊎_elim (λ e. inl e) (λ o. inr (inl o)) (put_key t u part s.parts p)) (λ p. inr (inr p)) k)
shard_named (Finished page) own named s h = page_named page named s h
shard_named (Head p) own named s h = h
shard_named (Promised u b) own named s h = absurd own
shard_named (Accepted u b o) own named s h = absurd own
shard_named (Decided p) own named s h = absurd own

shard_log : (rs : List Record) → AreAll IsOfShard rs → (named : List ℕ) (s : ShardDurable) → Same InShard named s → Same InShard (with_log named rs) (shard_replayed s rs)
shard_log [] own named s h = h
shard_log (r ∷ rs) own named s h = shard_log rs (λ q i. own q (inr i)) (with_named named r) (shard_applied s r) (shard_named r (own r (inl refl)) named s h)

-- THE LAW
pub coord_names_follow : (rs qs : List Record) → CoordNamesFollow rs qs
coord_names_follow rs qs own its same t =
    let a = coord_log rs own [] new_coord_durable (λ u. ((λ i. absurd i), (λ k. ⊎_elim (λ (p : HasKey u new_coord_durable.promises). never p.0 p.1) (λ (p : HasKey u new_coord_durable.outcomes). never p.0 p.1) k))) t in
    let b = coord_log qs its [] new_coord_durable (λ u. ((λ i. absurd i), (λ k. ⊎_elim (λ (p : HasKey u new_coord_durable.promises). never p.0 p.1) (λ (p : HasKey u new_coord_durable.outcomes). never p.0 p.1) k))) t in
    ((λ i. b.1 (subst (InCoord t) same (a.0 i))), (λ i. a.1 (subst (InCoord t) (sym same) (b.0 i))))

pub shard_names_follow : (rs qs : List Record) → ShardNamesFollow rs qs
shard_names_follow rs qs own its same t =
    let a = shard_log rs own [] new_shard_durable (λ u. ((λ i. absurd i), (λ k. ⊎_elim (λ (p : HasKey u new_shard_durable.parts). never p.0 p.1) (λ (p : HasKey u new_shard_durable.finished). never p.0 p.1) k))) t in
    let b = shard_log qs its [] new_shard_durable (λ u. ((λ i. absurd i), (λ k. ⊎_elim (λ (p : HasKey u new_shard_durable.parts). never p.0 p.1) (λ (p : HasKey u new_shard_durable.finished). never p.0 p.1) k))) t in
    ((λ i. b.1 (subst (InShard t) same (a.0 i))), (λ i. a.1 (subst (InShard t) (sym same) (b.0 i))))

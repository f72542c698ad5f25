-- What a shard's row says, and why it prepares.
use Rattle.std.proofs.Common.{◌≡◌, ℕ, List, [], ◌∷◌, refl, ap, subst, true, false, Option, Some, None, true≢false}
use Rattle.std.specs.Prelude.{filter, ◌==◌, is_some, length, ◌+◌}
use Rattle.std.specs.Ordering.{nat_cmp}
use Rattle.rc_ids.specs.Tables.{found}
use Rattle.rc_ids.specs.Cluster.{Layout, is_dc}
use Rattle.rc_ids.specs.declared.names.Party.{Party}
use Rattle.rc_body.specs.declared.entry.Entry.{Entry}
use Rattle.rc_body.specs.declared.decision.Decision.{Decision}
use Rattle.rc_msg.specs.declared.msg.Msg.{Msg}
use Rattle.rc_msg.specs.declared.msg.Msg.TheVariants.{ReadAsk, ReadCancel, Granted, Prepare, Prepared, Finish, CatchAsk, CatchPage}
use Rattle.rc_record.specs.declared.record.Record.TheVariants.{Prepared as PartPrepared, Finished}
use Rattle.rc_record.specs.ShardState.{ShardDurable, version_at, value_at, settled_all, shard_applied}
use Rattle.rc_protocol.specs.Messages.{coordinator, client_of}
use Rattle.rc_protocol.specs.Shard.{ShardVolatile, ShardAct, shard_stays, test, grant_of, is_free, grants, ignores_ask, on_read_ask, waits, on_prepare, on_finish, forgotten_all, unfinished, is_next_shard_page, with_shard_cursor, asks_next_shard_page, then_says, takes_page, on_catch_page, shard_row}
use Rattle.rc_protocol.specs.Nodes.{applied}
use Rattle.rc_agreement.proofs.Cases.{on_cond, on_maybe, some_is, never}
use Rattle.rc_agreement.proofs.Tables.{put_same}
use Rattle.rc_protocol.specs.Acts.{NodeCause, Came, Catches, Takes, shard_act}
use Rattle.rc_agreement.proofs.Sends.{EachTo, to_none, to_one, to_both, to_map}

-- what it says, where s is its durable state after the act
abbrev pub Sure : ℕ → ℕ → ShardDurable → Party → Msg → Type 0
Sure d sh s to (Prepared t x None) = (x ≡ sh) × (to ≡ coordinator d) × (is_some (found nat_cmp s.parts t) ≡ true)
Sure d sh s to (Prepare t p) = ⊥
Sure d sh s to (Granted t k e v y) = (v ≡ version_at s.rows k) × (y ≡ value_at s.rows k)
Sure d sh s to _ = Unit {0}

-- why it prepares this part
pub record Prepares (s : ShardDurable) (k : NodeCause) (t : ℕ) (p : List Entry) : Type 0 where
  pub volatile : ShardVolatile
  pub passes : test s volatile t p ≡ None
  pub unprepared : found nat_cmp s.parts t ≡ None
  pub unfinished : found nat_cmp s.finished t ≡ None
  pub from : Party
  pub asked : k ≡ Came from (Prepare t p)

pub record ShardRow (d sh : ℕ) (s : ShardDurable) (k : NodeCause) (a : ShardAct) : Type 0 where
  pub says : EachTo (Sure d sh (applied shard_applied s a.logs)) a.sends
  pub prepares : (t : ℕ) (p : List Entry) → a.logs ≡ Some (PartPrepared t p) → Prepares s k t p

none_some : {A : Type 0} (o : Option A) → is_some o ≡ false → o ≡ None
none_some None e = refl
none_some (Some x) e = absurd (true≢false e)

module _ (c : Layout) (d sh : ℕ) (s : ShardDurable) where
  idle : (k : NodeCause) (v : ShardVolatile) → ShardRow d sh s k (shard_stays v)
  idle k v = record { says = to_none (Sure d sh s); prepares = λ t p e. never _ e }

  grants_sure : (z : ShardDurable) (v : ShardVolatile) → EachTo (Sure d sh z) (grants d z v)
  grants_sure z v = to_map (Sure d sh z) (grant_of d z.rows) (filter (is_free z.parts) v.waiting) (λ m. (refl, refl))

  next_sure : (z : ShardDurable) (place : ℕ) (es : List (ℕ × Decision)) → EachTo (Sure d sh z) (asks_next_shard_page d place es)
  next_sure z place es = on_cond (EachTo (Sure d sh z)) (length es == 64) _ _ (λ _. to_one (Sure d sh z) (coordinator d) (CatchAsk (place + length es)) tt) (λ _. to_none (Sure d sh z))

  read_ask : (k0 : NodeCause) (v : ShardVolatile) (t : ℕ) (k : List ℕ) → ShardRow d sh s k0 (on_read_ask d s v t k)
  read_ask k0 v t k =
      on_cond (ShardRow d sh s k0) (ignores_ask s v t k) _ _ (λ _. idle k0 v)
      (λ _. on_cond (ShardRow d sh s k0) (is_free s.parts (k, t)) _ _
      (λ _. record { says = to_one (Sure d sh s) (client_of t) (Granted t k d (version_at s.rows k) (value_at s.rows k)) (refl, refl); prepares = λ u p e. never _ e })
      (λ _. idle k0 (waits v (k, t))))

  prepare : (v : ShardVolatile) (from : Party) (t : ℕ) (p : List Entry) → ShardRow d sh s (Came from (Prepare t p)) (on_prepare d sh s v t p)
  prepare v from t p =
      on_cond R (is_some (found nat_cmp s.finished t)) _ _ (λ _. idle _ v)
      (λ f. on_cond R (is_some (found nat_cmp s.parts t)) _ _
      (λ x. record { says = to_one (Sure d sh s) (coordinator d) (Prepared t sh None) (refl, refl, x); prepares = λ u q e. never _ e })
      (λ x. on_maybe R (test s v t p) _ _
      (λ ok. record {
        says = to_one (Sure d sh (shard_applied s (PartPrepared t p))) (coordinator d) (Prepared t sh None) (refl, refl, ap is_some (put_same t p s.parts));
        prepares = λ u q e.
            let same : PartPrepared t p ≡ PartPrepared u q = some_is _ _ e in
            let n : t ≡ u = (cc) in let m : p ≡ q = (cc) in
            subst (λ (z : ℕ × List Entry). Prepares s (Came from (Prepare t p)) z.0 z.1) (λ i. (n i, m i))
            (record { volatile = v; passes = ok; unprepared = none_some _ x; unfinished = none_some _ f; from = from; asked = refl });
      })
      (λ r _. record { says = to_one (Sure d sh s) (coordinator d) (Prepared t sh (Some r)) tt; prepares = λ u q e. never _ e })))
    where
      R : ShardAct → Type 0
      R = ShardRow d sh s (Came from (Prepare t p))

  finish : (k : NodeCause) (v : ShardVolatile) (t : ℕ) (o : Decision) → ShardRow d sh s k (on_finish d s v t o)
  finish k v t o =
      on_cond (ShardRow d sh s k) (is_some (found nat_cmp s.finished t)) _ _ (λ _. idle k v)
      (λ _. record {
        says = grants_sure (settled_all s ((t, o) ∷ [])) (forgotten_all v ((t, o) ∷ []));
        prepares = λ u p e. let same : Finished ((t, o) ∷ []) ≡ PartPrepared u p = some_is _ _ e in absurd (cc);
      })

  page : (k : NodeCause) (v : ShardVolatile) (place : ℕ) (es : List (ℕ × Decision)) → ShardRow d sh s k (on_catch_page c d sh s v place es)
  page k v place es =
      on_cond (ShardRow d sh s k) (is_next_shard_page v place es) _ _ (λ _. takes (unfinished c sh s es)) (λ _. idle k v)
    where
      takes : (new : List (ℕ × Decision)) → ShardRow d sh s k (then_says (takes_page d s (with_shard_cursor v (place + length es)) new) (asks_next_shard_page d place es))
      takes [] = record { says = to_both (Sure d sh s) [] _ (to_none (Sure d sh s)) (next_sure s place es); prepares = λ u p e. never _ e }
      takes (x ∷ xs) =
          let z : ShardDurable = settled_all s (x ∷ xs) in
          record {
            says = to_both (Sure d sh z) _ _ (grants_sure z (forgotten_all (with_shard_cursor v (place + length es)) (x ∷ xs))) (next_sure z place es);
            prepares = λ u p e. let same : Finished (x ∷ xs) ≡ PartPrepared u p = some_is _ _ e in absurd (cc);
          }

  pub shard_says_so : (v : ShardVolatile) (k : NodeCause) → ShardRow d sh s k (shard_act c d sh s v k)
  shard_says_so v Catches = record { says = to_one (Sure d sh s) (coordinator d) (CatchAsk v.cursor) tt; prepares = λ t p e. never _ e }
  shard_says_so v (Takes t) = idle (Takes t) v
  shard_says_so v (Came from m) = comes m
    where
      comes : (m : Msg) → ShardRow d sh s (Came from m) (shard_row c d sh s v m)
      comes (ReadAsk t k) = read_ask _ v t k
      comes (ReadCancel t k) = idle _ _
      comes (Prepare t p) = prepare v from t p
      comes (Finish t o) = finish _ v t o
      comes (CatchPage e place es) = on_cond (ShardRow d sh s (Came from (CatchPage e place es))) (is_dc c e) _ _ (λ _. page _ v place es) (λ _. idle _ v)
      comes _ = idle _ v

-- A node that starts from a log that does not name t holds nothing of it.
use Rattle.std.proofs.Common.{◌≡◌, ℕ, List, [], ◌∷◌, refl, sym, ap, ◌∙◌, Some, inl, inr, ⊎_elim}
use Rattle.std.specs.Ordering.{nat_cmp}
use Rattle.rc_ids.specs.Tables.{In, found, put, added}
use Rattle.rc_body.specs.declared.entry.Entry.{Entry}
use Rattle.rc_body.specs.declared.decision.Decision.{Decision}
use Rattle.rc_record.specs.declared.record.Record.{Record}
use Rattle.rc_record.specs.declared.record.Record.TheVariants.{Head, Prepared, Finished, Promised, Accepted, Decided as OutcomesDecided}
use Rattle.rc_record.specs.CoordState.{CoordDurable, promise_of, coord_applied, new_durable as new_coord_durable}
use Rattle.rc_record.specs.ShardState.{ShardDurable, shard_applied, settled_all, new_durable as new_shard_durable}
use Rattle.rc_protocol.specs.Nodes.{coord_started, shard_started, coord_replayed, shard_replayed, with_txs, with_named, with_log}
use Rattle.rc_agreement.proofs.Cases.{never}
use Rattle.rc_agreement.proofs.Tables.{added_has, put_cases, in_put}
use Rattle.rc_agreement.proofs.ShardNotes.{settled_finished}
use Rattle.rc_quiet.proofs.ShardFitRows.{settled_parts_in}
use Rattle.rc_quiet.proofs.NodesAfter.{in_joined, low_after}
use Rattle.rc_quiet.proofs.CoordBlankRows.{CoordBlank}
use Rattle.rc_quiet.proofs.ShardBlankRows.{DurableBlank, ShardBlank}

-- what a record names stays named
txs_more : (t : ℕ) (es : List (ℕ × Decision)) (named : List ℕ) → In t named → In t (with_txs named es)
txs_more t [] named h = h
txs_more t (e ∷ es) named h = txs_more t es (added nat_cmp named e.0) (added_has t e.0 named (inr h))

txs_has : (t : ℕ) (o : Decision) (es : List (ℕ × Decision)) (named : List ℕ) → In (t, o) es → In t (with_txs named es)
txs_has t o [] named i = absurd i
txs_has t o (e ∷ es) named i =
    ⊎_elim (λ (f : e ≡ (t, o)). txs_more t es (added nat_cmp named e.0) (added_has t e.0 named (inl (sym (ap (λ (z : ℕ × Decision). z.0) f)))))
    (λ j. txs_has t o es (added nat_cmp named e.0) j) i

record_more : (t : ℕ) (r : Record) (named : List ℕ) → In t named → In t (with_named named r)
record_more t (Prepared u p) named h = added_has t u named (inr h)
record_more t (Finished es) named h = txs_more t es named h
record_more t (Promised u b) named h = added_has t u named (inr h)
record_more t (Accepted u b o) named h = added_has t u named (inr h)
record_more t (OutcomesDecided es) named h = txs_more t es named h
record_more t (Head p) named h = h

log_more : (t : ℕ) (rs : List Record) (named : List ℕ) → In t named → In t (with_log named rs)
log_more t [] named h = h
log_more t (r ∷ rs) named h = log_more t rs (with_named named r) (record_more t r named h)

-- COORDINATORS
pub record HoldsNone (t : ℕ) (s : CoordDurable) : Type 0 where
  pub promise : promise_of s.promises t ≡ 0
  pub accepted : (a : ℕ × Decision) → found nat_cmp s.accepted t ≡ Some a → ⊥
  pub listed : (o : Decision) → In (t, o) s.outcomes → ⊥

module _ (t : ℕ) where
  coord_one : (named : List ℕ) (r : Record) (s : CoordDurable) → (In t (with_named named r) → ⊥) → HoldsNone t s → HoldsNone t (coord_applied s r)
  coord_one named (Promised u b) s n h =
      let other : t ≡ u → ⊥ = λ e. n (added_has t u named (inl e)) in
      record {
        promise = low_after t s (Some (Promised u b)) h.promise (λ a o e. cc) (λ a e. let f : Some (Promised u b) ≡ Some (Promised t a) = e in let same : u ≡ t = (cc) in other (sym same));
        accepted = h.accepted;
        listed = h.listed;
      }
  coord_one named (Accepted u b o) s n h =
      let other : t ≡ u → ⊥ = λ e. n (added_has t u named (inl e)) in
      record {
        promise = low_after t s (Some (Accepted u b o)) h.promise (λ a p e. let f : Some (Accepted u b o) ≡ Some (Accepted t a p) = e in let same : u ≡ t = (cc) in absurd (other (sym same))) (λ a e. cc);
        accepted = λ a is. ⊎_elim (λ (k : (t ≡ u) × (found nat_cmp (put nat_cmp s.accepted u (b, o)) t ≡ Some (b, o))). other k.0)
            (λ (k : (t ≡ u → ⊥) × (found nat_cmp (put nat_cmp s.accepted u (b, o)) t ≡ found nat_cmp s.accepted t)). h.accepted a (sym k.1 ∙ is)) (put_cases t u (b, o) s.accepted);
        listed = h.listed;
      }
  coord_one named (OutcomesDecided es) s n h =
      record { promise = h.promise; accepted = h.accepted; listed = λ o i. ⊎_elim (λ old. h.listed o old) (λ j. n (txs_has t o es named j)) (in_joined es s.outcomes (t, o) i) }
  coord_one named (Head p) s n h = h
  coord_one named (Prepared u p) s n h = h
  coord_one named (Finished es) s n h = h

  coord_log : (rs : List Record) (named : List ℕ) (s : CoordDurable) → (In t (with_log named rs) → ⊥) → HoldsNone t s → HoldsNone t (coord_replayed s rs)
  coord_log [] named s n h = h
  coord_log (r ∷ rs) named s n h = coord_log rs (with_named named r) (coord_applied s r) n (coord_one named r s (λ i. n (log_more t rs (with_named named r) i)) h)

  pub coord_starts_blank : (log : List Record) → (In t (with_log [] log) → ⊥) → CoordBlank t (coord_started log)
  coord_starts_blank log n =
      let h = coord_log log [] new_coord_durable n (record { promise = refl; accepted = λ a is. never a is; listed = λ o i. i }) in
      record { promise = h.promise; accepted = h.accepted; listed = h.listed; gathers = λ g i. i; takeovers = λ k i. i; votes = λ tl i. i }

  -- SHARD SERVERS
  settled_none : (es : List (ℕ × Decision)) (s : ShardDurable) → ((o : Decision) → In (t, o) es → ⊥) → DurableBlank t s → DurableBlank t (settled_all s es)
  settled_none es s n h =
      record {
        parts = λ p i. h.parts p (settled_parts_in es s (t, p) i);
        finished = λ outcome is. ⊎_elim (h.finished outcome) (λ new. n new.0 new.1) (settled_finished es s t outcome is);
      }

  shard_one : (named : List ℕ) (r : Record) (s : ShardDurable) → (In t (with_named named r) → ⊥) → DurableBlank t s → DurableBlank t (shard_applied s r)
  shard_one named (Prepared u p) s n h =
      record {
        parts = λ q i. ⊎_elim (λ (e : (u, p) ≡ (t, q)). n (added_has t u named (inl (sym (ap (λ (z : ℕ × List Entry). z.0) e))))) (h.parts q) (in_put u p s.parts (t, q) i);
        finished = h.finished;
      }
  shard_one named (Finished es) s n h = settled_none es s (λ o i. n (txs_has t o es named i)) h
  shard_one named (Head p) s n h = h
  shard_one named (Promised u b) s n h = h
  shard_one named (Accepted u b o) s n h = h
  shard_one named (OutcomesDecided es) s n h = h

  shard_log : (rs : List Record) (named : List ℕ) (s : ShardDurable) → (In t (with_log named rs) → ⊥) → DurableBlank t s → DurableBlank t (shard_replayed s rs)
  shard_log [] named s n h = h
  shard_log (r ∷ rs) named s n h = shard_log rs (with_named named r) (shard_applied s r) n (shard_one named r s (λ i. n (log_more t rs (with_named named r) i)) h)

  pub shard_starts_blank : (log : List Record) → (In t (with_log [] log) → ⊥) → ShardBlank t (shard_started log)
  shard_starts_blank log n =
      record { durable = shard_log log [] new_shard_durable n (record { parts = λ p i. i; finished = λ o is. never o is }); marks = record { plain = λ k i. i; lost = λ k i. i; waiting = λ k i. i } }

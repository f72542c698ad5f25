-- A shard server that holds nothing of t says nothing of it, by each of its rows.
use Rattle.std.proofs.Common.{◌≡◌, ℕ, List, [], ◌∷◌, ◌++◌, sym, ap, subst, Some, None, ◌⊎◌, ⊎_elim}
use Rattle.std.specs.Prelude.{filter, not, is_some, ◌==◌, length, ◌+◌}
use Rattle.std.specs.Ordering.{nat_cmp}
use Rattle.rc_ids.specs.Tables.{In, found, member}
use Rattle.rc_ids.specs.Cluster.{Layout, is_dc}
use Rattle.rc_ids.specs.declared.names.Outcome.{Outcome}
use Rattle.rc_ids.specs.declared.names.Party.{Party}
use Rattle.rc_body.specs.declared.entry.Entry.{Entry}
use Rattle.rc_body.specs.declared.decision.Decision.{Decision}
use Rattle.rc_msg.specs.declared.msg.Msg.{Msg}
use Rattle.rc_msg.specs.declared.msg.Msg.TheVariants.{ReadAsk, ReadCancel, Prepare, Prepared, Finish, CatchAsk, CatchPage}
use Rattle.rc_record.specs.ShardState.{ShardDurable, settled_all, shard_applied}
use Rattle.rc_protocol.specs.Messages.{coordinator}
use Rattle.rc_protocol.specs.Shard.{Mark, mark_cmp, ShardVolatile, ShardAct, shard_stays, test, grant_of, is_free, locks_plain, waits, ignores_ask, on_read_ask, is_other, is_taken, on_prepare, finishes_page, on_finish, forgotten_all, unfinished, is_next_shard_page, with_shard_cursor, asks_next_shard_page, then_says, takes_page, on_catch_page, shard_row}
use Rattle.rc_protocol.specs.Acts.{NodeCause, Came as Comes, Takes, Catches, shard_act}
use Rattle.rc_protocol.specs.Nodes.{ShardNode, applied}
use Rattle.rc_agreement.proofs.Cases.{on_cond, on_maybe}
use Rattle.rc_agreement.proofs.Tables.{in_put, in_either, in_map}
use Rattle.rc_agreement.proofs.Sends.{EachTo, to_none, to_one, to_both}
use Rattle.rc_agreement.proofs.ShardNotes.{settled_finished}
use Rattle.rc_serial_order.proofs.KeyFacts.{in_filtered}
use Rattle.rc_quiet.proofs.ShardFitRows.{in_added_mark, in_added_all, in_cleared, Fewer, fewer_all, in_unfinished, settled_parts_in}
use Rattle.rc_quiet.proofs.CoordBlankRows.{Blank, CauseBlank}

-- no mark of t
pub record MarksBlank (t : ℕ) (w : ShardVolatile) : Type 0 where
  pub plain : (k : List ℕ) → In (k, t) w.plain → ⊥
  pub lost : (k : List ℕ) → In (k, t) w.lost → ⊥
  pub waiting : (k : List ℕ) → In (k, t) w.waiting → ⊥

pub record DurableBlank (t : ℕ) (z : ShardDurable) : Type 0 where
  pub parts : (p : List Entry) → In (t, p) z.parts → ⊥
  pub finished : (outcome : Outcome) → found nat_cmp z.finished t ≡ Some outcome → ⊥

pub record ShardBlank (t : ℕ) (x : ShardNode) : Type 0 where
  pub durable : DurableBlank t x.durable
  pub marks : MarksBlank t x.volatile

module _ (t : ℕ) (c : Layout) (d sh : ℕ) (x : ShardNode) (blank : ShardBlank t x) where
  abbrev s : ShardDurable
  s = x.durable

  abbrev v : ShardVolatile
  v = x.volatile

  abbrev B : Party → Msg → Type 0
  B to m = Blank t m

  record R (a : ShardAct) : Type 0 where
    says : EachTo (λ (to : Party) (m : Msg). Blank t m) a.sends
    holds : DurableBlank t (applied shard_applied s a.logs)
    marks : MarksBlank t a.after

  idle : R (shard_stays v)
  idle = record { says = to_none B; holds = blank.durable; marks = blank.marks }

  says_one : (w : ShardVolatile) → MarksBlank t w → (p : Party) (m : Msg) → Blank t m → R (record { logs = None; after = w; sends = (p, m) ∷ [] })
  says_one w ms p m h = record { says = to_one B p m h; holds = blank.durable; marks = ms }

  fewer_blank : (w z : ShardVolatile) → Fewer w z → MarksBlank t w → MarksBlank t z
  fewer_blank w z f m = record { plain = λ k i. m.plain k (f.0 (k, t) i); lost = λ k i. m.lost k (f.1 (k, t) i); waiting = λ k i. m.waiting k (f.2 (k, t) i) }

  other : (u : ℕ) (k q : List ℕ) → (u ≡ t → ⊥) → ◌≡◌ {A = Mark} (q, t) (k, u) → ⊥
  other u k q n e = n (ap (λ (m : Mark). m.1) (sym e))

  read_row : (u : ℕ) (k : List ℕ) → (u ≡ t → ⊥) → R (on_read_ask d s v u k)
  read_row u k n =
      on_cond R (ignores_ask s v u k) _ _ (λ _. idle)
      (λ _. on_cond R (is_free s.parts (k, u)) _ _
      (λ _. says_one (locks_plain v (k, u))
      (record { plain = λ q i. ⊎_elim (other u k q n) (blank.marks.plain q) (in_added_mark (q, t) (k, u) v.plain i); lost = blank.marks.lost; waiting = blank.marks.waiting })
      (grant_of d s.rows (k, u)).0 (grant_of d s.rows (k, u)).1 n)
      (λ _. record { says = to_none B; holds = blank.durable; marks = record { plain = blank.marks.plain; lost = blank.marks.lost; waiting = waits_for } }))
    where
      waits_for : (q : List ℕ) → In (q, t) (waits v (k, u)).waiting → ⊥
      waits_for q i =
          on_cond (λ (z : List Mark). In (q, t) z → ⊥) (member mark_cmp v.waiting (k, u)) v.waiting (v.waiting ++ (k, u) ∷ []) (λ _ j. blank.marks.waiting q j)
          (λ _ j. ⊎_elim (blank.marks.waiting q) (λ (new : ((k, u) ≡ (q, t)) ⊎ ⊥). ⊎_elim (λ e. other u k q n (sym e)) (λ z. z) new) (in_either (q, t) v.waiting ((k, u) ∷ []) j)) i

  prepare_row : (u : ℕ) (p : List Entry) → (u ≡ t → ⊥) → R (on_prepare d sh s v u p)
  prepare_row u p n =
      on_cond R (is_some (found nat_cmp s.finished u)) _ _ (λ _. idle)
      (λ _. on_cond R (is_some (found nat_cmp s.parts u)) _ _ (λ _. says_one v blank.marks (coordinator d) (Prepared u sh None) n)
      (λ _. on_maybe R (test s v u p) _ _
      (λ _. record {
        says = to_one B (coordinator d) (Prepared u sh None) n;
        holds = record { parts = λ q i. ⊎_elim (λ (e : (u, p) ≡ (t, q)). n (ap (λ (z : ℕ × List Entry). z.0) e)) (blank.durable.parts q) (in_put u p s.parts (t, q) i); finished = blank.durable.finished };
        marks = record {
          plain = λ k i. blank.marks.plain k (in_filtered (λ (m : Mark). not (is_taken u p m)) (k, t) v.plain (in_cleared (k, t) _ u i).0).0;
          lost = λ k i. ⊎_elim (blank.marks.lost k) (λ j. blank.marks.plain k (in_filtered (is_taken u p) (k, t) v.plain j).0) (in_added_all (k, t) (filter (is_taken u p) v.plain) v.lost i);
          waiting = λ k i. blank.marks.waiting k (in_cleared (k, t) v.waiting u i).0;
        };
      })
      (λ r _. says_one v blank.marks (coordinator d) (Prepared u sh (Some r)) n)))

  settles : (es : List (ℕ × Decision)) → ((o : Decision) → In (t, o) es → ⊥) → DurableBlank t (settled_all s es)
  settles es n = record {
    parts = λ p i. blank.durable.parts p (settled_parts_in es s (t, p) i);
    finished = λ outcome is. ⊎_elim (blank.durable.finished outcome) (λ new. n new.0 new.1) (settled_finished es s t outcome is);
  }

  finishes : (w : ShardVolatile) → MarksBlank t w → (es : List (ℕ × Decision)) → ((o : Decision) → In (t, o) es → ⊥) → R (finishes_page d s w es)
  finishes w m es n =
      let z : ShardDurable = settled_all s es in
      let y : ShardVolatile = forgotten_all w es in
      let my : MarksBlank t y = fewer_blank w y (fewer_all w es) m in
      record {
        says = record {
          each = λ to q i.
              let r = in_map (grant_of d z.rows) (to, q) (filter (is_free z.parts) y.waiting) i in
              let j = (in_filtered (is_free z.parts) r.0 y.waiting r.1).0 in
              subst (λ (p : Party × Msg). Blank t p.1) r.2 (λ (e : r.0.1 ≡ t). my.waiting r.0.0 (subst (λ (k : ℕ). In (r.0.0, k) y.waiting) e j));
        };
        holds = settles es n;
        marks = record {
          plain = λ k i. ⊎_elim (my.plain k) (λ j. my.waiting k (in_filtered (is_free z.parts) (k, t) y.waiting j).0) (in_added_all (k, t) (filter (is_free z.parts) y.waiting) y.plain i);
          lost = my.lost;
          waiting = λ k i. my.waiting k (in_filtered (λ (q : Mark). not (is_free z.parts q)) (k, t) y.waiting i).0;
        };
      }

  finish_row : (u : ℕ) (o : Decision) → (u ≡ t → ⊥) → R (on_finish d s v u o)
  finish_row u o n =
      on_cond R (is_some (found nat_cmp s.finished u)) _ _ (λ _. idle)
      (λ _. finishes v blank.marks ((u, o) ∷ []) (λ p i. ⊎_elim (λ (e : (u, o) ≡ (t, p)). n (ap (λ (z : ℕ × Decision). z.0) e)) (λ z. z) i))

  page_row : (place : ℕ) (es : List (ℕ × Decision)) → ((o : Decision) → In (t, o) es → ⊥) → R (on_catch_page c d sh s v place es)
  page_row place es n =
      on_cond R (is_next_shard_page v place es) _ _ (λ _. takes (unfinished c sh s es) (λ o i. let z = in_unfinished c sh s es t o i in n z.0 z.1)) (λ _. idle)
    where
      cursor_marks : MarksBlank t (with_shard_cursor v (place + length es))
      cursor_marks = record { plain = blank.marks.plain; lost = blank.marks.lost; waiting = blank.marks.waiting }

      next : EachTo (λ (to : Party) (m : Msg). Blank t m) (asks_next_shard_page d place es)
      next = on_cond (EachTo B) (length es == 64) _ _ (λ _. to_one B (coordinator d) (CatchAsk (place + length es)) tt) (λ _. to_none B)

      takes : (new : List (ℕ × Decision)) → ((o : Decision) → In (t, o) new → ⊥) → R (then_says (takes_page d s (with_shard_cursor v (place + length es)) new) (asks_next_shard_page d place es))
      takes [] k = record { says = to_both B [] _ (to_none B) next; holds = blank.durable; marks = cursor_marks }
      takes (y ∷ ys) k = let r = finishes (with_shard_cursor v (place + length es)) cursor_marks (y ∷ ys) k in record { says = to_both B _ _ r.says next; holds = r.holds; marks = r.marks }

  row : (k : NodeCause) → CauseBlank t k → R (shard_act c d sh s v k)
  row Catches n = record { says = to_one B (coordinator d) (CatchAsk v.cursor) tt; holds = blank.durable; marks = blank.marks }
  row (Takes u) n = idle
  row (Comes from m) n = comes m n
    where
      comes : (m : Msg) → Blank t m → R (shard_row c d sh s v m)
      comes (ReadAsk u k) n = read_row u k n
      comes (ReadCancel u k) n = record {
        says = to_none B;
        holds = blank.durable;
        marks = record { plain = λ q i. blank.marks.plain q (in_filtered (is_other (k, u)) (q, t) v.plain i).0; lost = blank.marks.lost; waiting = λ q i. blank.marks.waiting q (in_filtered (is_other (k, u)) (q, t) v.waiting i).0 };
      }
      comes (Prepare u p) n = prepare_row u p n
      comes (Finish u o) n = finish_row u o n
      comes (CatchPage e place es) n = on_cond R (is_dc c e) _ _ (λ _. page_row place es n) (λ _. idle)
      comes _ n = idle

  pub shard_says_nothing : (k : NodeCause) → CauseBlank t k → EachTo (λ (to : Party) (m : Msg). Blank t m) (shard_act c d sh s v k).sends
  shard_says_nothing k n = (row k n).says

  pub shard_durable_blank : (k : NodeCause) → CauseBlank t k → DurableBlank t (applied shard_applied s (shard_act c d sh s v k).logs)
  shard_durable_blank k n = (row k n).holds

  pub shard_marks_blank : (k : NodeCause) → CauseBlank t k → MarksBlank t (shard_act c d sh s v k).after
  shard_marks_blank k n = (row k n).marks

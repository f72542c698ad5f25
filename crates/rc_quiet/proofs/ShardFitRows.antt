-- What a shard server says and holds of t fits, by each of its rows.
use Rattle.std.proofs.Common.{◌≡◌, ℕ, List, [], ◌∷◌, ◌++◌, refl, sym, ap, ◌∙◌, subst, true, Some, None, ◌⊎◌, inl, inr, ⊎_elim}
use Rattle.std.specs.Prelude.{filter, not, ◌&&◌, is_some, is_none, ◌==◌, length, ◌+◌}
use Rattle.std.specs.declared.cmp.Ordering.{Ordering}
use Rattle.std.specs.declared.cmp.Ordering.TheVariants.{Less, Equal, Greater}
use Rattle.std.specs.Ordering.{nat_cmp, match_ordering}
use Rattle.rc_ids.specs.Tables.{In, Table, found, member, added}
use Rattle.rc_ids.specs.Cluster.{Layout, is_dc, shard_of}
use Rattle.rc_ids.specs.declared.names.Outcome.{Outcome}
use Rattle.rc_ids.specs.declared.names.Outcome.TheVariants.{Commit as Committed}
use Rattle.rc_ids.specs.declared.names.Party.{Party}
use Rattle.rc_body.specs.Decisions.{outcome_of}
use Rattle.rc_body.specs.declared.entry.Entry.{Entry}
use Rattle.rc_body.specs.declared.decision.Decision.{Decision}
use Rattle.rc_body.specs.declared.decision.Decision.TheVariants.{Commit, Abort}
use Rattle.rc_msg.specs.declared.msg.Envelope.{Envelope}
use Rattle.rc_msg.specs.declared.msg.Msg.{Msg}
use Rattle.rc_msg.specs.declared.msg.Msg.TheVariants.{ReadAsk, ReadCancel, Prepare, Prepared, Finish, CatchAsk, CatchPage}
use Rattle.rc_record.specs.ShardState.{ShardDurable, settled, settled_new, settled_all, shard_applied}
use Rattle.rc_protocol.specs.Messages.{coordinator, shard_server, client_of}
use Rattle.rc_protocol.specs.Shard.{Mark, mark_cmp, ShardVolatile, ShardAct, shard_stays, shard_says, test, cleared, grant_of, is_free, added_all, granted, grants, locks_plain, waits, ignores_ask, on_read_ask, is_other, on_read_cancel, is_taken, preempted, on_prepare, finishes_page, on_finish, forgotten, forgotten_all, cut_to_part, concerns, unfinished, is_next_shard_page, with_shard_cursor, asks_next_shard_page, then_says, takes_page, on_catch_page, shard_row}
use Rattle.rc_protocol.specs.Acts.{NodeCause, Came as Comes, Takes, Catches, shard_act}
use Rattle.rc_protocol.specs.Nodes.{ShardNode, applied}
use Rattle.rc_agreement.proofs.Cases.{on_cond, on_maybe}
use Rattle.rc_agreement.proofs.Tables.{in_put, in_without, in_either, in_map}
use Rattle.rc_agreement.proofs.Sends.{EachTo, to_none, to_one, to_both}
use Rattle.rc_agreement.proofs.ShardNotes.{settled_finished}
use Rattle.rc_serial_order.proofs.KeyFacts.{in_filtered}
use Rattle.rc_serial_order.proofs.Locking.{settled_is}
use Rattle.rc_quiet.proofs.Parts.{Sent, Asked, Own, Told, Answering, Fits, ShardFits}

-- SETS OF MARKS
pub in_added_mark : (m k : Mark) (ms : List Mark) → In m (added mark_cmp ms k) → (m ≡ k) ⊎ In m ms
in_added_mark m k [] i = ⊎_elim (λ (e : k ≡ m). inl (sym e)) (λ n. absurd n) i
in_added_mark m k (y ∷ ys) i = go (in_added_mark m k ys) (mark_cmp k y) i
  where
    go : (In m (added mark_cmp ys k) → (m ≡ k) ⊎ In m ys) → (o : Ordering) → In m (match_ordering o (k ∷ y ∷ ys) (y ∷ ys) (y ∷ added mark_cmp ys k)) → (m ≡ k) ⊎ In m (y ∷ ys)
    go ih Less (inl e) = inl (sym e)
    go ih Less (inr j) = inr j
    go ih Equal j = inr j
    go ih Greater (inl e) = inr (inl e)
    go ih Greater (inr j) = ⊎_elim inl (λ a. inr (inr a)) (ih j)

pub in_added_all : (m : Mark) (ks ms : List Mark) → In m (added_all ms ks) → In m ms ⊎ In m ks
in_added_all m [] ms i = inl i
in_added_all m (k ∷ ks) ms i =
    ⊎_elim
    (λ (j : In m (added mark_cmp ms k)). ⊎_elim (λ e. inr (inl (sym e))) (λ old. inl old) (in_added_mark m k ms j))
    (λ j. inr (inr j))
    (in_added_all m ks (added mark_cmp ms k) i)

-- what is left after some transactions are forgotten
abbrev pub Fewer : ShardVolatile → ShardVolatile → Type 0
Fewer v w = ((m : Mark) → In m w.plain → In m v.plain) × ((m : Mark) → In m w.lost → In m v.lost) × ((m : Mark) → In m w.waiting → In m v.waiting)

pub in_cleared : (m : Mark) (ms : List Mark) (u : ℕ) → In m (cleared ms u) → In m ms × (not (m.1 == u) ≡ true)
in_cleared m ms u i = in_filtered (λ (n : Mark). not (n.1 == u)) m ms i

pub fewer_all : (v : ShardVolatile) (es : List (ℕ × Decision)) → Fewer v (forgotten_all v es)
fewer_all v [] = ((λ m i. i), (λ m i. i), (λ m i. i))
fewer_all v (e ∷ es) =
    let r = fewer_all (forgotten v e.0) es in
    ((λ m i. (in_cleared m v.plain e.0 (r.0 m i)).0), (λ m i. (in_cleared m v.lost e.0 (r.1 m i)).0), (λ m i. (in_cleared m v.waiting e.0 (r.2 m i)).0))

-- what a page that is new here settles is of the page
pub in_unfinished : (c : Layout) (sh : ℕ) (s : ShardDurable) (es : List (ℕ × Decision)) (u : ℕ) (o : Decision) → In (u, o) (unfinished c sh s es) → (p : Decision) × In (u, p) es × (o ≡ cut_to_part c sh p)
in_unfinished c sh s es u o i =
    let f : ℕ × Decision → ℕ × Decision = λ (e : ℕ × Decision). (e.0, cut_to_part c sh e.1) in
    let z = in_map f (u, o) (filter (λ (e : ℕ × Decision). is_none (found nat_cmp s.finished e.0) && concerns c sh e.1) es) i in
    let j = (in_filtered (λ (e : ℕ × Decision). is_none (found nat_cmp s.finished e.0) && concerns c sh e.1) z.0 es z.1).0 in
    let n : z.0.0 ≡ u = ap (λ (e : ℕ × Decision). e.0) z.2 in
    (z.0.1, subst (λ (k : ℕ). In (k, z.0.1) es) n j, sym (ap (λ (e : ℕ × Decision). e.1) z.2))

pub cut_outcome : (c : Layout) (sh : ℕ) (o : Decision) → outcome_of (cut_to_part c sh o) ≡ outcome_of o
cut_outcome c sh Abort = refl
cut_outcome c sh (Commit body) = refl

-- what is prepared after outcomes was prepared before
pub settled_parts_in : (es : List (ℕ × Decision)) (z : ShardDurable) (q : ℕ × List Entry) → In q (settled_all z es).parts → In q z.parts
settled_parts_in [] z q i = i
settled_parts_in (e ∷ es) z q i =
    on_maybe (λ (y : ShardDurable). In q y.parts → In q z.parts) (found nat_cmp z.finished e.0) (settled z e.0 e.1) (λ _. z)
    (λ _ j. in_without e.0 z.parts q (subst (λ (m : Table ℕ (List Entry)). In q m) (settled_is z e.0 e.1).0 j))
    (λ _ _ j. j)
    (settled_parts_in es (settled_new z e) q i)

-- now holds what was sent before the act and in it; the state fits it
module _ (t : ℕ) (c : Layout) (now : List Envelope) (d sh : ℕ) (dc : is_dc c d ≡ true) (x : ShardNode) (fits : ShardFits t c now d sh x) where
  abbrev s : ShardDurable
  s = x.durable

  abbrev v : ShardVolatile
  v = x.volatile

  abbrev F : Party → Msg → Type 0
  F = Fits t c now (shard_server d sh)

  -- what the durable state holds, and the marks
  record Holds (z : ShardDurable) : Type 0 where
    parts : (p : List Entry) → In (t, p) z.parts → Sent now (coordinator d) (shard_server d sh) (Prepare t p)
    finished : (outcome : Outcome) → found nat_cmp z.finished t ≡ Some outcome → (outcome ≡ Committed) × ((o : Decision) × Own t now o)

  abbrev Marks : ShardVolatile → Type 0
  Marks w = (k : List ℕ) → In (k, t) w.plain ⊎ In (k, t) w.waiting → (sh ≡ shard_of c k) × Asked t now d sh k

  pub record ShardDoes (a : ShardAct) : Type 0 where
    pub says : EachTo (Fits t c now (shard_server d sh)) a.sends
    holds : Holds (applied shard_applied s a.logs)
    marks : Marks a.after

  same : Holds s
  same = record { parts = fits.parts; finished = fits.finished }

  idle : ShardDoes (shard_stays v)
  idle = record { says = to_none F; holds = same; marks = fits.marks }

  says_one : (w : ShardVolatile) → Marks w → (p : Party) (m : Msg) → F p m → ShardDoes (shard_says w ((p, m) ∷ []))
  says_one w ms p m h = record { says = to_one F p m h; holds = same; marks = ms }

  fewer_marks : (w : ShardVolatile) → Fewer v w → Marks w
  fewer_marks w f k i = ⊎_elim (λ j. fits.marks k (inl (f.0 (k, t) j))) (λ j. fits.marks k (inr (f.2 (k, t) j))) i

  -- A READ IS ASKED FOR
  -- what is granted was asked for
  grant_fits : (rows : Table (List ℕ) (ℕ × List ℕ)) (m : Mark) → (m.1 ≡ t → (sh ≡ shard_of c m.0) × Asked t now d sh m.0) → F (grant_of d rows m).0 (grant_of d rows m).1
  grant_fits rows m h e =
      let a = h e in
      let n = a.0 in
      (ap client_of e, ap (λ (z : ℕ). shard_server d z) n, subst (λ (z : ℕ). Asked t now d z m.0) n a.1, dc)

  asks_here : (from : Party) (u : ℕ) (k : List ℕ) → Sent now from (shard_server d sh) (ReadAsk u k) → Fits t c now from (shard_server d sh) (ReadAsk u k) → u ≡ t → (sh ≡ shard_of c k) × Asked t now d sh k
  asks_here from u k sent f e =
      let h = f e in
      let p = h.0 in
      let to_it : shard_server d sh ≡ shard_server h.1.0 (shard_of c k) = h.1.1 in
      let n : sh ≡ shard_of c k = (cc) in
      (n, subst (λ (z : Party × ℕ). Sent now z.0 (shard_server d sh) (ReadAsk z.1 k)) (λ i. (p i, e i)) sent)

  -- the mark is one of those before, or u's, who asks for k here
  marked : (u : ℕ) (k : List ℕ) → (u ≡ t → (sh ≡ shard_of c k) × Asked t now d sh k) → (q : List ℕ) → ◌≡◌ {A = Mark} (q, t) (k, u) → (sh ≡ shard_of c q) × Asked t now d sh q
  marked u k h q e =
      let n : u ≡ t = ap (λ (m : Mark). m.1) (sym e) in
      let w : k ≡ q = ap (λ (m : Mark). m.0) (sym e) in
      subst (λ (z : List ℕ). (sh ≡ shard_of c z) × Asked t now d sh z) w (h n)

  read_row : (u : ℕ) (k : List ℕ) → (u ≡ t → (sh ≡ shard_of c k) × Asked t now d sh k) → ShardDoes (on_read_ask d s v u k)
  read_row u k h =
      on_cond ShardDoes (ignores_ask s v u k) _ _ (λ _. idle)
      (λ _. on_cond ShardDoes (is_free s.parts (k, u)) _ _
      (λ _. says_one (locks_plain v (k, u))
      (λ q i. ⊎_elim
      (λ j. ⊎_elim (λ e. marked u k h q e) (λ old. fits.marks q (inl old)) (in_added_mark (q, t) (k, u) v.plain j))
      (λ j. fits.marks q (inr j)) i)
      (grant_of d s.rows (k, u)).0 (grant_of d s.rows (k, u)).1 (grant_fits s.rows (k, u) h))
      (λ _. record {
        says = to_none F;
        holds = same;
        marks = λ q i. ⊎_elim (λ j. fits.marks q (inl j)) (λ j. waits_for q j) i;
      }))
    where
      waits_for : (q : List ℕ) → In (q, t) (waits v (k, u)).waiting → (sh ≡ shard_of c q) × Asked t now d sh q
      waits_for q i =
          on_cond (λ (z : List Mark). In (q, t) z → (sh ≡ shard_of c q) × Asked t now d sh q) (member mark_cmp v.waiting (k, u)) v.waiting (v.waiting ++ (k, u) ∷ [])
          (λ _ j. fits.marks q (inr j))
          (λ _ j. ⊎_elim (λ old. fits.marks q (inr old)) (λ (new : ((k, u) ≡ (q, t)) ⊎ ⊥). ⊎_elim (λ e. marked u k h q (sym e)) (λ n. absurd n) new) (in_either (q, t) v.waiting ((k, u) ∷ []) j))
          i

  cancel_row : (u : ℕ) (k : List ℕ) → ShardDoes (on_read_cancel v u k)
  cancel_row u k =
      record {
        says = to_none F;
        holds = same;
        marks = λ q i. ⊎_elim (λ j. fits.marks q (inl (in_filtered (is_other (k, u)) (q, t) v.plain j).0)) (λ j. fits.marks q (inr (in_filtered (is_other (k, u)) (q, t) v.waiting j).0)) i;
      }

  -- A PREPARE
  answers_so : (from : Party) (u : ℕ) (p : List Entry) → Sent now from (shard_server d sh) (Prepare u p) → Fits t c now from (shard_server d sh) (Prepare u p) → u ≡ t → Sent now (coordinator d) (shard_server d sh) (Prepare t p)
  answers_so from u p sent f e =
      let h = f e in
      let a = h.from_it in
      let b : shard_server d sh ≡ shard_server h.dc h.shard = h.to_it in
      let n : h.dc ≡ d = (cc) in
      let q : from ≡ coordinator d = a ∙ ap coordinator n in
      subst (λ (z : Party × ℕ). Sent now z.0 (shard_server d sh) (Prepare z.1 p)) (λ i. (q i, e i)) sent

  fewer_preempted : (u : ℕ) (p : List Entry) → Marks (preempted v u p)
  fewer_preempted u p k i =
      ⊎_elim
      (λ j. fits.marks k (inl (in_filtered (λ (m : Mark). not (is_taken u p m)) (k, t) v.plain (in_cleared (k, t) _ u j).0).0))
      (λ j. fits.marks k (inr (in_cleared (k, t) v.waiting u j).0))
      i

  prepare_row : (from : Party) (u : ℕ) (p : List Entry) → Sent now from (shard_server d sh) (Prepare u p) → Fits t c now from (shard_server d sh) (Prepare u p) → ShardDoes (on_prepare d sh s v u p)
  prepare_row from u p sent f =
      on_cond ShardDoes (is_some (found nat_cmp s.finished u)) _ _ (λ _. idle)
      (λ _. on_cond ShardDoes (is_some (found nat_cmp s.parts u)) _ _ (λ _. says_one v fits.marks (coordinator d) (Prepared u sh None) answering)
      (λ _. on_maybe ShardDoes (test s v u p) _ _
      (λ _. record {
        says = to_one F (coordinator d) (Prepared u sh None) answering;
        holds = record {
          parts = λ q i. ⊎_elim
              (λ (e : (u, p) ≡ (t, q)).
              let n : u ≡ t = ap (λ (z : ℕ × List Entry). z.0) e in
              subst (λ (z : ℕ × List Entry). Sent now (coordinator d) (shard_server d sh) (Prepare t z.1)) e (answers_so from u p sent f n))
              (λ old. fits.parts q old)
              (in_put u p s.parts (t, q) i);
          finished = fits.finished;
        };
        marks = fewer_preempted u p;
      })
      (λ r _. says_one v fits.marks (coordinator d) (Prepared u sh (Some r)) answering)))
    where
      answering : u ≡ t → Answering t now (shard_server d sh) (coordinator d) sh
      answering e = record { dc = d; from_it = refl; to_it = refl; part = p; asked = answers_so from u p sent f e }

  -- OUTCOMES
  abbrev Ends : List (ℕ × Decision) → Type 0
  Ends es = (o : Decision) → In (t, o) es → (outcome_of o ≡ Committed) × ((p : Decision) × Own t now p)

  settles : (es : List (ℕ × Decision)) → Ends es → Holds (settled_all s es)
  settles es k =
      record {
        parts = λ p i. fits.parts p (settled_parts_in es s (t, p) i);
        finished = λ outcome is. ⊎_elim
            (λ old. fits.finished outcome old)
            (λ (new : (o : Decision) × In (t, o) es × (outcome_of o ≡ outcome)). let h = k new.0 new.1 in (sym new.2 ∙ h.0, h.1))
            (settled_finished es s t outcome is);
      }

  -- what waits and is free is granted
  grants_fit : (z : ShardDurable) (w : ShardVolatile) → Marks w → EachTo F (grants d z w)
  grants_fit z w ms =
      record {
        each = λ to m i.
            let y = in_map (grant_of d z.rows) (to, m) (filter (is_free z.parts) w.waiting) i in
            let j = (in_filtered (is_free z.parts) y.0 w.waiting y.1).0 in
            subst (λ (p : Party × Msg). F p.0 p.1) y.2
            (grant_fits z.rows y.0 (λ e. ms y.0.0 (inr (subst (λ (n : ℕ). In (y.0.0, n) w.waiting) e j))));
      }

  granted_marks : (z : ShardDurable) (w : ShardVolatile) → Marks w → Marks (granted z w)
  granted_marks z w ms k i =
      ⊎_elim
      (λ j. ⊎_elim (λ old. ms k (inl old)) (λ new. ms k (inr (in_filtered (is_free z.parts) (k, t) w.waiting new).0)) (in_added_all (k, t) (filter (is_free z.parts) w.waiting) w.plain j))
      (λ j. ms k (inr (in_filtered (λ (m : Mark). not (is_free z.parts m)) (k, t) w.waiting j).0))
      i

  finishes : (w : ShardVolatile) → Fewer v w → (es : List (ℕ × Decision)) → Ends es → ShardDoes (finishes_page d s w es)
  finishes w f es k =
      let g = fewer_all w es in
      let ms : Marks (forgotten_all w es) = fewer_marks (forgotten_all w es) ((λ m i. f.0 m (g.0 m i)), (λ m i. f.1 m (g.1 m i)), (λ m i. f.2 m (g.2 m i))) in
      record { says = grants_fit (settled_all s es) (forgotten_all w es) ms; holds = settles es k; marks = granted_marks (settled_all s es) (forgotten_all w es) ms }

  finish_row : (u : ℕ) (o : Decision) → Fits t c now (shard_server d sh) (shard_server d sh) (Finish u o) → ShardDoes (on_finish d s v u o)
  finish_row u o f =
      on_cond ShardDoes (is_some (found nat_cmp s.finished u)) _ _ (λ _. idle)
      (λ _. finishes v ((λ m i. i), (λ m i. i), (λ m i. i)) ((u, o) ∷ [])
      (λ p i. ⊎_elim
      (λ (e : (u, o) ≡ (t, p)). subst (λ (z : ℕ × Decision). (outcome_of z.1 ≡ Committed) × ((q : Decision) × Own t now q)) e (f (ap (λ (z : ℕ × Decision). z.0) e)))
      (λ n. absurd n) i))

  page_row : (place : ℕ) (es : List (ℕ × Decision)) → ((o : Decision) → In (t, o) es → Told t c now o) → ShardDoes (on_catch_page c d sh s v place es)
  page_row place es k =
      on_cond ShardDoes (is_next_shard_page v place es) _ _ (λ _. takes (unfinished c sh s es) ends) (λ _. idle)
    where
      w : ShardVolatile
      w = with_shard_cursor v (place + length es)

      ends : Ends (unfinished c sh s es)
      ends o i =
          let z = in_unfinished c sh s es t o i in
          let own = (k z.0 z.1).0 in
          (ap outcome_of z.2 ∙ cut_outcome c sh z.0 ∙ own.0, (z.0, own))

      next : EachTo F (asks_next_shard_page d place es)
      next = on_cond (EachTo F) (length es == 64) _ _ (λ _. to_one F (coordinator d) (CatchAsk (place + length es)) tt) (λ _. to_none F)

      takes : (new : List (ℕ × Decision)) → Ends new → ShardDoes (then_says (takes_page d s (with_shard_cursor v (place + length es)) new) (asks_next_shard_page d place es))
      takes [] e = record { says = to_both F [] _ (to_none F) next; holds = same; marks = fits.marks }
      takes (y ∷ ys) e =
          let r = finishes (with_shard_cursor v (place + length es)) ((λ m i. i), (λ m i. i), (λ m i. i)) (y ∷ ys) e in
          record { says = to_both F _ _ r.says next; holds = r.holds; marks = r.marks }

  -- EVERY ROW
  abbrev pub DueTo : NodeCause → Type 0
  DueTo (Comes from m) = (f : Party) × Sent now f (shard_server d sh) m × Fits t c now f (shard_server d sh) m
  DueTo Catches = Unit {0}
  DueTo (Takes u) = Unit {0}

  row : (k : NodeCause) → DueTo k → ShardDoes (shard_act c d sh s v k)
  row Catches due = record { says = to_one F (coordinator d) (CatchAsk v.cursor) tt; holds = same; marks = fits.marks }
  row (Takes u) due = idle
  row (Comes from m) due = comes m due
    where
      comes : (m : Msg) → DueTo (Comes from m) → ShardDoes (shard_row c d sh s v m)
      comes (ReadAsk u k) due = read_row u k (asks_here due.0 u k due.1 due.2)
      comes (ReadCancel u k) due = cancel_row u k
      comes (Prepare u p) due = prepare_row due.0 u p due.1 due.2
      comes (Finish u o) due = finish_row u o due.2
      comes (CatchPage e place es) due = on_cond ShardDoes (is_dc c e) _ _ (λ _. page_row place es due.2) (λ _. idle)
      comes _ due = idle

  pub shard_says_fit : (k : NodeCause) → DueTo k → EachTo (Fits t c now (shard_server d sh)) (shard_act c d sh s v k).sends
  shard_says_fit k due = (row k due).says

  -- the state after the act, whether the node goes on or stops with its record
  pub shard_holds : (k : NodeCause) → DueTo k → (z : ShardNode) → z.durable ≡ applied shard_applied s (shard_act c d sh s v k).logs
      → ((q : List ℕ) → In (q, t) z.volatile.plain ⊎ In (q, t) z.volatile.waiting → In (q, t) (shard_act c d sh s v k).after.plain ⊎ In (q, t) (shard_act c d sh s v k).after.waiting) → ShardFits t c now d sh z
  shard_holds k due z e sub =
      let r = row k due in
      let h : Holds z.durable = subst Holds (sym e) r.holds in
      record { parts = h.parts; finished = h.finished; marks = λ q i. r.marks q (sub q i) }

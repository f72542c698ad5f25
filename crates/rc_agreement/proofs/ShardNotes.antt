-- What a shard server finishes is chosen.
use Rattle.std.proofs.Common.{◌≡◌, ℕ, List, [], ◌∷◌, ◌++◌, refl, sym, ◌∙◌, subst, Option, Some, None, ◌⊎◌, inl, inr, ⊎_elim}
use Rattle.std.specs.Prelude.{filter, is_some, is_none, ◌&&◌, length, ◌+◌}
use Rattle.std.specs.Ordering.{nat_cmp}
use Rattle.rc_ids.specs.Tables.{In, found, put}
use Rattle.rc_ids.specs.Cluster.{Layout, is_dc}
use Rattle.rc_ids.specs.declared.names.Outcome.{Outcome}
use Rattle.rc_body.specs.Decisions.{outcome_of}
use Rattle.rc_body.specs.declared.entry.Entry.{Entry}
use Rattle.rc_body.specs.declared.decision.Decision.{Decision}
use Rattle.rc_body.specs.declared.decision.Decision.TheVariants.{Commit, Abort}
use Rattle.rc_msg.specs.declared.msg.Msg.{Msg}
use Rattle.rc_msg.specs.declared.msg.Msg.TheVariants.{ReadAsk, ReadCancel, Prepare, Finish, CatchPage}
use Rattle.rc_record.specs.declared.record.Record.{Record}
use Rattle.rc_record.specs.declared.record.Record.TheVariants.{Head, Prepared as PartPrepared, Finished, Promised, Accepted, Decided}
use Rattle.rc_record.specs.ShardState.{ShardDurable, new_durable, settled, settled_new, settled_all, shard_applied}
use Rattle.rc_protocol.specs.Messages.{shard_server}
use Rattle.rc_protocol.specs.Shard.{ShardVolatile, ShardAct, test, concerns, cut_to_part, is_free, ignores_ask, on_prepare, unfinished, is_next_shard_page, with_shard_cursor, takes_page, shard_row}
use Rattle.rc_protocol.specs.Nodes.{shard_replayed, applied, logged}
use Rattle.rc_agreement.proofs.Cases.{on_cond, on_maybe, some_is}
use Rattle.rc_agreement.proofs.Tables.{put_cases, in_map}
use Rattle.rc_protocol.specs.Acts.{NodeCause, Came, Catches, Takes}
use Rattle.rc_agreement.proofs.Scenes.{Scene, shard_in, DueTo, shard_act_of}
use Rattle.rc_agreement.proofs.Learning.{LearnsAll, FinishesAt, cut_finishes, Knows, Ended, Heard}
use Rattle.rc_agreement.proofs.HonestRows.{in_filter}

abbrev pub ShardNotes : Scene → ℕ → Option Record → Type 0
ShardNotes s sh (Some (Finished es)) = (t : ℕ) (o : Decision) → In (t, o) es → FinishesAt s sh t o
ShardNotes s sh _ = Unit {0}

module _ (s : Scene) (d sh : ℕ) (h : Heard s) where
  abbrev cl : Layout
  cl = s.parties.layout

  abbrev dur : ShardDurable
  dur = (shard_in s d sh).durable

  abbrev vol : ShardVolatile
  vol = (shard_in s d sh).volatile

  abbrev N : ShardAct → Type 0
  N a = ShardNotes s sh a.logs

  page_notes : (v : ShardVolatile) (es : List (ℕ × Decision)) → ((t : ℕ) (o : Decision) → In (t, o) es → FinishesAt s sh t o) → N (takes_page d dur v es)
  page_notes v [] k = tt
  page_notes v (e ∷ es) k = k

  unfinished_notes : (page : List (ℕ × Decision)) → LearnsAll s page → (t : ℕ) (o : Decision) → In (t, o) (unfinished cl sh dur page) → FinishesAt s sh t o
  unfinished_notes page k t o i =
      let x = in_map (λ (e : ℕ × Decision). (e.0, cut_to_part cl sh e.1)) (t, o) (filter (λ (e : ℕ × Decision). is_none (found nat_cmp dur.finished e.0) && concerns cl sh e.1) page) i in
      let f = cut_finishes s sh x.0.0 x.0.1 (k x.0.0 x.0.1 (in_filter _ x.0 page x.1)) in
      subst (λ (z : ℕ × Decision). FinishesAt s sh z.0 z.1) x.2 f

  prepare_notes : (t : ℕ) (p : List Entry) → N (on_prepare d sh dur vol t p)
  prepare_notes t p =
      on_cond N (is_some (found nat_cmp dur.finished t)) _ _ (λ _. tt)
      (λ _. on_cond N (is_some (found nat_cmp dur.parts t)) _ _ (λ _. tt) (λ _. on_maybe N (test dur vol t p) _ _ (λ _. tt) (λ _ _. tt)))

  pub shard_notes : (k : NodeCause) → DueTo s d sh k → N (shard_act_of s d sh k)
  shard_notes Catches due = tt
  shard_notes (Takes t) due = absurd due
  shard_notes (Came from m) due = comes m (h.says _ due)
    where
      comes : (m : Msg) → Knows s (shard_server d sh) m → N (shard_row cl d sh dur vol m)
      comes (ReadAsk t k) x = on_cond N (ignores_ask dur vol t k) _ _ (λ _. tt) (λ _. on_cond N (is_free dur.parts (k, t)) _ _ (λ _. tt) (λ _. tt))
      comes (ReadCancel t k) x = tt
      comes (Prepare t p) x = prepare_notes t p
      comes (Finish t o) x =
          let at : shard_server d sh ≡ shard_server x.0 x.1 = x.2 in
          let same : x.1 ≡ sh = (cc) in
          on_cond N (is_some (found nat_cmp dur.finished t)) _ _ (λ _. tt)
          (λ _ u p i. ⊎_elim (λ (e : (t, o) ≡ (u, p)). subst (λ (z : ℕ × Decision). FinishesAt s sh z.0 z.1) e (subst (λ n. FinishesAt s n t o) same x.3)) (λ n. absurd n) i)
      comes (CatchPage e place es) x =
          on_cond N (is_dc cl e) _ _
          (λ _. on_cond N (is_next_shard_page vol place es) _ _ (λ _. page_notes (with_shard_cursor vol (place + length es)) (unfinished cl sh dur es) (unfinished_notes es x)) (λ _. tt))
          (λ _. tt)
      comes _ x = tt

-- WHAT IS FINISHED after a record
pub settled_is : (x : ShardDurable) (t : ℕ) (o : Decision) → (settled x t o).finished ≡ put nat_cmp x.finished t (outcome_of o)
settled_is x t Abort = refl
settled_is x t (Commit p) = refl

pub settled_finished : (es : List (ℕ × Decision)) (x : ShardDurable) (t : ℕ) (outcome : Outcome) → found nat_cmp (settled_all x es).finished t ≡ Some outcome
    → (found nat_cmp x.finished t ≡ Some outcome) ⊎ ((o : Decision) × In (t, o) es × (outcome_of o ≡ outcome))
settled_finished [] x t outcome is = inl is
settled_finished (e ∷ es) x t outcome is =
    ⊎_elim
    (λ (before : found nat_cmp (settled_new x e).finished t ≡ Some outcome).
    on_maybe (λ (y : ShardDurable). found nat_cmp y.finished t ≡ Some outcome → (found nat_cmp x.finished t ≡ Some outcome) ⊎ ((o : Decision) × In (t, o) (e ∷ es) × (outcome_of o ≡ outcome)))
    (found nat_cmp x.finished e.0) (settled x e.0 e.1) (λ _. x)
    (λ _ k. let m : found nat_cmp (put nat_cmp x.finished e.0 (outcome_of e.1)) t ≡ Some outcome = subst (λ f. found nat_cmp f t ≡ Some outcome) (settled_is x e.0 e.1) k in
    ⊎_elim
    (λ (same : (t ≡ e.0) × (found nat_cmp (put nat_cmp x.finished e.0 (outcome_of e.1)) t ≡ Some (outcome_of e.1))).
    inr (e.1, inl (λ i. (sym same.0 i, e.1)), some_is _ _ (sym same.1 ∙ m)))
    (λ (other : (t ≡ e.0 → ⊥) × (found nat_cmp (put nat_cmp x.finished e.0 (outcome_of e.1)) t ≡ found nat_cmp x.finished t)). inl (sym other.1 ∙ m))
    (put_cases t e.0 (outcome_of e.1) x.finished))
    (λ _ _ k. inl k) before)
    (λ (new : (o : Decision) × In (t, o) es × (outcome_of o ≡ outcome)). inr (new.0, inr new.1, new.2))
    (settled_finished es (settled_new x e) t outcome is)

ended_of : (s : Scene) (sh t : ℕ) (o : Decision) → FinishesAt s sh t o → Ended s t (outcome_of o)
ended_of s sh t Abort l = record { decision = Abort; is = refl; learned = l }
ended_of s sh t (Commit p) l = record { decision = Commit l.0; is = refl; learned = l.1 }

pub finished_after : (s : Scene) (sh : ℕ) (r : Option Record) (x : ShardDurable) → ShardNotes s sh r
    → ((t : ℕ) (outcome : Outcome) → found nat_cmp x.finished t ≡ Some outcome → Ended s t outcome)
    → (t : ℕ) (outcome : Outcome) → found nat_cmp (applied shard_applied x r).finished t ≡ Some outcome → Ended s t outcome
finished_after s sh None x n h t outcome is = h t outcome is
finished_after s sh (Some (Finished es)) x n h t outcome is =
    ⊎_elim (λ old. h t outcome old)
    (λ (new : (o : Decision) × In (t, o) es × (outcome_of o ≡ outcome)). subst (Ended s t) new.2 (ended_of s sh t new.0 (n t new.0 new.1)))
    (settled_finished es x t outcome is)
finished_after s sh (Some (Head p)) x n h t outcome is = h t outcome is
finished_after s sh (Some (PartPrepared u p)) x n h t outcome is = h t outcome is
finished_after s sh (Some (Promised u b)) x n h t outcome is = h t outcome is
finished_after s sh (Some (Accepted u b o)) x n h t outcome is = h t outcome is
finished_after s sh (Some (Decided p)) x n h t outcome is = h t outcome is

replay_more : (x : ShardDurable) (rs : List Record) (r : Record) → shard_replayed x (rs ++ r ∷ []) ≡ shard_applied (shard_replayed x rs) r
replay_more x [] r = refl
replay_more x (y ∷ rs) r = replay_more (shard_applied x y) rs r

pub shard_replay_logged : (r : Option Record) (log : List Record) → applied shard_applied (shard_replayed new_durable log) r ≡ shard_replayed new_durable (logged log r)
shard_replay_logged None log = refl
shard_replay_logged (Some r) log = sym (replay_more new_durable log r)

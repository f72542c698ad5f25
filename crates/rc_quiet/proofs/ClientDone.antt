-- A client that becomes done prints the outcome that it learns.
use Rattle.std.proofs.Common.{◌≡◌, ℕ, List, refl, sym, ◌∙◌, Bool, true, false, Some, inl, true≢false}
use Rattle.std.specs.Prelude.{not, ◌&&◌, ◌==◌}
use Rattle.rc_ids.specs.Tables.{In}
use Rattle.rc_ids.specs.Cluster.{Layout, is_dc, is_quorum}
use Rattle.rc_body.specs.Decisions.{outcome_of}
use Rattle.rc_body.specs.declared.decision.Decision.{Decision}
use Rattle.rc_msg.specs.declared.msg.Msg.{Msg}
use Rattle.rc_msg.specs.declared.msg.Msg.TheVariants.{Granted, Voted, Refused, Decided}
use Rattle.rc_report.specs.declared.line.Line.TheVariants.{Learned}
use Rattle.rc_protocol.specs.Coordinator.{is_decided_by}
use Rattle.rc_protocol.specs.Client.{Client, ClientAct, Slot, KeyRead, NotRead, UnderWay, Complete, Grant, is_done, is_over, is_committing, is_proposed, is_under_way, reads_on, client_stays, with_slots, is_worn, proposes, slot_of, slot_set, reads_again, do_read, waits_for_read, reads_begun, do_commit, granted_by, cancels, completed, read_line, after_read, unless_refused, with_grant, takes_grant, wants_grant, on_granted, counts_refusal, client_row}
use Rattle.rc_protocol.specs.Acts.{ClientCause, Hears, Reads, Writes, Commits, Cancels, Retries, Vanishes, client_by_row, client_act, refusal}
use Rattle.rc_agreement.proofs.Cases.{on_cond, on_maybe}

module _ (c : Layout) (t : ℕ) (x : Client) (n : is_done x.phase ≡ false) where
  abbrev Prints : ClientAct → Type 0
  Prints a = is_done a.after.phase ≡ true → (o : Decision) × (a.after.outcome ≡ Some o) × In (Learned t (outcome_of o)) a.lines

  same : {A : Type 0} → is_done x.phase ≡ true → A
  same e = absurd (true≢false (sym e ∙ n))

  other : {A : Type 0} → ◌≡◌ {A = Bool} false true → A
  other e = absurd (true≢false (sym e))

  read_row : (q : List ℕ) → Prints (do_read c t x q)
  read_row q = on_maybe Prints (slot_of x.slots q) _ _ (λ _. same) (λ s _. on_maybe Prints s.write _ _ (λ _. again s.read) (λ v _. same))
    where
      again : (r : KeyRead) → Prints (reads_again t x q r)
      again (Complete v y) = same
      again (UnderWay p gs) = same
      again NotRead = same

  commit_row : Prints (do_commit c t x)
  commit_row = on_cond Prints (waits_for_read (reads_begun x.slots)) _ _ (λ _. other) (λ _. on_cond Prints (is_worn x.slots) _ _ (λ _. same) (λ _. other))

  granted_row : (q : List ℕ) (g : Grant) → Prints (on_granted c t x q g)
  granted_row q g =
      on_cond Prints (reads_on x.phase) _ _ (λ _. on_maybe Prints (slot_of x.slots q) _ _ (λ _. same) (λ s _. on_cond Prints (wants_grant s g.dc) _ _ (λ _. takes s) (λ _. same))) (λ _. same)
    where
      takes : (s : Slot) → Prints (takes_grant c t x s g)
      takes s =
          let gs : List Grant = with_grant s g in
          let y : Client = with_slots x (slot_set x.slots (completed s gs)) in
          on_cond Prints (is_quorum c (granted_by gs)) _ _
          (λ _. on_cond (λ a. Prints (unless_refused x (after_read (cancels c t s.key gs) (read_line t s gs) a))) (is_committing y.phase && not (waits_for_read y.slots)) (proposes c t y) (client_stays y)
          (λ _. on_cond (λ a. Prints (unless_refused x (after_read (cancels c t s.key gs) (read_line t s gs) a))) (is_worn y.slots) _ _ (λ _. same) (λ _. other))
          (λ _. same))
          (λ _. same)

  hears_row : (m : Msg) → Prints (client_row c t x m)
  hears_row (Granted u q d v y) = on_cond Prints ((u == t) && is_dc c d) _ _ (λ _. granted_row q (record { dc = d; version = v; value = y })) (λ _. same)
  hears_row (Voted u b d o) = on_cond Prints ((u == t) && is_dc c d) _ _ (λ _. on_cond Prints (is_over x.phase) _ _ (λ _. same) (λ _. on_cond Prints (is_decided_by c x.votes b d o) _ _ (λ _ _. (o, refl, inl refl)) (λ _. same))) (λ _. same)
  hears_row (Refused u b d r) = on_cond Prints ((u == t) && is_dc c d) _ _ (λ _. on_cond Prints (counts_refusal x b d) _ _ (λ _. same) (λ _. same)) (λ _. same)
  hears_row (Decided u o) = on_cond Prints (u == t) _ _ (λ _. on_cond Prints (is_over x.phase) _ _ (λ _. same) (λ _ _. (o, refl, inl refl))) (λ _. same)
  hears_row _ = same

  row : (k : ClientCause) → Prints (client_by_row c t x k)
  row (Hears m) = hears_row m
  row (Reads q) = read_row q
  row (Writes q value) = same
  row Commits = commit_row
  row (Cancels q) = on_maybe Prints (slot_of x.slots q) _ _ (λ _. same) (λ s _. on_cond Prints (is_under_way s.read) _ _ (λ _. same) (λ _. same))
  row Retries = on_cond Prints (is_proposed x.phase) _ _ (λ _. same) (λ _. on_cond Prints (reads_on x.phase) _ _ (λ _. same) (λ _. same))
  row Vanishes = other

  pub done_prints : (k : ClientCause) → Prints (client_act c t x k)
  done_prints k = on_maybe Prints (refusal x k) _ _ (λ _. row k) (λ _ _. same)

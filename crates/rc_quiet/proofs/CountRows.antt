-- A vote that comes to t's client is counted, and stays so; and so is a grant.
use Rattle.std.proofs.Common.{◌≡◌, ℕ, List, refl, sym, ap, ◌∙◌, subst, true, Option, Some, ◌⊎◌, inl, inr, ⊎_elim, true≢false}
use Rattle.std.specs.Prelude.{not, ◌&&◌, ◌==◌}
use Rattle.std.specs.Ordering.{nat_cmp}
use Rattle.std.proofs.lemmas.Bool.{eq-eqb}
use Rattle.rc_ids.specs.Tables.{In, Table, found, put, member, maybe}
use Rattle.rc_ids.specs.Cluster.{Layout, is_dc, is_quorum}
use Rattle.rc_ids.proofs.QuorumFacts.{in-member, member-in}
use Rattle.rc_body.specs.declared.decision.Decision.{Decision}
use Rattle.rc_body.specs.declared.decision.Decision.TheVariants.{Commit, Abort}
use Rattle.rc_msg.specs.declared.msg.Msg.{Msg}
use Rattle.rc_msg.specs.declared.msg.Msg.TheVariants.{Granted, Voted, Refused, Decided}
use Rattle.rc_protocol.specs.Coordinator.{Standing, nobody, stands_for, standing_for, standing_at, counted, is_decided_by}
use Rattle.rc_protocol.specs.Client.{Client, ClientAct, Phase, Open, Committing, Proposed, Done, Vanished, Slot, KeyRead, NotRead, UnderWay, Complete, Grant, is_over, is_open, is_committing, is_proposed, reads_on, client_stays, with_slots, is_worn, proposes, slot_of, slot_set, reads_again, do_read, is_under_way, waits_for_read, reads_begun, do_commit, do_retry, granted_by, cancels, completed, read_line, after_read, unless_refused, with_grant, takes_grant, wants_grant, on_granted, counts_refusal, client_row, KeyWornOut}
use Rattle.rc_protocol.specs.Acts.{ClientCause, Hears, Reads, Writes, Commits, Cancels, Retries, Vanishes, client_by_row, client_act}
use Rattle.rc_agreement.proofs.Cases.{on_cond, on_maybe}
use Rattle.rc_agreement.proofs.Tables.{put_cases, put_same, added_has}
use Rattle.rc_agreement.proofs.Ballots.{Late}
use Rattle.rc_agreement.proofs.ClientRows.{Ready}
use Rattle.rc_agreement.proofs.ClientSlots.{both, slot_in}
use Rattle.rc_causes.proofs.ReadSlots.{Has, read_stays}
use Rattle.rc_causes.proofs.ReadGrants.{Counts, counts_stay, grant_counts}
use Rattle.rc_quiet.proofs.Parts.{IsBegun, IsDone, CountsVote, ClientShape}
use Rattle.rc_quiet.proofs.ClientDoes.{DropsNone}

-- VOTES
-- who stands goes on standing after one more vote
stands_still : (v : Standing) (o p : Decision) (d e : ℕ) → In e (standing_for v p) → In e (standing_for (stands_for v o d) p)
stands_still v Abort Abort d e i = added_has e d v.aborts (inr i)
stands_still v Abort (Commit y) d e i = i
stands_still v (Commit z) Abort d e i = i
stands_still v (Commit z) (Commit y) d e i = added_has e d v.commits (inr i)

stands_now : (v : Standing) (o : Decision) (d : ℕ) → In d (standing_for (stands_for v o d) o)
stands_now v Abort d = added_has d d v.aborts (inl refl)
stands_now v (Commit z) d = added_has d d v.commits (inl refl)

counted_still : (votes : Table ℕ Standing) (a f : ℕ) (p : Decision) (b d : ℕ) (o : Decision) → member nat_cmp (standing_for (standing_at votes b) o) d ≡ true → member nat_cmp (standing_for (standing_at (counted votes a f p) b) o) d ≡ true
counted_still votes a f p b d o h =
    let new : Standing = stands_for (standing_at votes a) p f in
    ⊎_elim
    (λ (e : (b ≡ a) × (found nat_cmp (put nat_cmp votes a new) b ≡ Some new)).
    let n = e.0 in
    let old : In d (standing_for (standing_at votes a) o) = in-member (standing_for (standing_at votes a) o) d (subst (λ (k : ℕ). member nat_cmp (standing_for (standing_at votes k) o) d ≡ true) n h) in
    subst (λ (z : Option Standing). member nat_cmp (standing_for (maybe z nobody (λ y. y)) o) d ≡ true) (sym e.1) (member-in (standing_for new o) d (stands_still (standing_at votes a) p o f d old)))
    (λ (e : (b ≡ a → ⊥) × (found nat_cmp (put nat_cmp votes a new) b ≡ found nat_cmp votes b)).
    subst (λ (z : Option Standing). member nat_cmp (standing_for (maybe z nobody (λ y. y)) o) d ≡ true) (sym e.1) h)
    (put_cases b a new votes)

counted_now : (votes : Table ℕ Standing) (b d : ℕ) (o : Decision) → member nat_cmp (standing_for (standing_at (counted votes b d o) b) o) d ≡ true
counted_now votes b d o =
    let new : Standing = stands_for (standing_at votes b) o d in
    subst (λ (z : Option Standing). member nat_cmp (standing_for (maybe z nobody (λ y. y)) o) d ≡ true) (sym (put_same b new votes)) (member-in (standing_for new o) d (stands_now (standing_at votes b) o d))

over_apart : (p : Phase) → is_over p ≡ true → (reads_on p ≡ true → ⊥) × (is_open p ≡ true → ⊥)
over_apart Open e = absurd (true≢false (sym e))
over_apart Committing e = absurd (true≢false (sym e))
over_apart Proposed e = absurd (true≢false (sym e))
over_apart Done e = ((λ f. true≢false (sym f)), (λ f. true≢false (sym f)))
over_apart Vanished e = ((λ f. true≢false (sym f)), (λ f. true≢false (sym f)))

module _ (t : ℕ) (c : Layout) (x : Client) (b d : ℕ) (o : Decision) where
  -- where it was counted, it is after the act
  record V (p : Phase) (votes : Table ℕ Standing) : Type 0 where
    over : is_over x.phase ≡ true → is_over p ≡ true
    member_still : member nat_cmp (standing_for (standing_at x.votes b) o) d ≡ true → (is_over p ≡ true) ⊎ (member nat_cmp (standing_for (standing_at votes b) o) d ≡ true)

  abbrev W : ClientAct → Type 0
  W a = V a.after.phase a.after.votes

  same : V x.phase x.votes
  same = record { over = λ e. e; member_still = inr }

  -- a client that still reads may go on to another phase
  moves : (p : Phase) → (is_over x.phase ≡ true → ⊥) → V p x.votes
  moves p n = record { over = λ e. absurd (n e); member_still = inr }

  read_row : is_open x.phase ≡ true → (q : List ℕ) → W (do_read c t x q)
  read_row e q = on_maybe W (slot_of x.slots q) _ _ (λ _. same) (λ s _. on_maybe W s.write _ _ (λ _. again s.read) (λ v _. same))
    where
      again : (r : KeyRead) → W (reads_again t x q r)
      again (Complete v y) = same
      again (UnderWay p gs) = same
      again NotRead = same

  commit_row : is_open x.phase ≡ true → W (do_commit c t x)
  commit_row e =
      on_cond W (waits_for_read (reads_begun x.slots)) _ _ (λ _. moves Committing (λ f. (over_apart x.phase f).1 e))
      (λ _. on_cond W (is_worn x.slots) _ _ (λ _. same) (λ _. moves Proposed (λ f. (over_apart x.phase f).1 e)))

  retry_row : W (do_retry c t x)
  retry_row = on_cond W (is_proposed x.phase) _ _ (λ _. same) (λ _. on_cond W (reads_on x.phase) _ _ (λ _. same) (λ _. same))

  granted_row : (q : List ℕ) (g : Grant) → W (on_granted c t x q g)
  granted_row q g =
      on_cond W (reads_on x.phase) _ _
      (λ early. on_maybe W (slot_of x.slots q) _ _ (λ _. same) (λ s _. on_cond W (wants_grant s g.dc) _ _ (λ _. takes early s) (λ _. same)))
      (λ _. same)
    where
      takes : reads_on x.phase ≡ true → (s : Slot) → W (takes_grant c t x s g)
      takes early s =
          let gs : List Grant = with_grant s g in
          let y : Client = with_slots x (slot_set x.slots (completed s gs)) in
          on_cond W (is_quorum c (granted_by gs)) _ _
          (λ _. on_cond (λ a. W (unless_refused x (after_read (cancels c t s.key gs) (read_line t s gs) a))) (is_committing y.phase && not (waits_for_read y.slots)) (proposes c t y) (client_stays y)
          (λ _. on_cond (λ a. W (unless_refused x (after_read (cancels c t s.key gs) (read_line t s gs) a))) (is_worn y.slots) _ _ (λ _. same) (λ _. moves Proposed (λ f. (over_apart x.phase f).0 early)))
          (λ _. same))
          (λ _. same)

  hears_row : (m : Msg) → W (client_row c t x m)
  hears_row (Granted u q e v y) = on_cond W ((u == t) && is_dc c e) _ _ (λ _. granted_row q (record { dc = e; version = v; value = y })) (λ _. same)
  hears_row (Voted u a e p) =
      on_cond W ((u == t) && is_dc c e) _ _
      (λ _. on_cond W (is_over x.phase) _ _ (λ _. same)
      (λ _. on_cond W (is_decided_by c x.votes a e p) _ _ (λ _. record { over = λ _. refl; member_still = λ _. inl refl }) (λ _. record { over = λ f. f; member_still = λ h. inr (counted_still x.votes a e p b d o h) })))
      (λ _. same)
  hears_row (Refused u a e r) = on_cond W ((u == t) && is_dc c e) _ _ (λ _. on_cond W (counts_refusal x a e) _ _ (λ _. same) (λ _. same)) (λ _. same)
  hears_row (Decided u p) = on_cond W (u == t) _ _ (λ _. on_cond W (is_over x.phase) _ _ (λ _. same) (λ _. record { over = λ _. refl; member_still = λ _. inl refl })) (λ _. same)
  hears_row _ = same

  row : (k : ClientCause) → DropsNone k → Ready x k → W (client_by_row c t x k)
  row (Hears m) none ready = hears_row m
  row (Reads q) none ready = read_row ready q
  row (Writes q value) none ready = same
  row Commits none ready = commit_row ready
  row (Cancels q) none ready = absurd none
  row Retries none ready = retry_row
  row Vanishes none ready = absurd none

  pub counts_on : (k : ClientCause) → DropsNone k → Ready x k → CountsVote t x b d o → CountsVote t (client_by_row c t x k).after b d o
  counts_on k none ready h = let r = row k none ready in ⊎_elim (λ e. inl (r.over e)) r.member_still h

  -- the vote that comes
  pub counts_now : is_dc c d ≡ true → CountsVote t (client_by_row c t x (Hears (Voted t b d o))).after b d o
  counts_now dc =
      on_cond (λ (a : ClientAct). CountsVote t a.after b d o) ((t == t) && is_dc c d) _ _
      (λ _. on_cond (λ (a : ClientAct). CountsVote t a.after b d o) (is_over x.phase) _ _ (λ over. inl over)
      (λ _. on_cond (λ (a : ClientAct). CountsVote t a.after b d o) (is_decided_by c x.votes b d o) _ _ (λ _. inl refl) (λ _. inr (counted_now x.votes b d o))))
      (λ no. absurd (true≢false (sym (both (t == t) (is_dc c d) (eq-eqb t t refl) dc) ∙ no)))

-- GRANTS
module _ (t : ℕ) (c : Layout) (x : Client) (shape : ClientShape t c x) (q : List ℕ) (begun : Has IsBegun q x.slots) (d version : ℕ) (value : Option (List ℕ)) (dc : is_dc c d ≡ true) where
  early_or_late : (p : Phase) → Late p ⊎ (reads_on p ≡ true)
  early_or_late Open = inr refl
  early_or_late Committing = inr refl
  early_or_late Proposed = inl tt
  early_or_late Done = inl tt
  early_or_late Vanished = inl tt

  -- the grant that comes counts, unless a version is worn out
  pub grant_kept : ((client_act c t x (Hears (Granted t q d version value))).refused ≡ Some KeyWornOut → ⊥) → Has (Counts d) q (client_act c t x (Hears (Granted t q d version value))).after.slots
  grant_kept fresh = by begun.slot.read refl begun.holds
    where
      done : IsDone begun.slot.read → Has (Counts d) q (client_act c t x (Hears (Granted t q d version value))).after.slots
      done h = read_stays c t x q (Unit {0}) (Counts d) (counts_stay c d) (record { slot = begun.slot; at = begun.at; holds = counts begun.slot.read h }) (Hears (Granted t q d version value)) (λ e. cc) (λ v y i. tt)
        where
          counts : (r : KeyRead) → IsDone r → Counts d r
          counts (Complete v y) h = tt
          counts NotRead h = absurd h
          counts (UnderWay p gs) h = absurd h

      by : (r : KeyRead) → begun.slot.read ≡ r → IsBegun r → Has (Counts d) q (client_act c t x (Hears (Granted t q d version value))).after.slots
      by NotRead e h = absurd h
      by (Complete v y) e h = done (subst IsDone (sym e) tt)
      by (UnderWay p gs) e h =
          ⊎_elim
          (λ late. absurd (subst IsDone e (shape.complete late begun.slot (slot_in q x.slots begun.slot begun.at).0)))
          (λ early. grant_counts c t x q begun.slot begun.at (ap is_under_way e) d version value early dc fresh)
          (early_or_late x.phase)

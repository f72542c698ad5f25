-- A client prints only its own outcome, once it holds it.
use Rattle.std.proofs.Common.{◌≡◌, ℕ, List, [], ◌∷◌, refl, subst, Some, ⊎_elim}
use Rattle.std.specs.Prelude.{not, ◌&&◌, ◌==◌}
use Rattle.rc_ids.specs.Tables.{In}
use Rattle.rc_ids.specs.Cluster.{Layout, is_dc, is_quorum}
use Rattle.rc_ids.specs.declared.names.Outcome.{Outcome}
use Rattle.rc_body.specs.Decisions.{outcome_of}
use Rattle.rc_body.specs.declared.decision.Decision.{Decision}
use Rattle.rc_msg.specs.declared.msg.Msg.{Msg}
use Rattle.rc_msg.specs.declared.msg.Msg.TheVariants.{Granted, Voted, Refused, Decided}
use Rattle.rc_report.specs.declared.line.Line.{Line}
use Rattle.rc_report.specs.declared.line.Line.TheVariants.{Read as ReadLine, Own, Refused as RefusedLine, Learned}
use Rattle.rc_protocol.specs.Messages.{Posts}
use Rattle.rc_protocol.specs.Coordinator.{is_decided_by}
use Rattle.rc_protocol.specs.Client.{Client, ClientAct, Slot, KeyRead, Complete, Grant, is_over, is_committing, is_proposed, reads_on, client_stays, with_slots, is_worn, proposes, slot_of, slot_set, reads_again, do_read, is_under_way, waits_for_read, reads_begun, do_commit, best_grant, granted_by, cancels, completed, read_line, after_read, unless_refused, with_grant, prints_of, takes_grant, wants_grant, on_granted, with_vote, client_learns, counts_refusal, client_row}
use Rattle.rc_agreement.proofs.Cases.{on_cond, on_maybe}
use Rattle.rc_protocol.specs.Acts.{ClientCause, Hears, Reads, Writes, Commits, Cancels, Retries, Vanishes, client_by_row, client_act, refusal}

-- an outcome among these lines is t's, and the client holds it
pub record Announces (t : ℕ) (y : Client) (lines : List Line) : Type 0 where
  pub each : (u : ℕ) (outcome : Outcome) → In (Learned u outcome) lines → (u ≡ t) × (o : Decision) × (y.outcome ≡ Some o) × (outcome_of o ≡ outcome)

abbrev IsOther : Line → Type 0
IsOther (Learned t o) = ⊥
IsOther _ = Unit {0}

nothing : (t : ℕ) (y : Client) → Announces t y []
nothing t y = record { each = λ u o i. absurd i }

other : (t : ℕ) (y : Client) (line : Line) → IsOther line → Announces t y (line ∷ [])
other t y line h = record { each = λ u o i. ⊎_elim (λ (e : line ≡ Learned u o). absurd (subst IsOther e h)) (λ n. absurd n) i }

module _ (c : Layout) (t : ℕ) (x : Client) where
  abbrev P : ClientAct → Type 0
  P a = Announces t a.after a.lines

  still : P (client_stays x)
  still = nothing t x

  proposes_prints : (y : Client) (ms : Posts) (ls : List Line) → ((z : Client) → Announces t z ls) → P (unless_refused x (after_read ms ls (proposes c t y)))
  proposes_prints y ms ls h = on_cond (λ a. P (unless_refused x (after_read ms ls a))) (is_worn y.slots) _ _ (λ _. nothing t x) (λ _. h _)

  read_prints : (s : Slot) (gs : List Grant) (z : Client) → Announces t z (read_line t s gs)
  read_prints s gs z = on_cond (Announces t z) (prints_of s.read) _ _ (λ _. other t z (ReadLine t s.key (best_grant gs).0 (best_grant gs).1) tt) (λ _. nothing t z)

  takes_prints : (s : Slot) (g : Grant) → P (takes_grant c t x s g)
  takes_prints s g =
      let gs : List Grant = with_grant s g in
      let y : Client = with_slots x (slot_set x.slots (completed s gs)) in
      on_cond P (is_quorum c (granted_by gs)) _ _
      (λ _. on_cond (λ a. P (unless_refused x (after_read (cancels c t s.key gs) (read_line t s gs) a))) (is_committing y.phase && not (waits_for_read y.slots)) (proposes c t y) (client_stays y)
      (λ _. proposes_prints y (cancels c t s.key gs) (read_line t s gs) (read_prints s gs)) (λ _. read_prints s gs y))
      (λ _. nothing t _)

  granted_prints : (k : List ℕ) (g : Grant) → P (on_granted c t x k g)
  granted_prints k g =
      on_cond P (reads_on x.phase) _ _
      (λ _. on_maybe P (slot_of x.slots k) _ _ (λ _. still) (λ s _. on_cond P (wants_grant s g.dc) _ _ (λ _. takes_prints s g) (λ _. still)))
      (λ _. still)

  again_prints : (k : List ℕ) (r : KeyRead) → P (reads_again t x k r)
  again_prints k (Complete v y) = other t x (ReadLine t k v y) tt
  again_prints k _ = still

  do_read_prints : (k : List ℕ) → P (do_read c t x k)
  do_read_prints k =
      on_maybe P (slot_of x.slots k) _ _ (λ _. nothing t _)
      (λ s _. on_maybe P s.write _ _ (λ _. again_prints k s.read) (λ v _. other t x (Own t k v) tt))

  commit_prints : P (do_commit c t x)
  commit_prints =
      on_cond P (waits_for_read (reads_begun x.slots)) _ _ (λ _. nothing t _)
      (λ _. on_cond P (is_worn x.slots) _ _ (λ _. nothing t _) (λ _. nothing t _))

  learns_prints : (y : Client) (o : Decision) → P (client_learns t y o)
  learns_prints y o =
      record {
        each = λ u outcome i. ⊎_elim
            (λ (e : Learned t (outcome_of o) ≡ Learned u outcome). let n : u ≡ t = (cc) in let m : outcome_of o ≡ outcome = (cc) in (n, o, refl, m))
            (λ n. absurd n) i;
      }

  hears_prints : (m : Msg) → P (client_row c t x m)
  hears_prints (Granted u k d version value) = on_cond P ((u == t) && is_dc c d) _ _ (λ _. granted_prints k (record { dc = d; version = version; value = value })) (λ _. still)
  hears_prints (Voted u b d o) =
      on_cond P ((u == t) && is_dc c d) _ _
      (λ _. on_cond P (is_over x.phase) _ _ (λ _. still) (λ _. on_cond P (is_decided_by c x.votes b d o) _ _ (λ _. learns_prints (with_vote x b d o) o) (λ _. nothing t _)))
      (λ _. still)
  hears_prints (Refused u b d r) = on_cond P ((u == t) && is_dc c d) _ _ (λ _. on_cond P (counts_refusal x b d) _ _ (λ _. other t _ (RefusedLine t d r) tt) (λ _. still)) (λ _. still)
  hears_prints (Decided u o) = on_cond P (u == t) _ _ (λ _. on_cond P (is_over x.phase) _ _ (λ _. still) (λ _. learns_prints x o)) (λ _. still)
  hears_prints _ = still

  row_prints : (k : ClientCause) → P (client_by_row c t x k)
  row_prints (Hears m) = hears_prints m
  row_prints (Reads k) = do_read_prints k
  row_prints (Writes k value) = nothing t _
  row_prints Commits = commit_prints
  row_prints (Cancels k) = on_maybe P (slot_of x.slots k) _ _ (λ _. still) (λ s _. on_cond P (is_under_way s.read) _ _ (λ _. nothing t _) (λ _. still))
  row_prints Retries = on_cond P (is_proposed x.phase) _ _ (λ _. nothing t _) (λ _. on_cond P (reads_on x.phase) _ _ (λ _. nothing t _) (λ _. still))
  row_prints Vanishes = nothing t _

  pub act_prints : (k : ClientCause) → P (client_act c t x k)
  act_prints k = on_maybe P (refusal x k) _ _ (λ _. row_prints k) (λ _ _. nothing t _)

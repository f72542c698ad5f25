-- A client learns only what is chosen, and counts only votes that were cast.
use Rattle.std.proofs.Common.{◌≡◌, ℕ, List, refl, sym, ◌∙◌, subst, Some}
use Rattle.std.specs.Prelude.{not, ◌&&◌, ◌==◌}
use Rattle.std.specs.Ordering.{nat_cmp}
use Rattle.rc_ids.specs.Tables.{found}
use Rattle.rc_ids.specs.Cluster.{Layout, is_dc, is_quorum}
use Rattle.rc_body.specs.declared.decision.Decision.{Decision}
use Rattle.rc_body.specs.declared.reason.Reason.{Reason}
use Rattle.rc_msg.specs.declared.msg.Msg.{Msg}
use Rattle.rc_msg.specs.declared.msg.Msg.TheVariants.{Granted, Voted, Refused, Decided}
use Rattle.rc_report.specs.declared.line.Line.{Line}
use Rattle.rc_protocol.specs.Messages.{Posts, client_of}
use Rattle.rc_protocol.specs.Coordinator.{is_decided_by}
use Rattle.rc_protocol.specs.Client.{Client, ClientAct, Slot, KeyRead, Complete, Grant, is_over, is_committing, is_proposed, reads_on, client_stays, with_slots, is_worn, proposes, slot_of, slot_set, reads_again, do_read, is_under_way, waits_for_read, reads_begun, do_commit, do_cancel, do_retry, granted_by, cancels, completed, read_line, after_read, unless_refused, with_grant, takes_grant, wants_grant, on_granted, with_vote, on_voted, client_learns, counts_refusal, on_refused, client_row}
use Rattle.rc_agreement.proofs.Cases.{on_cond, on_maybe, some_is}
use Rattle.rc_protocol.specs.Acts.{ClientCause, Hears, Reads, Writes, Commits, Cancels, Retries, Vanishes, client_by_row}
use Rattle.rc_agreement.proofs.Scenes.{Scene, DueFor}
use Rattle.rc_agreement.proofs.Ballots.{Vote, Agreeing}
use Rattle.rc_agreement.proofs.Learning.{Learns, Knows, Tallied, tallied_more, decided_now, Heard}

-- what a client of t counts and has learned is so
pub record Learner (s : Scene) (t : ℕ) (x : Client) : Type 0 where
  pub tally : Tallied s t x.votes
  pub outcome : (o : Decision) → x.outcome ≡ Some o → Learns s t o

-- an act that counts and learns nothing
record Alike (x : Client) (a : ClientAct) : Type 0 where
  votes : a.after.votes ≡ x.votes
  outcome : a.after.outcome ≡ x.outcome

pub learner_of : (s : Scene) (t : ℕ) (x : Client) → Heard s → found nat_cmp s.parties.clients t ≡ Some x → Learner s t x
learner_of s t x h is = record { tally = h.tallies t x is; outcome = λ o. h.outcomes t x o is }

module _ (c : Layout) (t : ℕ) (x : Client) where
  abbrev A : ClientAct → Type 0
  A a = Alike x a

  still : Alike x (client_stays x)
  still = record { votes = refl; outcome = refl }

  proposes_alike : (y : Client) (ms : Posts) (ls : List Line) → y.votes ≡ x.votes → y.outcome ≡ x.outcome → Alike x (unless_refused x (after_read ms ls (proposes c t y)))
  proposes_alike y ms ls v o = on_cond (λ a. Alike x (unless_refused x (after_read ms ls a))) (is_worn y.slots) _ _ (λ _. record { votes = refl; outcome = refl }) (λ _. record { votes = v; outcome = o })

  takes_alike : (s : Slot) (g : Grant) → Alike x (takes_grant c t x s g)
  takes_alike s g =
      let gs : List Grant = with_grant s g in
      let y : Client = with_slots x (slot_set x.slots (completed s gs)) in
      on_cond A (is_quorum c (granted_by gs)) _ _
      (λ _. on_cond (λ a. Alike x (unless_refused x (after_read (cancels c t s.key gs) (read_line t s gs) a))) (is_committing y.phase && not (waits_for_read y.slots)) (proposes c t y) (client_stays y)
      (λ _. proposes_alike y (cancels c t s.key gs) (read_line t s gs) refl refl) (λ _. record { votes = refl; outcome = refl }))
      (λ _. record { votes = refl; outcome = refl })

  granted_alike : (k : List ℕ) (g : Grant) → Alike x (on_granted c t x k g)
  granted_alike k g =
      on_cond A (reads_on x.phase) _ _
      (λ _. on_maybe A (slot_of x.slots k) _ _ (λ _. still) (λ s _. on_cond A (wants_grant s g.dc) _ _ (λ _. takes_alike s g) (λ _. still)))
      (λ _. still)

  again_alike : (k : List ℕ) (r : KeyRead) → Alike x (reads_again t x k r)
  again_alike k (Complete v y) = record { votes = refl; outcome = refl }
  again_alike k _ = still

  read_alike : (k : List ℕ) → Alike x (do_read c t x k)
  read_alike k =
      on_maybe A (slot_of x.slots k) _ _ (λ _. record { votes = refl; outcome = refl })
      (λ s _. on_maybe A s.write _ _ (λ _. again_alike k s.read) (λ v _. record { votes = refl; outcome = refl }))

  commit_alike : Alike x (do_commit c t x)
  commit_alike =
      on_cond A (waits_for_read (reads_begun x.slots)) _ _ (λ _. record { votes = refl; outcome = refl })
      (λ _. on_cond A (is_worn x.slots) _ _ (λ _. record { votes = refl; outcome = refl }) (λ _. record { votes = refl; outcome = refl }))

  cancel_alike : (k : List ℕ) → Alike x (do_cancel c t x k)
  cancel_alike k = on_maybe A (slot_of x.slots k) _ _ (λ _. still) (λ s _. on_cond A (is_under_way s.read) _ _ (λ _. record { votes = refl; outcome = refl }) (λ _. still))

  retry_alike : Alike x (do_retry c t x)
  retry_alike = on_cond A (is_proposed x.phase) _ _ (λ _. record { votes = refl; outcome = refl }) (λ _. on_cond A (reads_on x.phase) _ _ (λ _. record { votes = refl; outcome = refl }) (λ _. still))

  refused_alike : (b d : ℕ) (r : Reason) → Alike x (on_refused c t x b d r)
  refused_alike b d r = on_cond A (counts_refusal x b d) _ _ (λ _. record { votes = refl; outcome = refl }) (λ _. still)

module _ (c : Layout) (s : Scene) (t : ℕ) (inv : Agreeing c t s) (x : Client) (h : Learner s t x) where
  abbrev cl : Layout
  cl = s.parties.layout

  abbrev L : ClientAct → Type 0
  L a = Learner s t a.after

  alike_learns : (a : ClientAct) → Alike x a → L a
  alike_learns a e = record { tally = subst (Tallied s t) (sym e.votes) h.tally; outcome = λ o is. h.outcome o (sym e.outcome ∙ is) }

  counts_vote : (b d : ℕ) (o : Decision) → Vote t s d b o → Learner s t (with_vote x b d o)
  counts_vote b d o v = record { tally = tallied_more s t x.votes h.tally b d o v; outcome = h.outcome }

  learns_it : (y : Client) (o : Decision) → Learner s t y → Learns s t o → L (client_learns t y o)
  learns_it y o k l = record { tally = k.tally; outcome = λ p is. subst (Learns s t) (some_is o p is) l }

  voted_learns : (b d : ℕ) (o : Decision) → Vote t s d b o → L (on_voted cl t x b d o)
  voted_learns b d o v =
      on_cond L (is_over x.phase) _ _ (λ _. h)
      (λ _. on_cond L (is_decided_by cl x.votes b d o) _ _
      (λ q. learns_it (with_vote x b d o) o (counts_vote b d o v) (decided_now s t x.votes h.tally b d c inv o v q))
      (λ _. counts_vote b d o v))

  hears_learns : (m : Msg) → Knows s (client_of t) m → L (client_row cl t x m)
  hears_learns (Granted u k d version value) w = on_cond L ((u == t) && is_dc cl d) _ _ (λ _. alike_learns _ (granted_alike cl t x k (record { dc = d; version = version; value = value }))) (λ _. h)
  hears_learns (Voted u b d o) w = on_cond L ((u == t) && is_dc cl d) _ _ (λ _. voted_learns b d o (subst (λ n. Vote n s d b o) (sym w.0) w.1)) (λ _. h)
  hears_learns (Refused u b d r) w = on_cond L ((u == t) && is_dc cl d) _ _ (λ _. alike_learns _ (refused_alike cl t x b d r)) (λ _. h)
  hears_learns (Decided u o) w = on_cond L (u == t) _ _ (λ _. on_cond L (is_over x.phase) _ _ (λ _. h) (λ _. learns_it x o h (subst (λ n. Learns s n o) (sym w.0) w.1))) (λ _. h)
  hears_learns _ w = h

  pub causes_learn : Heard s → (k : ClientCause) → DueFor s t x k → L (client_by_row cl t x k)
  causes_learn all (Hears m) due = hears_learns m (all.says _ due.1)
  causes_learn all (Reads k) due = alike_learns _ (read_alike cl t x k)
  causes_learn all (Writes k value) due = record { tally = h.tally; outcome = h.outcome }
  causes_learn all Commits due = alike_learns _ (commit_alike cl t x)
  causes_learn all (Cancels k) due = alike_learns _ (cancel_alike cl t x k)
  causes_learn all Retries due = alike_learns _ (retry_alike cl t x)
  causes_learn all Vanishes due = record { tally = h.tally; outcome = h.outcome }

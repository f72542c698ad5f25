-- A read is not older than what was chosen before it was asked for, in this life or an earlier one.
use Rattle.std.proofs.Common.{◌≡◌, ℕ, ◌⊎◌, Some, List, [], ◌∷◌, refl, ap, subst, true, false, inl, inr, ⊎_elim, true≢false, sym, ◌∙◌}
use Rattle.std.specs.Ordering.{nat_cmp}
use Rattle.rc_ids.specs.Tables.{In, found, member}
use Rattle.rc_ids.specs.Cluster.{Layout, IsLayout}
use Rattle.rc_body.specs.declared.entry.Entry.{Entry}
use Rattle.rc_body.specs.declared.decision.Decision.TheVariants.{Commit}
use Rattle.rc_msg.specs.declared.msg.Msg.{Msg}
use Rattle.rc_msg.specs.declared.msg.Msg.TheVariants.{ReadAsk}
use Rattle.rc_msg.specs.declared.msg.Envelope.{Envelope}
use Rattle.rc_protocol.specs.Client.{Client}
use Rattle.rc_runs.specs.World.{World, Start}
use Rattle.rc_runs.specs.Refusals.{Happening, run}
use Rattle.rc_claims.specs.Outcomes.{IsFresh}
use Rattle.rc_agreement.proofs.PlainLives.{IsPlainLife}
use Rattle.rc_agreement.proofs.Tables.{in_either}
use Rattle.rc_agreement.proofs.Scenes.{Scene, scene, Keeps, run_keeps}
use Rattle.rc_agreement.proofs.Said.{Said}
use Rattle.rc_agreement.proofs.Learning.{Learns}
use Rattle.rc_agreement.proofs.Named.{is_old}
use Rattle.rc_agreement.proofs.Ghosts.{with_ghosts, Ghost, ghosts_kept, Haunted, haunted_kept}
use Rattle.rc_serial_order.proofs.Conflicts.{ordered_learns}
use Rattle.rc_serial_order.proofs.Asking.{IsNew}
use Rattle.rc_serial_order.proofs.Freshness.{P, fresh_kept, fresh_start}
use Rattle.rc_serial_order.proofs.Histories.{History, history_kept, Gone, past_of, life_history}

said_envelope : (xs : List Envelope) (m : Msg) → Said xs m → (e : Envelope) × In e xs × (e.msg ≡ m)
said_envelope [] m h = absurd h
said_envelope (x ∷ xs) m h = ⊎_elim (λ e. (x, inl refl, e)) (λ j. let r = said_envelope xs m j in (r.0, inr r.1, r.2)) h

-- the logs with which a run began stay those
abbrev Begins : Start → Scene → Type 0
Begins start s = s.parties.start ≡ start

start_kept : (start : Start) → Keeps (Begins start)
start_kept start =
    record {
      turns = λ s d k there due p. p;
      stops = λ s d r there half p. p;
      starts = λ s d there p. p;
      serves = λ s d sh k there due p. p;
      halts = λ s d sh r there half p. p;
      wakes = λ s d sh there p. p;
      begins = λ s u new p. p;
      clients = λ s u x k is due p. p;
    }

module _ (c : Layout) (lay : IsLayout c) (earlier : List World) (w : World) (life : IsPlainLife c earlier w) where
  abbrev History_of : Type 0
  History_of = Haunted (Gone earlier) (History c (past_of earlier)) (scene w)

  -- what was committed in this life or before it
  committed_learns : (h : History_of) (u : ℕ) (body : List Entry) → In (u, body) w.parties.start.committed → Learns (with_ghosts (scene w) h.ghost.clients h.ghost.sent) u (Commit body)
  committed_learns h u body i = let o = h.ghost.holds.1 in o.earlier u body (o.from u body i)

  pub all_learns : (h : History_of) (u : ℕ) (body : List Entry) → In (u, body) w.parties.start.committed ⊎ In (u, body) w.parties.committed → Learns (with_ghosts (scene w) h.ghost.clients h.ghost.sent) u (Commit body)
  all_learns h u body i = ⊎_elim (λ old. committed_learns h u body old) (λ now. ordered_learns c lay (with_ghosts (scene w) h.ghost.clients h.ghost.sent) h.ghost.holds.0.0 u body now) i

  -- a client that is there later is new in this life
  is_new : History_of → (later : List Happening) (t : ℕ) (x : Client) → found nat_cmp (run w later).parties.clients t ≡ Some x → IsNew (scene w) t
  is_new h later t x is =
      let z = run_keeps (Haunted (Gone earlier) (History c (past_of earlier))) (haunted_kept (Gone earlier) (History c (past_of earlier)) (history_kept c lay (past_of earlier))) w later h in
      let same = run_keeps (Begins w.parties.start) (start_kept w.parties.start) w later refl in
      subst (λ (start : Start). member nat_cmp start.named t ≡ false) same (z.new t x is)

  -- what it has not said, no ghost has for it
  not_said : (h : History_of) (t : ℕ) (k : List ℕ) → ((e : Envelope) → In e w.sent → e.msg ≡ ReadAsk t k → ⊥) → Said h.ghost.sent (ReadAsk t k) → ⊥
  not_said h t k none said =
      let e = said_envelope h.ghost.sent (ReadAsk t k) said in
      ⊎_elim
      (λ (i : In e.0 w.sent). none e.0 i e.2)
      (λ (old : is_old (λ _. true) e.0.msg ≡ true). true≢false (sym old ∙ ap (is_old (λ _. true)) e.2))
      (h.said e.0 e.1)

  pub reads_are_fresh : (later : List Happening) → IsFresh w later
  reads_are_fresh later t u k body f version value listed among key write none served =
      let h = life_history c lay earlier w life in
      let s : Scene = with_ghosts (scene w) h.ghost.clients h.ghost.sent in
      let won = all_learns h u body (in_either (u, body) w.parties.start.committed w.parties.committed listed) in
      let first = fresh_start c lay t u won.ballot won.held.set k body f among key write s h.ghost.holds.0 (is_new h later t served.client served.is) won.held.enough won.held.each (not_said h t k none) in
      let start : Ghost (P c lay t u won.ballot won.held.set k body f among key write) (scene w) = record { clients = h.ghost.clients; sent = h.ghost.sent; holds = (h.ghost.holds.0, first); all = h.ghost.all; known = h.ghost.known; back = h.ghost.back } in
      let last = run_keeps (Ghost (P c lay t u won.ballot won.held.set k body f among key write)) (ghosts_kept (P c lay t u won.ballot won.held.set k body f among key write) (fresh_kept c lay t u won.ballot won.held.set k body f among key write)) w later start in
      ((last.holds.1.client served.client (last.known t served.client served.is)).each served.slot served.among).done version value served.read served.key

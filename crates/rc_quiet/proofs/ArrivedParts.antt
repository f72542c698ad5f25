-- What came to t's client and to members was taken: after an event in which others act, and after their own.
use Rattle.std.proofs.Common.{◌≡◌, ℕ, List, [], ◌∷◌, ◌++◌, refl, sym, ap, ◌∙◌, subst, Bool, true, false, Option, Some, None, inl, inr, ⊎_elim}
use Rattle.std.specs.Prelude.{◌||◌, is_some}
use Rattle.std.specs.Ordering.{nat_cmp}
use Rattle.rc_ids.specs.Tables.{In, Table, found, put, member}
use Rattle.rc_ids.specs.declared.names.Outcome.{Outcome}
use Rattle.rc_ids.specs.declared.names.Outcome.TheVariants.{Commit as Committed}
use Rattle.rc_ids.specs.declared.names.Party.{Party}
use Rattle.rc_body.specs.Decisions.{outcome_of}
use Rattle.rc_body.specs.declared.entry.Entry.{Entry}
use Rattle.rc_body.specs.declared.decision.Decision.{Decision}
use Rattle.rc_msg.specs.declared.msg.Envelope.{Envelope}
use Rattle.rc_msg.specs.declared.msg.Msg.{Msg}
use Rattle.rc_msg.specs.declared.msg.Msg.TheVariants.{ReadAsk}
use Rattle.rc_record.specs.declared.record.Record.{Record}
use Rattle.rc_record.specs.declared.record.Record.TheVariants.{Head, Prepared as PartPrepared, Finished, Promised, Accepted, Decided}
use Rattle.rc_record.specs.ShardState.{ShardDurable, settled, settled_new, settled_all, shard_applied}
use Rattle.rc_protocol.specs.Messages.{Posts, shard_server}
use Rattle.rc_protocol.specs.Client.{Client}
use Rattle.rc_protocol.specs.Shard.{mark_cmp, test, on_read_ask, on_prepare}
use Rattle.rc_protocol.specs.Nodes.{ShardNode, applied, shard_after}
use Rattle.rc_runs.specs.declared.event.Event.{Event}
use Rattle.rc_runs.specs.declared.event.Event.TheVariants.{Deliver}
use Rattle.rc_runs.specs.World.{World, shard_at, message, envelopes, delivered_after}
use Rattle.rc_runs.specs.Refusals.{wrong}
use Rattle.rc_agreement.proofs.Cases.{on_maybe, never}
use Rattle.rc_agreement.proofs.Tables.{put_cases, found_in}
use Rattle.rc_agreement.proofs.ShardNotes.{settled_is}
use Rattle.rc_agreement.proofs.ClientSlots.{slot_in}
use Rattle.rc_causes.proofs.ReadSlots.{Has}
use Rattle.rc_quiet.proofs.Parts.{Sent, Came, IsDone, Own, Answers, SaysYes}
use Rattle.rc_quiet.proofs.Ending.{in_message}
use Rattle.rc_quiet.proofs.Growing.{posted_in, more_in}
use Rattle.rc_quiet.proofs.Kept.{Kept}
use Rattle.rc_quiet.proofs.Arrivals.{AreSent, came_now}
use Rattle.rc_quiet.proofs.MemberShards.{Unheld, held_by_none, read_answered, prepare_answered}

-- what is finished stays so
finished_settled : (es : List (ℕ × Decision)) (s : ShardDurable) (t : ℕ) (outcome : Outcome) → found nat_cmp s.finished t ≡ Some outcome → found nat_cmp (settled_all s es).finished t ≡ Some outcome
finished_settled [] s t outcome is = is
finished_settled (e ∷ es) s t outcome is =
    finished_settled es (settled_new s e) t outcome
    (on_maybe (λ (y : ShardDurable). found nat_cmp y.finished t ≡ Some outcome) (found nat_cmp s.finished e.0) (settled s e.0 e.1) (λ _. s)
    (λ none. ap (λ (m : Table ℕ Outcome). found nat_cmp m t) (settled_is s e.0 e.1) ∙ ⊎_elim
    (λ (h : (t ≡ e.0) × (found nat_cmp (put nat_cmp s.finished e.0 (outcome_of e.1)) t ≡ Some (outcome_of e.1))). never outcome (sym none ∙ ap (λ (n : ℕ). found nat_cmp s.finished n) (sym h.0) ∙ is))
    (λ (h : (t ≡ e.0 → ⊥) × (found nat_cmp (put nat_cmp s.finished e.0 (outcome_of e.1)) t ≡ found nat_cmp s.finished t)). h.1 ∙ is)
    (put_cases t e.0 (outcome_of e.1) s.finished))
    (λ _ _. is))

pub finished_still : (r : Option Record) (s : ShardDurable) (t : ℕ) (outcome : Outcome) → found nat_cmp s.finished t ≡ Some outcome → found nat_cmp (applied shard_applied s r).finished t ≡ Some outcome
finished_still None s t outcome is = is
finished_still (Some (Finished es)) s t outcome is = finished_settled es s t outcome is
finished_still (Some (Head h)) s t outcome is = is
finished_still (Some (PartPrepared u p)) s t outcome is = is
finished_still (Some (Promised u b)) s t outcome is = is
finished_still (Some (Accepted u b o)) s t outcome is = is
finished_still (Some (Decided es)) s t outcome is = is

module _ (members : List ℕ) (t : ℕ) (v : World) (e : Event) (ok : wrong v e ≡ None) (kept : Kept members t v.parties v.sent) (are_sent : AreSent v.sent v.delivered) (from : Party) (ms : Posts) where
  abbrev now : List Envelope
  now = v.sent ++ envelopes from ms

  abbrev delivered : List ℕ
  delivered = delivered_after v.delivered e

  abbrev New : Party → Party → Msg → Type 0
  New p to m = (n : ℕ) × (e ≡ Deliver n) × (message v.sent n ≡ Some (record { from = p; to = to; msg = m }))

  -- nothing comes to this party
  abbrev pub Nothing : Party → Type 0
  Nothing to = (p : Party) (n : ℕ) (m : Msg) → e ≡ Deliver n → message v.sent n ≡ Some (record { from = p; to = to; msg = m }) → ⊥

  before : (to : Party) → Nothing to → (p : Party) (m : Msg) → Came (v.sent ++ envelopes from ms) (delivered_after v.delivered e) p to m → Came v.sent v.delivered p to m
  before to none p m h = ⊎_elim (λ old. old) (λ (new : New p to m). absurd (none p new.0 m new.1 new.2)) (came_now v e ok (envelopes from ms) are_sent p to m h)

  -- t's client was asked for what came
  client_there : (p q : Party) (k : List ℕ) → Sent v.sent p q (ReadAsk t k) → (x : Client) × (found nat_cmp v.parties.clients t ≡ Some x)
  client_there p q k i = go (found nat_cmp v.parties.clients t) refl
    where
      go : (o : Option Client) → found nat_cmp v.parties.clients t ≡ o → (x : Client) × (o ≡ Some x)
      go None is = absurd (kept.unasked is p q k i)
      go (Some x) is = (x, refl)

  -- a read that has its answer has it still, where complete reads stay so
  pub answered_frame : (y : Client) → ((x : Client) → found nat_cmp v.parties.clients t ≡ Some x → (q : List ℕ) → Has IsDone q x.slots → Has IsDone q y.slots)
      → (d sh : ℕ) (k : List ℕ) → ((x : Client) → found nat_cmp v.parties.clients t ≡ Some x → Answers t v.sent x d sh k) → (p : Party) → Came v.sent v.delivered p (shard_server d sh) (ReadAsk t k)
      → Answers t (v.sent ++ envelopes from ms) y d sh k
  answered_frame y stays d sh k old p came =
      let x = client_there p (shard_server d sh) k (in_message v.sent came.0 _ came.2) in
      ⊎_elim (λ g. inl (g.0, g.1, more_in v.sent from ms _ g.2)) (λ h. inr (stays x.0 x.1 k h)) (old x.0 x.1)

  pub yes_frame : (d sh : ℕ) (x y : ShardNode) → (found nat_cmp x.durable.finished t ≡ Some Committed → found nat_cmp y.durable.finished t ≡ Some Committed) → SaysYes t v.sent d sh x → SaysYes t (v.sent ++ envelopes from ms) d sh y
  yes_frame d sh x y stays h = ⊎_elim (λ g. inl (more_in v.sent from ms _ g)) (λ f. inr (stays f)) h

-- A SHARD OF A MEMBER ACTS
module _ (members : List ℕ) (t : ℕ) (v : World) (e : Event) (ok : wrong v e ≡ None) (kept : Kept members t v.parties v.sent) (are_sent : AreSent v.sent v.delivered)
    (d sh : ℕ) (x : ShardNode) (m : In d members) (there : shard_at v.parties d sh ≡ Some x) where
  -- where t has proposed its reads are complete
  done : (o : Decision) → Own t v.sent o → (p q : Party) (k : List ℕ) → Sent v.sent p q (ReadAsk t k) → (y : Client) → found nat_cmp v.parties.clients t ≡ Some y → Has IsDone k y.slots
  done o own p q k i y is =
      let late = ((kept.said y is).proposed _ _ o own.1.1).1 in
      let h = (kept.said y is).asks p q k i in
      record { slot = h.slot; at = h.at; holds = (kept.shape y is).complete late h.slot (slot_in k y.slots h.slot h.at).0 }

  -- the read of t that comes
  pub read_comes : (p : Party) (k : List ℕ) → Sent v.sent p (shard_server d sh) (ReadAsk t k)
      → (found nat_cmp x.durable.parts t ≡ None → Unheld t x.durable x.volatile k) → member mark_cmp x.volatile.lost (k, t) ≡ false
      → (y z : Client) → found nat_cmp v.parties.clients t ≡ Some y → z ≡ y
      → Answers t (v.sent ++ envelopes (shard_server d sh) (on_read_ask d x.durable x.volatile t k).sends) z d sh k
  read_comes p k i unheld unlost y z is same = by (found nat_cmp x.durable.parts t) refl
    where
      after : Has IsDone k y.slots → Answers t (v.sent ++ envelopes (shard_server d sh) (on_read_ask d x.durable x.volatile t k).sends) z d sh k
      after h = inr (subst (λ (n : Client). Has IsDone k n.slots) (sym same) h)

      finished : (o : Option Outcome) → found nat_cmp x.durable.finished t ≡ o → is_some o ≡ true → Has IsDone k y.slots
      finished None at f = absurd (cc)
      finished (Some outcome) at f = let h = ((kept.shards d sh x there).finished outcome at).1 in done h.0 h.1 p (shard_server d sh) k i y is

      by : (o : Option (List Entry)) → found nat_cmp x.durable.parts t ≡ o → Answers t (v.sent ++ envelopes (shard_server d sh) (on_read_ask d x.durable x.volatile t k).sends) z d sh k
      by (Some part) at =
          let h = (kept.shards d sh x there).parts part (found_in t x.durable.parts part at) in
          let own = (kept.fits _ h refl).own in
          after (done _ own p (shard_server d sh) k i y is)
      by None at =
          ⊎_elim
          (λ (ignored : (is_some (found nat_cmp x.durable.finished t) || is_some (found nat_cmp x.durable.parts t)) ≡ true).
          after (finished (found nat_cmp x.durable.finished t) refl (first (is_some (found nat_cmp x.durable.finished t)) (subst (λ (o : Option (List Entry)). (is_some (found nat_cmp x.durable.finished t) || is_some o) ≡ true) at ignored))))
          (λ new. inl (_, _, posted_in v.sent (shard_server d sh) _ _ _ new))
          (read_answered t v.parties.layout d sh x.durable x.volatile k unlost (held_by_none t x.durable x.volatile k (unheld at)))
        where
          first : (a : Bool) → (a || false) ≡ true → a ≡ true
          first true f = refl
          first false f = f

  -- the prepare of t that comes
  pub prepare_comes : (p : List Entry) → (found nat_cmp x.durable.finished t ≡ None → found nat_cmp x.durable.parts t ≡ None → test x.durable x.volatile t p ≡ None)
      → SaysYes t (v.sent ++ envelopes (shard_server d sh) (on_prepare d sh x.durable x.volatile t p).sends) d sh (shard_after x (on_prepare d sh x.durable x.volatile t p))
  prepare_comes p ok = go (found nat_cmp x.durable.finished t) refl
    where
      go : (o : Option Outcome) → found nat_cmp x.durable.finished t ≡ o → SaysYes t (v.sent ++ envelopes (shard_server d sh) (on_prepare d sh x.durable x.volatile t p).sends) d sh (shard_after x (on_prepare d sh x.durable x.volatile t p))
      go (Some outcome) at = inr (finished_still (on_prepare d sh x.durable x.volatile t p).logs x.durable t Committed (at ∙ ap Some ((kept.shards d sh x there).finished outcome at).0))
      go None at = inl (posted_in v.sent (shard_server d sh) _ _ _ (prepare_answered t v.parties.layout d sh x.durable x.volatile p at (ok at)))

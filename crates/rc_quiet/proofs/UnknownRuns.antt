-- In every run: who has not begun, and is not named by the logs of the start, is named nowhere; and each number delivered is of a message.
use Rattle.std.proofs.Common.{◌≡◌, ℕ, List, [], ◌++◌, refl, sym, ap, ◌∙◌, subst, true, false, cond, Option, Some, None, ⊎_elim, true≢false}
use Rattle.std.specs.Ordering.{nat_cmp}
use Rattle.std.proofs.lemmas.List.{append-nil}
use Rattle.rc_ids.specs.Tables.{In, found, put, member}
use Rattle.rc_ids.specs.declared.names.NodeId.TheVariants.{Coord}
use Rattle.rc_ids.specs.Cluster.{Layout}
use Rattle.rc_msg.specs.declared.msg.Envelope.{Envelope}
use Rattle.rc_report.specs.declared.fault.Wrong.{Wrong}
use Rattle.rc_report.specs.declared.fault.Wrong.TheVariants.{NotBegun}
use Rattle.rc_protocol.specs.Messages.{client_of, or_else}
use Rattle.rc_protocol.specs.Client.{Client, new_client}
use Rattle.rc_protocol.specs.Coordinator.{do_catch as coord_catches, new_volatile as new_coord_volatile}
use Rattle.rc_protocol.specs.Shard.{do_catch as shard_catches, new_volatile as new_shard_volatile}
use Rattle.rc_protocol.specs.Acts.{client_act, coord_act, shard_act}
use Rattle.rc_protocol.specs.Nodes.{coord_started, shard_started}
use Rattle.rc_runs.specs.declared.event.Event.{Event}
use Rattle.rc_runs.specs.declared.event.Event.TheVariants.{Begin, Take}
use Rattle.rc_runs.specs.World.{World, Parties, Deed, Idle, ByClient, ByCoord, ByShard, CoordStops, ShardStops, kept_record, Start, Course, envelopes, replaced, after_begin, parties_after, sends_of, actor, course_deed, step}
use Rattle.rc_runs.specs.Refusals.{Happening, wrong, wants_up, is_begun, is_event, run}
use Rattle.rc_agreement.proofs.Cases.{on_cond, never}
use Rattle.rc_agreement.proofs.Sends.{to_none}
use Rattle.rc_causes.proofs.Moves.{Move, Rests, ClientActs, CoordActs, CoordWakes, CoordHalts, CoordCrashes, ShardActs, ShardWakes, ShardHalts, ShardCrashes, move_of, coord_joins, shard_joins, client_joins}
use Rattle.rc_claims.specs.Quiet.{moments}
use Rattle.rc_quiet.proofs.Stretches.{over}
use Rattle.rc_quiet.proofs.ClientAfter.{client_after}
use Rattle.rc_quiet.proofs.EventSteps.{begins_or, event_ok}
use Rattle.rc_quiet.proofs.Arrivals.{AreSent, are_sent}
use Rattle.rc_quiet.proofs.Facts.{Facts}
use Rattle.rc_quiet.proofs.Unknown.{Unknown, client_changed, client_acted, cause_blank, shard_cause_blank, coord_goes_blank, coord_halts_blank, coord_crashed_blank, coord_woken_blank, shard_goes_blank, shard_halts_blank, shard_crashed_blank, shard_woken_blank}

-- t has no client, and no log of the start names it
pub record IsNew (t : ℕ) (w : Parties) : Type 0 where
  pub unnamed : member nat_cmp w.start.named t ≡ false
  pub none : found nat_cmp w.clients t ≡ None

new_begun : (t : ℕ) (w : Parties) → IsNew t w → is_begun w t ≡ false
new_begun t w n = let a = n.unnamed in let b = n.none in rw (a, b) refl

-- a take-over is of a transaction that has begun
take_begun : (v : World) (d u : ℕ) → wrong v (Take d u) ≡ None → is_begun v.parties u ≡ true
take_begun v d u ok = go (wants_up v.parties (Coord d)) ok
  where
    go : (o : Option Wrong) → or_else o (cond (is_begun v.parties u) None (Some (NotBegun u))) ≡ None → is_begun v.parties u ≡ true
    go (Some x) e = never _ (sym e)
    go None e = on_cond (λ (o : Option Wrong). o ≡ None → is_begun v.parties u ≡ true) (is_begun v.parties u) None (Some (NotBegun u)) (λ is _. is) (λ _ f. never _ (sym f)) e

module _ (t : ℕ) (c : Layout) (v : World) (e : Event) (course : Course) (ok : wrong v e ≡ None) (facts : Facts c v.parties) (new : IsNew t v.parties) (u : Unknown t v.parties v.sent) where
  abbrev After : Deed → Type 0
  After d = Unknown t (parties_after (after_begin v.parties e) d) (v.sent ++ envelopes (actor v.sent e) (sends_of d))

  joined : (d : Deed) → after_begin v.parties e ≡ v.parties → Unknown t (parties_after v.parties d) (v.sent ++ envelopes (actor v.sent e) (sends_of d)) → After d
  joined d same h = subst (λ (w : Parties). Unknown t (parties_after w d) (v.sent ++ envelopes (actor v.sent e) (sends_of d))) (sym same) h

  not_taken : (d n : ℕ) → e ≡ Take d n → n ≡ t → ⊥
  not_taken d n is same =
      let begun = take_begun v d n (subst (λ (x : Event). wrong v x ≡ None) is ok) in
      true≢false (sym (subst (λ (k : ℕ). is_begun v.parties k ≡ true) same begun) ∙ new_begun t v.parties new)

  restarts : {A : Event} → e ≡ A → after_begin v.parties e ≡ after_begin v.parties A
  restarts is = ap (after_begin v.parties) is

  -- t has no client that could act
  not_own : (n : ℕ) (x : Client) → found nat_cmp v.parties.clients n ≡ Some x → n ≡ t → ⊥
  not_own n x is same = never x (sym new.none ∙ subst (λ (k : ℕ). found nat_cmp v.parties.clients k ≡ Some x) same is)

  rests_blank : After Idle
  rests_blank =
      ⊎_elim
      (λ b. subst (λ (x : Event). Unknown t (after_begin v.parties x) (v.sent ++ [])) (sym b.1)
      (client_changed t v.parties v.sent u (put nat_cmp v.parties.clients b.0 new_client) (client_of b.0) [] (to_none _)))
      (λ same. subst (λ (w : Parties). Unknown t w (v.sent ++ [])) (sym (same v.parties)) (subst (λ (l : List Envelope). Unknown t v.parties l) (sym (append-nil v.sent)) u))
      (begins_or e)

  by_move : (d : Deed) → Move v.parties v.sent e course d → After d
  by_move _ Rests = rests_blank
  by_move _ (ClientActs n x k is why) =
      joined (ByClient n (client_act v.parties.layout n x k)) (client_joins v.parties v.sent e n k why)
      (client_changed t v.parties v.sent u (replaced v.parties.clients n (client_act v.parties.layout n x k).after) (actor v.sent e) (client_act v.parties.layout n x k).sends
      (client_acted t v.parties v.sent u n x k (not_own n x is) (facts.apart n x is)))
  by_move _ (CoordActs d x k there why) = joined (ByCoord d x (coord_act v.parties.layout d x.durable x.volatile k)) (coord_joins v.parties v.sent e d k why) (coord_goes_blank t v.parties v.sent u d x there k (cause_blank t v.parties v.sent u e d k (not_taken d) why) (actor v.sent e))
  by_move _ (CoordWakes d x there why) = joined (ByCoord d (coord_started x.log) (coord_catches v.parties.layout d new_coord_volatile)) (restarts why) (coord_woken_blank t v.parties v.sent u d x there (sym (facts.replays d x there)) (actor v.sent e))
  by_move _ (CoordHalts d x k kept r there why logs stops same) = joined (CoordStops d x (kept_record kept r)) (coord_joins v.parties v.sent e d k why) (coord_halts_blank t v.parties v.sent u d x there k (cause_blank t v.parties v.sent u e d k (not_taken d) why) kept r logs (actor v.sent e))
  by_move _ (CoordCrashes d x there why) = joined (CoordStops d x None) (restarts why) (coord_crashed_blank t v.parties v.sent u d x there (actor v.sent e))
  by_move _ (ShardActs d s x k there why) = joined (ByShard d s x (shard_act v.parties.layout d s x.durable x.volatile k)) (shard_joins v.parties v.sent e d s k why) (shard_goes_blank t v.parties v.sent u d s x there k (shard_cause_blank t v.parties v.sent u e d s k why) (actor v.sent e))
  by_move _ (ShardWakes d s x there why) = joined (ByShard d s (shard_started x.log) (shard_catches d new_shard_volatile)) (restarts why) (shard_woken_blank t v.parties v.sent u d s x there (facts.shard_replays d s x there) (actor v.sent e))
  by_move _ (ShardHalts d s x k kept r there why logs stops same) = joined (ShardStops d s x (kept_record kept r)) (shard_joins v.parties v.sent e d s k why) (shard_halts_blank t v.parties v.sent u d s x there k (shard_cause_blank t v.parties v.sent u e d s k why) kept r logs (actor v.sent e))
  by_move _ (ShardCrashes d s x there why) = joined (ShardStops d s x None) (restarts why) (shard_crashed_blank t v.parties v.sent u d s x there (actor v.sent e))

  pub unknown_still : Unknown t (step v e course).parties (step v e course).sent
  unknown_still = by_move (course_deed v e course) (move_of v.parties v.sent e course)

-- OVER A RUN
deed_start : (w : Parties) (d : Deed) → (parties_after w d).start ≡ w.start
deed_start w Idle = refl
deed_start w (ByClient t a) = refl
deed_start w (ByCoord d x a) = refl
deed_start w (ByShard d s x a) = refl
deed_start w (CoordStops d x r) = refl
deed_start w (ShardStops d s x r) = refl

begin_start : (w : Parties) (e : Event) → (after_begin w e).start ≡ w.start
begin_start w (Begin u) = refl
begin_start w _ = refl

step_start : (v : World) (h : Happening) → (step v h.0 h.1).parties.start ≡ v.parties.start
step_start v h = deed_start (after_begin v.parties h.0) (course_deed v h.0 h.1) ∙ begin_start v.parties h.0

-- who is new after an event was new before it
new_before : (t : ℕ) (v : World) (h : Happening) → wrong v h.0 ≡ None → IsNew t (step v h.0 h.1).parties → IsNew t v.parties
new_before t v h ok new =
    record {
      unnamed = ap (λ (s : Start). member nat_cmp s.named t) (sym (step_start v h)) ∙ new.unnamed;
      none = go (found nat_cmp v.parties.clients t) refl;
    }
  where
    go : (o : Option Client) → found nat_cmp v.parties.clients t ≡ o → o ≡ None
    go None is = refl
    go (Some x) is = let r = client_after t v h.0 h.1 ok x is in never r.0 (sym new.none ∙ r.1)

pub record Unnamed (v : World) : Type 0 where
  pub unknown : (t : ℕ) → IsNew t v.parties → Unknown t v.parties v.sent
  pub sent_before : AreSent v.sent v.delivered

unnamed_still : (c : Layout) (v : World) (h : Happening) → is_event v h ≡ true → Facts c v.parties → Facts c (step v h.0 h.1).parties → Unit {0} → Unnamed v → Unnamed (step v h.0 h.1)
unnamed_still c v h is facts later e u =
    let ok = (event_ok v h is).0 in
    record {
      unknown = λ t new. let before = new_before t v h ok new in unknown_still t c v h.0 h.1 ok facts before (u.unknown t before);
      sent_before = are_sent v h.0 ok (envelopes (actor v.sent h.0) (sends_of (course_deed v h.0 h.1))) u.sent_before;
    }

pub unnamed_over : (c : Layout) (w : World) (hs : List Happening) → ((v : World) → In v (moments w hs) → Facts c v.parties) → Unnamed w → Unnamed (run w hs)
unnamed_over c w hs facts u = over (λ v. Facts c v.parties) (λ v h. Unit {0}) Unnamed (unnamed_still c) w hs facts (λ v h i. tt) u

-- Why refusals are printed.
use Rattle.std.proofs.Common.{◌≡◌, ℕ, ◌<◌, List, [], refl, sym, ◌∙◌, subst, Bool, true, false, cond, Some, None, ⊎_elim}
use Rattle.std.specs.Prelude.{◌==◌, ◌-◌}
use Rattle.rc_ids.specs.Tables.{In}
use Rattle.rc_ids.specs.Cluster.{Layout}
use Rattle.rc_ids.specs.declared.names.NodeId.TheVariants.{Coord, Shard as ShardServer}
use Rattle.rc_ids.specs.declared.names.Party.{Party}
use Rattle.rc_body.specs.declared.entry.Entry.{Entry}
use Rattle.rc_body.specs.declared.reason.Reason.{Reason}
use Rattle.rc_body.specs.declared.reason.Reason.TheVariants.{Locked, Lost, Stale, Promised}
use Rattle.rc_msg.specs.declared.msg.Envelope.{Envelope}
use Rattle.rc_msg.specs.declared.msg.Msg.{Msg}
use Rattle.rc_msg.specs.declared.msg.Msg.TheVariants.{Prepare, Prepared, Refused}
use Rattle.rc_report.specs.declared.line.Line.TheVariants.{Refused as RefusedLine, Stopped, Up}
use Rattle.rc_runs.specs.declared.event.Event.{Event}
use Rattle.rc_runs.specs.declared.event.Event.TheVariants.{Restart}
use Rattle.rc_protocol.specs.Messages.{coordinator, shard_server, client_of}
use Rattle.rc_protocol.specs.Coordinator.{promise_of, new_volatile as new_coord_volatile}
use Rattle.rc_protocol.specs.Shard.{test}
use Rattle.rc_protocol.specs.Nodes.{CoordNode, ShardNode, shard_started}
use Rattle.rc_protocol.specs.Acts.{NodeCause, Came, Catches}
use Rattle.rc_runs.specs.World.{World, Start, Deed, started_world, coord_at, shard_at, message, actor, sends_of, lines_of, restart_lines, course_deed, printed}
use Rattle.rc_runs.specs.Refusals.{Happening, is_event, run}
use Rattle.rc_agreement.proofs.Cases.{on_cond, never}
use Rattle.rc_agreement.proofs.Tables.{in_either, got_in}
use Rattle.rc_agreement.proofs.Sends.{in_sent}
use Rattle.rc_causes.specs.Moments.{Moment, world_at, SendsNow, DeliversNow, PrintsNow}
use Rattle.rc_causes.specs.Refused.{IsTested, CameFromShard, IsWhy, RefusalsHaveCauses}
use Rattle.rc_causes.proofs.Moves.{Move, Rests, ClientActs, CoordActs, CoordWakes, CoordHalts, CoordCrashes, ShardActs, ShardWakes, ShardHalts, ShardCrashes, move_of, Delivers, ClientWhy, CoordWhy, ShardWhy, coord_actor, shard_actor}
use Rattle.rc_causes.proofs.Times.{sent_in, SentIn}
use Rattle.rc_causes.proofs.ClientSays.{client_row_of}
use Rattle.rc_causes.proofs.CoordSays.{RefusedFor, coord_row_of, catch_dull}
use Rattle.rc_causes.proofs.ShardSays.{shard_row_of, IsTestReason, test_reason}

-- what is delivered was sent
pub delivered_sent : (sent : List Envelope) (e : Event) (to : Party) (m : Msg) → Delivers sent e to m → (from : Party) × In (record { from = from; to = to; msg = m }) sent
delivered_sent sent e to m h = (h.1, message_in h.0 (record { from = h.1; to = to; msg = m }) h.3)
  where
    message_in : (n : ℕ) (v : Envelope) → message sent n ≡ Some v → In v sent
    message_in n v = on_cond (λ o. o ≡ Some v → In v sent) (n == 0) None _ (λ _ is. never v is) (λ _ is. got_in sent (n - 1) v is)

-- what is sent now is said in the deed, by its actor
pub said_now : (w : World) (h : Happening) (e : Envelope) → SendsNow w h e → In (e.to, e.msg) (sends_of (course_deed w h.0 h.1)) × (e.from ≡ actor w.sent h.0)
said_now w h e s = ⊎_elim (λ (n : In e []). absurd n) (λ (p : In (e.to, e.msg) (sends_of (course_deed w h.0 h.1)) × (e.from ≡ actor w.sent h.0)). p) (in_sent [] (actor w.sent h.0) (sends_of (course_deed w h.0 h.1)) e s.1)

-- WHO REFUSES
record RefusesNow (w : World) (h : Happening) (u b d : ℕ) (reason : Reason) : Type 0 where
  actor : actor w.sent h.0 ≡ coordinator d
  node : CoordNode
  is : coord_at w.parties d ≡ Some node
  cause : NodeCause
  why : CoordWhy w.sent h.0 d cause
  said : RefusedFor node.durable cause u b reason

who_refuses : (w : World) (h : Happening) (to : Party) (u b d : ℕ) (reason : Reason) (y : Deed) → Move w.parties w.sent h.0 h.1 y → In (to, Refused u b d reason) (sends_of y) → RefusesNow w h u b d reason
who_refuses w h to u b d reason _ Rests i = absurd i
who_refuses w h to u b d reason _ (ClientActs t x k is why) i = absurd ((client_row_of w.parties.layout t x k).sends.each to (Refused u b d reason) i)
who_refuses w h to u b d reason _ (CoordActs e x k there why) i =
    let r = (coord_row_of w.parties.layout e x.durable x.volatile k).sends.each to (Refused u b d reason) i in
    subst (λ (n : ℕ). RefusesNow w h u b n reason) (sym r.0) (record { actor = coord_actor w.sent h.0 e k why; node = x; is = there; cause = k; why = why; said = r.1 })
who_refuses w h to u b d reason _ (CoordWakes e x there why) i = absurd ((catch_dull w.parties.layout e new_coord_volatile).each to (Refused u b d reason) i)
who_refuses w h to u b d reason _ (CoordHalts e x k kept r there why logs course same) i = absurd i
who_refuses w h to u b d reason _ (CoordCrashes e x there why) i = absurd i
who_refuses w h to u b d reason _ (ShardActs e s x k there why) i = absurd ((shard_row_of w.parties.layout e s x.durable x.volatile k).each to (Refused u b d reason) i)
who_refuses w h to u b d reason _ (ShardWakes e s x there why) i =
    absurd ((shard_row_of w.parties.layout e s (shard_started x.log).durable (shard_started x.log).volatile Catches).each to (Refused u b d reason) i)
who_refuses w h to u b d reason _ (ShardHalts e s x k kept r there why logs course same) i = absurd i
who_refuses w h to u b d reason _ (ShardCrashes e s x there why) i = absurd i

-- WHO ANSWERS NO
record AnswersNow (w : World) (h : Happening) (d u shard : ℕ) (reason : Reason) : Type 0 where
  actor : actor w.sent h.0 ≡ shard_server d shard
  node : ShardNode
  is : shard_at w.parties d shard ≡ Some node
  part : List Entry
  asked : DeliversNow w h (shard_server d shard) (Prepare u part)
  test : test node.durable node.volatile u part ≡ Some reason

same_dc : (d e : ℕ) → coordinator d ≡ coordinator e → e ≡ d
same_dc d e is = cc

who_answers : (w : World) (h : Happening) (d u shard : ℕ) (reason : Reason) (y : Deed) → Move w.parties w.sent h.0 h.1 y → In (coordinator d, Prepared u shard (Some reason)) (sends_of y) → AnswersNow w h d u shard reason
who_answers w h d u shard reason _ Rests i = absurd i
who_answers w h d u shard reason _ (ClientActs t x k is why) i = absurd ((client_row_of w.parties.layout t x k).sends.each (coordinator d) (Prepared u shard (Some reason)) i)
who_answers w h d u shard reason _ (CoordActs e x k there why) i = absurd ((coord_row_of w.parties.layout e x.durable x.volatile k).sends.each (coordinator d) (Prepared u shard (Some reason)) i)
who_answers w h d u shard reason _ (CoordWakes e x there why) i = absurd ((catch_dull w.parties.layout e new_coord_volatile).each (coordinator d) (Prepared u shard (Some reason)) i)
who_answers w h d u shard reason _ (CoordHalts e x k kept r there why logs course same) i = absurd i
who_answers w h d u shard reason _ (CoordCrashes e x there why) i = absurd i
who_answers w h d u shard reason _ (ShardActs e s x k there why) i =
    let r = (shard_row_of w.parties.layout e s x.durable x.volatile k).each (coordinator d) (Prepared u shard (Some reason)) i in
    let asked : Delivers w.sent h.0 (shard_server e s) (Prepare u r.3) = subst (ShardWhy w.sent h.0 e s) r.4 why in
    subst (λ (p : ℕ × ℕ). AnswersNow w h p.0 u p.1 reason) (λ j. (same_dc d e r.0 j, sym r.1 j))
    (record { actor = shard_actor w.sent h.0 e s k why; node = x; is = there; part = r.3; asked = asked; test = r.5 })
who_answers w h d u shard reason _ (ShardWakes e s x there why) i =
    let r = (shard_row_of w.parties.layout e s (shard_started x.log).durable (shard_started x.log).volatile Catches).each (coordinator d) (Prepared u shard (Some reason)) i in
    let no : Catches ≡ Came r.2 (Prepare u r.3) = r.4 in absurd (cc)
who_answers w h d u shard reason _ (ShardHalts e s x k kept r there why logs course same) i = absurd i
who_answers w h d u shard reason _ (ShardCrashes e s x there why) i = absurd i

-- WHOSE LINE
same_line : (w : World) (h : Happening) (d t : ℕ) (reason : Reason) (y : Deed) → Move w.parties w.sent h.0 h.1 y → In (RefusedLine t d reason) (lines_of y) → Delivers w.sent h.0 (client_of t) (Refused t 0 d reason)
same_line w h d t reason _ Rests i = absurd i
same_line w h d t reason _ (ClientActs u x k is why) i =
    let r = (client_row_of w.parties.layout u x k).lines (RefusedLine t d reason) i in
    subst (λ (n : ℕ). Delivers w.sent h.0 (client_of n) (Refused n 0 d reason)) (sym r.0) (subst (ClientWhy w.sent h.0 u) r.1 why)
same_line w h d t reason _ (CoordActs e x k there why) i = absurd i
same_line w h d t reason _ (CoordWakes e x there why) i = absurd i
same_line w h d t reason _ (CoordHalts e x k kept r there why logs course same) i = absurd (⊎_elim (λ (q : Stopped (Coord e) ≡ RefusedLine t d reason). absurd (cc)) (λ n. n) i)
same_line w h d t reason _ (CoordCrashes e x there why) i = absurd (⊎_elim (λ (q : Stopped (Coord e) ≡ RefusedLine t d reason). absurd (cc)) (λ n. n) i)
same_line w h d t reason _ (ShardActs e s x k there why) i = absurd i
same_line w h d t reason _ (ShardWakes e s x there why) i = absurd i
same_line w h d t reason _ (ShardHalts e s x k kept r there why logs course same) i = absurd (⊎_elim (λ (q : Stopped (ShardServer e s) ≡ RefusedLine t d reason). absurd (cc)) (λ n. n) i)
same_line w h d t reason _ (ShardCrashes e s x there why) i = absurd (⊎_elim (λ (q : Stopped (ShardServer e s) ≡ RefusedLine t d reason). absurd (cc)) (λ n. n) i)

starts_other : (e : Event) (t d : ℕ) (reason : Reason) → In (RefusedLine t d reason) (restart_lines e) → ⊥
starts_other (Restart node) t d reason i = ⊎_elim (λ (e : Up node ≡ RefusedLine t d reason). absurd (cc)) (λ n. n) i
starts_other _ t d reason i = i

heard_now : (w : World) (h : Happening) (t d : ℕ) (reason : Reason) → PrintsNow w h (RefusedLine t d reason) → Delivers w.sent h.0 (client_of t) (Refused t 0 d reason)
heard_now w h t d reason i = go (is_event w h) i
  where
    go : (b : Bool) → In (RefusedLine t d reason) (cond b (printed w h.0 h.1) []) → Delivers w.sent h.0 (client_of t) (Refused t 0 d reason)
    go true i =
        ⊎_elim
        (λ (k : In (RefusedLine t d reason) (restart_lines h.0)). absurd (starts_other h.0 t d reason k))
        (λ (k : In (RefusedLine t d reason) (lines_of (course_deed w h.0 h.1))). same_line w h d t reason _ (move_of w.parties w.sent h.0 h.1) k)
        (in_either (RefusedLine t d reason) (restart_lines h.0) (lines_of (course_deed w h.0 h.1)) i)
    go false i = absurd i

-- IN A RUN that began with nothing sent
module _ (w : World) (empty : (e : Envelope) → In e w.sent → ⊥) where
  must_be_sent : (hs : List Happening) (e : Envelope) → In e (run w hs).sent → SentIn w hs e
  must_be_sent hs e i = ⊎_elim (λ (old : In e w.sent). absurd (empty e old)) (λ (s : SentIn w hs e). s) (sent_in w hs e i)

  tested : (hs : List Happening) (from : Party) (t d shard : ℕ) (reason : Reason) → SentIn w hs (record { from = from; to = coordinator d; msg = Prepared t shard (Some reason) }) → IsTested w hs t d shard reason
  tested hs from t d shard reason s =
      let v : World = world_at w hs s.0 in
      let n : Happening = s.0.now in
      let p = said_now v n (record { from = from; to = coordinator d; msg = Prepared t shard (Some reason) }) s.1 in
      let a : AnswersNow v n d t shard reason = who_answers v n d t shard reason _ (move_of v.parties v.sent n.0 n.1) p.0 in
      record {
        moment = s.0;
        node = a.node;
        is = a.is;
        part = a.part;
        asked = a.asked;
        test = a.test;
        answers = subst (λ (f : Party). SendsNow v n (record { from = f; to = coordinator d; msg = Prepared t shard (Some reason) })) (p.1 ∙ a.actor) s.1;
      }

  from_shard : (hs : List Happening) (m : Moment hs) (t d shard : ℕ) (reason : Reason) → DeliversNow (world_at w hs m) m.now (coordinator d) (Prepared t shard (Some reason)) → CameFromShard w hs m t d reason
  from_shard hs m t d shard reason comes =
      let s = delivered_sent (world_at w hs m).sent m.now.0 (coordinator d) (Prepared t shard (Some reason)) comes in
      record { shard = shard; comes = comes; tested = tested m.before s.0 t d shard reason (must_be_sent m.before _ s.1) }

  why_of : (hs : List Happening) (m : Moment hs) (t d : ℕ) (x : CoordNode) (k : NodeCause) (reason : Reason) → CoordWhy (world_at w hs m).sent m.now.0 d k → RefusedFor x.durable k t 0 reason → IsWhy w hs m t d x reason
  why_of hs m t d x k reason why said =
      ⊎_elim
      (λ (p : (reason ≡ Promised (promise_of x.durable.promises t)) × (0 < promise_of x.durable.promises t)). subst (IsWhy w hs m t d x) (sym p.0) (refl, p.1))
      (λ (p : (from : Party) × (shard : ℕ) × (k ≡ Came from (Prepared t shard (Some reason)))).
      let came : CameFromShard w hs m t d reason = from_shard hs m t d p.1 reason (subst (CoordWhy (world_at w hs m).sent m.now.0 d) p.2 why) in
      given reason came (test_reason came.tested.node.durable came.tested.node.volatile t came.tested.part reason came.tested.test))
      said
    where
      given : (reason : Reason) → CameFromShard w hs m t d reason → IsTestReason reason → IsWhy w hs m t d x reason
      given (Locked key u) came h = came
      given (Lost key) came h = came
      given (Stale key v) came h = came
      given (Promised b) came h = absurd h

  refused : (before : List Happening) (now : Happening) → RefusalsHaveCauses w before now
  refused before now t d reason i =
      let v0 : World = run w before in
      let s = delivered_sent v0.sent now.0 (client_of t) (Refused t 0 d reason) (heard_now v0 now t d reason i) in
      let at = must_be_sent before (record { from = s.0; to = client_of t; msg = Refused t 0 d reason }) s.1 in
      let v : World = world_at w before at.0 in
      let n : Happening = at.0.now in
      let p = said_now v n (record { from = s.0; to = client_of t; msg = Refused t 0 d reason }) at.1 in
      let r : RefusesNow v n t 0 d reason = who_refuses v n (client_of t) t 0 d reason _ (move_of v.parties v.sent n.0 n.1) p.0 in
      record {
        moment = at.0;
        node = r.node;
        is = r.is;
        sends = subst (λ (f : Party). SendsNow v n (record { from = f; to = client_of t; msg = Refused t 0 d reason })) (p.1 ∙ r.actor) at.1;
        why = why_of before at.0 t d r.node r.cause reason r.why r.said;
      }

pub refusals_have_causes : (c : Layout) (start : Start) (coords : List CoordNode) (shards : List ShardNode) (before : List Happening) (now : Happening) → RefusalsHaveCauses (started_world c start coords shards) before now
refusals_have_causes c start coords shards before now = refused (started_world c start coords shards) (λ e i. absurd i) before now

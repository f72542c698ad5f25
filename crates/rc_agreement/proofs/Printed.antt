-- Each commit that a client prints stands in the order.
use Rattle.std.proofs.Common.{◌≡◌, ℕ, List, [], ◌∷◌, sym, subst, Bool, true, false, cond, Some, None, ⊎_elim}
use Rattle.std.specs.Prelude.{◌||◌}
use Rattle.std.specs.Ordering.{nat_cmp}
use Rattle.rc_ids.specs.Tables.{In, found}
use Rattle.rc_ids.specs.Cluster.{Layout, IsLayout}
use Rattle.rc_ids.specs.declared.names.Outcome.{Outcome}
use Rattle.rc_ids.specs.declared.names.Outcome.TheVariants.{Commit as Committed}
use Rattle.rc_ids.specs.declared.names.NodeId.{NodeId}
use Rattle.rc_ids.specs.declared.names.NodeId.TheVariants.{Coord, Shard as ShardServer}
use Rattle.rc_ids.specs.declared.names.Party.{Party}
use Rattle.rc_ids.specs.declared.names.Party.TheVariants.{Node, Client as ClientOf}
use Rattle.rc_body.specs.Decisions.{outcome_of}
use Rattle.rc_body.specs.declared.entry.Entry.{Entry}
use Rattle.rc_body.specs.declared.decision.Decision.{Decision}
use Rattle.rc_msg.specs.declared.msg.Envelope.{Envelope}
use Rattle.rc_report.specs.declared.line.Line.TheVariants.{Learned, Stopped, Up}
use Rattle.rc_runs.specs.declared.event.Event.{Event}
use Rattle.rc_runs.specs.declared.event.Event.TheVariants.{Begin, Read, Write, Commit, Cancel, Retry, Vanish, Take, Catch, Deliver, Lose, Crash, CrashAt, Restart}
use Rattle.rc_protocol.specs.Shard.{ShardAct}
use Rattle.rc_protocol.specs.Coordinator.{CoordAct}
use Rattle.rc_protocol.specs.Client.{Client, ClientAct}
use Rattle.rc_protocol.specs.Nodes.{CoordNode, ShardNode}
use Rattle.rc_runs.specs.Votes.{is_listed}
use Rattle.rc_runs.specs.World.{World, Parties, Deed, Idle, ByClient, ByCoord, ByShard, CoordStops, ShardStops, Course, Goes, Stops, coord_at, shard_at, message, received, coord_does, shard_does, client_does, catches, stops, restarts, deed, along, replaced, after_begin, parties_after, restart_lines, lines_of, course_deed, step, printed}
use Rattle.rc_runs.specs.Refusals.{Happening, is_event, after_event, run, lines_at, lines}
use Rattle.rc_claims.specs.Outcomes.{PrintedIsOrdered}
use Rattle.rc_agreement.proofs.Cases.{on_cond, on_maybe}
use Rattle.rc_agreement.proofs.Tables.{in_either, set_cases}
use Rattle.rc_protocol.specs.Acts.{ClientCause, Hears, Reads, Writes, Commits, Cancels, Retries, Vanishes, NodeCause, Came, Catches, Takes, client_act}
use Rattle.rc_agreement.proofs.Scenes.{Scene, scene, event_keeps}
use Rattle.rc_agreement.proofs.Agreeing.{laws_at}
use Rattle.rc_agreement.proofs.Choices.{ChosenIn, chosen_of}
use Rattle.rc_agreement.proofs.Learning.{Learns, learned_choice}
use Rattle.rc_agreement.proofs.Stays.{later_of}
use Rattle.rc_agreement.proofs.Listed.{or_more, listed_left}
use Rattle.rc_agreement.proofs.Ghosts.{with_ghosts, Ghost, ghosts_kept}
use Rattle.rc_agreement.proofs.Reopened.{Whole}
use Rattle.rc_agreement.proofs.Lives.{whole_kept}
use Rattle.rc_agreement.proofs.ClientLines.{act_prints}

-- t's client holds this outcome
record Holds (w : Parties) (t : ℕ) (outcome : Outcome) : Type 0 where
  client : Client
  is : found nat_cmp w.clients t ≡ Some client
  decision : Decision
  held : client.outcome ≡ Some decision
  same : outcome_of decision ≡ outcome

-- an outcome that is printed in a deed is held after it
record Tells (w : Parties) (d : Deed) : Type 0 where
  each : (t : ℕ) (outcome : Outcome) → In (Learned t outcome) (lines_of d) → Holds (parties_after w d) t outcome

stop_other : (node : NodeId) (t : ℕ) (outcome : Outcome) → In (Learned t outcome) (Stopped node ∷ []) → ⊥
stop_other node t outcome i = ⊎_elim (λ (e : Stopped node ≡ Learned t outcome). absurd (cc)) (λ n. n) i

rests : (w : Parties) (course : Course) → Tells w (along course Idle)
rests w Goes = record { each = λ t o i. absurd i }
rests w (Stops kept) = record { each = λ t o i. absurd i }

coord_tells : (w : Parties) (course : Course) (d : ℕ) (x : CoordNode) (act : CoordAct) → Tells w (along course (ByCoord d x act))
coord_tells w Goes d x act = record { each = λ t o i. absurd i }
coord_tells w (Stops kept) d x act =
    on_maybe (Tells w) act.logs _ _ (λ _. record { each = λ t o i. absurd i }) (λ r _. record { each = λ t o i. absurd (stop_other (Coord d) t o i) })

shard_tells : (w : Parties) (course : Course) (d s : ℕ) (x : ShardNode) (act : ShardAct) → Tells w (along course (ByShard d s x act))
shard_tells w Goes d s x act = record { each = λ t o i. absurd i }
shard_tells w (Stops kept) d s x act =
    on_maybe (Tells w) act.logs _ _ (λ _. record { each = λ t o i. absurd i }) (λ r _. record { each = λ t o i. absurd (stop_other (ShardServer d s) t o i) })

coord_does_tells : (w v : Parties) (course : Course) (d : ℕ) (k : NodeCause) → Tells v (along course (coord_does w d k))
coord_does_tells w v course d k =
    on_maybe (λ x. Tells v (along course x)) (coord_at w d) _ _ (λ _. rests v course)
    (λ x _. on_cond (λ y. Tells v (along course y)) x.up _ _ (λ _. coord_tells v course d x _) (λ _. rests v course))

shard_does_tells : (w v : Parties) (course : Course) (d s : ℕ) (k : NodeCause) → Tells v (along course (shard_does w d s k))
shard_does_tells w v course d s k =
    on_maybe (λ x. Tells v (along course x)) (shard_at w d s) _ _ (λ _. rests v course)
    (λ x _. on_cond (λ y. Tells v (along course y)) x.up _ _ (λ _. shard_tells v course d s x _) (λ _. rests v course))

client_tells : (w : Parties) (course : Course) (t : ℕ) (x : Client) (k : ClientCause) → found nat_cmp w.clients t ≡ Some x → Tells w (along course (ByClient t (client_act w.layout t x k)))
client_tells w course t x k is = either course
  where
    now : Tells w (ByClient t (client_act w.layout t x k))
    now =
        record {
          each = λ u o i.
              let a : ClientAct = client_act w.layout t x k in
              let h = (act_prints w.layout t x k).each u o i in
              ⊎_elim
              (λ (e : (u ≡ t) × (found nat_cmp (replaced w.clients t a.after) u ≡ Some a.after)). record { client = a.after; is = e.1; decision = h.1; held = h.2; same = h.3 })
              (λ (e : (u ≡ t → ⊥) × (found nat_cmp (replaced w.clients t a.after) u ≡ found nat_cmp w.clients u)). absurd (e.0 h.0))
              (set_cases u t a.after x w.clients is);
        }

    either : (course : Course) → Tells w (along course (ByClient t (client_act w.layout t x k)))
    either Goes = now
    either (Stops kept) = now

client_does_tells : (w : Parties) (course : Course) (t : ℕ) (k : ClientCause) → Tells w (along course (client_does w t k))
client_does_tells w course t k =
    on_maybe (λ x. Tells w (along course x)) (found nat_cmp w.clients t) _ _ (λ _. rests w course) (λ x is. client_tells w course t x k is)

comes : (w : Parties) (course : Course) (e : Envelope) (to : Party) → Tells w (along course (received w e to))
comes w course e (Node (Coord d)) = coord_does_tells w w course d (Came e.from e.msg)
comes w course e (Node (ShardServer d s)) = shard_does_tells w w course d s (Came e.from e.msg)
comes w course e (ClientOf t) = client_does_tells w course t (Hears e.msg)

catch_tells : (w : Parties) (course : Course) (node : NodeId) → Tells w (along course (catches w node))
catch_tells w course (Coord d) = coord_does_tells w w course d Catches
catch_tells w course (ShardServer d s) = shard_does_tells w w course d s Catches

stop_tells : (w : Parties) (course : Course) (node : NodeId) → Tells w (along course (stops w node))
stop_tells w course (Coord d) = on_maybe (λ x. Tells w (along course x)) (coord_at w d) _ _ (λ _. rests w course) (λ x _. either course x)
  where
    either : (course : Course) (x : CoordNode) → Tells w (along course (CoordStops d x None))
    either Goes x = record { each = λ t o i. absurd (stop_other (Coord d) t o i) }
    either (Stops kept) x = record { each = λ t o i. absurd (stop_other (Coord d) t o i) }
stop_tells w course (ShardServer d s) = on_maybe (λ x. Tells w (along course x)) (shard_at w d s) _ _ (λ _. rests w course) (λ x _. either course x)
  where
    either : (course : Course) (x : ShardNode) → Tells w (along course (ShardStops d s x None))
    either Goes x = record { each = λ t o i. absurd (stop_other (ShardServer d s) t o i) }
    either (Stops kept) x = record { each = λ t o i. absurd (stop_other (ShardServer d s) t o i) }

restart_tells : (w : Parties) (course : Course) (node : NodeId) → Tells w (along course (restarts w node))
restart_tells w course (Coord d) = on_maybe (λ x. Tells w (along course x)) (coord_at w d) _ _ (λ _. rests w course) (λ x _. coord_tells w course d _ _)
restart_tells w course (ShardServer d s) = on_maybe (λ x. Tells w (along course x)) (shard_at w d s) _ _ (λ _. rests w course) (λ x _. shard_tells w course d s _ _)

deed_tells : (w : Parties) (sent : List Envelope) (e : Event) (course : Course) → Tells (after_begin w e) (along course (deed w sent e))
deed_tells w sent (Begin t) course = rests (after_begin w (Begin t)) course
deed_tells w sent (Read t k) course = client_does_tells w course t (Reads k)
deed_tells w sent (Write t k value) course = client_does_tells w course t (Writes k value)
deed_tells w sent (Commit t) course = client_does_tells w course t Commits
deed_tells w sent (Cancel t k) course = client_does_tells w course t (Cancels k)
deed_tells w sent (Retry t) course = client_does_tells w course t Retries
deed_tells w sent (Vanish t) course = client_does_tells w course t Vanishes
deed_tells w sent (Take d t) course = coord_does_tells w w course d (Takes t)
deed_tells w sent (Catch node) course = catch_tells w course node
deed_tells w sent (Deliver n) course = on_maybe (λ x. Tells w (along course x)) (message sent n) _ _ (λ _. rests w course) (λ e _. comes w course e e.to)
deed_tells w sent (Lose n) course = rests w course
deed_tells w sent (Crash node) course = stop_tells w course node
deed_tells w sent (CrashAt node k pick) course = rests w course
deed_tells w sent (Restart node) course = restart_tells w course node

starts_other : (e : Event) (t : ℕ) (outcome : Outcome) → In (Learned t outcome) (restart_lines e) → ⊥
starts_other (Restart node) t outcome i = ⊎_elim (λ (e : Up node ≡ Learned t outcome). absurd (cc)) (λ n. n) i
starts_other _ t outcome i = i

-- an outcome that is printed in an event is held after it
event_tells : (w : World) (h : Happening) (t : ℕ) (outcome : Outcome) → In (Learned t outcome) (lines_at w h) → Holds (after_event w h).parties t outcome
event_tells w h t outcome = go (is_event w h)
  where
    go : (b : Bool) → In (Learned t outcome) (cond b (printed w h.0 h.1) []) → Holds (cond b (step w h.0 h.1) w).parties t outcome
    go true i =
        ⊎_elim
        (λ (k : In (Learned t outcome) (restart_lines h.0)). absurd (starts_other h.0 t outcome k))
        (λ (k : In (Learned t outcome) (lines_of (course_deed w h.0 h.1))). (deed_tells w.parties w.sent h.0 h.1).each t outcome k)
        (in_either (Learned t outcome) (restart_lines h.0) (lines_of (course_deed w h.0 h.1)) i)
    go false i = absurd i

-- what is listed stays listed
listed_later : (v : World) (hs : List Happening) (t : ℕ) → (is_listed v.parties.start.committed t || is_listed v.parties.committed t) ≡ true
    → (is_listed (run v hs).parties.start.committed t || is_listed (run v hs).parties.committed t) ≡ true
listed_later v hs t h =
    let l = later_of v hs in
    subst (λ (xs : List (ℕ × List Entry)). (is_listed xs t || is_listed (run v hs).parties.committed t) ≡ true) (sym l.start)
    (or_more (is_listed v.parties.start.committed t) (is_listed v.parties.committed t) _
    (λ e. subst (λ (xs : List (ℕ × List Entry)). is_listed xs t ≡ true) (sym l.order.1) (listed_left t v.parties.committed l.order.0 e)) h)

module _ (c : Layout) (lay : IsLayout c) where
  held_listed : (v : World) → Ghost (Whole c) (scene v) → (t : ℕ) → Holds v.parties t Committed → (is_listed v.parties.start.committed t || is_listed v.parties.committed t) ≡ true
  held_listed v g t h =
      let s : Scene = with_ghosts (scene v) g.clients g.sent in
      let l : Learns s t h.decision = g.holds.0.1.outcomes t h.client h.decision (g.known t h.client h.is) h.held in
      g.holds.1.all t (subst (λ (o : Outcome). ChosenIn s o t) h.same (chosen_of t s (outcome_of h.decision) (laws_at c lay t s (g.holds.0.0 t)) (learned_choice s t h.decision l)))

  pub printed_is_ordered : (w : World) (hs : List Happening) → Ghost (Whole c) (scene w) → PrintedIsOrdered w hs
  printed_is_ordered w [] g t i = absurd i
  printed_is_ordered w (h ∷ hs) g t i =
      let v : World = after_event w h in
      let g2 = event_keeps (Ghost (Whole c)) (ghosts_kept (Whole c) (whole_kept c lay)) w h g in
      ⊎_elim
      (λ (now : In (Learned t Committed) (lines_at w h)). listed_later v hs t (held_listed v g2 t (event_tells w h t Committed now)))
      (λ (later : In (Learned t Committed) (lines v hs)). printed_is_ordered v hs g2 t later)
      (in_either (Learned t Committed) (lines_at w h) (lines v hs) i)

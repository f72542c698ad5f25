-- What has led to an abort, event by event: a take-over by command, or refusals that were printed; else all is clear.
use Rattle.std.proofs.Common.{◌≡◌, ℕ, List, [], ◌∷◌, ◌++◌, refl, sym, ap, ◌∙◌, subst, Bool, true, false, cond, Option, Some, None, ◌⊎◌, inl, inr, ⊎_elim, append_assoc, true≢false}
use Rattle.std.specs.Ordering.{nat_cmp}
use Rattle.std.proofs.lemmas.List.{append-nil}
use Rattle.rc_ids.specs.Tables.{In, found, put}
use Rattle.rc_ids.specs.Cluster.{Layout, is_quorum}
use Rattle.rc_ids.specs.declared.names.Party.{Party}
use Rattle.rc_body.specs.declared.decision.Decision.TheVariants.{Abort}
use Rattle.rc_body.specs.declared.reason.Reason.{Reason}
use Rattle.rc_msg.specs.declared.msg.Envelope.{Envelope}
use Rattle.rc_msg.specs.declared.msg.Msg.{Msg}
use Rattle.rc_msg.specs.declared.msg.Msg.TheVariants.{Propose, Abandon}
use Rattle.rc_record.specs.declared.record.Record.{Record}
use Rattle.rc_record.specs.declared.record.Record.TheVariants.{Accepted}
use Rattle.rc_report.specs.declared.line.Line.{Line}
use Rattle.rc_report.specs.declared.line.Line.TheVariants.{Refused as RefusedLine}
use Rattle.rc_runs.specs.declared.event.Event.{Event}
use Rattle.rc_runs.specs.declared.event.Event.TheVariants.{Begin, Take}
use Rattle.rc_protocol.specs.Messages.{Posts}
use Rattle.rc_protocol.specs.Client.{Client, ClientAct, new_client}
use Rattle.rc_protocol.specs.Nodes.{CoordNode, ShardNode, coord_started, shard_started}
use Rattle.rc_protocol.specs.Shard.{ShardDurable, ShardVolatile}
use Rattle.rc_protocol.specs.Acts.{NodeCause, Came, Catches, Takes, ClientCause, coord_act, shard_act, client_act}
use Rattle.rc_runs.specs.World.{World, Parties, Deed, ByClient, ByCoord, ByShard, CoordStops, ShardStops, kept_record, coord_at, envelopes, sends_of, lines_of, restart_lines, actor, replaced, with_client, after_begin, parties_after, course_deed, step, printed}
use Rattle.rc_runs.specs.Refusals.{Happening, is_event, after_event, run, lines_at, lines}
use Rattle.rc_agreement.proofs.Cases.{nat_dec, some_is, never}
use Rattle.rc_agreement.proofs.Tables.{in_left, in_right, put_cases, set_cases}
use Rattle.rc_causes.specs.Moments.{Moment}
use Rattle.rc_causes.specs.Aborts.{WasTaken, IsRefusedByMany}
use Rattle.rc_causes.proofs.Moves.{Move, Rests, ClientActs, CoordActs, CoordWakes, CoordHalts, CoordCrashes, ShardActs, ShardWakes, ShardHalts, ShardCrashes, move_of, CoordWhy, coord_joins, shard_joins, client_joins}
use Rattle.rc_causes.proofs.ClientSays.{ClientRow, ClientSay, client_row_of}
use Rattle.rc_causes.proofs.CoordSays.{OpensFor}
use Rattle.rc_causes.proofs.ShardSays.{ShardSay, shard_row_of}
use Rattle.rc_causes.proofs.Clear.{Pushes, Clear, more_asked, no_vote, opens_by, turn_clear, halt_clear, wake_clear}

opens_dec : (k : NodeCause) (t : ℕ) → OpensFor k t ⊎ (OpensFor k t → ⊥)
opens_dec (Takes u) t = nat_dec u t
opens_dec (Came from (Abandon u)) t = nat_dec u t
opens_dec Catches t = inr (λ h. h)
opens_dec (Came from _) t = inr (λ h. h)

client_pushes : (c : Layout) (u t : ℕ) (y : Client) (to : Party) (m : Msg) → (u ≡ t → is_quorum c y.refusals ≡ true → ⊥) → ClientSay c u y to m → Pushes t m → ⊥
client_pushes c u t y to (Propose v b Abort) none h p = h
client_pushes c u t y to (Abandon v) none h p = none (sym h.0 ∙ p) h.1
client_pushes c u t y to _ none h p = p

shard_pushes : (d sh : ℕ) (s : ShardDurable) (v : ShardVolatile) (k : NodeCause) (t : ℕ) (to : Party) (m : Msg) → ShardSay d sh s v k to m → Pushes t m → ⊥
shard_pushes d sh s v k t to (Propose u b Abort) h p = h
shard_pushes d sh s v k t to (Abandon u) h p = h
shard_pushes d sh s v k t to _ h p = p

kept_is : (kept : Bool) (r q : Record) → kept_record kept r ≡ Some q → r ≡ q
kept_is true r q e = some_is r q e
kept_is false r q e = never q e

module _ (c : Layout) (w0 : World) (t : ℕ) where
  abbrev pub Caused : List Happening → List Line → Type 0
  Caused past told = WasTaken w0 past t ⊎ IsRefusedByMany c t told

  -- after these happenings and lines
  pub record State (past : List Happening) (told : List Line) (w : Parties) (sent : List Envelope) : Type 0 where
    pub layout : w.layout ≡ c
    pub counted : (x : Client) → found nat_cmp w.clients t ≡ Some x → (d : ℕ) → In d x.refusals → (reason : Reason) × In (RefusedLine t d reason) told
    pub clear : Caused past told ⊎ Clear t w sent

  caused_on : (past : List Happening) (h : Happening) (told more : List Line) → Caused past told → Caused (past ++ h ∷ []) (told ++ more)
  caused_on past h told more (inl k) =
      let m : Moment past = k.moment in
      inl (record {
        moment = record { before = m.before; now = m.now; after = m.after ++ h ∷ []; all = ap (λ (l : List Happening). l ++ h ∷ []) m.all ∙ append_assoc m.before (m.now ∷ m.after) (h ∷ []) };
        taker = k.taker;
        is = k.is;
        event = k.event;
      })
  caused_on past h told more (inr k) = inr (record { dcs = k.dcs; enough = k.enough; each = λ d i. let r = k.each d i in (r.0, in_left (RefusedLine t d r.0) told more r.1) })

  -- with more said, of the same parties
  state_on : (past : List Happening) (h : Happening) (told more : List Line) (w : Parties) (sent : List Envelope) → State past told w sent → State (past ++ h ∷ []) (told ++ more) w sent
  state_on past h told more w sent s = record {
    layout = s.layout;
    counted = λ x is d i. let r = s.counted x is d i in (r.0, in_left (RefusedLine t d r.0) told more r.1);
    clear = ⊎_elim (λ k. inl (caused_on past h told more k)) (λ k. inr k) s.clear;
  }

  joined_state : (past : List Happening) (told : List Line) (w : Parties) (sent : List Envelope) (e : Event) → State past told w sent → State past told (after_begin w e) sent
  joined_state past told w sent (Begin u) s = record {
    layout = s.layout;
    counted = λ x is d i. ⊎_elim
        (λ (same : (t ≡ u) × (found nat_cmp (put nat_cmp w.clients u new_client) t ≡ Some new_client)).
        absurd (subst (λ (y : Client). In d y.refusals → ⊥) (some_is new_client x (sym same.1 ∙ is)) (λ n. n) i))
        (λ (other : (t ≡ u → ⊥) × (found nat_cmp (put nat_cmp w.clients u new_client) t ≡ found nat_cmp w.clients t)). s.counted x (sym other.1 ∙ is) d i)
        (put_cases t u new_client w.clients);
    clear = ⊎_elim (λ k. inl k) (λ k. inr (record { nodes = k.nodes; asked = k.asked })) s.clear;
  }
  joined_state past told w sent _ s = s

  -- nothing sent
  silent : (past : List Happening) (told : List Line) (w : Parties) (sent : List Envelope) → State past told w sent → State past told w (sent ++ [])
  silent past told w sent s = subst (λ (l : List Envelope). State past told w l) (sym (append-nil sent)) s

  module _ (past : List Happening) (h : Happening) (told : List Line) (w : Parties) (sent : List Envelope)
      (taken : (d : ℕ) → h.0 ≡ Take d t → WasTaken w0 (past ++ h ∷ []) t) where
    abbrev N : List Line → Parties → List Envelope → Type 0
    N more = State (past ++ h ∷ []) (told ++ more)

    client_next : (u : ℕ) (x : Client) (a : ClientAct) (k : ClientCause) → found nat_cmp w.clients u ≡ Some x → ClientRow w.layout u x k a → (from : Party) → N (restart_lines h.0 ++ a.lines) w sent
        → N (restart_lines h.0 ++ a.lines) (with_client w u a.after) (sent ++ envelopes from a.sends)
    client_next u x a k is row from s = record { layout = s.layout; counted = counts; clear = ⊎_elim (λ q. inl q) (λ q. pushed q) s.clear }
      where
        new : (t ≡ u) → (d : ℕ) → In d a.after.refusals → (reason : Reason) × In (RefusedLine t d reason) (told ++ (restart_lines h.0 ++ a.lines))
        new same d i =
            ⊎_elim
            (λ (old : In d x.refusals). s.counted x (ap (λ (n : ℕ). found nat_cmp w.clients n) same ∙ is) d old)
            (λ (r : (reason : Reason) × In (RefusedLine u d reason) a.lines).
            (r.0, in_right (RefusedLine t d r.0) told (restart_lines h.0 ++ a.lines) (in_right (RefusedLine t d r.0) (restart_lines h.0) a.lines (subst (λ (n : ℕ). In (RefusedLine n d r.0) a.lines) (sym same) r.1))))
            (row.refusals d i)

        counts : (y : Client) → found nat_cmp (replaced w.clients u a.after) t ≡ Some y → (d : ℕ) → In d y.refusals → (reason : Reason) × In (RefusedLine t d reason) (told ++ (restart_lines h.0 ++ a.lines))
        counts y its d i =
            ⊎_elim
            (λ (same : (t ≡ u) × (found nat_cmp (replaced w.clients u a.after) t ≡ Some a.after)).
            new same.0 d (subst (λ (z : Client). In d z.refusals) (sym (some_is a.after y (sym same.1 ∙ its))) i))
            (λ (other : (t ≡ u → ⊥) × (found nat_cmp (replaced w.clients u a.after) t ≡ found nat_cmp w.clients t)). s.counted y (sym other.1 ∙ its) d i)
            (set_cases t u a.after x w.clients is)

        stays : Clear t w sent → (u ≡ t → is_quorum w.layout a.after.refusals ≡ true → ⊥) → Clear t (with_client w u a.after) (sent ++ envelopes from a.sends)
        stays q none = record { nodes = q.nodes; asked = more_asked t sent from a.sends q.asked (λ to m i. client_pushes w.layout u t a.after to m none (row.sends.each to m i)) }

        enough : Clear t w sent → t ≡ u → (b : Bool) → is_quorum w.layout a.after.refusals ≡ b → Caused (past ++ h ∷ []) (told ++ (restart_lines h.0 ++ a.lines)) ⊎ Clear t (with_client w u a.after) (sent ++ envelopes from a.sends)
        enough q same true is_enough = inl (inr (record { dcs = a.after.refusals; enough = subst (λ (l : Layout). is_quorum l a.after.refusals ≡ true) s.layout is_enough; each = new same }))
        enough q same false too_few = inr (stays q (λ _ e. true≢false (sym e ∙ too_few)))

        pushed : Clear t w sent → Caused (past ++ h ∷ []) (told ++ (restart_lines h.0 ++ a.lines)) ⊎ Clear t (with_client w u a.after) (sent ++ envelopes from a.sends)
        pushed q = ⊎_elim (λ (same : t ≡ u). enough q same (is_quorum w.layout a.after.refusals) refl) (λ (n : t ≡ u → ⊥). inr (stays q (λ e _. n (sym e)))) (nat_dec t u)

    -- the deed done by these parties, and its messages sent
    abbrev After : Deed → Parties → Type 0
    After d y = State (past ++ h ∷ []) (told ++ (restart_lines h.0 ++ lines_of d)) (parties_after y d) (sent ++ envelopes (actor sent h.0) (sends_of d))

    abbrev Before : Deed → Type 0
    Before d = State (past ++ h ∷ []) (told ++ (restart_lines h.0 ++ lines_of d)) w sent

    -- with nothing sent
    hushed : (d : Deed) → sends_of d ≡ [] → State (past ++ h ∷ []) (told ++ (restart_lines h.0 ++ lines_of d)) (parties_after w d) sent → After d w
    hushed d none s =
        subst (λ (ms : Posts). State (past ++ h ∷ []) (told ++ (restart_lines h.0 ++ lines_of d)) (parties_after w d) (sent ++ envelopes (actor sent h.0) ms)) (sym none)
        (silent (past ++ h ∷ []) (told ++ (restart_lines h.0 ++ lines_of d)) (parties_after w d) sent s)

    by_joined : (d : Deed) → after_begin w h.0 ≡ w → After d w → After d (after_begin w h.0)
    by_joined d same s = subst (λ (y : Parties). After d y) (sym same) s

    coord_next : (d : ℕ) (x : CoordNode) (k : NodeCause) → coord_at w d ≡ Some x → CoordWhy sent h.0 d k
        → Before (ByCoord d x (coord_act w.layout d x.durable x.volatile k)) → After (ByCoord d x (coord_act w.layout d x.durable x.volatile k)) w
    coord_next d x k there why s = record {
      layout = s.layout;
      counted = s.counted;
      clear = ⊎_elim (λ q. inl q)
          (λ (q : Clear t w sent). ⊎_elim
          (λ (o : OpensFor k t). inl (inl (taken d (subst (CoordWhy sent h.0 d) (opens_by t w sent h.0 q d x k there why o) why))))
          (λ (n : OpensFor k t → ⊥). inr (turn_clear t w sent h.0 q d x k there why (actor sent h.0) n))
          (opens_dec k t)) s.clear;
    }

    wakes_next : (d : ℕ) (x : CoordNode) → coord_at w d ≡ Some x
        → Before (ByCoord d (coord_started x.log) (coord_act w.layout d (coord_started x.log).durable (coord_started x.log).volatile Catches))
        → After (ByCoord d (coord_started x.log) (coord_act w.layout d (coord_started x.log).durable (coord_started x.log).volatile Catches)) w
    wakes_next d x there s = record {
      layout = s.layout;
      counted = s.counted;
      clear = ⊎_elim (λ q. inl q) (λ (q : Clear t w sent). inr (wake_clear t w sent q d x there (actor sent h.0))) s.clear;
    }

    halts_next : (d : ℕ) (x : CoordNode) (kept : Option Record) → coord_at w d ≡ Some x → (Clear t w sent → (b : ℕ) → kept ≡ Some (Accepted t b Abort) → ⊥) → Before (CoordStops d x kept) → After (CoordStops d x kept) w
    halts_next d x kept there none s =
        hushed (CoordStops d x kept) refl
        (record {
          layout = s.layout;
          counted = s.counted;
          clear = ⊎_elim (λ q. inl q) (λ (q : Clear t w sent). inr (halt_clear t w sent q d x there kept (none q))) s.clear;
        })

    shard_next : (d sh : ℕ) (x : ShardNode) (k : NodeCause) → Before (ByShard d sh x (shard_act w.layout d sh x.durable x.volatile k)) → After (ByShard d sh x (shard_act w.layout d sh x.durable x.volatile k)) w
    shard_next d sh x k s = record {
      layout = s.layout;
      counted = s.counted;
      clear = ⊎_elim (λ q. inl q)
          (λ (q : Clear t w sent). inr (record {
            nodes = q.nodes;
            asked =
                more_asked t sent (actor sent h.0) (shard_act w.layout d sh x.durable x.volatile k).sends q.asked
                (λ to m i. shard_pushes d sh x.durable x.volatile k t to m ((shard_row_of w.layout d sh x.durable x.volatile k).each to m i));
          })) s.clear;
    }

    servers_next : (d sh : ℕ) (x : ShardNode) (kept : Option Record) → Before (ShardStops d sh x kept) → After (ShardStops d sh x kept) w
    servers_next d sh x kept s =
        hushed (ShardStops d sh x kept) refl
        (record { layout = s.layout; counted = s.counted; clear = ⊎_elim (λ q. inl q) (λ (q : Clear t w sent). inr (record { nodes = q.nodes; asked = q.asked })) s.clear })

    moves_on : (d : Deed) → Move w sent h.0 h.1 d → Before d → After d (after_begin w h.0)
    moves_on _ Rests s =
        silent (past ++ h ∷ []) (told ++ (restart_lines h.0 ++ [])) (after_begin w h.0) sent (joined_state (past ++ h ∷ []) (told ++ (restart_lines h.0 ++ [])) w sent h.0 s)
    moves_on _ (ClientActs u x k is why) s =
        by_joined (ByClient u (client_act w.layout u x k)) (client_joins w sent h.0 u k why)
        (client_next u x (client_act w.layout u x k) k is (client_row_of w.layout u x k) (actor sent h.0) s)
    moves_on _ (CoordActs d x k there why) s = by_joined (ByCoord d x (coord_act w.layout d x.durable x.volatile k)) (coord_joins w sent h.0 d k why) (coord_next d x k there why s)
    moves_on _ (CoordWakes d x there why) s =
        by_joined (ByCoord d (coord_started x.log) (coord_act w.layout d (coord_started x.log).durable (coord_started x.log).volatile Catches)) (ap (λ (e : Event). after_begin w e) why) (wakes_next d x there s)
    moves_on _ (CoordHalts d x k kept r there why logs course same) s =
        by_joined (CoordStops d x (kept_record kept r)) (coord_joins w sent h.0 d k why)
        (halts_next d x (kept_record kept r) there (λ q b e. no_vote t w sent h.0 q d x k there why b (logs ∙ ap Some (kept_is kept r (Accepted t b Abort) e))) s)
    moves_on _ (CoordCrashes d x there why) s = by_joined (CoordStops d x None) (ap (λ (e : Event). after_begin w e) why) (halts_next d x None there (λ q b e. never (Accepted t b Abort) e) s)
    moves_on _ (ShardActs d sh x k there why) s = by_joined (ByShard d sh x (shard_act w.layout d sh x.durable x.volatile k)) (shard_joins w sent h.0 d sh k why) (shard_next d sh x k s)
    moves_on _ (ShardWakes d sh x there why) s =
        by_joined (ByShard d sh (shard_started x.log) (shard_act w.layout d sh (shard_started x.log).durable (shard_started x.log).volatile Catches)) (ap (λ (e : Event). after_begin w e) why)
        (shard_next d sh (shard_started x.log) Catches s)
    moves_on _ (ShardHalts d sh x k kept r there why logs course same) s = by_joined (ShardStops d sh x (kept_record kept r)) (shard_joins w sent h.0 d sh k why) (servers_next d sh x (kept_record kept r) s)
    moves_on _ (ShardCrashes d sh x there why) s = by_joined (ShardStops d sh x None) (ap (λ (e : Event). after_begin w e) why) (servers_next d sh x None s)

    next : (d : Deed) → Move w sent h.0 h.1 d → State past told w sent → After d (after_begin w h.0)
    next d m s = moves_on d m (state_on past h told (restart_lines h.0 ++ lines_of d) w sent s)

  -- THE RUN
  abbrev At : List Happening → List Line → World → Type 0
  At past told v = State past told v.parties v.sent

  event_state : (past : List Happening) (told : List Line) (v : World) → v ≡ run w0 past → (h : Happening) → At past told v → At (past ++ h ∷ []) (told ++ lines_at v h) (after_event v h)
  event_state past told v same h s = go (is_event v h) refl
    where
      taken : is_event v h ≡ true → (d : ℕ) → h.0 ≡ Take d t → WasTaken w0 (past ++ h ∷ []) t
      taken ok d is = record { moment = record { before = past; now = h; after = []; all = refl }; taker = d; is = is; event = subst (λ (z : World). is_event z h ≡ true) same ok }

      go : (b : Bool) → is_event v h ≡ b → At (past ++ h ∷ []) (told ++ cond b (printed v h.0 h.1) []) (cond b (step v h.0 h.1) v)
      go true ok = next past h told v.parties v.sent (taken ok) (course_deed v h.0 h.1) (move_of v.parties v.sent h.0 h.1) s
      go false ok = state_on past h told [] v.parties v.sent s

  run_snoc : (w : World) (past : List Happening) (h : Happening) → run w (past ++ h ∷ []) ≡ after_event (run w past) h
  run_snoc w [] h = refl
  run_snoc w (g ∷ past) h = run_snoc (after_event w g) past h

  pub run_state : (hs past : List Happening) (told : List Line) (v : World) → v ≡ run w0 past → At past told v → At (past ++ hs) (told ++ lines v hs) (run v hs)
  run_state [] past told v same s =
      subst (λ (p : List Happening × List Line). State p.0 p.1 v.parties v.sent) (λ i. (sym (append-nil past) i, sym (append-nil told) i)) s
  run_state (h ∷ hs) past told v same s =
      subst (λ (p : List Happening × List Line). State p.0 p.1 (run v (h ∷ hs)).parties (run v (h ∷ hs)).sent)
      (λ i. (append_assoc past (h ∷ []) hs i, append_assoc told (lines_at v h) (lines (after_event v h) hs) i))
      (run_state hs (past ++ h ∷ []) (told ++ lines_at v h) (after_event v h) (ap (λ (z : World). after_event z h) same ∙ sym (run_snoc w0 past h)) (event_state past told v same h s))

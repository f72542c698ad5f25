-- In every run: the layout stays, nodes are the replay of their logs, and the keys of a client differ.
use Rattle.std.proofs.Common.{◌≡◌, ℕ, List, [], ◌∷◌, refl, sym, ap, ◌∙◌, subst, Bool, true, false, cond, Option, Some, None, ⊎_elim, arith}
use Rattle.std.specs.Ordering.{nat_cmp}
use Rattle.rc_ids.specs.Tables.{In, found, put}
use Rattle.rc_ids.specs.Texts.{same_key}
use Rattle.rc_ids.specs.Cluster.{Layout}
use Rattle.rc_body.specs.declared.decision.Decision.{Decision}
use Rattle.rc_msg.specs.declared.msg.Msg.{Msg}
use Rattle.rc_msg.specs.declared.msg.Msg.TheVariants.{Granted}
use Rattle.rc_record.specs.declared.record.Record.{Record}
use Rattle.rc_record.specs.declared.record.Record.TheVariants.{Head, Prepared, Finished, Promised, Accepted, Decided}
use Rattle.rc_record.specs.CoordState.{CoordDurable, coord_applied}
use Rattle.rc_record.specs.ShardState.{ShardDurable, shard_applied, settled, settled_new, settled_all, new_durable}
use Rattle.rc_protocol.specs.Client.{Client, ClientAct, Slot, Grant, new_client, slot_of, client_refuses}
use Rattle.rc_protocol.specs.Acts.{Catches, coord_act, shard_act, ClientCause, Hears, Reads, Writes, Commits, Cancels, Retries, Vanishes, client_by_row, client_act, refusal}
use Rattle.rc_protocol.specs.Nodes.{CoordNode, ShardNode, coord_started, shard_started, coord_after, shard_after, coord_stopped, shard_stopped, shard_replayed, applied, logged}
use Rattle.rc_runs.specs.declared.event.Event.{Event}
use Rattle.rc_runs.specs.declared.event.Event.TheVariants.{Begin}
use Rattle.rc_runs.specs.World.{World, Parties, Deed, Idle, ByClient, ByCoord, ByShard, CoordStops, ShardStops, Course, kept_record, coord_at, shard_at, replaced, with_client, with_coord, with_shard, with_new_client, after_begin, parties_after, course_deed, step}
use Rattle.rc_runs.specs.Refusals.{Happening}
use Rattle.rc_claims.specs.Quiet.{moments}
use Rattle.rc_agreement.proofs.Cases.{on_maybe, some_is, nat_dec}
use Rattle.rc_agreement.proofs.Tables.{RisesFrom, rises_put, rises_without, put_cases, set_cases}
use Rattle.rc_agreement.proofs.Places.{coord_set, coord_set_other, shard_set, shard_set_other}
use Rattle.rc_agreement.proofs.Promises.{replayed, replay_logged}
use Rattle.rc_agreement.proofs.ShardNotes.{shard_replay_logged}
use Rattle.rc_agreement.proofs.ClientSlots.{key_self, key_is}
use Rattle.rc_serial_order.proofs.Locking.{settled_is}
use Rattle.rc_serial_order.proofs.Slots.{Differ, Sound, GrantsIn, slots_kept}
use Rattle.rc_causes.proofs.Moves.{Move, Rests, ClientActs, CoordActs, CoordWakes, CoordHalts, CoordCrashes, ShardActs, ShardWakes, ShardHalts, ShardCrashes, move_of, coord_joins, shard_joins, client_joins}
use Rattle.rc_quiet.proofs.Facts.{Facts}
use Rattle.rc_quiet.proofs.Stretches.{over_at}
use Rattle.rc_quiet.proofs.EventSteps.{begins_or}

-- KEYS DIFFER, whatever was granted
abbrev Any : List ℕ → Grant → Type 0
Any k g = Unit {0}

abbrev AnyRead : List ℕ → ℕ → Option (List ℕ) → Type 0
AnyRead k v y = Unit {0}

grants_any : (k : ClientCause) → GrantsIn Any k
grants_any (Hears (Granted u k d v y)) = tt
grants_any (Hears m) = hears m
  where
    hears : (m : Msg) → GrantsIn Any (Hears m)
    hears (Granted u k d v y) = tt
    hears _ = tt
grants_any (Reads q) = tt
grants_any (Writes q value) = tt
grants_any Commits = tt
grants_any (Cancels q) = tt
grants_any Retries = tt
grants_any Vanishes = tt

sound_any : (xs : List Slot) → Differ xs → Sound Any AnyRead xs
sound_any xs h = record { each = λ x i. record { grants = λ g j. tt; done = λ v y e. tt }; differ = h }

differ_still : (c : Layout) (t : ℕ) (x : Client) (k : ClientCause) → Differ x.slots → Differ (client_act c t x k).after.slots
differ_still c t x k h =
    on_maybe (λ (a : ClientAct). Differ a.after.slots) (refusal x k) (client_by_row c t x k) (client_refuses x)
    (λ _. (slots_kept c Any AnyRead (λ q gs enough each. tt) t x (sound_any x.slots h) k (grants_any k)).differ) (λ _ _. h)

differ_apart : (xs : List Slot) → Differ xs → (s : Slot) → In s xs → slot_of xs s.key ≡ Some s
differ_apart [] h s i = absurd i
differ_apart (y ∷ ys) h s i = ⊎_elim here (later (differ_apart ys h.1 s)) i
  where
    here : y ≡ s → slot_of (y ∷ ys) s.key ≡ Some s
    here e = subst (λ (z : Slot). slot_of (y ∷ ys) z.key ≡ Some z) e (let k = key_self y.key in rw k refl)

    later : (In s ys → slot_of ys s.key ≡ Some s) → In s ys → slot_of (y ∷ ys) s.key ≡ Some s
    later rest j = go (same_key y.key s.key) refl
      where
        go : (b : Bool) → same_key y.key s.key ≡ b → cond b (Some y) (slot_of ys s.key) ≡ Some s
        go true e = absurd (h.0 s j (key_is y.key s.key e))
        go false e = rest j

-- PARTS RISE in a replay
rises_settled : (s : ShardDurable) (t : ℕ) (o : Decision) → RisesFrom 0 s.parts → RisesFrom 0 (settled s t o).parts
rises_settled s t o h = subst (RisesFrom 0) (sym (settled_is s t o).0) (rises_without 0 t s.parts h)

rises_all : (es : List (ℕ × Decision)) (s : ShardDurable) → RisesFrom 0 s.parts → RisesFrom 0 (settled_all s es).parts
rises_all [] s h = h
rises_all (e ∷ es) s h = rises_all es (settled_new s e) (on_maybe (λ (y : ShardDurable). RisesFrom 0 y.parts) (found nat_cmp s.finished e.0) (settled s e.0 e.1) (λ _. s) (λ _. rises_settled s e.0 e.1 h) (λ _ _. h))

rises_one : (r : Record) (s : ShardDurable) → RisesFrom 0 s.parts → RisesFrom 0 (shard_applied s r).parts
rises_one (Prepared u p) s h = rises_put 0 u p s.parts (omega arith) h
rises_one (Finished es) s h = rises_all es s h
rises_one (Head p) s h = h
rises_one (Promised u b) s h = h
rises_one (Accepted u b o) s h = h
rises_one (Decided es) s h = h

rises_log : (rs : List Record) (s : ShardDurable) → RisesFrom 0 s.parts → RisesFrom 0 (shard_replayed s rs).parts
rises_log [] s h = h
rises_log (r ∷ rs) s h = rises_log rs (shard_applied s r) (rises_one r s h)

-- WHAT STAYS
pub record Basics (c : Layout) (w : Parties) : Type 0 where
  pub layout : w.layout ≡ c
  pub replays : (d : ℕ) (x : CoordNode) → coord_at w d ≡ Some x → x.durable ≡ replayed x.log
  pub shard_replays : (d sh : ℕ) (x : ShardNode) → shard_at w d sh ≡ Some x → (shard_started x.log).durable ≡ x.durable
  pub differ : (u : ℕ) (x : Client) → found nat_cmp w.clients u ≡ Some x → Differ x.slots

pub facts_of : (c : Layout) (w : Parties) → Basics c w → Facts c w
facts_of c w b =
    record {
      layout = b.layout;
      replays = b.replays;
      shard_replays = b.shard_replays;
      rises = λ d sh x is. subst (λ (s : ShardDurable). RisesFrom 0 s.parts) (b.shard_replays d sh x is) (rises_log x.log new_durable tt);
      apart = λ u x is. differ_apart x.slots (b.differ u x is);
    }

module _ (c : Layout) (w : Parties) (b : Basics c w) where
  coord_set_basics : (d : ℕ) (x y : CoordNode) (r : Option Record) → coord_at w d ≡ Some x → y.durable ≡ replayed y.log → Basics c (with_coord w d y r)
  coord_set_basics d x y r there new =
      record {
        layout = b.layout;
        replays = λ e z is. ⊎_elim
            (λ (same : e ≡ d). subst (λ (n : CoordNode). n.durable ≡ replayed n.log) (some_is y z (sym (coord_set w d x y r there) ∙ subst (λ (n : ℕ). coord_at (with_coord w d y r) n ≡ Some z) same is)) new)
            (λ (n : e ≡ d → ⊥). b.replays e z (sym (coord_set_other w d e x y r there n) ∙ is))
            (nat_dec e d);
        shard_replays = b.shard_replays;
        differ = b.differ;
      }

  shard_set_basics : (d sh : ℕ) (x y : ShardNode) → shard_at w d sh ≡ Some x → (shard_started y.log).durable ≡ y.durable → Basics c (with_shard w d sh y)
  shard_set_basics d sh x y there new =
      record {
        layout = b.layout;
        replays = b.replays;
        shard_replays = λ e eh z is. ⊎_elim
            (λ (a : e ≡ d). ⊎_elim
            (λ (k : eh ≡ sh).
            let is2 : shard_at (with_shard w d sh y) d sh ≡ Some z = subst (λ (n : ℕ × ℕ). shard_at (with_shard w d sh y) n.0 n.1 ≡ Some z) (λ i. (a i, k i)) is in
            subst (λ (n : ShardNode). (shard_started n.log).durable ≡ n.durable) (some_is y z (sym (shard_set w d sh x y there) ∙ is2)) new)
            (λ (n : eh ≡ sh → ⊥). b.shard_replays e eh z (sym (shard_set_other w d sh e eh x y there (λ p. n p.1)) ∙ is)) (nat_dec eh sh))
            (λ (n : e ≡ d → ⊥). b.shard_replays e eh z (sym (shard_set_other w d sh e eh x y there (λ p. n p.0)) ∙ is))
            (nat_dec e d);
        differ = b.differ;
      }

  -- the log with one more record or none
  more_coord : (d : ℕ) (x : CoordNode) (r : Option Record) → coord_at w d ≡ Some x → applied coord_applied x.durable r ≡ replayed (logged x.log r)
  more_coord d x r there = ap (λ (s : CoordDurable). applied coord_applied s r) (b.replays d x there) ∙ replay_logged r x.log

  more_shard : (d sh : ℕ) (x : ShardNode) (r : Option Record) → shard_at w d sh ≡ Some x → shard_replayed new_durable (logged x.log r) ≡ applied shard_applied x.durable r
  more_shard d sh x r there = sym (shard_replay_logged r x.log) ∙ ap (λ (s : ShardDurable). applied shard_applied s r) (b.shard_replays d sh x there)

  client_basics : (u : ℕ) (x : Client) (k : ClientCause) → found nat_cmp w.clients u ≡ Some x → Basics c (with_client w u (client_act w.layout u x k).after)
  client_basics u x k is =
      let y : Client = (client_act w.layout u x k).after in
      record {
        layout = b.layout;
        replays = b.replays;
        shard_replays = b.shard_replays;
        differ = λ t z at. ⊎_elim
            (λ (e : (t ≡ u) × (found nat_cmp (replaced w.clients u y) t ≡ Some y)). subst (λ (q : Client). Differ q.slots) (some_is y z (sym e.1 ∙ at)) (differ_still w.layout u x k (b.differ u x is)))
            (λ (e : (t ≡ u → ⊥) × (found nat_cmp (replaced w.clients u y) t ≡ found nat_cmp w.clients t)). b.differ t z (sym e.1 ∙ at))
            (set_cases t u y x w.clients is);
      }

  begin_basics : (u : ℕ) → Basics c (with_new_client w u)
  begin_basics u =
      record {
        layout = b.layout;
        replays = b.replays;
        shard_replays = b.shard_replays;
        differ = λ t z at. ⊎_elim
            (λ (e : (t ≡ u) × (found nat_cmp (put nat_cmp w.clients u new_client) t ≡ Some new_client)). subst (λ (q : Client). Differ q.slots) (some_is new_client z (sym e.1 ∙ at)) tt)
            (λ (e : (t ≡ u → ⊥) × (found nat_cmp (put nat_cmp w.clients u new_client) t ≡ found nat_cmp w.clients t)). b.differ t z (sym e.1 ∙ at))
            (put_cases t u new_client w.clients);
      }

module _ (c : Layout) (v : World) (e : Event) (course : Course) (b : Basics c v.parties) where
  joined : (d : Deed) → after_begin v.parties e ≡ v.parties → Basics c (parties_after v.parties d) → Basics c (parties_after (after_begin v.parties e) d)
  joined d same h = subst (λ (w : Parties). Basics c (parties_after w d)) (sym same) h

  by_move : (d : Deed) → Move v.parties v.sent e course d → Basics c (parties_after (after_begin v.parties e) d)
  by_move _ Rests = ⊎_elim (λ (u : (n : ℕ) × (e ≡ Begin n)). subst (λ (x : Event). Basics c (after_begin v.parties x)) (sym u.1) (begin_basics c v.parties b u.0)) (λ same. joined Idle (same v.parties) b) (begins_or e)
  by_move _ (ClientActs u x k is why) = joined (ByClient u (client_act v.parties.layout u x k)) (client_joins v.parties v.sent e u k why) (client_basics c v.parties b u x k is)
  by_move _ (CoordActs d x k there why) =
      let a = coord_act v.parties.layout d x.durable x.volatile k in
      joined (ByCoord d x a) (coord_joins v.parties v.sent e d k why) (coord_set_basics c v.parties b d x (coord_after x a) a.logs there (more_coord c v.parties b d x a.logs there))
  by_move _ (CoordWakes d x there why) =
      let a = coord_act v.parties.layout d (coord_started x.log).durable (coord_started x.log).volatile Catches in
      joined (ByCoord d (coord_started x.log) a) (ap (after_begin v.parties) why) (coord_set_basics c v.parties b d x (coord_after (coord_started x.log) a) a.logs there refl)
  by_move _ (CoordHalts d x k kept r there why logs stops same) =
      joined (CoordStops d x (kept_record kept r)) (coord_joins v.parties v.sent e d k why) (coord_set_basics c v.parties b d x (coord_stopped x (kept_record kept r)) (kept_record kept r) there (more_coord c v.parties b d x (kept_record kept r) there))
  by_move _ (CoordCrashes d x there why) = joined (CoordStops d x None) (ap (after_begin v.parties) why) (coord_set_basics c v.parties b d x (coord_stopped x None) None there (more_coord c v.parties b d x None there))
  by_move _ (ShardActs d s x k there why) =
      let a = shard_act v.parties.layout d s x.durable x.volatile k in
      joined (ByShard d s x a) (shard_joins v.parties v.sent e d s k why) (shard_set_basics c v.parties b d s x (shard_after x a) there (more_shard c v.parties b d s x a.logs there))
  by_move _ (ShardWakes d s x there why) =
      let a = shard_act v.parties.layout d s (shard_started x.log).durable (shard_started x.log).volatile Catches in
      joined (ByShard d s (shard_started x.log) a) (ap (after_begin v.parties) why) (shard_set_basics c v.parties b d s x (shard_after (shard_started x.log) a) there refl)
  by_move _ (ShardHalts d s x k kept r there why logs stops same) =
      joined (ShardStops d s x (kept_record kept r)) (shard_joins v.parties v.sent e d s k why) (shard_set_basics c v.parties b d s x (shard_stopped x (kept_record kept r)) there (more_shard c v.parties b d s x (kept_record kept r) there))
  by_move _ (ShardCrashes d s x there why) = joined (ShardStops d s x None) (ap (after_begin v.parties) why) (shard_set_basics c v.parties b d s x (shard_stopped x None) there (more_shard c v.parties b d s x None there))

  basics_still : Basics c (step v e course).parties
  basics_still = by_move (course_deed v e course) (move_of v.parties v.sent e course)

-- at each moment of a run
pub basics_at : (c : Layout) (w : World) (hs : List Happening) → Basics c w.parties → (v : World) → In v (moments w hs) → Basics c v.parties
basics_at c w hs b v i = over_at (λ z. Unit {0}) (λ z h. Unit {0}) (λ z. Basics c z.parties) (λ z h ok m n u p. basics_still c z h.0 h.1 p) w hs (λ z j. tt) (λ z h j. tt) b v i

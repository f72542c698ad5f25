-- Each event of a quiet stretch keeps what holds of t.
use Rattle.std.proofs.Common.{◌≡◌, ℕ, List, [], ◌++◌, refl, sym, ap, ◌∙◌, subst, Bool, true, false, Option, Some, None, ◌⊎◌, inl, inr, ⊎_elim, true≢false}
use Rattle.std.specs.Prelude.{is_none}
use Rattle.std.specs.Ordering.{nat_cmp}
use Rattle.rc_ids.specs.Tables.{In, found, maybe}
use Rattle.rc_ids.specs.declared.names.NodeId.{NodeId}
use Rattle.rc_ids.specs.declared.names.NodeId.TheVariants.{Coord, Shard as ShardServer}
use Rattle.rc_ids.specs.declared.names.Party.{Party}
use Rattle.rc_msg.specs.declared.msg.Envelope.{Envelope}
use Rattle.rc_record.specs.declared.record.Record.{Record}
use Rattle.rc_report.specs.declared.fault.Wrong.{Wrong}
use Rattle.rc_report.specs.declared.fault.Wrong.TheVariants.{BegunTwice, Up}
use Rattle.rc_report.specs.declared.fault.Which.{Which}
use Rattle.rc_protocol.specs.Messages.{Posts, coordinator, shard_server, client_of}
use Rattle.rc_protocol.specs.Client.{Client, ClientAct, ClientRefusal, KeyWornOut}
use Rattle.rc_protocol.specs.Shard.{do_catch as shard_catches, new_volatile as new_shard_volatile}
use Rattle.rc_protocol.specs.Coordinator.{CoordAct, do_catch as coord_catches, new_volatile as new_coord_volatile}
use Rattle.rc_protocol.specs.Acts.{NodeCause, coord_act, shard_act, ClientCause, Hears, Reads, Writes, Commits, Cancels, Retries, Vanishes, client_act}
use Rattle.rc_protocol.specs.Nodes.{CoordNode, ShardNode, coord_started, shard_started, coord_after, shard_after, coord_stopped, shard_stopped}
use Rattle.rc_runs.specs.declared.event.Event.{Event}
use Rattle.rc_runs.specs.declared.event.Event.TheVariants.{Begin, Crash, Restart}
use Rattle.rc_runs.specs.World.{World, Parties, Deed, Idle, ByClient, ByCoord, ByShard, CoordStops, ShardStops, Course, kept_record, coord_at, shard_at, is_up, envelopes, deed, along, sends_of, with_coord, with_shard, with_client, after_begin, parties_after, delivered_after, actor, course_deed, step}
use Rattle.rc_runs.specs.Refusals.{Happening, wrong, is_begun, worn_out, limit_of, is_event}
use Rattle.rc_claims.specs.Quiet.{DropsNothing}
use Rattle.rc_agreement.proofs.Cases.{on_cond, never, nat_dec, and_left, and_right}
use Rattle.rc_agreement.proofs.Places.{coord_set, shard_set}
use Rattle.rc_agreement.proofs.Agreeing.{not_begun}
use Rattle.rc_causes.proofs.Moves.{CoordWhy, ShardWhy, ClientWhy, Move, Rests, ClientActs, CoordActs, CoordWakes, CoordHalts, CoordCrashes, ShardActs, ShardWakes, ShardHalts, ShardCrashes, move_of, coord_joins, shard_joins, client_joins, coord_actor, shard_actor}
use Rattle.rc_quiet.proofs.ClientDoes.{DropsNone}
use Rattle.rc_quiet.proofs.Turns.{coord_acts, coord_halts, coord_crashes, coord_wakes, shard_halts, shard_crashes, shard_wakes}
use Rattle.rc_quiet.proofs.Steps.{Moment, Holds, Shows, shown}
use Rattle.rc_quiet.proofs.NodeEvents.{coord_shows, coord_goes, shard_shows, shard_goes}
use Rattle.rc_quiet.proofs.ClientEvents.{other_shows, own_shows, rest_shows, begin_shows}

-- an event that drops nothing of t is no command of its client that does
pub drops_none : (t : ℕ) (sent : List Envelope) (e : Event) (k : ClientCause) → DropsNothing t e → ClientWhy sent e t k → DropsNone k
drops_none t sent e (Cancels q) h why = subst (DropsNothing t) why h refl
drops_none t sent e Vanishes h why = subst (DropsNothing t) why h refl
drops_none t sent e (Hears m) h why = tt
drops_none t sent e (Reads q) h why = tt
drops_none t sent e (Writes q value) h why = tt
drops_none t sent e Commits h why = tt
drops_none t sent e Retries h why = tt

client_acts_in : (sent : List Envelope) (e : Event) (u : ℕ) (k : ClientCause) → ClientWhy sent e u k → actor sent e ≡ client_of u
client_acts_in sent e u (Hears m) why = rw why.2 (rw why.3 refl)
client_acts_in sent e u (Reads q) why = rw why refl
client_acts_in sent e u (Writes q value) why = rw why refl
client_acts_in sent e u Commits why = rw why refl
client_acts_in sent e u (Cancels q) why = rw why refl
client_acts_in sent e u Retries why = rw why refl
client_acts_in sent e u Vanishes why = rw why refl

-- a command to begin, or none
pub begins_or : (e : Event) → ((u : ℕ) × (e ≡ Begin u)) ⊎ ((w : Parties) → after_begin w e ≡ w)
begins_or (Begin u) = inl (u, refl)
begins_or _ = inr (λ w. refl)

module _ (members : List ℕ) (t : ℕ) (keys : List (List ℕ)) (v : World) (e : Event) (course : Course) (ok : wrong v e ≡ None) (lasts : worn_out (course_deed v e course) ≡ None) (drops : DropsNothing t e)
    (h : Holds members t v.parties v.sent v.delivered) (moment : Moment members t keys v.parties) where
  -- the world after this deed
  abbrev After : Deed → Type 0
  After d = Holds members t (parties_after (after_begin v.parties e) d) (v.sent ++ envelopes (actor v.sent e) (sends_of d)) (delivered_after v.delivered e)

  abbrev Later : Deed → Type 0
  Later d = Moment members t keys (parties_after (after_begin v.parties e) d)

  -- in the words of the one who acts
  said_of : (d : Deed) (from : Party) → after_begin v.parties e ≡ v.parties → actor v.sent e ≡ from
      → (Moment members t keys (parties_after v.parties d) → Holds members t (parties_after v.parties d) (v.sent ++ envelopes from (sends_of d)) (delivered_after v.delivered e)) → Later d → After d
  said_of d from joins acts f =
      subst (λ (q : Parties × Party). Moment members t keys (parties_after q.0 d) → Holds members t (parties_after q.0 d) (v.sent ++ envelopes q.1 (sends_of d)) (delivered_after v.delivered e)) (λ i. (sym joins i, sym acts i)) f

  show : (from : Party) (ms : Posts) (w : Parties) → Shows members t v e ok h from ms w → Holds members t w (v.sent ++ envelopes from ms) (delivered_after v.delivered e)
  show from ms w s = shown members t v e ok h from ms w s

  -- COORDINATORS
  -- a member that stops is not up
  stops_outside : (d : ℕ) (x y : CoordNode) (r : Option Record) → coord_at v.parties d ≡ Some x → y.up ≡ false → Moment members t keys (with_coord v.parties d y r) → In d members → ⊥
  stops_outside d x y r there down later m = true≢false (sym (later.calm.up d y m (coord_set v.parties d x y r there)) ∙ down)

  coord_event : (d : ℕ) (x : CoordNode) (k : NodeCause) → coord_at v.parties d ≡ Some x → CoordWhy v.sent e d k → Later (ByCoord d x (coord_act v.parties.layout d x.durable x.volatile k)) → After (ByCoord d x (coord_act v.parties.layout d x.durable x.volatile k))
  coord_event d x k there why =
      let a : CoordAct = coord_act v.parties.layout d x.durable x.volatile k in
      let acts = coord_actor v.sent e d k why in
      said_of (ByCoord d x a) (coordinator d) (coord_joins v.parties v.sent e d k why) acts
      (λ later. show (coordinator d) a.sends (with_coord v.parties d (coord_after x a) a.logs)
      (coord_shows members t keys v e ok h moment d x (coord_after x a) a.logs a.sends there acts
      (coord_acts members t v.parties v.sent e h.kept moment.calm d x there k why (later.calm.untaken d (coord_after x a) (coord_set v.parties d x (coord_after x a) a.logs there)))
      (λ m. coord_goes members t keys v e ok h moment d x m there k why)))

  coord_stop_event : (d : ℕ) (x : CoordNode) (k : NodeCause) (kept : Bool) (r : Record) → coord_at v.parties d ≡ Some x → CoordWhy v.sent e d k → (coord_act v.parties.layout d x.durable x.volatile k).logs ≡ Some r
      → Later (CoordStops d x (kept_record kept r)) → After (CoordStops d x (kept_record kept r))
  coord_stop_event d x k kept r there why logs =
      let acts = coord_actor v.sent e d k why in
      let y : CoordNode = coord_stopped x (kept_record kept r) in
      said_of (CoordStops d x (kept_record kept r)) (coordinator d) (coord_joins v.parties v.sent e d k why) acts
      (λ later. let out = stops_outside d x y (kept_record kept r) there refl later in
      show (coordinator d) [] (with_coord v.parties d y (kept_record kept r))
      (coord_shows members t keys v e ok h moment d x y (kept_record kept r) [] there acts (coord_halts members t v.parties v.sent e h.kept moment.calm d x there k why kept r logs out) (λ m. absurd (out m))))

  coord_crash_event : (d : ℕ) (x : CoordNode) → coord_at v.parties d ≡ Some x → e ≡ Crash (Coord d) → Later (CoordStops d x None) → After (CoordStops d x None)
  coord_crash_event d x there why =
      let acts : actor v.sent e ≡ coordinator d = ap (actor v.sent) why in
      let y : CoordNode = coord_stopped x None in
      said_of (CoordStops d x None) (coordinator d) (ap (after_begin v.parties) why) acts
      (λ later. let out = stops_outside d x y None there refl later in
      show (coordinator d) [] (with_coord v.parties d y None)
      (coord_shows members t keys v e ok h moment d x y None [] there acts (coord_crashes members t v.parties v.sent e h.kept moment.calm d x there out) (λ m. absurd (out m))))

  -- who is up does not start again
  down_first : (node : NodeId) → e ≡ Restart node → is_up v.parties node ≡ false
  down_first node is = on_cond (λ o. o ≡ None → is_up v.parties node ≡ false) (is_up v.parties node) (Some (Up node)) None (λ _ f. never _ (sym f)) (λ f _. f) (subst (λ (x : Event). wrong v x ≡ None) is ok)

  coord_wake_event : (d : ℕ) (x : CoordNode) → coord_at v.parties d ≡ Some x → e ≡ Restart (Coord d) → Later (ByCoord d (coord_started x.log) (coord_catches v.parties.layout d new_coord_volatile)) → After (ByCoord d (coord_started x.log) (coord_catches v.parties.layout d new_coord_volatile))
  coord_wake_event d x there why =
      let acts : actor v.sent e ≡ coordinator d = ap (actor v.sent) why in
      let a : CoordAct = coord_catches v.parties.layout d new_coord_volatile in
      let out : In d members → ⊥ = λ m. true≢false (sym (moment.calm.up d x m there) ∙ sym (ap (λ (o : Option CoordNode). maybe o false (λ y. y.up)) there) ∙ down_first (Coord d) why) in
      said_of (ByCoord d (coord_started x.log) a) (coordinator d) (ap (after_begin v.parties) why) acts
      (λ later. show (coordinator d) a.sends (with_coord v.parties d (coord_after (coord_started x.log) a) None)
      (coord_shows members t keys v e ok h moment d x (coord_after (coord_started x.log) a) None a.sends there acts (coord_wakes members t v.parties v.sent e h.kept moment.calm d x there out) (λ m. absurd (out m))))

  -- SHARD SERVERS
  shard_event : (d sh : ℕ) (x : ShardNode) (k : NodeCause) → shard_at v.parties d sh ≡ Some x → ShardWhy v.sent e d sh k → Later (ByShard d sh x (shard_act v.parties.layout d sh x.durable x.volatile k)) → After (ByShard d sh x (shard_act v.parties.layout d sh x.durable x.volatile k))
  shard_event d sh x k there why =
      let acts = shard_actor v.sent e d sh k why in
      said_of (ByShard d sh x (shard_act v.parties.layout d sh x.durable x.volatile k)) (shard_server d sh) (shard_joins v.parties v.sent e d sh k why) acts
      (λ later. show (shard_server d sh) (shard_act v.parties.layout d sh x.durable x.volatile k).sends (with_shard v.parties d sh (shard_after x (shard_act v.parties.layout d sh x.durable x.volatile k)))
      (shard_goes members t keys v e ok h moment d sh x there k why acts later))

  shard_out : (d sh : ℕ) (x y : ShardNode) → shard_at v.parties d sh ≡ Some x → y.up ≡ false → Moment members t keys (with_shard v.parties d sh y) → In d members → ⊥
  shard_out d sh x y there down later m = true≢false (sym (later.calm.shards_up d sh y m (shard_set v.parties d sh x y there)) ∙ down)

  shard_stop_event : (d sh : ℕ) (x : ShardNode) (k : NodeCause) (kept : Bool) (r : Record) → shard_at v.parties d sh ≡ Some x → ShardWhy v.sent e d sh k → (shard_act v.parties.layout d sh x.durable x.volatile k).logs ≡ Some r
      → Later (ShardStops d sh x (kept_record kept r)) → After (ShardStops d sh x (kept_record kept r))
  shard_stop_event d sh x k kept r there why logs =
      let acts = shard_actor v.sent e d sh k why in
      let y : ShardNode = shard_stopped x (kept_record kept r) in
      said_of (ShardStops d sh x (kept_record kept r)) (shard_server d sh) (shard_joins v.parties v.sent e d sh k why) acts
      (λ later. let out = shard_out d sh x y there refl later in
      show (shard_server d sh) [] (with_shard v.parties d sh y)
      (shard_shows members t keys v e ok h moment d sh x y [] there acts (shard_halts members t v.parties v.sent e h.kept moment.calm d sh x there k why kept r logs out)
      (λ m. absurd (out m)) (λ c p q is m. absurd (out m)) (λ p q m. absurd (out m))))

  shard_crash_event : (d sh : ℕ) (x : ShardNode) → shard_at v.parties d sh ≡ Some x → e ≡ Crash (ShardServer d sh) → Later (ShardStops d sh x None) → After (ShardStops d sh x None)
  shard_crash_event d sh x there why =
      let acts : actor v.sent e ≡ shard_server d sh = ap (actor v.sent) why in
      let y : ShardNode = shard_stopped x None in
      said_of (ShardStops d sh x None) (shard_server d sh) (ap (after_begin v.parties) why) acts
      (λ later. let out = shard_out d sh x y there refl later in
      show (shard_server d sh) [] (with_shard v.parties d sh y)
      (shard_shows members t keys v e ok h moment d sh x y [] there acts (shard_crashes members t v.parties v.sent e h.kept moment.calm d sh x there out)
      (λ m. absurd (out m)) (λ c p q is m. absurd (out m)) (λ p q m. absurd (out m))))

  shard_wake_event : (d sh : ℕ) (x : ShardNode) → shard_at v.parties d sh ≡ Some x → e ≡ Restart (ShardServer d sh) → Later (ByShard d sh (shard_started x.log) (shard_catches d new_shard_volatile)) → After (ByShard d sh (shard_started x.log) (shard_catches d new_shard_volatile))
  shard_wake_event d sh x there why =
      let acts : actor v.sent e ≡ shard_server d sh = ap (actor v.sent) why in
      let y : ShardNode = shard_after (shard_started x.log) (shard_catches d new_shard_volatile) in
      let out : In d members → ⊥ = λ m. true≢false (sym (moment.calm.shards_up d sh x m there) ∙ sym (ap (λ (o : Option ShardNode). maybe o false (λ y. y.up)) there) ∙ down_first (ShardServer d sh) why) in
      said_of (ByShard d sh (shard_started x.log) (shard_catches d new_shard_volatile)) (shard_server d sh) (ap (after_begin v.parties) why) acts
      (λ later. show (shard_server d sh) (shard_catches d new_shard_volatile).sends (with_shard v.parties d sh y)
      (shard_shows members t keys v e ok h moment d sh x y (shard_catches d new_shard_volatile).sends there acts (shard_wakes members t v.parties v.sent e h.kept moment.calm d sh x there out)
      (λ m. absurd (out m)) (λ c p q is m. absurd (out m)) (λ p q m. absurd (out m))))

  -- CLIENTS
  not_worn : (a : ClientAct) → maybe a.refused None limit_of ≡ None → a.refused ≡ Some KeyWornOut → ⊥
  not_worn a none is = let f : maybe (Some KeyWornOut) None limit_of ≡ None = subst (λ (o : Option ClientRefusal). maybe o None limit_of ≡ None) is none in cc

  client_event : (u : ℕ) (x : Client) (k : ClientCause) → found nat_cmp v.parties.clients u ≡ Some x → ClientWhy v.sent e u k → worn_out (ByClient u (client_act v.parties.layout u x k)) ≡ None
      → Later (ByClient u (client_act v.parties.layout u x k)) → After (ByClient u (client_act v.parties.layout u x k))
  client_event u x k is why fine =
      let acts = client_acts_in v.sent e u k why in
      said_of (ByClient u (client_act v.parties.layout u x k)) (client_of u) (client_joins v.parties v.sent e u k why) acts
      (λ later. show (client_of u) (client_act v.parties.layout u x k).sends (with_client v.parties u (client_act v.parties.layout u x k).after)
      (⊎_elim
      (λ (same : u ≡ t). own u x k is why fine acts same)
      (λ (n : u ≡ t → ⊥). other_shows members t keys v e ok h moment u x k n is acts)
      (nat_dec u t)))
    where
      own : (u : ℕ) (x : Client) (k : ClientCause) → found nat_cmp v.parties.clients u ≡ Some x → ClientWhy v.sent e u k → worn_out (ByClient u (client_act v.parties.layout u x k)) ≡ None → actor v.sent e ≡ client_of u → u ≡ t
          → Shows members t v e ok h (client_of u) (client_act v.parties.layout u x k).sends (with_client v.parties u (client_act v.parties.layout u x k).after)
      own u x k is why fine acts same =
          subst (λ (n : ℕ). found nat_cmp v.parties.clients n ≡ Some x → ClientWhy v.sent e n k → worn_out (ByClient n (client_act v.parties.layout n x k)) ≡ None → actor v.sent e ≡ client_of n
          → Shows members t v e ok h (client_of n) (client_act v.parties.layout n x k).sends (with_client v.parties n (client_act v.parties.layout n x k).after)) (sym same)
          (λ is2 why2 fine2 acts2. own_shows members t keys v e ok h moment x k is2 why2 (drops_none t v.sent e k drops why2) acts2 (not_worn (client_act v.parties.layout t x k) fine2)) is why fine acts

  -- NOBODY
  rest_event : along course (deed v.parties v.sent e) ≡ Idle → Later Idle → After Idle
  rest_event idle later = ⊎_elim begun (λ same. still (same v.parties)) (begins_or e)
    where
      begun : (u : ℕ) × (e ≡ Begin u) → After Idle
      begun b =
          let new : is_begun v.parties b.0 ≡ false = on_cond (λ o. o ≡ None → is_begun v.parties b.0 ≡ false) (is_begun v.parties b.0) (Some (BegunTwice b.0)) None (λ _ f. never _ (sym f)) (λ f _. f) (subst (λ (x : Event). wrong v x ≡ None) b.1 ok) in
          let r = show (client_of b.0) [] (after_begin v.parties (Begin b.0)) (begin_shows members t keys v e ok h moment b.0 b.1 (not_begun v.parties b.0 new)) in
          subst (λ (x : Event). Holds members t (after_begin v.parties x) (v.sent ++ []) (delivered_after v.delivered e)) (sym b.1) r

      still : after_begin v.parties e ≡ v.parties → After Idle
      still same =
          let r = show (client_of 0) [] v.parties (rest_shows members t keys v e ok h moment course idle (client_of 0) (λ d m f. cc)) in
          subst (λ (w : Parties). Holds members t w (v.sent ++ []) (delivered_after v.delivered e)) (sym same) r

  by_move : (d : Deed) → Move v.parties v.sent e course d → d ≡ along course (deed v.parties v.sent e) → worn_out d ≡ None → Later d → After d
  by_move _ Rests is fine later = rest_event (sym is) later
  by_move _ (ClientActs u x k found why) is fine later = client_event u x k found why fine later
  by_move _ (CoordActs d x k there why) is fine later = coord_event d x k there why later
  by_move _ (CoordWakes d x there why) is fine later = coord_wake_event d x there why later
  by_move _ (CoordHalts d x k kept r there why logs stops same) is fine later = coord_stop_event d x k kept r there why logs later
  by_move _ (CoordCrashes d x there why) is fine later = coord_crash_event d x there why later
  by_move _ (ShardActs d s x k there why) is fine later = shard_event d s x k there why later
  by_move _ (ShardWakes d s x there why) is fine later = shard_wake_event d s x there why later
  by_move _ (ShardHalts d s x k kept r there why logs stops same) is fine later = shard_stop_event d s x k kept r there why logs later
  by_move _ (ShardCrashes d s x there why) is fine later = shard_crash_event d s x there why later

  pub keeps : Moment members t keys (step v e course).parties → Holds members t (step v e course).parties (step v e course).sent (step v e course).delivered
  keeps later = by_move (course_deed v e course) (move_of v.parties v.sent e course) refl lasts later

-- an event names nothing wrongly, and is not worn out
pub event_ok : (v : World) (h : Happening) → is_event v h ≡ true → (wrong v h.0 ≡ None) × (worn_out (course_deed v h.0 h.1) ≡ None)
event_ok v h is = (none (wrong v h.0) (and_left _ _ is), none2 (worn_out (course_deed v h.0 h.1)) (and_right (is_none (wrong v h.0)) _ is))
  where
    none : (o : Option Wrong) → is_none o ≡ true → o ≡ None
    none None e = refl
    none (Some x) e = absurd (true≢false (sym e))

    none2 : (o : Option Which) → is_none o ≡ true → o ≡ None
    none2 None e = refl
    none2 (Some x) e = absurd (true≢false (sym e))

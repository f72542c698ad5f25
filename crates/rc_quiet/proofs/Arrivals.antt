-- What came before an event, and what comes in it.
use Rattle.std.proofs.Common.{◌≡◌, ℕ, zero, suc, ◌-◌, List, [], ◌∷◌, ◌++◌, refl, sym, ap, ◌∙◌, subst, Bool, true, false, cond, Option, Some, None, ◌⊎◌, inl, inr, ⊎_elim}
use Rattle.std.specs.Prelude.{slice_get, ◌==◌}
use Rattle.std.specs.Ordering.{nat_cmp}
use Rattle.rc_ids.specs.Tables.{In, found, maybe}
use Rattle.rc_ids.specs.declared.names.Party.{Party}
use Rattle.rc_msg.specs.declared.msg.Envelope.{Envelope}
use Rattle.rc_msg.specs.declared.msg.Msg.{Msg}
use Rattle.rc_record.specs.declared.record.Record.{Record}
use Rattle.rc_report.specs.declared.fault.Wrong.TheVariants.{NotSent}
use Rattle.rc_protocol.specs.Messages.{coordinator, shard_server, client_of}
use Rattle.rc_protocol.specs.Client.{Client}
use Rattle.rc_protocol.specs.Acts.{Came as Comes, coord_act, shard_act, Hears, client_act}
use Rattle.rc_protocol.specs.Nodes.{CoordNode, ShardNode}
use Rattle.rc_runs.specs.declared.event.Event.{Event}
use Rattle.rc_runs.specs.declared.event.Event.TheVariants.{Deliver}
use Rattle.rc_runs.specs.World.{World, Parties, Deed, Idle, ByClient, ByCoord, ByShard, CoordStops, ShardStops, kept_record, Course, Goes, Stops, message, coord_at, shard_at, deed, along, delivered_after, actor}
use Rattle.rc_runs.specs.Refusals.{wrong}
use Rattle.rc_agreement.proofs.Cases.{some_is, never}
use Rattle.rc_agreement.proofs.Tables.{in_left, in_either}
use Rattle.rc_causes.proofs.Moves.{Delivers}
use Rattle.rc_quiet.proofs.Parts.{Came}

-- NUMBERS
get_more : {A : Type 0} (xs ys : List A) (i : ℕ) (x : A) → slice_get xs i ≡ Some x → slice_get (xs ++ ys) i ≡ Some x
get_more [] ys i x e = never x e
get_more (y ∷ xs) ys zero x e = e
get_more (y ∷ xs) ys (suc i) x e = get_more xs ys i x e

-- a message keeps its number
pub message_more : (sent more : List Envelope) (n : ℕ) (e : Envelope) → message sent n ≡ Some e → message (sent ++ more) n ≡ Some e
message_more sent more n e =
    go (n == 0)
  where
    go : (b : Bool) → cond b None (slice_get sent (n - 1)) ≡ Some e → cond b None (slice_get (sent ++ more) (n - 1)) ≡ Some e
    go true is = never e is
    go false is = get_more sent more (n - 1) e is

-- each number that was delivered is of a message
abbrev pub AreSent : List Envelope → List ℕ → Type 0
AreSent sent delivered = (n : ℕ) → In n delivered → (e : Envelope) × (message sent n ≡ Some e)

delivered_old : (delivered : List ℕ) (e : Event) (n : ℕ) → In n delivered → In n (delivered_after delivered e)
delivered_old delivered (Deliver k) n i = in_left n delivered (k ∷ []) i
delivered_old delivered _ n i = i

delivered_new : (delivered : List ℕ) (e : Event) (n : ℕ) → In n (delivered_after delivered e) → In n delivered ⊎ (e ≡ Deliver n)
delivered_new delivered (Deliver k) n i = ⊎_elim inl (λ (j : (k ≡ n) ⊎ ⊥). ⊎_elim (λ f. inr (ap Deliver f)) (λ z. absurd z) j) (in_either n delivered (k ∷ []) i)
delivered_new delivered _ n i = inl i

-- what is delivered in an event was sent
event_sent : (w : World) (e : Event) (n : ℕ) → wrong w e ≡ None → e ≡ Deliver n → (f : Envelope) × (message w.sent n ≡ Some f)
event_sent w e n ok is =
    let k : maybe (message w.sent n) (Some (NotSent n)) (λ x. None) ≡ None = subst (λ (x : Event). wrong w x ≡ None) is ok in
    go (message w.sent n) k
  where
    go : (o : Option Envelope) → maybe o (Some (NotSent n)) (λ x. None) ≡ None → (f : Envelope) × (o ≡ Some f)
    go None h = never _ (sym h)
    go (Some f) h = (f, refl)

module _ (w : World) (e : Event) (ok : wrong w e ≡ None) (more : List Envelope) (sent_before : AreSent w.sent w.delivered) where
  pub are_sent : AreSent (w.sent ++ more) (delivered_after w.delivered e)
  are_sent n i =
      ⊎_elim
      (λ old. let r = sent_before n old in (r.0, message_more w.sent more n r.0 r.1))
      (λ new. let r = event_sent w e n ok new in (r.0, message_more w.sent more n r.0 r.1))
      (delivered_new w.delivered e n i)

  pub came_still : (from to : Party) (m : Msg) → Came w.sent w.delivered from to m → Came (w.sent ++ more) (delivered_after w.delivered e) from to m
  came_still from to m h = (h.0, delivered_old w.delivered e h.0 h.1, message_more w.sent more h.0 _ h.2)

  -- what came with the event came before it, or is what it delivers
  pub came_now : (from to : Party) (m : Msg) → Came (w.sent ++ more) (delivered_after w.delivered e) from to m
      → Came w.sent w.delivered from to m ⊎ ((n : ℕ) × (e ≡ Deliver n) × (message w.sent n ≡ Some (record { from = from; to = to; msg = m })))
  came_now from to m h =
      ⊎_elim
      (λ old. let r = sent_before h.0 old in inl (h.0, old, r.1 ∙ ap Some (same r.0 r.1)))
      (λ new. let r = event_sent w e h.0 ok new in inr (h.0, new, r.1 ∙ ap Some (same r.0 r.1)))
      (delivered_new w.delivered e h.0 h.1)
    where
      same : (f : Envelope) → message w.sent h.0 ≡ Some f → f ≡ record { from = from; to = to; msg = m }
      same f is = some_is f _ (sym (message_more w.sent more h.0 f is) ∙ h.2)

-- two that an event delivers are one
pub one_delivered : (sent : List Envelope) (e : Event) (n : ℕ) (from to : Party) (m : Msg) → e ≡ Deliver n → message sent n ≡ Some (record { from = from; to = to; msg = m })
    → (p : Party) (k : Msg) → Delivers sent e p k → (to ≡ p) × (m ≡ k)
one_delivered sent e n from to m is got p k h =
    let number : n ≡ h.0 = ap of (sym is ∙ h.2) in
    let same = some_is _ _ (sym got ∙ subst (λ (z : ℕ). message sent z ≡ Some (record { from = h.1; to = p; msg = k })) (sym number) h.3) in
    (ap (λ (z : Envelope). z.to) same, ap (λ (z : Envelope). z.msg) same)
  where
    of : Event → ℕ
    of (Deliver z) = z
    of _ = 0

pub delivered_actor : (sent : List Envelope) (e : Event) (n : ℕ) (from to : Party) (m : Msg) → e ≡ Deliver n → message sent n ≡ Some (record { from = from; to = to; msg = m }) → actor sent e ≡ to
delivered_actor sent e n from to m is got = rw is (rw got refl)

-- A DELIVERY TO ONE WHO IS THERE is no rest
along_idle : (course : Course) (d : Deed) → along course d ≡ Idle → d ≡ Idle
along_idle Goes d e = e
along_idle (Stops kept) (ByCoord d x act) e = go act.logs e
  where
    go : (o : Option Record) → maybe o (ByCoord d x act) (λ r. CoordStops d x (kept_record kept r)) ≡ Idle → ByCoord d x act ≡ Idle
    go None f = f
    go (Some r) f = absurd (cc)
along_idle (Stops kept) (ByShard d sh x act) e = go act.logs e
  where
    go : (o : Option Record) → maybe o (ByShard d sh x act) (λ r. ShardStops d sh x (kept_record kept r)) ≡ Idle → ByShard d sh x act ≡ Idle
    go None f = f
    go (Some r) f = absurd (cc)
along_idle (Stops kept) Idle e = refl
along_idle (Stops kept) _ e = e

module _ (w : Parties) (sent : List Envelope) (e : Event) (n : ℕ) (from : Party) (m : Msg) (is : e ≡ Deliver n) where
  pub coord_wakes_up : (d : ℕ) (x : CoordNode) → message sent n ≡ Some (record { from = from; to = coordinator d; msg = m }) → coord_at w d ≡ Some x → x.up ≡ true
      → deed w sent e ≡ ByCoord d x (coord_act w.layout d x.durable x.volatile (Comes from m))
  coord_wakes_up d x got there up = rw is (rw got (rw there (rw up refl)))

  pub shard_wakes_up : (d sh : ℕ) (x : ShardNode) → message sent n ≡ Some (record { from = from; to = shard_server d sh; msg = m }) → shard_at w d sh ≡ Some x → x.up ≡ true
      → deed w sent e ≡ ByShard d sh x (shard_act w.layout d sh x.durable x.volatile (Comes from m))
  shard_wakes_up d sh x got there up = rw is (rw got (rw there (rw up refl)))

  pub client_wakes_up : (t : ℕ) (x : Client) → message sent n ≡ Some (record { from = from; to = client_of t; msg = m }) → found nat_cmp w.clients t ≡ Some x
      → deed w sent e ≡ ByClient t (client_act w.layout t x (Hears m))
  client_wakes_up t x got there = rw is (rw got (rw there refl))

  -- so the event is none in which nobody acts
  pub coord_not_idle : (course : Course) (d : ℕ) (x : CoordNode) → message sent n ≡ Some (record { from = from; to = coordinator d; msg = m }) → coord_at w d ≡ Some x → x.up ≡ true → along course (deed w sent e) ≡ Idle → ⊥
  coord_not_idle course d x got there up idle = let f = sym (coord_wakes_up d x got there up) ∙ along_idle course (deed w sent e) idle in cc

  pub shard_not_idle : (course : Course) (d sh : ℕ) (x : ShardNode) → message sent n ≡ Some (record { from = from; to = shard_server d sh; msg = m }) → shard_at w d sh ≡ Some x → x.up ≡ true → along course (deed w sent e) ≡ Idle → ⊥
  shard_not_idle course d sh x got there up idle = let f = sym (shard_wakes_up d sh x got there up) ∙ along_idle course (deed w sent e) idle in cc

  pub client_not_idle : (course : Course) (t : ℕ) (x : Client) → message sent n ≡ Some (record { from = from; to = client_of t; msg = m }) → found nat_cmp w.clients t ≡ Some x → along course (deed w sent e) ≡ Idle → ⊥
  client_not_idle course t x got there idle = let f = sym (client_wakes_up t x got there) ∙ along_idle course (deed w sent e) idle in cc

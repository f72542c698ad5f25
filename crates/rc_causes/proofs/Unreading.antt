-- Why a read printed nothing: what was granted of it stays, and a quorum of grants would have printed.
use Rattle.std.proofs.Common.{◌≡◌, ℕ, List, [], ◌∷◌, ◌++◌, refl, sym, ap, ◌∙◌, subst, Bool, true, false, cond, Option, Some, None, ⊎_elim, true≢false}
use Rattle.std.specs.Prelude.{is_none}
use Rattle.std.specs.Ordering.{nat_cmp}
use Rattle.rc_ids.specs.Tables.{In, found, put, maybe, member}
use Rattle.rc_ids.specs.Cluster.{Layout, IsLayout, is_dc, is_quorum}
use Rattle.rc_ids.proofs.QuorumFacts.{quorum_laws}
use Rattle.rc_msg.specs.declared.msg.Envelope.{Envelope}
use Rattle.rc_msg.specs.declared.msg.Msg.TheVariants.{Granted}
use Rattle.rc_report.specs.declared.line.Line.TheVariants.{Read as ReadLine}
use Rattle.rc_report.specs.declared.fault.Wrong.{Wrong}
use Rattle.rc_report.specs.declared.fault.Wrong.TheVariants.{NotBegun, BegunTwice, Vanished}
use Rattle.rc_report.specs.declared.fault.Which.TheVariants.{Version}
use Rattle.rc_runs.specs.declared.event.Event.{Event}
use Rattle.rc_runs.specs.declared.event.Event.TheVariants.{Begin, Read, Cancel}
use Rattle.rc_protocol.specs.Messages.{client_of}
use Rattle.rc_protocol.specs.Client.{Client, ClientAct, ClientRefusal, NotOpen, TooManyKeys, KeyWornOut, Slot, KeyRead, grants_of, granted_by, is_open, is_out_of_slots, is_vanished, slot_of, new_client, do_read, client_refuses}
use Rattle.rc_protocol.specs.Acts.{ClientCause, Hears, Reads, Cancels, client_act, refusal}
use Rattle.rc_protocol.specs.Nodes.{CoordNode, ShardNode}
use Rattle.rc_runs.specs.World.{World, Parties, Start, Deed, Idle, ByClient, Course, Goes, Stops, started_world, client_does, received, along, replaced, after_begin, parties_after, restart_lines, lines_of, course_deed, step, printed}
use Rattle.rc_runs.specs.Refusals.{Happening, wrong, wrong_of, name_of, is_begun, worn_out, limit_of, is_event, after_event, run, lines_at, lines}
use Rattle.rc_agreement.proofs.Cases.{on_cond, on_maybe, some_is, never, and_left, and_right}
use Rattle.rc_agreement.proofs.Tables.{in_left, in_right, put_cases, set_cases}
use Rattle.rc_agreement.proofs.Scenes.{scene, event_keeps, run_keeps}
use Rattle.rc_agreement.proofs.Agreeing.{not_begun}
use Rattle.rc_causes.specs.Moments.{Moment, DeliversNow}
use Rattle.rc_causes.specs.Unread.{ReadsNow, IsCancelled, IsUnderWay, IsGranted, UnreadHaveCauses}
use Rattle.rc_causes.proofs.Moves.{Move, Rests, ClientActs, CoordActs, CoordWakes, CoordHalts, CoordCrashes, ShardActs, ShardWakes, ShardHalts, ShardCrashes, move_of, ClientWhy, client_joins}
use Rattle.rc_causes.proofs.ReadSlots.{Stays, Has, read_stays}
use Rattle.rc_causes.proofs.ReadFits.{Fitting, fitting_kept}
use Rattle.rc_causes.proofs.ReadGrants.{Counts, Waits, counts_stay, waits_stay, counted_granted, waits_few, grant_counts, read_waits}

none_is : {A : Type 0} (o : Option A) → is_none o ≡ true → o ≡ None
none_is None e = refl
none_is (Some x) e = absurd (true≢false (sym e))

not_wrong : (w : World) (h : Happening) → is_event w h ≡ true → wrong w h.0 ≡ None
not_wrong w h is = none_is (wrong w h.0) (and_left (is_none (wrong w h.0)) _ is)

not_worn : (w : World) (h : Happening) → is_event w h ≡ true → worn_out (course_deed w h.0 h.1) ≡ None
not_worn w h is = none_is (worn_out (course_deed w h.0 h.1)) (and_right (is_none (wrong w h.0)) _ is)

run_both : (w : World) (xs ys : List Happening) → run w (xs ++ ys) ≡ run (run w xs) ys
run_both w [] ys = refl
run_both w (x ∷ xs) ys = run_both (after_event w x) xs ys

-- of the read of k at t's client
record Reading (R : KeyRead → Type 0) (t : ℕ) (k : List ℕ) (w : Parties) : Type 0 where
  client : Client
  is : found nat_cmp w.clients t ≡ Some client
  has : Has R k client.slots

-- the client alone has acted
acted_reading : (R : KeyRead → Type 0) (t : ℕ) (k : List ℕ) (w : Parties) (x : Client) (a : ClientAct) → found nat_cmp w.clients t ≡ Some x → Has R k a.after.slots → Reading R t k (parties_after w (ByClient t a))
acted_reading R t k w x a is h = record {
  client = a.after;
  is = ⊎_elim
      (λ (same : (t ≡ t) × (found nat_cmp (replaced w.clients t a.after) t ≡ Some a.after)). same.1)
      (λ (other : (t ≡ t → ⊥) × (found nat_cmp (replaced w.clients t a.after) t ≡ found nat_cmp w.clients t)). absurd (other.0 refl))
      (set_cases t t a.after x w.clients is);
  has = h;
}

-- AN EVENT leaves it, unless it cancels the read
module _ (T : Type 0) (R : KeyRead → Type 0) (t : ℕ) (k : List ℕ) (w : World) (h : Happening) (q : Stays w.parties.layout T R) where
  joined_reading : (e : Event) → wrong w e ≡ None → Reading R t k w.parties → Reading R t k (after_begin w.parties e)
  joined_reading (Begin u) ok r = record {
    client = r.client;
    is = ⊎_elim
        (λ (same : (t ≡ u) × (found nat_cmp (put nat_cmp w.parties.clients u new_client) t ≡ Some new_client)).
        never r.client (sym (not_begun w.parties u new) ∙ ap (λ (n : ℕ). found nat_cmp w.parties.clients n) (sym same.0) ∙ r.is))
        (λ (other : (t ≡ u → ⊥) × (found nat_cmp (put nat_cmp w.parties.clients u new_client) t ≡ found nat_cmp w.parties.clients t)). other.1 ∙ r.is)
        (put_cases t u new_client w.parties.clients);
    has = r.has;
  }
    where
      new : is_begun w.parties u ≡ false
      new = on_cond (λ o. o ≡ None → is_begun w.parties u ≡ false) (is_begun w.parties u) (Some (BegunTwice u)) None (λ _ e. never _ (sym e)) (λ is _. is) ok
  joined_reading _ ok r = r

  by_move : (y : Deed) → Move w.parties w.sent h.0 h.1 y → (h.0 ≡ Cancel t k → ⊥) → ((v : ℕ) (z : Option (List ℕ)) → In (ReadLine t k v z) (lines_of y) → T)
      → Reading R t k w.parties → Reading R t k (after_begin w.parties h.0) → Reading R t k (parties_after (after_begin w.parties h.0) y)
  by_move _ Rests n tells r j = j
  by_move _ (ClientActs u x a is why) n tells r j =
      let act : ClientAct = client_act w.parties.layout u x a in
      subst (λ (p : Parties). Reading R t k (parties_after p (ByClient u act))) (sym (client_joins w.parties w.sent h.0 u a why))
      (⊎_elim
      (λ (same : (t ≡ u) × (found nat_cmp (replaced w.parties.clients u act.after) t ≡ Some act.after)). record {
        client = act.after;
        is = same.1;
        has = own same.0;
      })
      (λ (other : (t ≡ u → ⊥) × (found nat_cmp (replaced w.parties.clients u act.after) t ≡ found nat_cmp w.parties.clients t)). record { client = r.client; is = other.1 ∙ r.is; has = r.has })
      (set_cases t u act.after x w.parties.clients is))
    where
      cancels : (t ≡ u) → a ≡ Cancels k → h.0 ≡ Cancel t k
      cancels same e = subst (λ (m : ℕ). h.0 ≡ Cancel m k) (sym same) (subst (ClientWhy w.sent h.0 u) e why)

      own : (t ≡ u) → Has R k (client_act w.parties.layout u x a).after.slots
      own same =
          read_stays w.parties.layout u x k T R q
          (subst (λ (z : Client). Has R k z.slots) (some_is r.client x (sym r.is ∙ ap (λ (m : ℕ). found nat_cmp w.parties.clients m) same ∙ is)) r.has)
          a (λ e. n (cancels same e)) (λ v z i. tells v z (subst (λ (m : ℕ). In (ReadLine m k v z) (client_act w.parties.layout u x a).lines) (sym same) i))
  by_move _ (CoordActs d x a there why) n tells r j = record { client = j.client; is = j.is; has = j.has }
  by_move _ (CoordWakes d x there why) n tells r j = record { client = j.client; is = j.is; has = j.has }
  by_move _ (CoordHalts d x a kept l there why logs course same) n tells r j = record { client = j.client; is = j.is; has = j.has }
  by_move _ (CoordCrashes d x there why) n tells r j = record { client = j.client; is = j.is; has = j.has }
  by_move _ (ShardActs d s x a there why) n tells r j = record { client = j.client; is = j.is; has = j.has }
  by_move _ (ShardWakes d s x there why) n tells r j = record { client = j.client; is = j.is; has = j.has }
  by_move _ (ShardHalts d s x a kept l there why logs course same) n tells r j = record { client = j.client; is = j.is; has = j.has }
  by_move _ (ShardCrashes d s x there why) n tells r j = record { client = j.client; is = j.is; has = j.has }

  reading_on : (is_event w h ≡ true → h.0 ≡ Cancel t k → ⊥) → ((v : ℕ) (z : Option (List ℕ)) → In (ReadLine t k v z) (lines_at w h) → T) → Reading R t k w.parties → Reading R t k (after_event w h).parties
  reading_on n tells r = go (is_event w h) refl tells
    where
      go : (b : Bool) → is_event w h ≡ b → ((v : ℕ) (z : Option (List ℕ)) → In (ReadLine t k v z) (cond b (printed w h.0 h.1) []) → T) → Reading R t k (cond b (step w h.0 h.1) w).parties
      go true is told =
          by_move (course_deed w h.0 h.1) (move_of w.parties w.sent h.0 h.1) (n is) (λ v z i. told v z (in_right (ReadLine t k v z) (restart_lines h.0) (lines_of (course_deed w h.0 h.1)) i))
          r (joined_reading h.0 (not_wrong w h is) r)
      go false is told = r

-- OVER A RUN
module _ (c : Layout) (T : Type 0) (R : KeyRead → Type 0) (q : Stays c T R) (t : ℕ) (k : List ℕ) where
  reading_run : (w : World) (hs : List Happening) → Fitting c (scene w) → (IsCancelled w hs t k → ⊥) → ((v : ℕ) (z : Option (List ℕ)) → In (ReadLine t k v z) (lines w hs) → T)
      → Reading R t k w.parties → Reading R t k (run w hs).parties
  reading_run w [] f n tells r = r
  reading_run w (h ∷ hs) f n tells r =
      reading_run (after_event w h) hs (event_keeps (Fitting c) (fitting_kept c) w h f)
      (λ (x : IsCancelled (after_event w h) hs t k). let m : Moment hs = x.moment in
      n (record { moment = record { before = h ∷ m.before; now = m.now; after = m.after; all = ap (λ (l : List Happening). h ∷ l) m.all }; is = x.is; event = x.event }))
      (λ v z i. tells v z (in_right (ReadLine t k v z) (lines_at w h) (lines (after_event w h) hs) i))
      (reading_on T R t k w h (subst (λ (l : Layout). Stays l T R) (sym f.0) q)
      (λ event is. n (record { moment = record { before = []; now = h; after = hs; all = refl }; is = is; event = event }))
      (λ v z i. tells v z (in_left (ReadLine t k v z) (lines_at w h) (lines (after_event w h) hs) i)) r)

-- A CLIENT ACTS in the event
goes_along : (course : Course) (t : ℕ) (a : ClientAct) → along course (ByClient t a) ≡ ByClient t a
goes_along Goes t a = refl
goes_along (Stops kept) t a = refl

client_deed : (w : Parties) (course : Course) (t : ℕ) (x : Client) (a : ClientCause) → found nat_cmp w.clients t ≡ Some x → along course (client_does w t a) ≡ ByClient t (client_act w.layout t x a)
client_deed w course t x a is = ap (λ (o : Option Client). along course (maybe o Idle (λ y. ByClient t (client_act w.layout t y a)))) is ∙ goes_along course t (client_act w.layout t x a)

-- the world after an event that is this deed, at parties that no client joins
after_deed : (R : KeyRead → Type 0) (t : ℕ) (k : List ℕ) (w : World) (h : Happening) (y : Deed) → is_event w h ≡ true → course_deed w h.0 h.1 ≡ y → after_begin w.parties h.0 ≡ w.parties
    → Reading R t k (parties_after w.parties y) → Reading R t k (after_event w h).parties
after_deed R t k w h y event is same r =
    subst (λ (b : Bool). Reading R t k (cond b (step w h.0 h.1) w).parties) (sym event)
    (subst (λ (p : Parties). Reading R t k (parties_after p (course_deed w h.0 h.1))) (sym same) (subst (λ (d : Deed). Reading R t k (parties_after w.parties d)) (sym is) r))

-- a grant that is delivered counts
granted_now : (c : Layout) (w : World) (h : Happening) (t : ℕ) (k : List ℕ) (d v : ℕ) (y : Option (List ℕ)) → w.parties.layout ≡ c → is_dc c d ≡ true
    → DeliversNow w h (client_of t) (Granted t k d v y) → is_event w h ≡ true → IsUnderWay w t k → Reading (Counts d) t k (after_event w h).parties
granted_now c w h t k d v y same dc comes event u =
    let a : ClientAct = client_act w.parties.layout t u.client (Hears (Granted t k d v y)) in
    after_deed (Counts d) t k w h (ByClient t a) event its (ap (after_begin w.parties) comes.2)
    (acted_reading (Counts d) t k w.parties u.client a u.is
    (grant_counts w.parties.layout t u.client k u.slot u.at u.way d v y u.early (subst (λ (l : Layout). is_dc l d ≡ true) (sym same) dc)
    (λ worn. fresh a its worn)))
  where
    its : course_deed w h.0 h.1 ≡ ByClient t (client_act w.parties.layout t u.client (Hears (Granted t k d v y)))
    its =
        ap (λ (e : Event). course_deed w e h.1) comes.2
        ∙ ap (λ (o : Option Envelope). along h.1 (maybe o Idle (λ e. received w.parties e e.to))) comes.3
        ∙ client_deed w.parties h.1 t u.client (Hears (Granted t k d v y)) u.is

    fresh : (a : ClientAct) → course_deed w h.0 h.1 ≡ ByClient t a → a.refused ≡ Some KeyWornOut → ⊥
    fresh a is worn = never Version (sym (sym (ap (λ (o : Option ClientRefusal). maybe o None limit_of) worn) ∙ sym (ap worn_out is) ∙ not_worn w h event))

-- a read that is not refused is one of an open client
open_read : (w : World) (t : ℕ) (k : List ℕ) → wrong w (Read t k) ≡ None → (x : Client) × (found nat_cmp w.parties.clients t ≡ Some x) × (is_open x.phase ≡ true) × (refusal x (Reads k) ≡ None)
open_read w t k =
    on_cond P (member nat_cmp w.parties.start.named t) (Some (Vanished t)) (maybe (found nat_cmp w.parties.clients t) (Some (NotBegun t)) (λ x. wrong_of t x (Reads k)))
    (λ _ e. never _ (sym e))
    (λ _. on_maybe P (found nat_cmp w.parties.clients t) (Some (NotBegun t)) (λ x. wrong_of t x (Reads k))
    (λ _ e. never _ (sym e))
    (λ x is. on_cond P (is_vanished x.phase) (Some (Vanished t)) (maybe (refusal x (Reads k)) None (name_of t))
    (λ _ e. never _ (sym e))
    (λ _. named x is)))
  where
    P : Option Wrong → Type 0
    P o = o ≡ None → (x : Client) × (found nat_cmp w.parties.clients t ≡ Some x) × (is_open x.phase ≡ true) × (refusal x (Reads k) ≡ None)

    named : (x : Client) → found nat_cmp w.parties.clients t ≡ Some x → P (maybe (refusal x (Reads k)) None (name_of t))
    named x is = go (is_open x.phase) refl (is_out_of_slots x k) refl
      where
        go : (b : Bool) → is_open x.phase ≡ b → (f : Bool) → is_out_of_slots x k ≡ f → maybe (cond b (cond f (Some TooManyKeys) None) (Some NotOpen)) None (name_of t) ≡ None
            → (z : Client) × (found nat_cmp w.parties.clients t ≡ Some z) × (is_open z.phase ≡ true) × (refusal z (Reads k) ≡ None)
        go true opened true full e = never _ (sym e)
        go true opened false room e = (x, is, opened, rw (opened, room) refl)
        go false shut f full e = never _ (sym e)

-- as a read begins or goes on
waits_now : (c : Layout) (w : World) (h : Happening) (t : ℕ) (k : List ℕ) → Fitting c (scene w) → ReadsNow w h t k → ((v : ℕ) (y : Option (List ℕ)) → In (ReadLine t k v y) (lines_at w h) → ⊥) → Reading (Waits c) t k (after_event w h).parties
waits_now c w h t k f r silent =
    let o = open_read w t k (subst (λ (e : Event). wrong w e ≡ None) r.is (not_wrong w h r.event)) in
    now o.0 o.1 o.2 o.3
  where
    now : (x : Client) → found nat_cmp w.parties.clients t ≡ Some x → is_open x.phase ≡ true → refusal x (Reads k) ≡ None → Reading (Waits c) t k (after_event w h).parties
    now x is is_it fine =
        after_deed (Waits c) t k w h (ByClient t act) r.event its (ap (after_begin w.parties) r.is)
        (acted_reading (Waits c) t k w.parties x act is
        (subst (λ (a : ClientAct). ((v : ℕ) (y : Option (List ℕ)) → In (ReadLine t k v y) a.lines → ⊥) → Has (Waits c) k a.after.slots) (sym act_is)
        (subst (λ (l : Layout). ((v : ℕ) (y : Option (List ℕ)) → In (ReadLine t k v y) (do_read l t x k).lines → ⊥) → Has (Waits c) k (do_read l t x k).after.slots) (sym f.0)
        (read_waits c t x k is_it (f.1 t x is) (λ s at. r.unwritten x s is at)))
        mute))
      where
        act : ClientAct
        act = client_act w.parties.layout t x (Reads k)

        act_is : client_act w.parties.layout t x (Reads k) ≡ do_read w.parties.layout t x k
        act_is = ap (λ (o : Option ClientRefusal). maybe o (do_read w.parties.layout t x k) (client_refuses x)) fine

        its : course_deed w h.0 h.1 ≡ ByClient t (client_act w.parties.layout t x (Reads k))
        its = ap (λ (e : Event). course_deed w e h.1) r.is ∙ client_deed w.parties h.1 t x (Reads k) is

        mute : (v : ℕ) (y : Option (List ℕ)) → In (ReadLine t k v y) (client_act w.parties.layout t x (Reads k)).lines → ⊥
        mute v y i =
            silent v y
            (subst (λ (b : Bool). In (ReadLine t k v y) (cond b (printed w h.0 h.1) [])) (sym r.event)
            (in_right (ReadLine t k v y) (restart_lines h.0) (lines_of (course_deed w h.0 h.1)) (subst (λ (d : Deed). In (ReadLine t k v y) (lines_of d)) (sym its) i)))

-- THE LAW, in a run without clients at its start
module _ (c : Layout) (lay : IsLayout c) (w : World) (fit : Fitting c (scene w)) where
  fits : (hs : List Happening) → Fitting c (scene (run w hs))
  fits hs = run_keeps (Fitting c) (fitting_kept c) w hs fit

  -- what was granted counts at the end
  counts_at_end : (hs : List Happening) (t : ℕ) (k : List ℕ) (d : ℕ) → IsGranted c w hs t k d → Reading (Counts d) t k (run w hs).parties
  counts_at_end hs t k d g =
      let m : Moment hs = g.moment in
      let v : World = run w m.before in
      let f : Fitting c (scene v) = fits m.before in
      let r = granted_now c v m.now t k d g.version g.value f.0 g.dc g.comes g.event g.meanwhile in
      let end = reading_run c (Unit {0}) (Counts d) (counts_stay c d) t k (after_event v m.now) m.after (event_keeps (Fitting c) (fitting_kept c) v m.now f) g.stays (λ _ _ _. tt) r in
      subst (λ (l : List Happening). Reading (Counts d) t k (run w l).parties) (sym m.all)
      (subst (λ (x : World). Reading (Counts d) t k x.parties) (sym (run_both w m.before (m.now ∷ m.after))) end)

  law : (before : List Happening) (now : Happening) (after : List Happening) → UnreadHaveCauses c w before now after
  law before now after t k reads uncancelled unprinted dcs all = go (is_quorum c dcs) refl
    where
      v : World
      v = run w before

      end : Reading (Waits c) t k (run w (before ++ now ∷ after)).parties
      end =
          subst (λ (x : World). Reading (Waits c) t k x.parties) (sym (run_both w before (now ∷ after)))
          (reading_run c ⊥ (Waits c) (waits_stay c) t k (after_event v now) after (event_keeps (Fitting c) (fitting_kept c) v now (fits before))
          (λ (x : IsCancelled (after_event v now) after t k). let m : Moment after = x.moment in
          uncancelled (record { moment = record { before = now ∷ m.before; now = m.now; after = m.after; all = ap (λ (l : List Happening). now ∷ l) m.all }; is = x.is; event = x.event }))
          (λ a b i. unprinted (record { version = a; value = b; line = in_right (ReadLine t k a b) (lines_at v now) (lines (after_event v now) after) i }))
          (waits_now c v now t k (fits before) reads (λ a b i. unprinted (record { version = a; value = b; line = in_left (ReadLine t k a b) (lines_at v now) (lines (after_event v now) after) i }))))

      here : (d : ℕ) → In d dcs → In d (granted_by (grants_of end.has.slot.read))
      here d i = counted_granted c d end.has.slot.read end.has.holds (same (counts_at_end (before ++ now ∷ after) t k d (all d i)))
        where
          same : Reading (Counts d) t k (run w (before ++ now ∷ after)).parties → Counts d end.has.slot.read
          same r =
              let client : r.client ≡ end.client = some_is r.client end.client (sym r.is ∙ end.is) in
              subst (λ (s : Slot). Counts d s.read)
              (some_is r.has.slot end.has.slot (sym r.has.at ∙ ap (λ (x : Client). slot_of x.slots k) client ∙ end.has.at))
              r.has.holds

      go : (b : Bool) → is_quorum c dcs ≡ b → is_quorum c dcs ≡ false
      go false is = is
      go true is = absurd (true≢false (sym ((quorum_laws c lay).more dcs (granted_by (grants_of end.has.slot.read)) here is) ∙ waits_few c end.has.slot.read end.has.holds))

pub unread_have_causes : (c : Layout) → IsLayout c → (start : Start) (coords : List CoordNode) (shards : List ShardNode) (before : List Happening) (now : Happening) (after : List Happening)
    → UnreadHaveCauses c (started_world c start coords shards) before now after
unread_have_causes c lay start coords shards = law c lay (started_world c start coords shards) (refl, λ t x is. never x is)

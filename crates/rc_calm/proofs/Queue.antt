-- A world whose pending messages are the last ones sent: a delivery of the oldest one.
use Rattle.std.proofs.Common.{◌≡◌, ℕ, suc, ◌+◌, ◌-◌, List, [], ◌∷◌, ◌++◌, refl, sym, ap, ◌∙◌, subst, arith, Bool, true, false, cond, Some, None}
use Rattle.std.specs.Prelude.{slice_get, length, ◌==◌, ◌≤◌, nat_le, nat_lt}
use Rattle.std.proofs.lemmas.List.{append_assoc}
use Rattle.std.proofs.lemmas.Bool.{eq-eqb, ne_eqb, lt-leb, le-ltb}
use Rattle.rc_ids.specs.declared.names.Party.{Party}
use Rattle.rc_msg.specs.declared.msg.Envelope.{Envelope}
use Rattle.rc_runs.specs.declared.event.Event.TheVariants.{Deliver}
use Rattle.rc_protocol.specs.Messages.{Posts}
use Rattle.rc_runs.specs.declared.event.Event.{Event}
use Rattle.rc_runs.specs.Refusals.{wrong, limit, worn_out, begins, most_events, most_messages, most_message_bytes}
use Rattle.rc_runs.specs.World.{World, Deed, Idle, ByClient, ByCoord, ByShard, CoordStops, ShardStops, Goes, along, parties_after, message, sends_of, lines_of, envelopes, numbers_after, taken_out, bytes_of, step, printed, course_deed, actor}
use Rattle.rc_calm_batches.proofs.Passes.{deed_of}
use Rattle.rc_calm_batches.proofs.ReadDrains.{length_both}

abbrev pub numbers_from : ℕ → List Envelope → List ℕ
numbers_from n [] = []
numbers_from n (e ∷ es) = suc n ∷ numbers_from (suc n) es

pub record Queued (w : World) (q : List Envelope) : Type 0 where
  pub old : List Envelope
  pub sent : w.sent ≡ old ++ q
  pub pending : w.pending ≡ numbers_from (length old) q

numbers_both : (n : ℕ) (a b : List Envelope) → numbers_from n (a ++ b) ≡ numbers_from n a ++ numbers_from (n + length a) b
numbers_both n [] b = let k : n ≡ n + 0 = omega arith in ap (λ (z : ℕ). numbers_from z b) k
numbers_both n (e ∷ a) b = let k : suc n + length a ≡ n + suc (length a) = omega arith in ap (λ (z : List ℕ). suc n ∷ z) (numbers_both (suc n) a b ∙ ap (λ (z : ℕ). numbers_from (suc n) a ++ numbers_from z b) k)

pub numbers_new : (n : ℕ) (from : Party) (ms : Posts) → numbers_after n ms ≡ numbers_from n (envelopes from ms)
numbers_new n from [] = refl
numbers_new n from (m ∷ ms) = ap (λ (z : List ℕ). suc n ∷ z) (numbers_new (suc n) from ms)

get_at : (old : List Envelope) (e : Envelope) (q : List Envelope) → slice_get (old ++ e ∷ q) (length old) ≡ Some e
get_at [] e q = refl
get_at (x ∷ old) e q = get_at old e q

pub sent_count : (from : Party) (ms : Posts) → length (envelopes from ms) ≡ length ms
sent_count from [] = refl
sent_count from (m ∷ ms) = ap suc (sent_count from ms)

-- LIMITS
pub no_limit : (w : World) (e : Event) → begins e ≡ false → w.events + 1 ≤ most_events → worn_out (course_deed w e Goes) ≡ None
    → length w.sent + length (sends_of (course_deed w e Goes)) ≤ most_messages
    → w.bytes + bytes_of (envelopes (actor w.sent e) (sends_of (course_deed w e Goes))) ≤ most_message_bytes → limit w e Goes ≡ None
no_limit w e b ev worn ms bs =
    let a : nat_le most_events w.events ≡ false = lt-leb most_events w.events (omega (arith, ev)) in
    let m : nat_lt most_messages (length w.sent + length (sends_of (course_deed w e Goes))) ≡ false = le-ltb most_messages _ ms in
    let k : nat_lt most_message_bytes (w.bytes + bytes_of (envelopes (actor w.sent e) (sends_of (course_deed w e Goes)))) ≡ false = le-ltb most_message_bytes _ bs in
    rw (b, a, worn, m, k)

pub goes : (d : Deed) → along Goes d ≡ d
goes Idle = refl
goes (ByClient t a) = refl
goes (ByCoord d x a) = refl
goes (ByShard d s x a) = refl
goes (CoordStops d x k) = refl
goes (ShardStops d s x k) = refl

not_zero : (n : ℕ) → (suc n == 0) ≡ false
not_zero n = ne_eqb (suc n) 0 (λ e. omega (arith, e))

same_number : (n : ℕ) → (n == n) ≡ true
same_number n = eq-eqb n n refl

module _ (w : World) (e : Envelope) (q : List Envelope) (h : Queued w (e ∷ q)) where
  abbrev pub number : ℕ
  number = suc (length h.old)

  abbrev now : Deed
  now = deed_of w.parties e

  pub message_is : message w.sent number ≡ Some e
  message_is = let s = h.sent in let g = get_at h.old e q in let k : suc (length h.old) - 1 ≡ length h.old = omega arith in let z = not_zero (length h.old) in rw (s, z, k, g)

  pub named : wrong w (Deliver number) ≡ None
  named = let m = message_is in rw m

  deed_is : course_deed w (Deliver number) Goes ≡ now
  deed_is = let m = message_is in goes _ ∙ rw m

  actor_is : actor w.sent (Deliver number) ≡ e.to
  actor_is = let m = message_is in rw m

  pub prints_is : printed w (Deliver number) Goes ≡ lines_of now
  prints_is = ap lines_of deed_is

  pub parties_is : (step w (Deliver number) Goes).parties ≡ parties_after w.parties now
  parties_is = ap (parties_after w.parties) deed_is

  -- what it posts
  pub posts_are : envelopes (actor w.sent (Deliver number)) (sends_of (course_deed w (Deliver number) Goes)) ≡ envelopes e.to (sends_of now)
  posts_are = ap (λ (z : Party). envelopes z (sends_of (course_deed w (Deliver number) Goes))) actor_is ∙ ap (λ (z : Deed). envelopes e.to (sends_of z)) deed_is

  -- no limit is met where there is room
  pub delivery_limit : w.events + 1 ≤ most_events → worn_out now ≡ None → length w.sent + length (envelopes e.to (sends_of now)) ≤ most_messages
      → w.bytes + bytes_of (envelopes e.to (sends_of now)) ≤ most_message_bytes → limit w (Deliver number) Goes ≡ None
  delivery_limit ev worn ms bs =
      no_limit w (Deliver number) refl ev (ap worn_out deed_is ∙ worn) (subst (λ (n : ℕ). length w.sent + n ≤ most_messages) (sent_count e.to (sends_of now) ∙ ap (λ (z : Deed). length (sends_of z)) (sym deed_is)) ms)
      (subst (λ (es : List Envelope). w.bytes + bytes_of es ≤ most_message_bytes) (sym posts_are) bs)

  sent_is : (step w (Deliver number) Goes).sent ≡ (h.old ++ e ∷ q) ++ envelopes e.to (sends_of now)
  sent_is =
      ap (λ (z : List Envelope). z ++ envelopes (actor w.sent (Deliver number)) (sends_of (course_deed w (Deliver number) Goes))) h.sent
      ∙ (ap (λ (z : Party). (h.old ++ e ∷ q) ++ envelopes z (sends_of (course_deed w (Deliver number) Goes))) actor_is ∙ ap (λ (z : Deed). (h.old ++ e ∷ q) ++ envelopes e.to (sends_of z)) deed_is)

  pending_is : (step w (Deliver number) Goes).pending ≡ numbers_from (suc (length h.old)) q ++ numbers_from (length (h.old ++ e ∷ q)) (envelopes e.to (sends_of now))
  pending_is =
      ap (λ (z : List ℕ). taken_out z number ++ numbers_after (length w.sent) (sends_of (course_deed w (Deliver number) Goes))) h.pending
      ∙ (ap (λ (z : Bool). cond z (numbers_from number q) (number ∷ taken_out (numbers_from number q) number) ++ numbers_after (length w.sent) (sends_of (course_deed w (Deliver number) Goes))) (same_number number)
      ∙ (ap (λ (z : Deed). numbers_from number q ++ numbers_after (length w.sent) (sends_of z)) deed_is
      ∙ (ap (λ (z : List Envelope). numbers_from number q ++ numbers_after (length z) (sends_of now)) h.sent
      ∙ ap (λ (z : List ℕ). numbers_from number q ++ z) (numbers_new (length (h.old ++ e ∷ q)) e.to (sends_of now)))))

  -- the oldest one is gone, and what it made is behind the others
  pub delivered : Queued (step w (Deliver number) Goes) (q ++ envelopes e.to (sends_of now))
  delivered =
      let new = envelopes e.to (sends_of now) in
      let l : length (h.old ++ e ∷ []) ≡ suc (length h.old) = let x = length_both h.old (e ∷ []) in omega (arith, x) in
      let k : length (h.old ++ e ∷ q) ≡ suc (length h.old) + length q = let x = length_both h.old (e ∷ q) in omega (arith, x) in
      record {
        old = h.old ++ e ∷ [];
        sent = sent_is ∙ (ap (λ (z : List Envelope). z ++ new) (sym (append_assoc h.old (e ∷ []) q)) ∙ append_assoc (h.old ++ e ∷ []) q new);
        pending = pending_is
            ∙ (ap (λ (z : ℕ). numbers_from (suc (length h.old)) q ++ numbers_from z new) k
            ∙ (sym (numbers_both (suc (length h.old)) q new) ∙ ap (λ (z : ℕ). numbers_from z (q ++ new)) (sym l)));
      }

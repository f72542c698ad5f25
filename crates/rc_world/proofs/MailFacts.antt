-- The network of bytes and the messages of a world.
use Rattle.std.proofs.Common.{◌≡◌, ◌≢◌, ℕ, zero, suc, ◌-◌, ◌<◌, ◌≤◌, ◌==◌, Bool, true, false, nat_lt, List, [], ◌∷◌, map, slice_get, Option, Some, None, is_some, refl, sym, ap, subst, ◌∙◌, arith}
use Rattle.std.specs.Prelude.{All, if◌then◌else◌, Result, Ok, Err, IfSome, IfOk, ◌||◌, find}
use Rattle.std.specs.Option.{option_map}
use Rattle.std.specs.Ordering.{nat_cmp, is_eq}
use Rattle.std.proofs.lemmas.Option.{slice_get-map, slice_get_within, get_or_from_slice_get}
use Rattle.std.proofs.lemmas.List.Elements.{All-nil}
use Rattle.rc_ids.specs.Sets.{IsRisingWithin}
use Rattle.rc_ids.specs.Tables.{member, removed, maybe}
use Rattle.rc_msg.specs.Spelling.{envelope_bytes, HasEnvelope}
use Rattle.rc_msg.specs.declared.msg.Envelope.{Envelope}
use Rattle.rc_net.specs.Network.{Message, Network, message as parcel_at, delivery_fault, loss_fault}
use Rattle.rc_net.specs.declared.fault.NetFault.{NetFault}
use Rattle.rc_net.specs.declared.fault.NetFault.TheVariants.{NoSuchMessage, NotPending as IsSettled}
use Rattle.rc_runs.specs.World.{World, message, taken_out, at_deed}
use Rattle.rc_runs.specs.Refusals.{wrong, is_pending}
use Rattle.rc_runs.specs.declared.event.Event.TheVariants.{Deliver, Lose}
use Rattle.rc_report.specs.declared.fault.Wrong.{Wrong}
use Rattle.rc_report.specs.declared.fault.Wrong.TheVariants.{NotSent, NotPending}
use Rattle.rc_runs.specs.Script.{oldest}
use Rattle.rc_world.specs.Mail.{IsMail, parcel_of, refused_name}

-- MESSAGES BY NUMBER
past_zero : (k : ℕ) → (suc k == 0) ≡ false
past_zero k = grind arith

message_suc : (es : List Envelope) (k : ℕ) → message es (suc k) ≡ slice_get es k
message_suc es k = let back : suc k - 1 ≡ k = omega arith in rw (past_zero k, back) refl

parcel_suc : (ms : List Message) (k : ℕ) → parcel_at ms (suc k) ≡ slice_get ms k
parcel_suc ms k = let back : suc k - 1 ≡ k = omega arith in rw (past_zero k, back) refl

message-map : (es : List Envelope) (k : ℕ) → parcel_at (map parcel_of es) k ≡ option_map parcel_of (message es k)
message-map es zero = refl
message-map es (suc k) = parcel_suc (map parcel_of es) k ∙ slice_get-map parcel_of es k ∙ ap (option_map parcel_of) (sym (message_suc es k))

parcel_is : (n : Network) (w : World) (k : ℕ) → IsMail n w → parcel_at n.sent k ≡ option_map parcel_of (message w.sent k)
parcel_is n w k mail = ap (λ (ms : List Message). parcel_at ms k) mail.sent ∙ message-map w.sent k

-- a number has a message in both, or in neither
pub is_there : (n : Network) (w : World) (k : ℕ) → IsMail n w → is_some (parcel_at n.sent k) ≡ is_some (message w.sent k)
is_there n w k mail = ap (λ (o : Option Message). is_some o) (parcel_is n w k mail) ∙ by_option (message w.sent k)
  where
    by_option : (o : Option Envelope) → is_some (option_map parcel_of o) ≡ is_some o
    by_option None = refl
    by_option (Some e) = refl

pub spelled_at : (es : List Envelope) (k : ℕ) (e : Envelope) → All HasEnvelope es → message es k ≡ Some e → HasEnvelope e
spelled_at es zero e all at = absurd (cc)
spelled_at es (suc k) e all at =
    let there : slice_get es k ≡ Some e = sym (message_suc es k) ∙ at in
    subst HasEnvelope (get_or_from_slice_get es k e e there) (all k e (slice_get_within es k e there))

-- the message of the world that stands in these bytes
record IsOf (w : World) (k : ℕ) (bytes : List ℕ) : Type 0 where
  e : Envelope
  at : message w.sent k ≡ Some e
  spells : bytes ≡ envelope_bytes e
  has : HasEnvelope e

of_parcel : (n : Network) (w : World) (k : ℕ) (m : Message) → IsMail n w → Some m ≡ parcel_at n.sent k → IsOf w k m.bytes
of_parcel n w k m mail at = by_message (message w.sent k) refl
  where
    by_message : (o : Option Envelope) → message w.sent k ≡ o → IsOf w k m.bytes
    by_message None is = let none : Some m ≡ None = at ∙ parcel_is n w k mail ∙ ap (option_map parcel_of) is in absurd (cc)
    by_message (Some e) is =
        let same : Some m ≡ Some (parcel_of e) = at ∙ parcel_is n w k mail ∙ ap (option_map parcel_of) is in
        let one : m ≡ parcel_of e = cc in
        record { e = e; at = is; spells = ap (λ (x : Message). x.bytes) one; has = spelled_at w.sent k e mail.spelled is }

-- no message of the number, in the world neither
pub none_there : (n : Network) (w : World) (k : ℕ) → IsMail n w → None ≡ parcel_at n.sent k → None ≡ message w.sent k
none_there n w k mail at = by_message (message w.sent k) refl
  where
    by_message : (o : Option Envelope) → message w.sent k ≡ o → None ≡ message w.sent k
    by_message None is = sym is
    by_message (Some e) is = let none : None ≡ Some (parcel_of e) = at ∙ parcel_is n w k mail ∙ ap (option_map parcel_of) is in absurd (cc)

-- what is read of its bytes is the message
pub one_there : {E : Type 0} (n : Network) (w : World) (k : ℕ) (m : Message) (r : Result (Option Envelope) E) → IsMail n w → Some m ≡ parcel_at n.sent k
    → ((d e : Envelope) → HasEnvelope d → HasEnvelope e → envelope_bytes d ≡ envelope_bytes e → d ≡ e)
    → IfOk r (λ o. IfSome o (λ d. (m.bytes ≡ envelope_bytes d) × HasEnvelope d))
    → IfOk r (λ o. o ≡ None → (e : Envelope) → HasEnvelope e → m.bytes ≢ envelope_bytes e)
    → IfOk r (λ o. o ≡ message w.sent k)
one_there n w k m (Err fault) mail at one found none = tt
one_there n w k m (Ok None) mail at one found none = let x = of_parcel n w k m mail at in absurd (none refl x.e x.has x.spells)
one_there n w k m (Ok (Some d)) mail at one found none =
    let x = of_parcel n w k m mail at in ap (λ (e : Envelope). Some e) (one d x.e found.1 x.has (sym found.0 ∙ x.spells)) ∙ sym x.at

-- PENDING
same_number : (n k : ℕ) → is_eq (nat_cmp n k) ≡ (k == n)
same_number n k = grind arith

pub removed_is : (ks : List ℕ) (n : ℕ) → removed nat_cmp ks n ≡ taken_out ks n
removed_is [] n = refl
removed_is (k ∷ ks) n = rw (same_number n k, removed_is ks n) refl

pub member_is : (ks : List ℕ) (n : ℕ) → member nat_cmp ks n ≡ is_pending ks n
member_is [] n = refl
member_is (k ∷ ks) n = rw (same_number n k) (ap (λ b. (k == n) || b) (member_is ks n))

pub oldest_is : (w : World) → slice_get w.pending 0 ≡ oldest w
oldest_is w = elim w.pending as (λ (ks : List ℕ). slice_get ks 0 ≡ oldest (record w { pending = ks })) [ [] ↦ refl | k ∷ ks ↦ refl ]

-- WRONG NAMES
abbrev delivery_name : ℕ → Option Message → Option Wrong
delivery_name k o = let fault : Option NetFault = maybe o (Some NoSuchMessage) (λ _. None) in maybe fault None (refused_name k)

abbrev loss_name : ℕ → List ℕ → Option Message → Option Wrong
loss_name k ks o = let fault : Option NetFault = maybe o (Some NoSuchMessage) (λ _. if member nat_cmp ks k then None else Some IsSettled) in maybe fault None (refused_name k)

-- a delivery is named wrongly exactly where the network refuses it
pub delivery_named : (n : Network) (w : World) (k : ℕ) → IsMail n w → wrong w (Deliver k) ≡ maybe (delivery_fault n.sent k) None (refused_name k)
delivery_named n w k mail = sym (ap (delivery_name k) (parcel_is n w k mail) ∙ same (message w.sent k))
  where
    same : (o : Option Envelope) → delivery_name k (option_map parcel_of o) ≡ maybe o (Some (NotSent k)) (λ e. None)
    same None = refl
    same (Some e) = refl

-- a loss is named wrongly exactly where the network refuses it
pub loss_named : (n : Network) (w : World) (k : ℕ) → IsMail n w → wrong w (Lose k) ≡ maybe (loss_fault n.sent n.pending k) None (refused_name k)
loss_named n w k mail =
    sym (ap (loss_name k n.pending) (parcel_is n w k mail) ∙ ap (λ (ks : List ℕ). loss_name k ks (option_map parcel_of (message w.sent k))) mail.pending ∙ same (message w.sent k))
  where
    by_member : (a b : Bool) → a ≡ b → (let fault : Option NetFault = if a then None else Some IsSettled in maybe fault None (refused_name k)) ≡ (if b then None else Some (NotPending k))
    by_member true true is = refl
    by_member false false is = refl
    by_member true false is = absurd (cc)
    by_member false true is = absurd (cc)

    same : (o : Option Envelope) → loss_name k w.pending (option_map parcel_of o) ≡ maybe o (Some (NotSent k)) (λ e. if is_pending w.pending k then None else Some (NotPending k))
    same None = refl
    same (Some e) = by_member (member nat_cmp w.pending k) (is_pending w.pending k) (member_is w.pending k)

-- THE SAME MAIL
-- nothing was sent yet
pub mail_new : (n : Network) (w : World) → n.sent ≡ [] → n.pending ≡ [] → w.sent ≡ [] → w.pending ≡ [] → w.bytes ≡ 0 → IsMail n w
mail_new n w sent pending none_sent none_pending no_bytes = record {
  sent = rw (sent, none_sent) refl;
  pending = rw (pending, none_pending) refl;
  bytes = rw (no_bytes, none_sent) refl;
  spelled = subst (All HasEnvelope) (sym none_sent) (All-nil HasEnvelope);
}

-- the network changed in its room alone
pub mail_kept : (old new : Network) (w : World) → IsMail old w → new.sent ≡ old.sent → new.pending ≡ old.pending → IsMail new w
mail_kept old new w mail sent pending = record { sent = sent ∙ mail.sent; pending = pending ∙ mail.pending; bytes = mail.bytes; spelled = mail.spelled }

-- the world changed, but not in its messages
pub mail_along : (n : Network) (w v : World) → IsMail n w → v.sent ≡ w.sent → v.pending ≡ w.pending → v.bytes ≡ w.bytes → IsMail n v
mail_along n w v mail sent pending bytes = record {
  sent = rw sent mail.sent;
  pending = mail.pending ∙ sym pending;
  bytes = rw (bytes, sent) mail.bytes;
  spelled = subst (All HasEnvelope) (sym sent) mail.spelled;
}

-- what is delivered is pending no longer
pub delivered : (old new : Network) (w : World) (k : ℕ) → IsMail old w → new.sent ≡ old.sent → new.pending ≡ removed nat_cmp old.pending k → IsMail new (at_deed w (Deliver k))
delivered old new w k mail same out = record {
  sent = same ∙ mail.sent;
  pending = out ∙ ap (λ (ks : List ℕ). removed nat_cmp ks k) mail.pending ∙ removed_is w.pending k;
  bytes = mail.bytes;
  spelled = mail.spelled;
}

-- nor is what is lost
pub lost : (old new : Network) (w : World) (k : ℕ) → IsMail old w → new.sent ≡ old.sent → new.pending ≡ removed nat_cmp old.pending k → IsMail new (at_deed w (Lose k))
lost old new w k mail same out = record {
  sent = same ∙ mail.sent;
  pending = out ∙ ap (λ (ks : List ℕ). removed nat_cmp ks k) mail.pending ∙ removed_is w.pending k;
  bytes = mail.bytes;
  spelled = mail.spelled;
}

-- NUMBERS THAT RISE
pub none_first : (ks : List ℕ) (k : ℕ) → None ≡ slice_get ks 0 → false ≡ member nat_cmp ks k
none_first [] k at = refl
none_first (x ∷ xs) k at = absurd (cc)

other : (k x : ℕ) → (k ≡ x → ⊥) → is_eq (nat_cmp k x) ≡ false
other k x apart = grind arith

above : (low high k : ℕ) (ks : List ℕ) → IsRisingWithin low high ks → k < low → member nat_cmp ks k ≡ false
above low high k [] rising lt = refl
above low high k (x ∷ xs) rising lt =
    let le : low ≤ x = rising.0 in
    rw (other k x (λ same. omega arith)) (above (suc x) high k xs rising.2 (omega arith))

-- a number below the first is none of them
pub below_first : (ks : List ℕ) (low high k x : ℕ) → IsRisingWithin low high ks → Some x ≡ slice_get ks 0 → k < x → false ≡ member nat_cmp ks k
below_first [] low high k x rising at lt = refl
below_first (y ∷ ys) low high k x rising at lt =
    let same : x ≡ y = cc in
    sym (rw (other k y (λ e. omega arith)) (above (suc y) high k ys rising.2 (omega arith)))

or_false : (b : Bool) → (b || false) ≡ b
or_false true = refl
or_false false = refl

-- the next one after the number before it is the number itself, where it is one of them
pub next_is : (ks : List ℕ) (low high j k : ℕ) → IsRisingWithin low high ks → suc j ≡ k → maybe (find (nat_lt j) ks) false (λ x. x == k) ≡ member nat_cmp ks k
next_is [] low high j k rising is = refl
next_is (x ∷ xs) low high j k rising is = by_test (nat_lt j x) refl (next_is xs (suc x) high j k rising.2 is)
  where
    by_test : (b : Bool) → nat_lt j x ≡ b → maybe (find (nat_lt j) xs) false (λ y. y == k) ≡ member nat_cmp xs k
        → maybe (find (nat_lt j) (x ∷ xs)) false (λ y. y == k) ≡ member nat_cmp (x ∷ xs) k
    by_test true at rest =
        let lt : j < x = grind arith in
        let none : member nat_cmp xs k ≡ false = above (suc x) high k xs rising.2 (omega arith) in
        rw (at, same_number k x, none) (sym (or_false (x == k)))
    by_test false at rest =
        let le : x ≤ j = grind arith in
        rw (at, other k x (λ e. omega arith)) rest

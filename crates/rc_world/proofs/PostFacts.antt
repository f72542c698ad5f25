-- Posts as bytes: their letters, their limits, and what the network has after them.
use Rattle.std.proofs.Common.{◌≡◌, ℕ, suc, ◌+◌, ◌^◌, Bool, true, false, ◌&&◌, nat_le, nat_lt, List, [], ◌∷◌, ◌++◌, length, map, Option, Some, None, refl, sym, ap, ◌∙◌, arith, append_assoc, append-nil}
use Rattle.std.specs.Prelude.{All, if◌then◌else◌}
use Rattle.std.proofs.lemmas.List.{length-map, map-append}
use Rattle.std.proofs.lemmas.List.Elements.{All-append}
use Rattle.std.proofs.lemmas.List.Sums.{sum_by-cons, sum_by-append}
use Rattle.rc_ids.specs.declared.names.Party.{Party}
use Rattle.rc_ids.specs.declared.sends.Letter.{Letter}
use Rattle.rc_msg.specs.Spelling.{envelope_bytes, HasEnvelope}
use Rattle.rc_msg.specs.declared.msg.Envelope.{Envelope}
use Rattle.rc_msg.specs.declared.msg.Msg.{Msg}
use Rattle.rc_msg.specs.Outboxes.{Outbox, new_outbox, posted, letter}
use Rattle.rc_msg.specs.Posts.{posted_all}
use Rattle.rc_net.specs.Network.{Message, Network, messages, numbers_after as numbers_of, letters_bytes, bytes_of as parcel_bytes, fits}
use Rattle.rc_protocol.specs.Messages.{Posts}
use Rattle.rc_runs.specs.World.{World, Deed, actor, sends_of, envelopes, bytes_of, numbers_after, posted as posted_in}
use Rattle.rc_runs.specs.Refusals.{too_much_sent, most_messages, most_message_bytes}
use Rattle.rc_runs.specs.declared.event.Event.{Event}
use Rattle.rc_report.specs.declared.fault.Which.{Which}
use Rattle.rc_report.specs.declared.fault.Which.TheVariants.{Messages, MessageBytes}
use Rattle.rc_world.specs.Mail.{IsMail, parcel_of, letters_of, too_much}

-- LETTERS
posted_all_is : (o : Outbox) (ms : Posts) → (posted_all o ms).letters ≡ o.letters ++ map (λ (m : Party × Msg). letter o.from m.0 m.1) ms
posted_all_is o [] = sym (append-nil o.letters)
posted_all_is o (m ∷ ms) = posted_all_is (posted o m.0 m.1) ms ∙ append_assoc o.letters (letter o.from m.0 m.1 ∷ []) (map (λ (p : Party × Msg). letter o.from p.0 p.1) ms)

letters_are : (from : Party) (ms : Posts) → letters_of from ms ≡ map (λ (m : Party × Msg). letter from m.0 m.1) ms
letters_are from ms = posted_all_is (new_outbox from) ms

messages-letters : (from : Party) (ms : Posts) → messages from (map (λ (m : Party × Msg). letter from m.0 m.1) ms) ≡ map parcel_of (envelopes from ms)
messages-letters from [] = refl
messages-letters from (m ∷ ms) = ap (λ (ps : List Message). parcel_of (record { from = from; to = m.0; msg = m.1 }) ∷ ps) (messages-letters from ms)

bytes-letters : (from : Party) (ms : Posts) → letters_bytes (map (λ (m : Party × Msg). letter from m.0 m.1) ms) ≡ bytes_of (envelopes from ms)
bytes-letters from [] = refl
bytes-letters from (m ∷ ms) = simp sum_by-cons (ap (λ b. length (envelope_bytes (record { from = from; to = m.0; msg = m.1 })) + b) (bytes-letters from ms))

bytes-parcels : (es : List Envelope) → parcel_bytes (map parcel_of es) ≡ bytes_of es
bytes-parcels [] = refl
bytes-parcels (e ∷ es) = simp sum_by-cons (ap (λ b. length (envelope_bytes e) + b) (bytes-parcels es))

bytes_of-append : (ds es : List Envelope) → bytes_of (ds ++ es) ≡ bytes_of ds + bytes_of es
bytes_of-append ds es = simp sum_by-append

numbers_are : (n : ℕ) (ms : Posts) → numbers_of n (length ms) ≡ numbers_after n ms
numbers_are n [] = refl
numbers_are n (m ∷ ms) = ap (λ ks. suc n ∷ ks) (numbers_are (suc n) ms)

-- LIMITS
-- the limit that a deed would pass
pub deed_limit : (w : World) (e : Event) (d : Deed) → too_much_sent w e d ≡ too_much w (actor w.sent e) (sends_of d)
deed_limit w e d = refl

abbrev over : ℕ → ℕ → Option Which
over count bytes = if nat_lt most_messages count then Some Messages else (if nat_lt most_message_bytes bytes then Some MessageBytes else None)

over_at : (n : Network) (w : World) (from : Party) (ms : Posts) (ls : List Letter) → IsMail n w → ls ≡ letters_of from ms
    → over (length n.sent + length ls) (parcel_bytes n.sent + letters_bytes ls) ≡ too_much w from ms
over_at n w from ms ls mail are =
    let all : ls ≡ map (λ (m : Party × Msg). letter from m.0 m.1) ms = are ∙ letters_are from ms in
    let sent : length n.sent ≡ length w.sent = ap length mail.sent ∙ length-map w.sent parcel_of in
    let count : length ls ≡ length ms = ap length all ∙ length-map ms (λ (m : Party × Msg). letter from m.0 m.1) in
    let bytes : parcel_bytes n.sent ≡ w.bytes = ap parcel_bytes mail.sent ∙ bytes-parcels w.sent ∙ sym mail.bytes in
    let more : letters_bytes ls ≡ bytes_of (envelopes from ms) = ap letters_bytes all ∙ bytes-letters from ms in
    rw (sent, count, bytes, more) refl

-- too many messages
pub too_many : (n : Network) (w : World) (from : Party) (ms : Posts) (ls : List Letter) (count : ℕ) → count ≡ length ls
    → true ≡ nat_lt most_messages (length n.sent + count) → IsMail n w → ls ≡ letters_of from ms → Some Messages ≡ too_much w from ms
too_many n w from ms ls count is passed mail are =
    let more : nat_lt most_messages (length n.sent + length ls) ≡ true = ap (λ k. nat_lt most_messages (length n.sent + k)) (sym is) ∙ sym passed in
    sym (ap (λ (b : Bool). let o : Option Which = if b then Some Messages else (if nat_lt most_message_bytes (parcel_bytes n.sent + letters_bytes ls) then Some MessageBytes else None) in o) more)
    ∙ over_at n w from ms ls mail are

-- too many bytes
pub too_heavy : (n : Network) (w : World) (from : Party) (ms : Posts) (ls xs : List Letter) (count : ℕ) → count ≡ length ls → xs ≡ ls
    → false ≡ nat_lt most_messages (length n.sent + count) → false ≡ fits n.sent (length xs) (letters_bytes xs)
    → IsMail n w → ls ≡ letters_of from ms → Some MessageBytes ≡ too_much w from ms
too_heavy n w from ms ls xs count is same few unfit mail are =
    let small : nat_lt most_messages (length n.sent + length ls) ≡ false = ap (λ k. nat_lt most_messages (length n.sent + k)) (sym is) ∙ sym few in
    let large : fits n.sent (length ls) (letters_bytes ls) ≡ false = ap (λ (ys : List Letter). fits n.sent (length ys) (letters_bytes ys)) (sym same) ∙ sym unfit in
    sym (heavy (length n.sent + length ls) (parcel_bytes n.sent + letters_bytes ls) small large) ∙ over_at n w from ms ls mail are
  where
    heavy : (total bytes : ℕ) → nat_lt most_messages total ≡ false → (nat_le total 4000000 && nat_le bytes (2 ^ 30)) ≡ false → over total bytes ≡ Some MessageBytes
    heavy total bytes small large = grind arith

-- neither
pub not_much : (n : Network) (w : World) (from : Party) (ms : Posts) (ls xs : List Letter) → xs ≡ ls
    → true ≡ fits n.sent (length xs) (letters_bytes xs) → IsMail n w → ls ≡ letters_of from ms → None ≡ too_much w from ms
not_much n w from ms ls xs same fit mail are =
    let small : fits n.sent (length ls) (letters_bytes ls) ≡ true = ap (λ (ys : List Letter). fits n.sent (length ys) (letters_bytes ys)) (sym same) ∙ sym fit in
    sym (light (length n.sent + length ls) (parcel_bytes n.sent + letters_bytes ls) small) ∙ over_at n w from ms ls mail are
  where
    light : (total bytes : ℕ) → (nat_le total 4000000 && nat_le bytes (2 ^ 30)) ≡ true → over total bytes ≡ None
    light total bytes small = grind arith

-- POSTING
pub posted_mail : (old new : Network) (w : World) (from : Party) (ms : Posts) (ls : List Letter) → new.sent ≡ old.sent ++ messages from ls
    → new.pending ≡ old.pending ++ numbers_of (length old.sent) (length ls) → IsMail old w → ls ≡ letters_of from ms → All HasEnvelope (envelopes from ms)
    → IsMail new (posted_in w from ms)
posted_mail old new w from ms ls sent pending mail are spelled =
    let all : ls ≡ map (λ (m : Party × Msg). letter from m.0 m.1) ms = are ∙ letters_are from ms in
    let count : length ls ≡ length ms = ap length all ∙ length-map ms (λ (m : Party × Msg). letter from m.0 m.1) in
    let before : length old.sent ≡ length w.sent = ap length mail.sent ∙ length-map w.sent parcel_of in
    let parcels : messages from ls ≡ map parcel_of (envelopes from ms) = ap (messages from) all ∙ messages-letters from ms in
    let numbers : numbers_of (length old.sent) (length ls) ≡ numbers_after (length w.sent) ms = ap (λ (k : ℕ). numbers_of k (length ls)) before ∙ ap (numbers_of (length w.sent)) count ∙ numbers_are (length w.sent) ms in
    record {
      sent = rw (sent, mail.sent, parcels) (sym (map-append parcel_of w.sent (envelopes from ms)));
      pending = rw (pending, mail.pending, numbers) refl;
      bytes = rw (bytes_of-append w.sent (envelopes from ms), mail.bytes) refl;
      spelled = All-append HasEnvelope w.sent (envelopes from ms) mail.spelled spelled;
    }

-- A front of the history, one post longer.
use Rattle.std.proofs.Common.{◌≡◌, ℕ, Bool, true, false, ◌||◌, cond, List, [], ◌∷◌, ◌++◌, length, suc, refl, sym, ap, ◌∙◌, subst, Option, Some, true≢false}
use Rattle.std.specs.Prelude.{map, not, All, is_some}
use Rattle.std.specs.Ordering.{nat_cmp}
use Rattle.std.proofs.lemmas.List.{append-nil}
use Rattle.std.proofs.lemmas.List.Elements.{All-append}
use Rattle.rc_ids.specs.Parties.{is_same_party}
use Rattle.rc_ids.specs.Tables.{member}
use Rattle.rc_ids.specs.Cluster.{Layout}
use Rattle.rc_ids.specs.declared.names.Party.{Party}
use Rattle.rc_ids.specs.declared.sends.Letter.{Letter}
use Rattle.rc_net.specs.Network.{Message, messages, numbers_after}
use Rattle.rc_msg.specs.declared.msg.Msg.{Msg}
use Rattle.rc_msg.specs.declared.msg.Envelope.{Envelope}
use Rattle.rc_msg.specs.Spelling.{HasEnvelope}
use Rattle.rc_report.specs.declared.line.Line.{Line}
use Rattle.rc_runs.specs.World.{World, new_world, message, actor, envelopes, still_pending, sends_of}
use Rattle.rc_runs.specs.World as world
use Rattle.rc_runs.specs.Refusals.{Happening, is_pending, after_event, lines_at, run}
use Rattle.rc_wire.specs.declared.turn.Act.{Act}
use Rattle.rc_wire.specs.declared.turn.Act.TheVariants.{Posted}
use Rattle.rc_wire.specs.declared.turn.StepEnd.{StepEnd}
use Rattle.rc_wire.specs.declared.turn.Turn.{Turn}
use Rattle.rc_wire.specs.Chronicle.{Chronicle, replayed}
use Rattle.rc_wire.specs.Standings.{turn, by, standing}
use Rattle.rc_wire.specs.Traffic.{Traffic, no_traffic, is_lost, is_repeated, traffic, arriving}
use Rattle.rc_wire.proofs.Hubs.{party_itself, traffic_last}
use Rattle.rc_agreement.proofs.Cases.{never}
use Rattle.rc_composition.specs.Composed.{Operations, event_of}
use Rattle.rc_composition.specs.Messages.{wire_message}
use Rattle.rc_composition.specs.Parts.{Part, part_in, part_moved, part_by, does, prints}
use Rattle.rc_composition.specs.Prints.{lines_by, prints_at, prints_by}
use Rattle.rc_msg.specs.Outboxes.{letter}
use Rattle.rc_composition.specs.Steps.{IsStep}
use Rattle.rc_composition.specs.OneRun.{IsDue, AreEvents, acts_in}
use Rattle.rc_composition.proofs.Flights.{Flights, sent_more}
use Rattle.rc_composition.proofs.Pending.{member_pending, pending_left, pending_right, new_numbers, still_there}
use Rattle.rc_composition.proofs.Fronts.{Holds, takes_of, one_take, open_as, by_case, other_part, other_prints, own_part, own_prints}
use Rattle.rc_composition.proofs.ClientsStay.{has_begun}
use Rattle.rc_composition.proofs.Entries.{first_own}
use Rattle.rc_composition.proofs.Numbered.{reads_so, there, there_on, new_there, member_either, member_filtered}
use Rattle.rc_composition.proofs.OwnEvents.{Mail, Kind, kind_of, own_event}
use Rattle.rc_composition.proofs.Posting.{Moves, moves}
use Rattle.rc_composition.proofs.Runs.{lines_on, events_on}
use Rattle.rc_composition.proofs.Sending.{letters_are_messages, numbers_stay}

map_on : {A B : Type 0} (f : A → B) (xs ys : List A) → map f (xs ++ ys) ≡ map f xs ++ map f ys
map_on f [] ys = refl
map_on f (x ∷ xs) ys = ap (λ (zs : List _). f x ∷ zs) (map_on f xs ys)

map_length : {A B : Type 0} (f : A → B) (xs : List A) → length (map f xs) ≡ length xs
map_length f [] = refl
map_length f (x ∷ xs) = ap suc (map_length f xs)

module _ (c : Layout) (ops : Operations) (wire : Chronicle) (front : List Turn) (p : Party) (end : StepEnd) (sends : List Letter) (later : List Turn) (hs : List Happening) (w : World) where
  abbrev full : List Message
  full = (replayed wire).traffic.sent

  abbrev act : Act
  act = Posted end sends

  abbrev longer : List Turn
  longer = front ++ turn p act ∷ []

  abbrev mine : List Turn
  mine = by p front

  abbrev rest : List Turn
  rest = by p later

  -- the party, before the post
  abbrev x : Part
  x = part_by c ops full p mine (turn p act ∷ rest)

  module _ (is : wire.turns ≡ front ++ turn p act ∷ later) (here : acts_in wire p ≡ true) (holds : Holds c ops wire front (turn p act ∷ later) hs w) (step : IsStep c ops full p mine end sends rest) where
    abbrev h : Happening
    h = step.happening

    part_is : part_in w.parties p ≡ x
    part_is = holds.law.parts p here ∙ ap (part_by c ops full p mine) (first_own p act later)

    full_is : (more : List Message) × (full ≡ map wire_message w.sent ++ more)
    full_is =
        let grows = numbers_stay wire.rules front (turn p act ∷ later) in
        (grows.0, ap (λ (ts : List Turn). (traffic wire.rules ts).sent) is ∙ grows.1 ∙ ap (λ (ms : List Message). ms ++ grows.0) holds.law.messages)

    mail : (n : ℕ) → (standing mine).unanswered ≡ Some n → Mail full w.sent n
    mail n open_take =
        let e = there w.sent n (holds.law.taken p n open_take).sent in
        let r = reads_so w.sent full_is.0 full n e.0 full_is.1 holds.spelled e.1 in
        record { e = e.0; here = e.1; on_wire = r.0; reads = r.1 }

    kind : Kind mine p h
    kind = kind_of ops p mine end rest h step.is

    pub moved_by : Moves c full w p x h (after_event w h)
    moved_by =
        moves c full w p x sends h
        (own_event c full w holds.layout holds.named mine p h kind step.to mail (has_begun c ops full w.parties p mine (turn p act ∷ rest) part_is))
        part_is step.done

    abbrev v : World
    v = after_event w h

    abbrev new : List Envelope
    new = envelopes p (sends_of (does c full x h))

    -- MESSAGES
    sent_is : (traffic wire.rules longer).sent ≡ map wire_message v.sent
    sent_is =
        ap (λ (t : Traffic). t.sent) (traffic_last wire.rules no_traffic front (turn p act))
        ∙ (λ j. holds.law.messages j ++ messages p (step.done.letters j))
        ∙ ap (λ (ms : List Message). map wire_message w.sent ++ ms) (letters_are_messages p (sends_of (does c full x h)))
        ∙ sym (map_on wire_message w.sent new) ∙ ap (map wire_message) (sym moved_by.sent)

    counted : length sends ≡ length new
    counted =
        ap length step.done.letters ∙ map_length (λ (m : Party × Msg). letter p m.0 m.1) (sends_of (does c full x h))
        ∙ sym (map_length (λ (m : Party × Msg). record { from = p; to = m.0; msg = m.1 }) (sends_of (does c full x h)))

    sent_before : length (traffic wire.rules front).sent ≡ length w.sent
    sent_before = ap length holds.law.messages ∙ map_length wire_message w.sent

    abbrev twice : ℕ → Bool
    twice n = is_repeated wire.rules n

    abbrev after_sent : List ℕ
    after_sent = world.numbers_after (length w.sent) (sends_of (does c full x h))

    -- what is due stays so, but for the message of the open take
    stays_due : (n : ℕ) → (twice n ≡ false → (standing mine).unanswered ≡ Some n → ⊥) → IsDue wire.rules w n → IsDue wire.rules v n
    stays_due n other due = record {
      sent = ap (λ (es : List Envelope). is_some (message es n)) moved_by.sent ∙ there_on w.sent new n due.sent;
      pending = ap (λ (ns : List ℕ). is_pending ns n || twice n) moved_by.pending
          ∙ on_left (is_pending (still_pending w.pending h.0) n) (is_pending (still_pending w.pending h.0 ++ after_sent) n) (twice n)
          (pending_left (still_pending w.pending h.0) after_sent n) (still_there (twice n) mine p h w.pending n kind other due.pending);
    }
      where
        on_left : (a b t : Bool) → (a ≡ true → b ≡ true) → (a || t) ≡ true → (b || t) ≡ true
        on_left true b t f e = ap (λ (z : Bool). z || t) (f refl)
        on_left false true t f e = refl
        on_left false false t f e = e

    abbrev numbers : List ℕ
    numbers = numbers_after (length (traffic wire.rules front).sent) (length sends)

    numbers_are : numbers ≡ numbers_after (length w.sent) (length new)
    numbers_are = λ j. numbers_after (sent_before j) (counted j)

    new_due : (n : ℕ) → member nat_cmp numbers n ≡ true → IsDue wire.rules v n
    new_due n made =
        let here : member nat_cmp (numbers_after (length w.sent) (length new)) n ≡ true = sym (ap (λ (ns : List ℕ). member nat_cmp ns n) numbers_are) ∙ made in
        let sends_are = new_numbers (length w.sent) p (sends_of (does c full x h)) in
        record {
          sent = ap (λ (es : List Envelope). is_some (message es n)) moved_by.sent ∙ new_there w.sent new n here;
          pending = ap (λ (ns : List ℕ). is_pending ns n || twice n) moved_by.pending
              ∙ ap (λ (b : Bool). b || twice n) (pending_right (still_pending w.pending h.0) after_sent n
              (ap (λ (ns : List ℕ). is_pending ns n) (sym sends_are) ∙ member_pending (numbers_after (length w.sent) (length new)) n here));
        }

    pending_is : (n : ℕ) → member nat_cmp (traffic wire.rules longer).pending n ≡ true → IsDue wire.rules v n
    pending_is n m =
        member_either n (traffic wire.rules front).pending (arriving wire.rules numbers)
        (λ (old : member nat_cmp (traffic wire.rules front).pending n ≡ true).
        stays_due n (λ once open_take. true≢false (sym old ∙ holds.flights.apart p n open_take once)) (holds.law.pending n old))
        (λ (made : member nat_cmp (arriving wire.rules numbers) n ≡ true). new_due n (member_filtered (λ (k : ℕ). not (is_lost wire.rules k)) n numbers made))
        (sym (ap (λ (t : Traffic). member nat_cmp t.pending n) (traffic_last wire.rules no_traffic front (turn p act))) ∙ m)

    taken_is : (q : Party) (n : ℕ) → (standing (by q longer)).unanswered ≡ Some n → IsDue wire.rules v n
    taken_is q n is =
        open_as q p front act n is (λ none. never n none)
        (λ differ old. stays_due n (λ once open_take. true≢false (sym (holds.flights.alone p q n open_take old once) ∙ differ)) (holds.law.taken q n old))

    -- STATES
    event_is : event_of ops p mine act rest ≡ Some h
    event_is = step.is

    parts_are : (q : Party) → acts_in wire q ≡ true → part_in v.parties q ≡ part_by c ops full q (by q longer) (by q later)
    parts_are q =
        by_case (λ r. acts_in wire r ≡ true → part_in v.parties r ≡ part_by c ops full r (by r longer) (by r later)) p q
        (λ _. moved_by.own
        ∙ sym (own_part c ops wire front p act later hs w ∙ ap (part_moved c full (part_by c ops full p mine (by p (turn p act ∷ later)))) event_is
        ∙ ap (λ (ts : List Turn). part_moved c full (part_by c ops full p mine ts) (Some h)) (first_own p act later)))
        (λ other acts. moved_by.others q (λ same. true≢false (sym (party_itself p) ∙ ap (is_same_party p) same ∙ other))
        ∙ holds.law.parts q acts ∙ other_part c ops wire front p act later hs w q other)

    -- LINES
    module _ (w_is : run (new_world c) hs ≡ w) where
      abbrev before : Party → List Line
      before q = lines_by q (new_world c) hs

      lines_are : (q : Party) (b : Bool) → is_same_party p q ≡ b → lines_by q (new_world c) (hs ++ h ∷ []) ≡ before q ++ cond b (prints c full x h) []
      lines_are q b same =
          lines_on q (new_world c) hs (h ∷ [])
          ∙ ap (λ (u : World). before q ++ lines_by q u (h ∷ [])) w_is
          ∙ ap (λ (r : Party). before q ++ (cond (is_same_party r q) (lines_at w h) [] ++ [])) moved_by.actor_is
          ∙ ap (λ (a : Bool). before q ++ (cond a (lines_at w h) [] ++ [])) same
          ∙ ap (λ (ls : List Line). before q ++ ls) (append-nil (cond b (lines_at w h) []))
          ∙ ap (λ (ls : List Line). before q ++ cond b ls []) moved_by.lines

      prints_are : (q : Party) → acts_in wire q ≡ true → lines_by q (new_world c) (hs ++ h ∷ []) ≡ prints_by c ops full q (by q longer) (by q later)
      prints_are q =
          by_case (λ r. acts_in wire r ≡ true → lines_by r (new_world c) (hs ++ h ∷ []) ≡ prints_by c ops full r (by r longer) (by r later)) p q
          (λ acts. lines_are p true (party_itself p)
          ∙ ap (λ (ls : List Line). ls ++ prints c full x h) (holds.law.prints p acts)
          ∙ sym (own_prints c ops wire front p act later hs w
          ∙ ap (λ (e : Option Happening). prints_by c ops full p mine (by p (turn p act ∷ later)) ++ prints_at c full (part_by c ops full p mine (by p (turn p act ∷ later))) e) event_is
          ∙ ap (λ (ts : List Turn). prints_by c ops full p mine (by p (turn p act ∷ later)) ++ prints c full (part_by c ops full p mine ts) h) (first_own p act later)))
          (λ other acts. lines_are q false other ∙ append-nil (before q) ∙ holds.law.prints q acts ∙ other_prints c ops wire front p act later hs w q other)

      -- ALL OF IT
      pub posted : Holds c ops wire longer later (hs ++ h ∷ []) v
      posted = record {
        law = record {
          messages = sent_is;
          pending = pending_is;
          taken = taken_is;
          parts = parts_are;
          prints = prints_are;
          events = events_on (new_world c) hs (h ∷ []) holds.law.events (subst (λ (u : World). AreEvents u (h ∷ [])) (sym w_is) (moved_by.event, tt));
        };
        spelled = subst (All HasEnvelope) (sym moved_by.sent) (All-append HasEnvelope w.sent new holds.spelled step.done.spelled);
        layout = moved_by.layout ∙ holds.layout;
        named = moved_by.named ∙ holds.named;
        flights =
            subst (λ (t : Traffic). Flights wire.rules t (takes_of longer)) (sym (traffic_last wire.rules no_traffic front (turn p act)))
            (sent_more wire.rules (traffic wire.rules front) (takes_of front) (takes_of longer) holds.flights p sends (one_take front p act));
      }

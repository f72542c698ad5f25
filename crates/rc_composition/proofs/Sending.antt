-- Messages of a run and of a wire.
use Rattle.std.proofs.Common.{◌≡◌, ℕ, List, [], ◌∷◌, ◌++◌, refl, sym, ap, ◌∙◌, append_assoc, Bool, true, false, cond}
use Rattle.std.specs.Ordering.{nat_cmp}
use Rattle.std.proofs.lemmas.List.{append-nil}
use Rattle.rc_ids.specs.Tables.{member, removed}
use Rattle.rc_ids.specs.declared.names.Party.{Party}
use Rattle.rc_net.specs.Network.{Message, messages}
use Rattle.rc_protocol.specs.Messages.{Posts}
use Rattle.rc_wire.specs.declared.rules.Rules.{Rules}
use Rattle.rc_wire.specs.declared.turn.Act.{Act}
use Rattle.rc_wire.specs.declared.turn.Act.TheVariants.{Took, Posted, Rested, Halted}
use Rattle.rc_wire.specs.declared.turn.Turn.{Turn}
use Rattle.rc_wire.specs.Passes.{IsFront}
use Rattle.rc_wire.specs.Traffic.{Traffic, no_traffic, moved, moved_by_all, traffic}
use Rattle.rc_composition.specs.Messages.{wire_message, LettersAreMessages, NumbersStay}

pub letters_are_messages : (p : Party) (ms : Posts) → LettersAreMessages p ms
letters_are_messages p [] = refl
letters_are_messages p (m ∷ ms) = ap (λ (rest : List Message). wire_message (record { from = p; to = m.0; msg = m.1 }) ∷ rest) (letters_are_messages p ms)

pub on_taken : (t : Traffic) (n : ℕ) (b : Bool)
    → (cond {A = Traffic} b (record { sent = t.sent; pending = t.pending; again = removed nat_cmp t.again n }) (record { sent = t.sent; pending = removed nat_cmp t.pending n; again = t.again })).sent ≡ t.sent
on_taken t n true = refl
on_taken t n false = refl

one_more : (rules : Rules) (t : Traffic) (p : Party) (act : Act) → IsFront t.sent (moved rules t p act).sent
one_more rules t p (Took n) = ([], on_taken t n (member nat_cmp t.again n) ∙ sym (append-nil t.sent))
one_more rules t p (Posted end sends) = (messages p sends, refl)
one_more rules t p (Rested ended) = ([], sym (append-nil t.sent))
one_more rules t p (Halted cause) = ([], sym (append-nil t.sent))

grows : (rules : Rules) (t : Traffic) (ts : List Turn) → IsFront t.sent (moved_by_all rules t ts).sent
grows rules t [] = ([], sym (append-nil t.sent))
grows rules t (e ∷ es) =
    let one = one_more rules t e.party e.act in
    let rest = grows rules (moved rules t e.party e.act) es in
    (one.0 ++ rest.0, rest.1 ∙ ap (λ (ms : List Message). ms ++ rest.0) one.1 ∙ append_assoc t.sent one.0 rest.0)

moved_on : (rules : Rules) (t : Traffic) (front later : List Turn) → moved_by_all rules t (front ++ later) ≡ moved_by_all rules (moved_by_all rules t front) later
moved_on rules t [] later = refl
moved_on rules t (e ∷ es) later = moved_on rules (moved rules t e.party e.act) es later

pub numbers_stay : (rules : Rules) (front later : List Turn) → NumbersStay rules front later
numbers_stay rules front later =
    let rest = grows rules (traffic rules front) later in
    (rest.0, ap (λ (t : Traffic). t.sent) (moved_on rules no_traffic front later) ∙ rest.1)

-- A front of the history, one entry longer.
use Rattle.std.proofs.Common.{◌≡◌, ℕ, Bool, true, false, List, [], ◌∷◌, ◌++◌, refl, sym, ap, ◌∙◌, subst, Option, Some, None}
use Rattle.std.specs.Prelude.{All}
use Rattle.std.specs.Ordering.{nat_cmp}
use Rattle.std.specs.List.{list_any}
use Rattle.std.proofs.lemmas.List.{append-nil}
use Rattle.rc_ids.specs.Parties.{is_same_party}
use Rattle.rc_ids.specs.Tables.{member}
use Rattle.rc_ids.specs.Cluster.{Layout}
use Rattle.rc_ids.specs.declared.names.Party.{Party}
use Rattle.rc_ids.specs.declared.names.Party.TheVariants.{Node, Client as ClientOf}
use Rattle.rc_net.specs.Network.{Message}
use Rattle.rc_msg.specs.Spelling.{HasEnvelope}
use Rattle.rc_report.specs.declared.line.Line.{Line}
use Rattle.rc_runs.specs.World.{World}
use Rattle.rc_runs.specs.Refusals.{Happening}
use Rattle.rc_wire.specs.declared.standing.Standing.{Standing}
use Rattle.rc_wire.specs.declared.turn.Act.{Act}
use Rattle.rc_wire.specs.declared.turn.Turn.{Turn}
use Rattle.rc_wire.specs.Chronicle.{Chronicle, replayed}
use Rattle.rc_wire.specs.Standings.{turn, by, after, standing}
use Rattle.rc_wire.specs.Traffic.{traffic}
use Rattle.rc_wire.proofs.Hubs.{by_own, by_other}
use Rattle.rc_wire.proofs.Quiet.{same_party, standing_more}
use Rattle.rc_composition.specs.Composed.{Operations, event_of}
use Rattle.rc_composition.specs.Parts.{part_moved, part_by}
use Rattle.rc_composition.specs.Prints.{prints_at, prints_by}
use Rattle.rc_composition.specs.OneRun.{IsFrontOfRun, IsDue, acts_in}
use Rattle.rc_composition.proofs.Flights.{Takes, Flights, OneTake}
use Rattle.rc_composition.proofs.Entries.{first_own, first_other, part_more, prints_more}

-- the open takes after a front of the history
abbrev pub takes_of : List Turn → Takes
takes_of front q = (standing (by q front)).unanswered

-- the law, and what the next entry needs besides
pub record Holds (c : Layout) (ops : Operations) (wire : Chronicle) (front later : List Turn) (hs : List Happening) (w : World) : Type 0 where
  pub law : IsFrontOfRun c ops wire front later hs w
  pub spelled : All HasEnvelope w.sent
  pub layout : w.parties.layout ≡ c
  pub named : w.parties.start.named ≡ []
  pub flights : Flights wire.rules (traffic wire.rules front) (takes_of front)

-- WHERE A PARTY STANDS
-- of the party itself, and of each other
pub by_case : (P : Party → Type 0) (p q : Party) → P p → (is_same_party p q ≡ false → P q) → P q
by_case P p q own other = go (is_same_party p q) refl
  where
    go : (b : Bool) → is_same_party p q ≡ b → P q
    go true is = subst P (same_party p q is) own
    go false is = other is

pub one_take : (front : List Turn) (p : Party) (act : Act) → OneTake p (after (standing (by p front)) act).unanswered (takes_of front) (takes_of (front ++ turn p act ∷ []))
one_take front p act = record {
  own = λ q same. ap (λ (s : Standing). s.unanswered) (standing_more q p front act true same) ∙ ap (λ (r : Party). (after (standing (by r front)) act).unanswered) (sym (same_party p q same));
  others = λ q other. ap (λ (s : Standing). s.unanswered) (standing_more q p front act false other);
}

-- an open take is the party's own, or was open before
pub open_as : {P : Type 0} (q p : Party) (front : List Turn) (act : Act) (n : ℕ) → takes_of (front ++ turn p act ∷ []) q ≡ Some n
    → ((after (standing (by p front)) act).unanswered ≡ Some n → P) → (is_same_party p q ≡ false → takes_of front q ≡ Some n → P) → P
open_as {P} q p front act n is own other = go (is_same_party p q) refl
  where
    go : (b : Bool) → is_same_party p q ≡ b → P
    go true same = own (sym ((one_take front p act).own q same) ∙ is)
    go false differ = other differ (sym ((one_take front p act).others q differ) ∙ is)

pub acts_here : (wire : Chronicle) (p : Party) → list_any (is_same_party p) wire.parties ≡ true → acts_in wire p ≡ true
acts_here wire (Node node) here = refl
acts_here wire (ClientOf t) here = here

-- AN ENTRY THAT IS NO EVENT
module _ (c : Layout) (ops : Operations) (wire : Chronicle) (front : List Turn) (p : Party) (act : Act) (later : List Turn) (hs : List Happening) (w : World) where
  abbrev full : List Message
  full = (replayed wire).traffic.sent

  abbrev longer : List Turn
  longer = front ++ turn p act ∷ []

  -- of another party nothing changes
  pub other_part : (q : Party) → is_same_party p q ≡ false → part_by c ops full q (by q front) (by q (turn p act ∷ later)) ≡ part_by c ops full q (by q longer) (by q later)
  other_part q other = λ j. part_by c ops full q (sym (by_other q front (turn p act) other) j) (first_other q (turn p act) later other j)

  pub other_prints : (q : Party) → is_same_party p q ≡ false → prints_by c ops full q (by q front) (by q (turn p act ∷ later)) ≡ prints_by c ops full q (by q longer) (by q later)
  other_prints q other = λ j. prints_by c ops full q (sym (by_other q front (turn p act) other) j) (first_other q (turn p act) later other j)

  -- the party itself goes on by this entry
  pub own_part : part_by c ops full p (by p longer) (by p later) ≡ part_moved c full (part_by c ops full p (by p front) (by p (turn p act ∷ later))) (event_of ops p (by p front) act (by p later))
  own_part =
      ap (λ (ts : List Turn). part_by c ops full p ts (by p later)) (by_own p front act) ∙ part_more c ops full p (by p front) (turn p act) (by p later)
      ∙ ap (λ (ts : List Turn). part_moved c full (part_by c ops full p (by p front) ts) (event_of ops p (by p front) act (by p later))) (sym (first_own p act later))

  pub own_prints : prints_by c ops full p (by p longer) (by p later)
      ≡ prints_by c ops full p (by p front) (by p (turn p act ∷ later)) ++ prints_at c full (part_by c ops full p (by p front) (by p (turn p act ∷ later))) (event_of ops p (by p front) act (by p later))
  own_prints =
      ap (λ (ts : List Turn). prints_by c ops full p ts (by p later)) (by_own p front act) ∙ prints_more c ops full p (by p front) (turn p act) (by p later)
      ∙ ap (λ (ts : List Turn). prints_by c ops full p (by p front) ts ++ prints_at c full (part_by c ops full p (by p front) ts) (event_of ops p (by p front) act (by p later)))
      (sym (first_own p act later))

  quiet_part : event_of ops p (by p front) act (by p later) ≡ None → (q : Party) → part_by c ops full q (by q front) (by q (turn p act ∷ later)) ≡ part_by c ops full q (by q longer) (by q later)
  quiet_part none q =
      by_case (λ r. part_by c ops full r (by r front) (by r (turn p act ∷ later)) ≡ part_by c ops full r (by r longer) (by r later)) p q
      (sym (own_part ∙ ap (part_moved c full (part_by c ops full p (by p front) (by p (turn p act ∷ later)))) none)) (other_part q)

  quiet_prints : event_of ops p (by p front) act (by p later) ≡ None → (q : Party) → prints_by c ops full q (by q front) (by q (turn p act ∷ later)) ≡ prints_by c ops full q (by q longer) (by q later)
  quiet_prints none q =
      let before : List Line = prints_by c ops full p (by p front) (by p (turn p act ∷ later)) in
      by_case (λ r. prints_by c ops full r (by r front) (by r (turn p act ∷ later)) ≡ prints_by c ops full r (by r longer) (by r later)) p q
      (sym (own_prints ∙ ap (λ (h : Option Happening). before ++ prints_at c full (part_by c ops full p (by p front) (by p (turn p act ∷ later))) h) none ∙ append-nil before)) (other_prints q)

  pub quiet : event_of ops p (by p front) act (by p later) ≡ None → (traffic wire.rules longer).sent ≡ (traffic wire.rules front).sent
      → ((n : ℕ) → member nat_cmp (traffic wire.rules longer).pending n ≡ true → member nat_cmp (traffic wire.rules front).pending n ≡ true)
      → ((n : ℕ) → (after (standing (by p front)) act).unanswered ≡ Some n → IsDue wire.rules w n)
      → Flights wire.rules (traffic wire.rules longer) (takes_of longer)
      → Holds c ops wire front (turn p act ∷ later) hs w → Holds c ops wire longer later hs w
  quiet none sent pending taken flights holds =
      let law = holds.law in
      record {
        law = record {
          messages = sent ∙ law.messages;
          pending = λ n there. law.pending n (pending n there);
          taken = λ q n is. open_as q p front act n is (taken n) (λ _. law.taken q n);
          parts = λ q acts. law.parts q acts ∙ quiet_part none q;
          prints = λ q acts. law.prints q acts ∙ quiet_prints none q;
          events = law.events;
        };
        spelled = holds.spelled;
        layout = holds.layout;
        named = holds.named;
        flights = flights;
      }

-- What a front of a wire's history is in the run of the events that it composes to.
use Rattle.std.specs.Prelude.{◌≡◌, ℕ, Bool, true, ◌||◌, List, [], ◌∷◌, map, Some, is_some}
use Rattle.std.specs.List.{list_any}
use Rattle.std.specs.Ordering.{nat_cmp}
use Rattle.rc_ids.specs.Cluster.{Layout}
use Rattle.rc_ids.specs.Parties.{is_same_party}
use Rattle.rc_ids.specs.Tables.{member}
use Rattle.rc_ids.specs.declared.names.Party.{Party}
use Rattle.rc_ids.specs.declared.names.Party.TheVariants.{Node, Client}
use Rattle.rc_runs.specs.World.{World, new_world, message}
use Rattle.rc_runs.specs.Refusals.{Happening, is_pending, is_event, after_event, run}
use Rattle.rc_wire.specs.declared.rules.Rules.{Rules}
use Rattle.rc_wire.specs.declared.turn.Turn.{Turn}
use Rattle.rc_wire.specs.Chronicle.{Chronicle, replayed}
use Rattle.rc_wire.specs.Standings.{by, standing}
use Rattle.rc_wire.specs.Traffic.{is_repeated, traffic}
use Rattle.rc_composition.specs.Composed.{Operations, composed_before}
use Rattle.rc_composition.specs.Messages.{wire_message}
use Rattle.rc_composition.specs.Parts.{part_in, part_by}
use Rattle.rc_composition.specs.Prints.{lines_by, prints_by}

-- none of these names something wrongly, or is worn out
abbrev pub AreEvents : World → List Happening → Type 0
AreEvents w [] = Unit {0}
AreEvents w (h ∷ hs) = (is_event w h ≡ true) × AreEvents (after_event w h) hs

-- the message was sent in the run, and is pending there unless it arrives twice
pub record IsDue (rules : Rules) (w : World) (n : ℕ) : Type 0 where
  pub sent : is_some (message w.sent n) ≡ true
  pub pending : (is_pending w.pending n || is_repeated rules n) ≡ true

-- the nodes of a world, and the clients of the wire
abbrev pub acts_in : Chronicle → Party → Bool
acts_in wire (Node node) = true
acts_in wire (Client t) = list_any (is_same_party (Client t)) wire.parties

-- of this front of the history, which these entries follow, and the run of its events
pub record IsFrontOfRun (c : Layout) (ops : Operations) (wire : Chronicle) (front later : List Turn) (hs : List Happening) (w : World) : Type 0 where
  pub messages : (traffic wire.rules front).sent ≡ map wire_message w.sent
  pub pending : (n : ℕ) → member nat_cmp (traffic wire.rules front).pending n ≡ true → IsDue wire.rules w n
  pub taken : (p : Party) (n : ℕ) → (standing (by p front)).unanswered ≡ Some n → IsDue wire.rules w n
  pub parts : (p : Party) → acts_in wire p ≡ true → part_in w.parties p ≡ part_by c ops (replayed wire).traffic.sent p (by p front) (by p later)
  pub prints : (p : Party) → acts_in wire p ≡ true → lines_by p (new_world c) hs ≡ prints_by c ops (replayed wire).traffic.sent p (by p front) (by p later)
  pub events : AreEvents (new_world c) hs

abbrev pub IsOneRun : Layout → Operations → Chronicle → List Turn → List Turn → Type 0
IsOneRun c ops wire front later =
    IsFrontOfRun c ops wire front later (composed_before ops wire.parties front later) (run (new_world c) (composed_before ops wire.parties front later))

-- A wire as its calls see it: its rules, its parties and its history.
use Rattle.std.specs.Prelude.{◌≡◌, ℕ, ◌+◌, ◌≤◌, ◌<◌, ◌^◌, Bool, true, false, not, ◌&&◌, if◌then◌else◌, List, [], ◌∷◌, ◌++◌, length, sum_by, Some, None}
use Rattle.rc_ids.specs.declared.names.Party.{Party}
use Rattle.rc_net.specs.Network.{Network, Message, message}
use Rattle.rc_wire.specs.declared.fault.Taken.{Taken}
use Rattle.rc_wire.specs.declared.fault.Taken.TheVariants.{Mail, Empty, Closed, NoMemory}
use Rattle.rc_wire.specs.declared.rules.Rules.{Rules}
use Rattle.rc_wire.specs.declared.standing.Desk.{Desk}
use Rattle.rc_wire.specs.declared.turn.Act.{Act}
use Rattle.rc_wire.specs.declared.turn.Act.TheVariants.{Took, Rested}
use Rattle.rc_wire.specs.declared.turn.Turn.{Turn}
use Rattle.rc_wire.specs.declared.want.Want.{Want}
use Rattle.rc_wire.specs.Parties.{all_differ}
use Rattle.rc_wire.specs.Replay.{Replayed, replay, is_closed}
use Rattle.rc_wire.specs.Standings.{turn, by, standing, left, desks_of, parties_of}
use Rattle.rc_wire.specs.Traffic.{traffic, traffic_of}
use Rattle.rc_wire.specs.Wants.{oldest_for}

pub record Chronicle : Type 0 where
  pub rules : Rules
  pub parties : List Party
  pub turns : List Turn

abbrev pub chronicle : Rules → List Party → List Turn → Chronicle
chronicle rules parties turns = record { rules = rules; parties = parties; turns = turns }

abbrev pub replayed : Chronicle → Replayed
replayed c = replay c.rules c.parties c.turns

-- with one entry more
abbrev pub more : Chronicle → Party → Act → Chronicle
more c party act = chronicle c.rules c.parties (c.turns ++ turn party act ∷ [])

-- what a take gives, and what it makes of the history
abbrev pub Takes : Party → Want → Chronicle → Taken → Chronicle → Type 0
Takes party want c (Mail number from bytes) after =
    (after ≡ more c party (Took number))
    × (is_closed (replayed c) ≡ false)
    × (oldest_for party want (replayed c).traffic ≡ Some number)
    × ((m : Message) → message (replayed c).traffic.sent number ≡ Some m → (from ≡ m.from) × (bytes ≡ m.bytes))
Takes party want c Empty after = (after ≡ c) × (is_closed (replayed c) ≡ false) × (oldest_for party want (replayed c).traffic ≡ None)
Takes party want c Closed after = (after ≡ c) × (is_closed (replayed c) ≡ true)
Takes party want c NoMemory after = after ≡ c

-- a rest leaves no entry where the party waits already
abbrev pub Rests : Party → Bool → Chronicle → Chronicle → Type 0
Rests party ended c after = after ≡ (if not ended && (standing (by party c.turns)).waiting then c else more c party (Rested ended))

-- how many entries that take no memory may come before the next take or post of each party
abbrev pub owed : List Desk → ℕ
owed desks = sum_by (λ (d : Desk). left d.standing) desks

-- what is kept under the lock is what the history comes to, and there is room for the entries that take no memory
pub record IsHub (rules : Rules) (net : Network) (again : List ℕ) (desks : List Desk) (turns : List Turn) (len capacity : ℕ) : Type 0 where
  pub net_is : traffic_of net again ≡ traffic rules turns
  pub desks_are : desks ≡ desks_of (parties_of desks) turns
  pub room : len + owed desks ≤ capacity
  pub few : length desks < 2 ^ 32
  pub differ : all_differ (parties_of desks) ≡ true

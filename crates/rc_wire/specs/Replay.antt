-- What a history comes to.
use Rattle.std.specs.Prelude.{◌==◌, Bool, ◌&&◌, ◌||◌, List, [], ◌∷◌, length, Option, Some, None}
use Rattle.rc_ids.specs.declared.names.Party.{Party}
use Rattle.rc_wire.specs.declared.rules.Rules.{Rules}
use Rattle.rc_wire.specs.declared.standing.Desk.{Desk}
use Rattle.rc_wire.specs.declared.turn.Act.{Act}
use Rattle.rc_wire.specs.declared.turn.Act.TheVariants.{Took, Posted, Rested, Halted}
use Rattle.rc_wire.specs.declared.turn.HaltCause.{HaltCause}
use Rattle.rc_wire.specs.declared.turn.Turn.{Turn}
use Rattle.rc_wire.specs.Standings.{desks_of, all_still, is_halted}
use Rattle.rc_wire.specs.Traffic.{Traffic, traffic}

pub record Replayed : Type 0 where
  pub traffic : Traffic
  pub desks : List Desk  -- where each party stands: its open take, whether it is stopped, waits, or has ended
  pub halt : Option HaltCause  -- the first halt

abbrev pub first_halt : List Turn → Option HaltCause
first_halt [] = None
first_halt (t ∷ ts) = either_halt t.act (first_halt ts)
  where
    either_halt : Act → Option HaltCause → Option HaltCause
    either_halt (Took number) other = other
    either_halt (Posted end sends) other = other
    either_halt (Rested ended) other = other
    either_halt (Halted cause) other = Some cause

abbrev pub replay : Rules → List Party → List Turn → Replayed
replay rules parties turns = record { traffic = traffic rules turns; desks = desks_of parties turns; halt = first_halt turns }

-- nothing is pending, and each party is still
abbrev pub is_quiescent : Replayed → Bool
is_quiescent r = (length r.traffic.pending == 0) && all_still r.desks

-- the wire is quiescent or halted
abbrev pub is_closed : Replayed → Bool
is_closed r = is_quiescent r || is_halted r.desks

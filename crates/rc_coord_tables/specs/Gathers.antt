-- The table of gathers. Beside each gather of the rows stand the shards that it asks.
use Rattle.std.specs.Prelude.{◌≡◌, ℕ, List, [], not, ◌&&◌, max, if◌then◌else◌}
use Rattle.std.specs.Ordering.{nat_cmp}
use Rattle.rc_ids.specs.Tables.{Table, put, found, maybe, member}
use Rattle.rc_ids.specs.Cluster.{Layout}
use Rattle.rc_body.specs.Bodies.{touched}
use Rattle.rc_protocol.specs.Coordinator.{GatherState, with_yes}
use Rattle.rc_coord_tables.specs.declared.gathers.Asked.{Asked}
use Rattle.rc_coord_tables.specs.Maps.{mapped}

pub record GatherTable : Type 0 where
  pub table : Table ℕ GatherState
  pub asked : Table ℕ (List ℕ)
  pub spare : ℕ

abbrev pub gather_table : Table ℕ GatherState → Table ℕ (List ℕ) → ℕ → GatherTable
gather_table table asked spare = record { table = table; asked = asked; spare = spare }

abbrev pub gather_of : Asked → GatherState
gather_of a = record { ballot = a.gather.ballot; body = a.body; yes = a.gather.yes }

abbrev pub asked_of : Asked → List ℕ
asked_of a = a.gather.touched

abbrev pub asked_at : Table ℕ (List ℕ) → ℕ → List ℕ
asked_at asked t = maybe (found nat_cmp asked t) [] (λ shards. shards)

-- a first yes counts
abbrev pub answered : List ℕ → GatherState → ℕ → GatherState
answered asked g s = if member nat_cmp asked s && not (member nat_cmp g.yes s) then with_yes g s else g

abbrev pub answered_in : GatherTable → ℕ → ℕ → Table ℕ GatherState
answered_in g t s = maybe (found nat_cmp g.table t) g.table (λ x. put nat_cmp g.table t (answered (asked_at g.asked t) x s))

-- its ballot becomes the larger one
abbrev pub raised_to : GatherState → ℕ → GatherState
raised_to g b = record g { ballot = max g.ballot b }

abbrev pub raised_in : Table ℕ GatherState → ℕ → ℕ → Table ℕ GatherState
raised_in table t b = maybe (found nat_cmp table t) table (λ x. put nat_cmp table t (raised_to x b))

-- the shards that are asked stay
abbrev pub asked_again : Table ℕ (List ℕ) → ℕ → Table ℕ (List ℕ)
asked_again asked t = maybe (found nat_cmp asked t) asked (λ x. put nat_cmp asked t x)

-- each gather asks the shards that its body touches
abbrev pub AreOf : Layout → GatherTable → Type 0
AreOf c g = g.asked ≡ mapped (λ (x : GatherState). touched c x.body) g.table

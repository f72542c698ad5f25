-- The take-overs of open transactions.
use Rattle.std.specs.Prelude.{◌≡◌, ℕ, List, [], Option, if◌then◌else◌}
use Rattle.std.specs.Ordering.{nat_cmp}
use Rattle.rc_ids.specs.Tables.{Table, put, found, maybe}
use Rattle.rc_ids.specs.Cluster.{Layout, layout}
use Rattle.rc_body.specs.declared.decision.Decision.{Decision}
use Rattle.rc_protocol.specs.Coordinator.{TakeoverState, hears}
use Rattle.rc_takeover.specs.TakeOvers.{KeptTakeOver, waits_for, gone_on}

-- how many datacentres there are and their weights, and the take-over of each transaction
pub record TakeoverTable : Type 0 where
  pub dcs : ℕ
  pub weights : List ℕ
  pub table : Table ℕ TakeoverState
  pub spare : ℕ

abbrev pub takeover_table : ℕ → List ℕ → Table ℕ TakeoverState → ℕ → TakeoverTable
takeover_table dcs weights table spare = record { dcs = dcs; weights = weights; table = table; spare = spare }

abbrev pub state_of : KeptTakeOver → TakeoverState
state_of k = k.state

abbrev pub IsIn : ℕ → List ℕ → KeptTakeOver → Type 0
IsIn dcs weights k = (k.dcs ≡ dcs) × (k.weights ≡ weights)

-- a cluster of which only this matters
abbrev pub only_weighted : ℕ → List ℕ → Layout
only_weighted dcs weights = layout dcs 1 [] weights

-- what a promise makes of the one that waits for it
abbrev pub heard_in : TakeoverTable → ℕ → ℕ → Option (ℕ × Decision) → Table ℕ TakeoverState
heard_in k t from report =
    maybe (found nat_cmp k.table t) k.table
    (λ x. if waits_for x from then put nat_cmp k.table t (gone_on (only_weighted k.dcs k.weights) (hears x from report)) else k.table)

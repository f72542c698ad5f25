-- The votes of open transactions, by transaction and ballot.
use Rattle.std.specs.Prelude.{◌≡◌, ℕ, List, [], Bool}
use Rattle.std.specs.Ordering.{nat_cmp}
use Rattle.rc_ids.specs.Tables.{Table, put, found, maybe}
use Rattle.rc_ids.specs.Cluster.{holds}
use Rattle.rc_body.specs.declared.decision.Decision.{Decision}
use Rattle.rc_protocol.specs.Coordinator.{Standing, counted, standing_at, stands_for, standing_for}
use Rattle.rc_ballots.specs.Tallies.{Tally}

-- the weights of the datacentres, and the tally of each transaction
pub record VoteTable : Type 0 where
  pub weights : List ℕ
  pub table : Table ℕ (Table ℕ Standing)

abbrev pub vote_table : List ℕ → Table ℕ (Table ℕ Standing) → VoteTable
vote_table weights table = record { weights = weights; table = table }

abbrev pub votes_in : Tally → Table ℕ Standing
votes_in t = t.votes

abbrev pub IsOf : List ℕ → Tally → Type 0
IsOf weights t = t.quorum ≡ weights

abbrev pub tally_at : Table ℕ (Table ℕ Standing) → ℕ → Table ℕ Standing
tally_at table t = maybe (found nat_cmp table t) [] (λ tally. tally)

-- the table with one more vote
abbrev pub with_vote : Table ℕ (Table ℕ Standing) → ℕ → ℕ → ℕ → Decision → Table ℕ (Table ℕ Standing)
with_vote table t b from o = put nat_cmp table t (counted (tally_at table t) b from o)

-- after the vote a quorum stands for its outcome
abbrev pub would_decide : VoteTable → ℕ → ℕ → ℕ → Decision → Bool
would_decide v t b from o = holds v.weights (standing_for (stands_for (standing_at (tally_at v.table t) b) o from) o)

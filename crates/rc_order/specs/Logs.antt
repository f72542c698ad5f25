-- The votes of whole logs, counted record by record.
use Rattle.std.specs.Prelude.{◌≡◌, ℕ, suc, ◌+◌, List, [], ◌∷◌, ◌++◌, Some, length}
use Rattle.rc_ids.specs.Cluster.{Layout}
use Rattle.rc_body.specs.declared.entry.Entry.{Entry}
use Rattle.rc_record.specs.declared.record.Record.{Record}
use Rattle.rc_protocol.specs.Nodes.{CoordNode}
use Rattle.rc_runs.specs.Votes.{ordered}
use Rattle.rc_runs.specs.Starts.{with_choices, all_choices}
use Rattle.rc_order.specs.Orders.{Votes, Order, with_record}
use Rattle.rc_order.specs.Counts.{AreCounted}

-- with all that d wrote, one record after another
abbrev pub with_log : Votes → ℕ → List Record → Votes
with_log votes d [] = votes
with_log votes d (r ∷ rs) = with_log (with_record votes d r) d rs

-- with all logs, the first that of d
abbrev pub with_logs : Votes → ℕ → List CoordNode → Votes
with_logs votes d [] = votes
with_logs votes d (x ∷ xs) = with_logs (with_log votes d x.log) (suc d) xs

-- all votes of these nodes are counted once their logs are, and one record or one node more is the next step; so it is with what is chosen
pub record LogLaws (c : Layout) (coords : List CoordNode) (o : Order) : Type 0 where
  pub all : length coords ≡ c.dcs → o.votes ≡ with_logs [] 1 coords → AreCounted c coords o
  pub record_more : (votes : Votes) (d : ℕ) (rs : List Record) (r : Record) → with_log votes d (rs ++ r ∷ []) ≡ with_record (with_log votes d rs) d r
  pub node_more : (votes : Votes) (d : ℕ) (xs : List CoordNode) (x : CoordNode)
      → with_logs votes d (xs ++ x ∷ []) ≡ with_log (with_logs votes d xs) (d + length xs) x.log
  pub choice_more : (chosen : List (ℕ × List Entry)) (rs : List Record) (r : Record)
      → with_choices c coords chosen (rs ++ r ∷ []) ≡ ordered c coords [] (with_choices c coords chosen rs) (Some r)
  pub choices_more : (chosen : List (ℕ × List Entry)) (xs : List CoordNode) (x : CoordNode)
      → all_choices c coords chosen (xs ++ x ∷ []) ≡ with_choices c coords (all_choices c coords chosen xs) x.log

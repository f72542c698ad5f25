-- The votes that are kept, against the logs of coordinators.
use Rattle.std.specs.Prelude.{◌≡◌, ℕ, List, [], ◌∷◌, ◌++◌, Some, None, slice_get, slice_set, IsTrue}
use Rattle.std.specs.Ordering.{nat_cmp}
use Rattle.rc_ids.specs.Tables.{member, maybe}
use Rattle.rc_ids.specs.Cluster.{Layout, is_dc}
use Rattle.rc_ids.specs.declared.names.Outcome.TheVariants.{Commit as Committed}
use Rattle.rc_body.specs.declared.entry.Entry.{Entry}
use Rattle.rc_record.specs.declared.record.Record.{Record}
use Rattle.rc_protocol.specs.Nodes.{CoordNode, coord_index}
use Rattle.rc_runs.specs.Votes.{has_voted}
use Rattle.rc_order.specs.Orders.{Order, voters_at, vote_of, txs_of}

-- at each ballot of each transaction the datacentres are counted whose logs have the vote for commit, and no others
pub record AreCounted (c : Layout) (coords : List CoordNode) (o : Order) : Type 0 where
  pub within : (t b d : ℕ) → IsTrue (member nat_cmp (voters_at o.votes t b) d) → IsTrue (is_dc c d)
  pub each : (t b d : ℕ) → IsTrue (is_dc c d) → member nat_cmp (voters_at o.votes t b) d ≡ has_voted coords Committed t b d

-- no node has a record in its log
abbrev pub HaveEmptyLogs : List CoordNode → Type 0
HaveEmptyLogs coords = (place : ℕ) (x : CoordNode) → slice_get coords place ≡ Some x → x.log ≡ []

-- the node of d has this record behind its log, and the others stay
pub record HasWritten (coords : List CoordNode) (d : ℕ) (r : Record) (now : List CoordNode) : Type 0 where
  pub before : CoordNode
  pub after : CoordNode
  pub was : slice_get coords (coord_index d) ≡ Some before
  pub log : after.log ≡ before.log ++ r ∷ []
  pub is : now ≡ slice_set coords (coord_index d) after

-- the order is that of these logs: their votes are counted, and the same transactions were listed earlier and are listed now
pub record IsOrderOf (c : Layout) (coords : List CoordNode) (before now : List (ℕ × List Entry)) (o : Order) : Type 0 where
  pub weights : c.weights ≡ o.weights
  pub counted : AreCounted c coords o
  pub earlier : txs_of before ≡ o.earlier
  pub listed : txs_of now ≡ o.listed

-- the log at a place
abbrev pub log_at : List CoordNode → ℕ → List Record
log_at coords place = maybe (slice_get coords place) [] (λ x. x.log)

-- what keeps the votes counted: logs that stay, a record that is no vote for commit, and an order with the same votes
pub record CountLaws (c : Layout) (coords now : List CoordNode) (o : Order) : Type 0 where
  pub stay : ((place : ℕ) → log_at now place ≡ log_at coords place) → AreCounted c coords o → AreCounted c now o
  pub other : (d : ℕ) (r : Record) → vote_of r ≡ None → IsTrue (is_dc c d) → HasWritten coords d r now → AreCounted c coords o → AreCounted c now o
  pub same : (p : Order) → p.votes ≡ o.votes → AreCounted c coords o → AreCounted c coords p

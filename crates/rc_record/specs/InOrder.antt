-- What a shard server's log gives back, in the order of its records: the parts in the order of their preparation, and the outcomes in
-- the order of finishing. The rows of a shard server have both by number.
use Rattle.std.specs.Prelude.{ℕ, List, [], ◌∷◌, ◌++◌, nat_eq}
use Rattle.std.specs.Ordering.{nat_cmp}
use Rattle.indexmap.specs.IndexMap.{insert_entry as in_order}
use Rattle.rc_ids.specs.Tables.{Table, found, put, without, maybe}
use Rattle.rc_body.specs.declared.decision.Decision.{Decision}
use Rattle.rc_body.specs.declared.decision.Decision.TheVariants.{Commit, Abort}
use Rattle.rc_body.specs.Decisions.{outcome_of}
use Rattle.rc_body.specs.Pages.{TxsDiffer}
use Rattle.rc_record.specs.declared.record.Record.{Record}
use Rattle.rc_record.specs.declared.record.Record.TheVariants.{Prepared, Finished}
use Rattle.rc_record.specs.ShardState.{ShardDurable, set_rows}

abbrev pub rows_decided : Table (List ℕ) (ℕ × List ℕ) → Decision → Table (List ℕ) (ℕ × List ℕ)
rows_decided rows Abort = rows
rows_decided rows (Commit part) = set_rows rows part

-- the transaction ends: its part goes, and its outcome is the last
abbrev pub ended : ShardDurable → ℕ → Decision → ShardDurable
ended s t d = record { rows = rows_decided s.rows d; parts = without nat_cmp s.parts t; finished = s.finished ++ (t, outcome_of d) ∷ [] }

-- an entry of a page ends its transaction, if that is not finished yet
abbrev pub ended_new : ShardDurable → (ℕ × Decision) → ShardDurable
ended_new s e = maybe (found nat_cmp s.finished e.0) (ended s e.0 e.1) (λ _. s)

abbrev pub ended_all : ShardDurable → List (ℕ × Decision) → ShardDurable
ended_all s [] = s
ended_all s (e ∷ es) = ended_all (ended_new s e) es

-- what a record makes of the state; a replay folds it over a log
abbrev pub shard_replayed_by : ShardDurable → Record → ShardDurable
shard_replayed_by s (Prepared t part) = record { rows = s.rows; parts = in_order nat_eq s.parts t part; finished = s.finished }
shard_replayed_by s (Finished page) = ended_all s page
shard_replayed_by s _ = s

-- no transaction stands twice in either list
pub record IsInOrder (s : ShardDurable) : Type 0 where
  pub parts : TxsDiffer s.parts
  pub finished : TxsDiffer s.finished

-- BY NUMBER
-- the table with each of these, one after another
abbrev pub filed : {X : Type 0} → Table ℕ X → List (ℕ × X) → Table ℕ X
filed table [] = table
filed table (e ∷ es) = filed (put nat_cmp table e.0 e.1) es

-- the same state by number
abbrev pub shown : ShardDurable → ShardDurable
shown s = record { rows = s.rows; parts = filed [] s.parts; finished = filed [] s.finished }

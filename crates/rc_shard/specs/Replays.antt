-- What the records of a shard server's journal give back.
use Rattle.std.specs.Prelude.{◌≡◌, ℕ, suc, ◌==◌, false, List, [], ◌∷◌, ◌++◌, Option, Some, None, Result, Ok}
use Rattle.rc_ids.specs.declared.names.NodeId.{NodeId}
use Rattle.rc_ids.specs.Cluster.{Layout}
use Rattle.rc_record.specs.declared.fault.ReplayFault.{ReplayFault}
use Rattle.rc_record.specs.declared.record.Record.{Record}
use Rattle.rc_record.specs.InOrder.{shown, IsInOrder}
use Rattle.rc_record.specs.Replay.{on_ok, shard_step}
use Rattle.rc_record.specs.ShardState.{ShardDurable, new_durable}
use Rattle.rc_record.specs.Spelling.{record_bytes}

-- the format and the state behind the records from this place on
abbrev pub reached : NodeId → Layout → ℕ → ℕ × ShardDurable → List (List ℕ) → Result (ℕ × ShardDurable) ReplayFault
reached node c place s [] = Ok s
reached node c place s (bytes ∷ log) = on_ok (shard_step node c place s bytes) (λ t. reached node c (suc place) t log)

-- the records give back a state in order that is this one by number, behind a head whose format has gone values
pub record GivesBack (node : NodeId) (c : Layout) (log : List (List ℕ)) (durable : ShardDurable) : Type 0 where
  pub format : ℕ
  pub kept : ShardDurable
  pub headed : (format == 0) ≡ false
  pub has_gone : (format == 1) ≡ false
  pub gives : reached node c 0 (0, new_durable) log ≡ Ok (format, kept)
  pub in_order : IsInOrder kept
  pub by_number : shown kept ≡ durable

-- the records with the act's one more, if it has one
abbrev pub with_record : List (List ℕ) → Option Record → List (List ℕ)
with_record log None = log
with_record log (Some r) = log ++ record_bytes r ∷ []

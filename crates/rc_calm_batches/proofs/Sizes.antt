-- How many bytes the records of a log take, with their frames.
use Rattle.std.proofs.Common.{◌≡◌, ℕ, ◌+◌, ◌≤◌, List, [], ◌∷◌, ◌++◌, arith}
use Rattle.rc_ids.specs.Tables.{In}
use Rattle.rc_ids.specs.Cluster.{Layout}
use Rattle.rc_body.specs.Bodies.{part}
use Rattle.rc_body.specs.declared.entry.Entry.{Entry}
use Rattle.rc_body.specs.declared.decision.Decision.TheVariants.{Commit}
use Rattle.rc_record.specs.declared.record.Record.{Record}
use Rattle.rc_record.specs.declared.record.Record.TheVariants.{Accepted, Decided, Prepared, Finished}
use Rattle.rc_runs.specs.Devices.{record_length}

abbrev pub log_bytes : List Record → ℕ
log_bytes [] = 0
log_bytes (r ∷ rs) = 5 + record_length r + log_bytes rs

pub bytes_end : (rs : List Record) (r : Record) → log_bytes (rs ++ r ∷ []) ≡ log_bytes rs + (5 + record_length r)
bytes_end [] r = omega arith
bytes_end (x ∷ rs) r = let h = bytes_end rs r in omega (arith, h)

-- a frame of a body or part of at most 32 keys and values has fewer bytes
abbrev pub most_frame : ℕ
most_frame = 40000

-- a transaction that is not over, whose records fit into such frames
pub record Ready (over : List ℕ) (t : ℕ) (body : List Entry) : Type 0 where
  pub new : In t over → ⊥
  pub accepted : 5 + record_length (Accepted t 0 (Commit body)) ≤ most_frame
  pub decided : 5 + record_length (Decided ((t, Commit body) ∷ [])) ≤ most_frame
  pub prepared : (c : Layout) (s : ℕ) → 5 + record_length (Prepared t (part c s body)) ≤ most_frame
  pub finished : (c : Layout) (s : ℕ) → 5 + record_length (Finished ((t, Commit (part c s body)) ∷ [])) ≤ most_frame

-- The end of a read, from what was read.
use Rattle.std.specs.Prelude.{ℕ, Bool, List, [], ◌∷◌, if◌then◌else◌}
use Rattle.rc_ids.specs.Cluster.{Layout, shard_of}
use Rattle.rc_ids.specs.Tables.{maybe}
use Rattle.rc_msg.specs.declared.msg.Msg.TheVariants.{ReadCancel}
use Rattle.rc_report.specs.declared.line.Line.{Line}
use Rattle.rc_report.specs.declared.line.Line.TheVariants.{Read as ReadLine}
use Rattle.rc_protocol.specs.Client.{Client, ClientAct, Slot, Complete, slot_of, slot_set, with_read, with_slots, proposes_once_read, after_read, unless_refused}
use Rattle.rc_read.specs.declared.state.ReadDone.{ReadDone}
use Rattle.rc_client.specs.Shares.{to_shards}

-- the line at the end of a key's read, if one is wanted
abbrev pub end_line : ℕ → List ℕ → Bool → ReadDone → List Line
end_line t k prints done = if prints then ReadLine t k done.version done.value ∷ [] else []

-- the slots where the key's read is complete
abbrev pub ended_at : List Slot → List ℕ → ReadDone → List Slot
ended_at slots k done = maybe (slot_of slots k) slots (λ s. slot_set slots (with_read s (Complete done.version done.value)))

-- the read of a key is complete
abbrev pub ends_read : Layout → ℕ → Client → List ℕ → Bool → ReadDone → ClientAct
ends_read c t x k prints done =
    unless_refused x (after_read (to_shards c (shard_of c k) done.from (ReadCancel t k)) (end_line t k prints done) (proposes_once_read c t (with_slots x (ended_at x.slots k done))))

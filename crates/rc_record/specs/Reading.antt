-- Reading records from the front of bytes.
use Rattle.std.specs.Prelude.{ℕ, ◌-◌, ◌==◌, Bool, ◌&&◌, not, nat_le, List, [], ◌∷◌, length, Option, None, Some, is_none, if◌then◌else◌}
use Rattle.rc_ids.specs.declared.names.NodeId.{NodeId}
use Rattle.rc_ids.specs.Cluster.{layout, equal_weights, cluster_fault}
use Rattle.rc_fields.specs.Formats.{Reader, ◌>>=◌, both_at, mapped_at, tested_at, tagged_at, pick, many_at}
use Rattle.rc_fields.specs.Whole.{all_of}
use Rattle.rc_fields.specs.Names.{byte_at, tx_at, ballot_at, node_at, key_at}
use Rattle.rc_body.specs.Reading.{body_at, decision_at, page_at}
use Rattle.rc_body.specs.declared.entry.Entry.{Entry}
use Rattle.rc_body.specs.declared.decision.Decision.{Decision}
use Rattle.rc_record.specs.Heads.{LogHead}
use Rattle.rc_record.specs.declared.record.Record.{Record}
use Rattle.rc_record.specs.declared.record.Record.TheVariants.{Head, Prepared, Finished, Promised, Accepted, Decided}

-- HEADS
-- one field, and others whose number depends on it
unfoldable pub then_at : {A B : Type 0} → Reader A → (A → Reader B) → Reader (A × B)
then_at first second bytes = first bytes >>= λ a. second a.0 a.1 >>= λ b. Some ((a.0, b.0), b.1)

-- the format and the node, and the numbers of datacentres and shards
abbrev pub Front : Type 0
Front = (ℕ × NodeId) × (ℕ × ℕ)

-- the weights and the split keys
abbrev pub Lists : Type 0
Lists = List ℕ × List (List ℕ)

-- how many weights stand in a head
abbrev pub weight_count : Front → ℕ
weight_count = λ ((format, node), (dcs, shards)). if format == 3 then dcs else 0

unfoldable pub front_at : Reader Front
front_at = both_at (both_at byte_at node_at) (both_at byte_at byte_at)

unfoldable pub lists_at : Front → Reader Lists
lists_at f = both_at (many_at byte_at (weight_count f)) (many_at key_at (f.1.1 - 1))

-- without weights each is 1
abbrev pub head_from : Front × Lists → LogHead
head_from =
    λ (((format, node), (dcs, shards)), (weights, splits)).
    record { format = format; node = node; world = layout dcs shards splits (if format == 3 then weights else equal_weights dcs) }

abbrev pub is_head : LogHead → Bool
is_head h = nat_le 1 h.format && nat_le h.format 3 && is_none (cluster_fault h.world)

unfoldable pub head_at : Reader LogHead
head_at = tested_at is_head (mapped_at head_from (then_at front_at lists_at))

-- KINDS
unfoldable pub prepared_at : Reader Record
prepared_at = mapped_at (λ (f : ℕ × List Entry). Prepared f.0 f.1) (both_at tx_at body_at)

abbrev pub is_filled : List (ℕ × Decision) → Bool
is_filled page = nat_le 1 (length page)

unfoldable pub full_page_at : Reader (List (ℕ × Decision))
full_page_at = tested_at is_filled page_at

unfoldable pub promised_at : Reader Record
promised_at = mapped_at (λ (f : ℕ × ℕ). Promised f.0 f.1) (both_at tx_at ballot_at)

unfoldable pub accepted_at : Reader Record
accepted_at = mapped_at (λ ((t, b), o). Accepted t b o) (both_at (both_at tx_at ballot_at) decision_at)

unfoldable pub head_record_at : Reader Record
head_record_at = mapped_at Head head_at

unfoldable pub finished_at : Reader Record
finished_at = mapped_at Finished full_page_at

unfoldable pub decided_at : Reader Record
decided_at = mapped_at Decided full_page_at

-- the kinds from 0 on
abbrev pub kinds_at : List (Reader Record)
kinds_at = head_record_at ∷ prepared_at ∷ finished_at ∷ promised_at ∷ accepted_at ∷ decided_at ∷ []

-- the kind, and its fields
unfoldable pub record_at : Reader Record
record_at = tagged_at (pick kinds_at)

-- what all of the bytes spell
unfoldable pub decoded : List ℕ → Option Record
decoded bytes = all_of record_at bytes

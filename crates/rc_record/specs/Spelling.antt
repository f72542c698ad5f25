-- The bytes of records, and which records have a spelling.
use Rattle.std.specs.Prelude.{ℕ, ◌≤◌, ◌==◌, List, [], ◌∷◌, ◌++◌, length, if◌then◌else◌}
use Rattle.std.specs.List.{flat_map}
use Rattle.rc_fields.specs.Ranges.{IsTxNumber, IsBallotNumber, IsNodeName}
use Rattle.rc_fields.specs.Spelling.{u8_bytes, u32_bytes, key_bytes, node_bytes}
use Rattle.rc_body.specs.Spelling.{body_bytes, decision_bytes, page_bytes, HasBody, HasDecision, HasPage}
use Rattle.rc_body.specs.declared.decision.Decision.{Decision}
use Rattle.rc_record.specs.Heads.{LogHead, IsHead}
use Rattle.rc_record.specs.declared.record.Record.{Record}
use Rattle.rc_record.specs.declared.record.Record.TheVariants.{Head, Prepared, Finished, Promised, Accepted, Decided}

-- one byte for each weight, in format 3
abbrev pub weights_bytes : LogHead → List ℕ
weights_bytes h = if h.format == 3 then h.world.weights else []

-- the format, the node, the numbers of datacentres and shards, the weights and the split keys
abbrev pub head_bytes : LogHead → List ℕ
head_bytes h =
    (u8_bytes h.format ++ node_bytes h.node)
    ++ (u8_bytes h.world.dcs ++ u8_bytes h.world.shards)
    ++ (weights_bytes h ++ flat_map key_bytes h.world.splits)

-- the kind, and the fields in their order
abbrev pub record_bytes : Record → List ℕ
record_bytes (Head h) = u8_bytes 0 ++ head_bytes h
record_bytes (Prepared t part) = u8_bytes 1 ++ u32_bytes t ++ body_bytes part
record_bytes (Finished page) = u8_bytes 2 ++ page_bytes page
record_bytes (Promised t b) = u8_bytes 3 ++ u32_bytes t ++ u32_bytes b
record_bytes (Accepted t b o) = u8_bytes 4 ++ u32_bytes t ++ u32_bytes b ++ decision_bytes o
record_bytes (Decided page) = u8_bytes 5 ++ page_bytes page

-- WHAT HAS A SPELLING
abbrev pub HasHead : LogHead → Type 0
HasHead h = IsNodeName h.node × IsHead h

-- a record has no page without transactions
abbrev pub HasFullPage : List (ℕ × Decision) → Type 0
HasFullPage page = (1 ≤ length page) × HasPage page

abbrev pub HasRecord : Record → Type 0
HasRecord (Head h) = HasHead h
HasRecord (Prepared t part) = IsTxNumber t × HasBody part
HasRecord (Finished page) = HasFullPage page
HasRecord (Promised t b) = IsTxNumber t × IsBallotNumber b
HasRecord (Accepted t b o) = IsTxNumber t × IsBallotNumber b × HasDecision o
HasRecord (Decided page) = HasFullPage page

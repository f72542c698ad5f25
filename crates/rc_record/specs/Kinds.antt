-- What a record is, and what it holds.
use Rattle.std.specs.Prelude.{ℕ, Bool, true, false, List, [], Option, None, Some}
use Rattle.std.specs.List.{list_any}
use Rattle.rc_ids.specs.Tables.{maybe}
use Rattle.rc_ids.specs.Texts.{gone, same_key}
use Rattle.rc_body.specs.declared.entry.Entry.{Entry}
use Rattle.rc_body.specs.declared.decision.Decision.{Decision}
use Rattle.rc_body.specs.declared.decision.Decision.TheVariants.{Commit, Abort}
use Rattle.rc_record.specs.Heads.{LogHead}
use Rattle.rc_record.specs.declared.record.Record.{Record}
use Rattle.rc_record.specs.declared.record.Record.TheVariants.{Head, Prepared, Finished, Promised, Accepted, Decided}

abbrev pub head_of : Record → Option LogHead
head_of (Head h) = Some h
head_of _ = None

-- GONE VALUES, which a log of format 1 does not hold
abbrev pub writes_gone : Entry → Bool
writes_gone e = maybe e.write false (λ v. same_key v gone)

abbrev pub body_has_gone : List Entry → Bool
body_has_gone body = list_any writes_gone body

abbrev pub decision_has_gone : Decision → Bool
decision_has_gone (Commit body) = body_has_gone body
decision_has_gone Abort = false

abbrev pub page_has_gone : List (ℕ × Decision) → Bool
page_has_gone page = list_any (λ (e : ℕ × Decision). decision_has_gone e.1) page

abbrev pub has_gone : Record → Bool
has_gone (Prepared t part) = body_has_gone part
has_gone (Finished page) = page_has_gone page
has_gone (Accepted t b o) = decision_has_gone o
has_gone (Decided page) = page_has_gone page
has_gone _ = false

-- WHOSE RECORDS
abbrev pub is_shard_record : Record → Bool
is_shard_record (Prepared t part) = true
is_shard_record (Finished page) = true
is_shard_record _ = false

abbrev pub is_coord_record : Record → Bool
is_coord_record (Promised t b) = true
is_coord_record (Accepted t b o) = true
is_coord_record (Decided page) = true
is_coord_record _ = false

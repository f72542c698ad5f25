-- The entries of a body.
use Rattle.std.specs.Prelude.{ℕ, ◌==◌, ◌-◌, ◌^◌, Bool, ◌&&◌, List, map, is_some}
use Rattle.std.specs.Option.{option_copied}
use Rattle.rc_body.specs.declared.entry.Entry.{Entry}
use Rattle.rc_body.specs.declared.entry.Access.{Access}
use Rattle.rc_body.specs.declared.entry.EntryRef.{EntryRef}

abbrev pub entry_of : (List ℕ × Access) → Entry
entry_of e = record { key = e.0; version = e.1.version; write = e.1.write }

abbrev pub entries_of : List (List ℕ × Access) → List Entry
entries_of es = map entry_of es

-- the entry that is looked at
abbrev pub entry_seen : EntryRef → Entry
entry_seen e = record { key = e.key.now; version = e.version; write = option_copied e.write }

-- the key is written, and no version comes after the one that was read
abbrev pub wears_out : Entry → Bool
wears_out e = is_some e.write && (e.version == 2 ^ 62 - 1)

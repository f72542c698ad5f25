-- Rows of keys.
use Rattle.std.specs.Prelude.{ℕ, ◌+◌, ◌<◌, List, [], ◌∷◌, Option, Some, None, nat_lt, if◌then◌else◌}
use Rattle.rc_ids.specs.Tables.{Table, found, put, maybe}
use Rattle.rc_ids.specs.Texts.{key_cmp}
use Rattle.rc_body.specs.declared.entry.Entry.{Entry}

abbrev pub version_at : Table (List ℕ) (ℕ × List ℕ) → List ℕ → ℕ
version_at rows k = maybe (found key_cmp rows k) 0 (λ row. row.0)

abbrev pub value_at : Table (List ℕ) (ℕ × List ℕ) → List ℕ → Option (List ℕ)
value_at rows k = maybe (found key_cmp rows k) None (λ row. Some row.1)

-- each key was written, so that its version is 1 or more
abbrev pub AreWritten : Table (List ℕ) (ℕ × List ℕ) → Type 0
AreWritten [] = Unit {0}
AreWritten (r ∷ rs) = (0 < r.1.0) × AreWritten rs

-- a written key gets its value where its version here is lower
abbrev pub set_row : Table (List ℕ) (ℕ × List ℕ) → Entry → Table (List ℕ) (ℕ × List ℕ)
set_row rows e = maybe e.write rows (λ x. if nat_lt (version_at rows e.key) (e.version + 1) then put key_cmp rows e.key (e.version + 1, x) else rows)

abbrev pub set_rows : Table (List ℕ) (ℕ × List ℕ) → List Entry → Table (List ℕ) (ℕ × List ℕ)
set_rows rows [] = rows
set_rows rows (e ∷ es) = set_rows (set_row rows e) es

-- What a page of outcomes makes of the tables, in lists that are made before anything changes.
use Rattle.std.specs.Prelude.{◌≡◌, ℕ, ◌+◌, List, [], ◌∷◌, ◌++◌, map, None}
use Rattle.std.specs.Ordering.{nat_cmp}
use Rattle.rc_ids.specs.Tables.{Table, found, maybe}
use Rattle.rc_ids.specs.declared.names.Outcome.{Outcome}
use Rattle.rc_body.specs.declared.entry.Entry.{Entry}
use Rattle.rc_body.specs.declared.decision.Decision.{Decision}
use Rattle.rc_body.specs.declared.decision.Decision.TheVariants.{Commit, Abort}
use Rattle.rc_body.specs.Decisions.{outcome_of}
use Rattle.rc_body.specs.Rows.{Row}
use Rattle.rc_versions.specs.Rows.{newest}

-- the rows once these writes are done, each where the version there is lower
abbrev pub newest_all : List Row → List Row → List Row
newest_all rows [] = rows
newest_all rows (w ∷ ws) = newest_all (newest rows w.0 w.1.0 w.1.1) ws

-- the writes of a part: each written key gets the version after the one that was read
abbrev pub writes_in : List Entry → List Row
writes_in [] = []
writes_in (e ∷ es) = maybe e.write (writes_in es) (λ x. (e.key, (e.version + 1, x)) ∷ writes_in es)

abbrev pub writes_by : Decision → List Row
writes_by Abort = []
writes_by (Commit part) = writes_in part

abbrev pub writes_of : List (ℕ × Decision) → List Row
writes_of [] = []
writes_of (e ∷ es) = writes_by e.1 ++ writes_of es

abbrev pub txs_of : List (ℕ × Decision) → List ℕ
txs_of page = map (λ (e : ℕ × Decision). e.0) page

abbrev pub outcomes_of : List (ℕ × Decision) → List (ℕ × Outcome)
outcomes_of page = map (λ (e : ℕ × Decision). (e.0, outcome_of e.1)) page

-- none of these transactions is finished
abbrev pub AreNew : Table ℕ Outcome → List (ℕ × Decision) → Type 0
AreNew finished [] = Unit {0}
AreNew finished (e ∷ es) = (found nat_cmp finished e.0 ≡ None) × AreNew finished es

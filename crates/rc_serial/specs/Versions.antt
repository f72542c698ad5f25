-- The versions of a map, and what a body makes of them.
use Rattle.std.specs.Prelude.{◌≡◌, ℕ, ◌+◌, List, [], ◌∷◌, map}
use Rattle.rc_ids.specs.Tables.{Table, found, put, maybe}
use Rattle.rc_ids.specs.Texts.{key_cmp}
use Rattle.rc_body.specs.declared.entry.Entry.{Entry}
use Rattle.rc_serial.specs.OneMap.{Map}

-- the map without its values
abbrev pub versions_of : Map → Table (List ℕ) ℕ
versions_of m = map (λ (row : List ℕ × (ℕ × List ℕ)). (row.0, row.1.0)) m

-- the version of a key, 0 where it was never written
abbrev pub version_in : Table (List ℕ) ℕ → List ℕ → ℕ
version_in versions k = maybe (found key_cmp versions k) 0 (λ version. version)

-- a written key has one version more
abbrev pub entry_raised : Table (List ℕ) ℕ → Entry → Table (List ℕ) ℕ
entry_raised versions e = maybe e.write versions (λ _. put key_cmp versions e.key (version_in versions e.key + 1))

abbrev pub body_raised : Table (List ℕ) ℕ → List Entry → Table (List ℕ) ℕ
body_raised versions [] = versions
body_raised versions (e ∷ es) = body_raised (entry_raised versions e) es

-- each entry has the version of its key
abbrev pub Agree : Table (List ℕ) ℕ → List Entry → Type 0
Agree versions [] = Unit {0}
Agree versions (e ∷ es) = (e.version ≡ version_in versions e.key) × Agree versions es

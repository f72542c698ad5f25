-- Rows in the order of their keys, and what the newest version makes of them.
use Rattle.std.specs.Prelude.{◌≡◌, ℕ, suc, List, [], ◌∷◌, nat_lt, if◌then◌else◌, Option, Some, None}
use Rattle.std.specs.declared.cmp.Ordering.TheVariants.{Less}
use Rattle.std.specs.Ordering.{is_gt, is_eq}
use Rattle.std.specs.Borrow.{Bor}
use Rattle.rc_ids.specs.Tables.{Table, put}
use Rattle.rc_ids.specs.Texts.{key_cmp}
use Rattle.rc_body.specs.Rows.{Row}
use Rattle.rc_record.specs.ShardState.{version_at}

-- the rows, and how many rows more there is memory for
pub record VersionMap : Type 0 where
  pub rows : Table (List ℕ) (ℕ × List ℕ)
  pub spare : ℕ

-- the rows after a key was given a version and a value, which are kept where its version was lower
abbrev pub newest : List Row → List ℕ → ℕ → List ℕ → List Row
newest rows k version x = if nat_lt (version_at rows k) version then put key_cmp rows k (version, x) else rows

-- each of these keys is above k
abbrev pub AreAbove : List ℕ → List Row → Type 0
AreAbove k [] = Unit {0}
AreAbove k (r ∷ rs) = (key_cmp k r.0 ≡ Less) × AreAbove k rs

-- each key is below those after it
abbrev pub Rises : List Row → Type 0
Rises [] = Unit {0}
Rises (r ∷ rs) = AreAbove r.0 rs × Rises rs

-- how many keys at the front are below k
abbrev pub rank : List ℕ → List Row → ℕ
rank k [] = 0
rank k (r ∷ rs) = if is_gt (key_cmp k r.0) then suc (rank k rs) else 0

-- what a row has of the key
abbrev pub held : List ℕ → Option Row → Option (ℕ × List ℕ)
held k None = None
held k (Some r) = if is_eq (key_cmp k r.0) then Some r.1 else None

-- the row that an iterator gives
abbrev pub row_shown : (Bor (List ℕ) × ℕ × Bor (List ℕ)) → Row
row_shown row = (row.0.now, (row.1, row.2.now))

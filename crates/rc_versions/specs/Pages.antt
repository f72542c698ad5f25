-- Rows in pages, one after another.
use Rattle.std.specs.Prelude.{◌≡◌, ℕ, suc, ◌<◌, ◌≤◌, ◌+◌, Bool, false, List, [], ◌∷◌, length, take, drop, if◌then◌else◌}
use Rattle.std.specs.List.{flat_map}
use Rattle.std.specs.declared.cmp.Ordering.TheVariants.{Greater}
use Rattle.std.specs.Ordering.{is_ge}
use Rattle.rc_ids.specs.Texts.{key_cmp}
use Rattle.rc_body.specs.Rows.{Row}
use Rattle.rc_versions.specs.Rows.{AreAbove, Rises}

-- the rows of all pages
abbrev pub all_rows : List (List Row) → List Row
all_rows ps = flat_map (λ p. p) ps

-- no page is empty
abbrev pub AreFilled : List (List Row) → Type 0
AreFilled [] = Unit {0}
AreFilled (p ∷ ps) = (0 < length p) × AreFilled ps

-- each page is empty
abbrev pub AreEmpty : List (List Row) → Type 0
AreEmpty [] = Unit {0}
AreEmpty (p ∷ ps) = (length p ≡ 0) × AreEmpty ps

-- no page is empty, and the rows of all rise
pub record IsPaged (ps : List (List Row)) : Type 0 where
  pub filled : AreFilled ps
  pub rises : Rises (all_rows ps)

-- each of these keys is below k
abbrev pub AreBelow : List ℕ → List Row → Type 0
AreBelow k [] = Unit {0}
AreBelow k (r ∷ rs) = (key_cmp k r.0 ≡ Greater) × AreBelow k rs

-- the page at this place is the one where k stands or belongs, if there is a page
pub record IsPageOf (k : List ℕ) (ps : List (List Row)) (at : ℕ) : Type 0 where
  pub below : AreBelow k (all_rows (take at ps))
  pub above : AreAbove k (all_rows (drop (suc at) ps))
  pub there : 0 < length ps → at < length ps

-- the page begins at k or below it
abbrev pub starts_by : List ℕ → List Row → Bool
starts_by k [] = false
starts_by k (r ∷ rs) = is_ge (key_cmp k r.0)

-- how many pages at the front begin at k or below it
abbrev pub reach : List ℕ → List (List Row) → ℕ
reach k [] = 0
reach k (p ∷ ps) = if starts_by k p then suc (reach k ps) else 0

-- what is kept of versions in pages: their pages, so many spare ones, how many calls more take no memory, and how many pages the
-- list has room for
pub record IsKept (ps : List (List Row)) (spares spare room : ℕ) : Type 0 where
  pub paged : IsPaged ps
  pub spared : spare ≤ spares
  pub listed : spare + length ps ≤ room

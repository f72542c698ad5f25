-- What a crash may leave of a disk's content, now and at each moment since.
-- A call keeps this in one direction: whatever may be left after it comes by its step from what might have been left
-- before it. That all such bytes may be left is not said, since it holds of no disk here: one in memory leaves one of
-- its four images, and of a file nobody knows. What holds of all bytes that may come so holds of those that do.
use Rattle.std.specs.Prelude.{ℕ, ◌≡◌, ◌⊎◌, ◌+◌, ◌-◌, ◌≤◌, min, List, ◌++◌, length, take, drop, Option, Some}

-- In a write of so many bytes at a place some bytes came between the front and the back, which stay. There are
-- as many as were written; past the old end there may be fewer.
pub record Patches (place count : ℕ) (old new : List ℕ) : Type 0 where
  pub middle : List ℕ
  pub parts : new ≡ take place old ++ middle ++ drop (place + count) old
  pub at_most : length middle ≤ count
  pub at_least : min count (length old - place) ≤ length middle

-- in a cut of the length: a front stays that is no shorter than the new length, or than all that was there
pub record Trims (len : ℕ) (old new : List ℕ) : Type 0 where
  pub kept : ℕ
  pub front : new ≡ take kept old
  pub at_least : min len (length old) ≤ kept

-- Whatever may be left now comes by this step from what might have been left before.
pub record Stems (step : List ℕ → List ℕ → Type 0) (before now : List ℕ → Type 0) : Type 0 where
  pub source : (left : List ℕ) → now left → (old : List ℕ) × before old × step old left

-- nothing may be left now that might not have been left before
pub record AddsNone (before now : List ℕ → Type 0) : Type 0 where
  pub source : (left : List ℕ) → now left → before left

-- Nothing but the content may be left. Where the content is not told, nothing is claimed to be left.
pub record IsDurable (content : Option (List ℕ)) (may_leave : List ℕ → Type 0) : Type 0 where
  pub content_is : (left : List ℕ) → may_leave left → content ≡ Some left

-- A call takes time: what might have been left at a moment since some earlier one stays so, and only what may be
-- left now is added.
pub record TakesTime (start stop : ℕ) (left_before left_after : ℕ → List ℕ → Type 0) (may_leave : List ℕ → Type 0) : Type 0 where
  pub forward : start ≤ stop
  pub keeps : (t : ℕ) (left : List ℕ) → t ≤ start → left_before t left → left_after t left
  pub adds : (t : ℕ) (left : List ℕ) → t ≤ start → left_after t left → left_before t left ⊎ may_leave left

-- Whatever a crash at a moment of the call leaves has the property. For a run that began earlier, one since then
-- leaves what it might have left by the call's start, or what has the property.
pub record AtEachMoment (start stop : ℕ) (left_before left_after : ℕ → List ℕ → Type 0) (P : List ℕ → Type 0) : Type 0 where
  pub forward : start ≤ stop
  pub within : (left : List ℕ) → left_after start left → P left
  pub longer : (t : ℕ) (left : List ℕ) → t ≤ start → left_after t left → left_before t left ⊎ P left

-- What a memory disk had at each moment.
use Rattle.std.specs.Prelude.{ℕ, ◌≡◌, ◌⊎◌, ◌+◌, ◌≤◌, List, [], ◌∷◌, ◌++◌, length, take, drop, Option, None, Some}
use Rattle.std.proofs.Common.{sym, ap, subst, ◌∙◌}
use Rattle.std.proofs.Math.Nat.{le_antisymm, le_refl}
use Rattle.rc_disk.specs.Calls.{Call, Writes, Shortens, Syncs, Images, made, all_synced, image, images_done, images_failed}
use Rattle.rc_disk.specs.declared.power.Cause.TheVariants.{ByCut}
use Rattle.rc_disk.specs.declared.change.Change.{Change}
use Rattle.rc_disk.specs.declared.change.Change.TheVariants.{Wrote, Shortened, Synced}
use Rattle.rc_disk.specs.declared.change.Event.{Event}

-- the call, with the bytes that it wrote
abbrev pub call_of : Change → List ℕ → Call
call_of (Wrote place count) bytes = Writes place bytes
call_of (Shortened len) bytes = Shortens len
call_of Synced bytes = Syncs

-- what it asks of the length of the content
abbrev pub fits : Call → ℕ → Type 0
fits (Writes place bytes) len = place ≤ len
fits (Shortens to) len = to ≤ len
fits Syncs len = Unit {0}

abbrev pub count_of : Change → ℕ
count_of (Wrote place count) = count
count_of (Shortened len) = 0
count_of Synced = 0

-- the images after it
abbrev pub images_after : Option ℕ → Call → Images → Images
images_after None call im = images_done call im
images_after (Some pick) call im = images_failed (ByCut pick) call im

abbrev pub images_moved : Event → List ℕ → Images → Images
images_moved event bytes im = images_after event.fell (call_of event.change bytes) im

-- what was there at first, and what happened since, with all bytes that were written
pub record History : Type 0 where
  pub first : List ℕ
  pub bytes : List ℕ
  pub events : List Event

unfoldable pub replay : List ℕ → List Event → Images → Images
replay bytes [] im = im
replay bytes (event ∷ events) im = replay (drop (count_of event.change) bytes) events (images_moved event (take (count_of event.change) bytes) im)

unfoldable pub total_count : List Event → ℕ
total_count [] = 0
total_count (event ∷ events) = count_of event.change + total_count events

-- the images after so many events
abbrev pub state_at : History → ℕ → Images
state_at h k = replay h.bytes (take k h.events) (all_synced h.first)

-- one of the four images
abbrev pub IsOne : Images → List ℕ → Type 0
IsOne im left = (left ≡ im.synced) ⊎ (left ≡ im.plain) ⊎ (left ≡ im.full) ⊎ (left ≡ im.ones)

-- a crash after so many events, or after some since, leaves this
pub record LeftSince (h : History) (t : ℕ) (left : List ℕ) : Type 0 where
  pub events_then : ℕ
  pub not_before : t ≤ events_then
  pub not_later : events_then ≤ length h.events
  pub is_one : IsOne (state_at h events_then) left

-- the history ends with these images
pub record IsKept (h : History) (im : Images) : Type 0 where
  pub all_bytes : total_count h.events ≡ length h.bytes
  pub now : state_at h (length h.events) ≡ im

-- one more event, with its bytes
pub record Grows (old : History) (event : Event) (written : List ℕ) (new : History) : Type 0 where
  pub same_first : new.first ≡ old.first
  pub more_bytes : new.bytes ≡ old.bytes ++ written
  pub more_events : new.events ≡ old.events ++ event ∷ []
  pub counted : count_of event.change ≡ length written

-- at this moment each of the images may be left
pub one_now : (h : History) (im : Images) → IsKept h im → (t : ℕ) (left : List ℕ) → t ≤ length h.events → IsOne im left → LeftSince h t left
one_now h im kept t left earlier one = record {
  events_then = length h.events;
  not_before = earlier;
  not_later = le_refl (length h.events);
  is_one = subst (λ (i : Images). IsOne i left) (sym kept.now) one;
}

-- and nothing else
pub one_only : (h : History) (im : Images) → IsKept h im → (left : List ℕ) → LeftSince h (length h.events) left → IsOne im left
one_only h im kept left since =
    subst (λ (i : Images). IsOne i left) (ap (state_at h) (le_antisymm since.not_later since.not_before) ∙ kept.now) since.is_one

-- The keys that a transaction touched: at most 32, and each once.
use Rattle.std.specs.Prelude.{◌≡◌, ℕ, ◌<◌, ◌≤◌, Bool, false, ◌||◌, ◌&&◌, List, [], ◌∷◌, length, map, take, slice_get, None, is_some}
use Rattle.std.specs.Ordering.{nat_cmp}
use Rattle.std.specs.List.{list_any}
use Rattle.rc_ids.specs.Tables.{maybe, added}
use Rattle.rc_ids.specs.Texts.{same_key}
use Rattle.rc_protocol.specs.Client.{Client, Slot, Grant, UnderWay, reads_on, wants_grant, slot_of, is_under_way, is_unread, prints_of, with_grant, with_read, granted_by, grants_of}

abbrev pub keys_of : List Slot → List (List ℕ)
keys_of slots = map (λ (s : Slot). s.key) slots

abbrev pub has_key : List (List ℕ) → List ℕ → Bool
has_key keys k = list_any (λ l. same_key l k) keys

-- no key comes twice
abbrev pub Differ : List (List ℕ) → Type 0
Differ [] = Unit {0}
Differ (k ∷ ks) = (has_key ks k ≡ false) × Differ ks

pub record IsSlots (slots : List Slot) : Type 0 where
  pub few : length slots ≤ 32
  pub apart : Differ (keys_of slots)

-- where the first slot with the key stands
pub record IsPlace (slots : List Slot) (k : List ℕ) (place : ℕ) : Type 0 where
  pub within : place < length slots
  pub first : slot_of (take place slots) k ≡ None
  pub here : slot_of slots k ≡ slice_get slots place

-- a read is under way, or is once the reads are begun
abbrev pub waits_once_begun : List Slot → Bool
waits_once_begun slots = list_any (λ (s : Slot). is_under_way s.read || is_unread s.read) slots

-- a read of the key is under way
abbrev pub waits_at : List Slot → List ℕ → Bool
waits_at slots k = maybe (slot_of slots k) false (λ s. is_under_way s.read)

-- the key is written
abbrev pub written_at : List Slot → List ℕ → Bool
written_at slots k = maybe (slot_of slots k) false (λ s. is_some s.write)

-- one grant more of the read that is under way
abbrev pub granted_more : Slot → Grant → Slot
granted_more s g = with_read s (UnderWay (prints_of s.read) (with_grant s g))

-- the client still reads, the read of the key is under way, and d has not granted it
abbrev pub wants_at : Client → List ℕ → ℕ → Bool
wants_at x k d = reads_on x.phase && maybe (slot_of x.slots k) false (λ s. wants_grant s d)

-- the datacentres that granted the key's read, and one more
abbrev pub granted_at : List Slot → List ℕ → ℕ → List ℕ
granted_at slots k d = maybe (slot_of slots k) [] (λ s. added nat_cmp (granted_by (grants_of s.read)) d)

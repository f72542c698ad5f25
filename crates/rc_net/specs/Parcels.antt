-- Lists that were sent, each kept whole, with marks at the pending messages.
use Rattle.std.specs.Prelude.{◌≡◌, ℕ, ◌+◌, ◌<◌, ◌≤◌, ◌^◌, nat_le, Bool, true, false, List, [], ◌∷◌, length, map, take, drop, slice_index_or}
use Rattle.std.specs.List.{flat_map, list_any}
use Rattle.std.specs.List.Sorted.{IsPartitionPoint}
use Rattle.rc_ids.specs.declared.sends.Letter.{Letter}
use Rattle.rc_net.specs.declared.parcel.Parcel.{Parcel}
use Rattle.rc_net.specs.Network.{Message, messages, bytes_of}

abbrev pub marks_of : List Letter → List Bool
marks_of letters = map (λ (l : Letter). l.mark) letters

-- the messages of all lists, their marks, and how many they are
abbrev pub sent_in : List Parcel → List Message
sent_in ps = flat_map (λ (p : Parcel). messages p.from p.letters) ps

abbrev pub marks_in : List Parcel → List Bool
marks_in ps = flat_map (λ (p : Parcel). marks_of p.letters) ps

abbrev pub count_in : List Parcel → ℕ
count_in [] = 0
count_in (p ∷ ps) = length p.letters + count_in ps

-- each list begins with the number after those before it, the first with n
abbrev pub Numbered : ℕ → List Parcel → Type 0
Numbered n [] = Unit {0}
Numbered n (p ∷ ps) = (p.first ≡ n) × Numbered (n + length p.letters) ps

-- the lists that begin at message n or before it are the first ones, and so many
pub record IsCount (ps : List Parcel) (n r : ℕ) : Type 0 where
  pub few : r ≤ length ps
  pub point : IsPartitionPoint (λ (p : Parcel). nat_le p.first n ≡ true) (λ (p : Parcel). nat_le p.first n ≡ false) ps r

-- the message at place k of all stands at this place of this list
pub record IsSeat (ps : List Parcel) (k list place : ℕ) : Type 0 where
  pub list_there : list < length ps
  pub place_there : (p : Parcel) → p ≡ slice_index_or ps list p → place < length p.letters
  pub count : count_in (take list ps) + place ≡ k

-- no mark stands from place a to before place b
abbrev pub IsQuiet : ℕ → ℕ → List Bool → Type 0
IsQuiet a b marks = list_any (λ (mark : Bool). mark) (drop a (take b marks)) ≡ false

-- a mark stands at the front, or nothing
abbrev pub IsFront : List Bool → Type 0
IsFront [] = Unit {0}
IsFront (mark ∷ marks) = mark ≡ true

-- a mark stands at the place, or nothing comes from there on
abbrev pub IsAtPending : ℕ → List Bool → Type 0
IsAtPending place marks = IsFront (drop place marks)

-- what is kept of a network: its lists, how many messages were sent, how many of the first ones are settled, and how many bytes
-- more may be sent
pub record IsKept (ps : List Parcel) (sent settled left : ℕ) : Type 0 where
  pub numbered : Numbered 1 ps
  pub count : sent ≡ count_in ps
  pub few : sent ≤ 4000000
  pub light : left + bytes_of (sent_in ps) ≡ 2 ^ 30
  pub within : settled ≤ sent
  pub quiet : IsQuiet 0 settled (marks_in ps)
  pub pending : IsAtPending settled (marks_in ps)

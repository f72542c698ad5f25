-- What each transaction has at each key: a plain lock, the mark of a lost one, both or neither.
use Rattle.std.specs.Prelude.{◌≡◌, ℕ, ◌≤◌, Bool, true, false, ◌==◌, not, ◌||◌, ◌&&◌, List, [], ◌∷◌, filter, Option, Some, None, is_some, if◌then◌else◌, Vec, nat_lt}
use Rattle.std.specs.Global.{Global}
use Rattle.std.specs.Ordering.{nat_cmp, is_eq}
use Rattle.std.specs.Map.{keys_of}
use Rattle.std.specs.Option.{option_map}
use Rattle.std.specs.List.Sorted.{IsStrictlySortedBy}
use Rattle.rc_ids.specs.Tables.{Table, found, member, maybe}
use Rattle.rc_ids.specs.Texts.{key_cmp, same_key}
use Rattle.rc_body.specs.declared.entry.Entry.{Entry}
use Rattle.rc_protocol.specs.Shard.{Mark, mark_cmp}
use Rattle.rc_locks.specs.declared.flags.Lock.{Lock}

abbrev pub is_plain : Option Lock → Bool
is_plain None = false
is_plain (Some lock) = lock.plain

abbrev pub is_lost : Option Lock → Bool
is_lost None = false
is_lost (Some lock) = lock.lost

abbrev pub plain_at : Table Mark Lock → Mark → Bool
plain_at locks m = is_plain (found mark_cmp locks m)

abbrev pub lost_at : Table Mark Lock → Mark → Bool
lost_at locks m = is_lost (found mark_cmp locks m)

-- the plain locks, and the marks of lost ones, in order
abbrev pub plain_marks : Table Mark Lock → List Mark
plain_marks locks = keys_of (filter (λ (e : Mark × Lock). e.1.plain) locks)

abbrev pub lost_marks : Table Mark Lock → List Mark
lost_marks locks = keys_of (filter (λ (e : Mark × Lock). e.1.lost) locks)

abbrev pub Rises : Table Mark Lock → Type 0
Rises locks = IsStrictlySortedBy mark_cmp (keys_of locks)

-- the table has the mark
abbrev pub has_place : Table Mark Lock → Mark → Bool
has_place locks m = is_some (found mark_cmp locks m)

-- each mark is of a transaction, and these are counted from 1
abbrev pub AreTxs : Table Mark Lock → Type 0
AreTxs locks = (m : Mark) → has_place locks m ≡ true → 1 ≤ m.1

abbrev pub same_mark : Mark → Mark → Bool
same_mark a b = is_eq (mark_cmp a b)

-- WHAT A CALL MAKES OF A LOCK
-- each lock of the table is turned, and no mark comes or goes
abbrev pub IsTurned : (Mark → Lock → Lock) → Table Mark Lock → Table Mark Lock → Type 0
IsTurned turn old new = (m : Mark) → found mark_cmp new m ≡ option_map (turn m) (found mark_cmp old m)

abbrev pub with_plain : Lock → Lock
with_plain lock = record { plain = true; lost = lock.lost }

abbrev pub without_plain : Lock → Lock
without_plain lock = record { plain = false; lost = lock.lost }

abbrev pub taken_away : Lock → Lock
taken_away lock = record { plain = false; lost = lock.lost || lock.plain }

abbrev pub turned_where : Bool → (Lock → Lock) → Lock → Lock
turned_where here turn lock = if here then turn lock else lock

-- the marks of another transaction at the key
abbrev pub is_other_at : List ℕ → ℕ → Mark → Bool
is_other_at k t m = not (m.1 == t) && same_key k m.0

-- the part of t takes a lock away with each entry in turn
abbrev pub taken_by : ℕ → Mark → List Entry → Lock → Lock
taken_by t m [] lock = lock
taken_by t m (e ∷ es) lock = taken_by t m es (turned_where (is_some e.write && is_other_at e.key t m) taken_away lock)

-- the plain locks of t at the keys are taken back in turn
abbrev pub given_back : ℕ → Mark → List (List ℕ) → Lock → Lock
given_back t m [] lock = lock
given_back t m (k ∷ ks) lock = given_back t m ks (turned_where (same_mark (k, t) m) without_plain lock)

-- what t has at the keys goes in turn
abbrev pub let_go : ℕ → Mark → List (List ℕ) → Option Lock → Option Lock
let_go t m [] lock = lock
let_go t m (k ∷ ks) lock = let_go t m ks (if same_mark (k, t) m then None else lock)

-- the transaction stands before the next one; there may be none
abbrev pub is_before : Option ℕ → ℕ → Bool
is_before None t = true
is_before (Some next) t = nat_lt t next

-- a mark of t at one of the keys
abbrev pub is_one_of : ℕ → List (List ℕ) → Mark → Bool
is_one_of t ks m = (m.1 == t) && member key_cmp ks m.0

-- THE INDEX FROM TRANSACTIONS TO KEYS
abbrev pub keys_at : Table ℕ (Vec (List ℕ) Global) → ℕ → List (List ℕ)
keys_at index t = maybe (found nat_cmp index t) [] (λ ks. ks.items)

abbrev pub has_key_at : Table ℕ (Vec (List ℕ) Global) → Mark → Bool
has_key_at index m = member key_cmp (keys_at index m.1) m.0

-- each mark of the table has its key in the index
abbrev pub IsCovered : Table Mark Lock → Table ℕ (Vec (List ℕ) Global) → Type 0
IsCovered locks index = (m : Mark) → has_place locks m ≡ true → has_key_at index m ≡ true

-- each of the marks has a place
abbrev pub ArePlaced : List Mark → Table Mark Lock → Type 0
ArePlaced ms locks = (m : Mark) → member mark_cmp ms m ≡ true → has_place locks m ≡ true

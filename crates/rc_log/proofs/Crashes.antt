-- What a crash leaves in each of the two writes of an append.
use Rattle.std.proofs.Common.{◌≡◌, inl, inr, ℕ, ◌+◌, ◌^◌, ◌<◌, ◌==◌, Bool, true, false, List, [], ◌∷◌, ◌++◌, length, take, drop, Option, None, Some, option_map, Ok, refl, sym, ap, ◌∙◌, subst, arith, length-append}
use Rattle.rc_disk.specs.Calls.{Told, effect, Writes}
use Rattle.rc_disk.specs.Crashes.{Patches, Stems, IsDurable}
use Rattle.rc_log.specs.Records.{records, size_of, behind_gate}
use Rattle.rc_log.specs.Append.{listed, IsSettled, IsEither, LeavesEither, Leaves, with_or_without}
use Rattle.rc_log.proofs.Frames.{Parts, parts_of}
use Rattle.rc_log.proofs.Images.{still, gated, staged_is}

pub same_some : (a b : List ℕ) → Some a ≡ Some b → a ≡ b
same_some a b e = cc

parts_at : (c : List ℕ) (ml : List ℕ → Type 0) (told : Option Told) (len place : ℕ) → IsSettled (Some c) ml told len place → Parts c (listed c)
parts_at c ml told len place s = parts_of c (listed c) (s.whole c refl)

-- at rest a crash leaves the log as it is
pub rest_crash : (content : Option (List ℕ)) (ml : List ℕ → Type 0) (told : Option Told) (len place : ℕ) → IsSettled content ml told len place
    → (left : List ℕ) → ml left → Leaves (option_map listed content) left
rest_crash None ml told len place s left may = tt
rest_crash (Some c) ml told len place s left may = ap records (sym (same_some c left (s.durable.content_is left may))) ∙ s.whole c refl

-- the first write leaves the records as they were
pub first_crash : (content : Option (List ℕ)) (ml now : List ℕ → Type 0) (told : Option Told) (len place : ℕ) (r : List ℕ) (n : ℕ) → IsSettled content ml told len place
    → length r < 2 ^ 32 → Stems (Patches (place + 1) n) ml now → (left : List ℕ) → now left → Leaves (option_map listed content) left
first_crash None ml now told len place r n s short stems left may = tt
first_crash (Some c) ml now told len place r n s short stems left may =
    let from = stems.source left may in
    let patches : Patches (place + 1) n c left = subst (λ (l : List ℕ). Patches (place + 1) n l left) (sym (same_some c from.0 (s.durable.content_is from.0 from.1))) from.2 in
    ap records patches.parts ∙ still c (listed c) r place (parts_at c ml told len place s) (s.place_is c refl) short patches.middle (drop (place + 1 + n) c)

-- one byte
record OneByte (bytes : List ℕ) : Type 0 where
  pub byte : ℕ
  pub is : bytes ≡ byte ∷ []

one_byte : (bytes : List ℕ) → length bytes ≡ 1 → OneByte bytes
one_byte [] size = absurd (omega arith)
one_byte (b ∷ []) size = record { byte = b; is = refl }
one_byte (b ∷ d ∷ bytes) size = absurd (omega arith)

either_by : (kept : Bool) (rs : List (List ℕ)) (r left : List ℕ) → records left ≡ Ok (with_or_without kept rs r) → IsEither rs r left
either_by true rs r left is = inr is
either_by false rs r left is = inl is

with_byte : (place b : ℕ) (c left middle : List ℕ) → left ≡ take place c ++ middle ++ drop (place + 1) c → middle ≡ b ∷ [] → left ≡ take place c ++ (b ∷ []) ++ drop (place + 1) c
with_byte place b c left middle is one = is ∙ ap (λ (m : List ℕ). take place c ++ m ++ drop (place + 1) c) one

by_byte : (c : List ℕ) (rs : List (List ℕ)) (r : List ℕ) (place : ℕ) (whole : records c ≡ Ok rs) (at : place ≡ size_of rs) (short : length r < 2 ^ 32) (left middle : List ℕ) (b : ℕ)
    → left ≡ take place (effect (Writes (place + 1) (behind_gate r)) c) ++ middle ++ drop (place + 1) (effect (Writes (place + 1) (behind_gate r)) c) → middle ≡ b ∷ [] → IsEither rs r left
by_byte c rs r place whole at short left middle b is one =
    either_by (b == 1) rs r left
    (ap records (with_byte place b (effect (Writes (place + 1) (behind_gate r)) c) left middle is one) ∙ gated c rs r place (parts_of c rs whole) at short b)

-- the second leaves them with the new one or without
pub second_crash : (content : Option (List ℕ)) (ml ml' now : List ℕ → Type 0) (told : Option Told) (len place : ℕ) (r : List ℕ) → IsSettled content ml told len place
    → length r < 2 ^ 32 → IsDurable (option_map (effect (Writes (place + 1) (behind_gate r))) content) ml' → Stems (Patches place 1) ml' now
    → (left : List ℕ) → now left → LeavesEither (option_map listed content) r left
second_crash None ml ml' now told len place r s short durable stems left may = tt
second_crash (Some c) ml ml' now told len place r s short durable stems left may =
    let rs = listed c in
    let parts = parts_at c ml told len place s in
    let c1 : List ℕ = effect (Writes (place + 1) (behind_gate r)) c in
    let from = stems.source left may in
    let patches : Patches place 1 c1 left = subst (λ (l : List ℕ). Patches place 1 l left) (sym (same_some c1 from.0 (durable.content_is from.0 from.1))) from.2 in
    let at = s.place_is c refl in
    let long : place < length c1 = omega (arith, ap length (staged_is c rs r place parts at short), length-append parts.front (parts.gate ∷ (behind_gate r ++ drop (place + 1 + length (behind_gate r)) c)), parts.fronts.size, at) in
    let one = one_byte patches.middle (omega (arith, patches.at_most, patches.at_least, long)) in
    by_byte c rs r place (s.whole c refl) at short left patches.middle one.byte patches.parts one.is

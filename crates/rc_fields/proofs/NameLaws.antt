-- The fields that name something are read where their spelling stands first, and nowhere else.
use Rattle.std.proofs.Common.{◌≡◌, ℕ, zero, suc, ◌^◌, ◌<◌, ◌≤◌, Bool, true, false, cond, ◌&&◌, ◌||◌, ltb, List, [], ◌∷◌, ◌++◌, length, take, drop, Some, None, Result, Ok, Err, inl, inr, refl, sym, ap, subst, ◌∙◌, append_assoc, arith}
use Rattle.std.specs.Prelude.{nat_le, nat_lt}
use Rattle.std.specs.List.{list_all}
use Rattle.std.specs.Result.{result_ok}
use Rattle.std.specs.Int.{Width, w16, w32, w64, byte_len, from_be_bytes, to_be_bytes}
use Rattle.std.proofs.lemmas.Bool.{cases_lt, ltb-false, leb-true, le-leb, and_parts, and_from}
use Rattle.std.proofs.lemmas.List.{take-append-drop, length-take, get_or-take, get_or_past}
use Rattle.std.proofs.lemmas.Nat.{be_bytes_2, be_bytes_4, be_bytes_8}
use Rattle.rc_ids.specs.Cluster.{is_key}
use Rattle.rc_ids.specs.Texts.{is_key_byte, is_value_byte, gone, IsKey, IsText, IsValue, key_fault, value_fault}
use Rattle.rc_ids.specs.declared.fault.TextFault.{TextFault}
use Rattle.rc_ids.proofs.TextFacts.{no_key_fault, no_text_fault}
use Rattle.rc_ids.specs.declared.names.NodeId.{NodeId}
use Rattle.rc_ids.specs.declared.names.NodeId.TheVariants.{Coord, Shard}
use Rattle.rc_ids.specs.declared.names.Party.{Party}
use Rattle.rc_ids.specs.declared.names.Party.TheVariants.{Node, Client}
use Rattle.rc_fields.specs.declared.fault.FieldFault.{FieldFault}
use Rattle.rc_fields.specs.declared.fault.FieldFault.TheVariants.{Short, TooLong}
use Rattle.rc_fields.specs.Ranges.{IsDcNumber, IsShardNumber, IsTxNumber, IsPlace, IsBallotNumber, IsVersionNumber, IsNodeName, IsPartyName}
use Rattle.rc_fields.specs.Spelling.{u8_bytes, u16_bytes, u32_bytes, u64_bytes, key_bytes, val_bytes, node_bytes, party_bytes}
use Rattle.rc_fields.specs.Reading.{◌>>=◌, bytes_at, u8_at, number_at, u16_at, u32_at, u64_at, counted_at}
use Rattle.rc_fields.specs.Formats.{IsBytes, Reader, Reads, both_at, mapped_at, tagged_at, pick}
use Rattle.rc_fields.specs.Names.{byte_at, place_at, long_at, tx_at, ballot_at, version_at, dc_at, shard_at, is_text, is_gone, is_value, short_at, text_at, key_at, value_at, server, of_coord, of_server, node_at, party_at}
use Rattle.rc_fields.proofs.Again.{u32_again, u64_again, key_again, val_again}
use Rattle.rc_fields.proofs.FormatLaws.{Reads-same, Reads-both, Reads-tested, Reads-tagged, Picks, Picks-end, Picks-more, Takes-mapped, mapped_again, Chooses-pick}

ok_some : {A : Type 0} (r : Result A FieldFault) (x : A) → result_ok r ≡ Some x → r ≡ Ok x
ok_some (Ok y) x e = cc
ok_some (Err d) x e = absurd cc

abbrev done : {A : Type 0} → A → Result A FieldFault
done a = Ok a

ok_is : {A : Type 0} (a b : A) → done a ≡ done b → a ≡ b
ok_is a b e = cc

bind_ok : {A B : Type 0} (r : Result A FieldFault) (next : A → Result B FieldFault) (y : B) → (r >>= next) ≡ Ok y → (a : A) × (r ≡ Ok a) × (next a ≡ Ok y)
bind_ok (Ok a) next y e = (a, refl, e)
bind_ok (Err d) next y e = absurd cc

-- a test that did not fail
guard_ok : {A : Type 0} (b : Bool) (d : FieldFault) (x y : A) → cond b (Err d) (Ok x) ≡ Ok y → (b ≡ false) × (x ≡ y)
guard_ok true d x y e = absurd cc
guard_ok false d x y e = (refl, cc)

IsBytes-take : (n : ℕ) (bytes : List ℕ) → IsBytes bytes → IsBytes (take n bytes)
IsBytes-take n bytes h i =
    elim (cases_lt i n) [
      | inl lt ↦ rw (get_or-take n bytes i 0 lt) (h i)
      | inr le ↦ rw (get_or_past (take n bytes) i 0 (omega (arith, length-take n bytes))) (omega arith)
    ]

-- NUMBERS
number_takes : (w : Width) (limit : ℕ)
    → ((bytes : List ℕ) → length bytes ≡ byte_len w → IsBytes bytes → to_be_bytes w (from_be_bytes w bytes) ≡ bytes)
    → ((bytes : List ℕ) → IsBytes bytes → from_be_bytes w bytes < limit)
    → (bytes : List ℕ) (n : ℕ) (rest : List ℕ) → IsBytes bytes → number_at w bytes ≡ Ok (n, rest)
    → (n < limit) × (bytes ≡ to_be_bytes w n ++ rest)
number_takes w limit back below bytes n rest fits e =
    let g = guard_ok (ltb (length bytes) (byte_len w)) Short (from_be_bytes w (take (byte_len w) bytes), drop (byte_len w) bytes) (n, rest) e in
    let long : byte_len w ≤ length bytes = ltb-false _ _ g.0 in
    let front = IsBytes-take (byte_len w) bytes fits in
    let same : to_be_bytes w (from_be_bytes w (take (byte_len w) bytes)) ≡ take (byte_len w) bytes =
    back (take (byte_len w) bytes) (omega (arith, length-take (byte_len w) bytes)) front in
    subst (λ (p : ℕ × List ℕ). (p.0 < limit) × (bytes ≡ to_be_bytes w p.0 ++ p.1)) g.1
    (below (take (byte_len w) bytes) front, sym (take-append-drop (byte_len w) bytes) ∙ ap (λ v. v ++ drop (byte_len w) bytes) (sym same))

u8_takes : (bytes : List ℕ) (n : ℕ) (rest : List ℕ) → IsBytes bytes → u8_at bytes ≡ Ok (n, rest) → (n < 2 ^ 8) × (bytes ≡ u8_bytes n ++ rest)
u8_takes [] n rest fits e = absurd cc
u8_takes (b ∷ bytes) n rest fits e =
    subst (λ (p : ℕ × List ℕ). (p.0 < 2 ^ 8) × (b ∷ bytes ≡ u8_bytes p.0 ++ p.1)) (ok_is (b, bytes) (n, rest) e) (fits 0, refl)

u16_takes : (bytes : List ℕ) (n : ℕ) (rest : List ℕ) → IsBytes bytes → number_at w16 bytes ≡ Ok (n, rest) → (n < 2 ^ 16) × (bytes ≡ u16_bytes n ++ rest)
u16_takes = number_takes w16 (2 ^ 16) (λ bytes len fits. be_bytes_2 bytes _ len fits refl) (λ bytes fits. omega (arith, fits 0, fits 1))

u32_takes : (bytes : List ℕ) (n : ℕ) (rest : List ℕ) → IsBytes bytes → number_at w32 bytes ≡ Ok (n, rest) → (n < 2 ^ 32) × (bytes ≡ u32_bytes n ++ rest)
u32_takes = number_takes w32 (2 ^ 32) (λ bytes len fits. be_bytes_4 bytes _ len fits refl) (λ bytes fits. omega (arith, fits 0, fits 1, fits 2, fits 3))

u64_takes : (bytes : List ℕ) (n : ℕ) (rest : List ℕ) → IsBytes bytes → number_at w64 bytes ≡ Ok (n, rest) → (n < 2 ^ 64) × (bytes ≡ u64_bytes n ++ rest)
u64_takes =
    number_takes w64 (2 ^ 64) (λ bytes len fits. be_bytes_8 bytes _ len fits refl)
    (λ bytes fits. omega (arith, fits 0, fits 1, fits 2, fits 3, fits 4, fits 5, fits 6, fits 7))

pub Reads-byte : Reads u8_bytes (λ v. v < 2 ^ 8) byte_at
unfolding byte_at
Reads-byte = record {
  takes = λ bytes n rest fits e. u8_takes bytes n rest fits (ok_some (u8_at bytes) (n, rest) e);
  again = λ n rest lt. refl;
}

pub Reads-place : Reads u32_bytes IsPlace place_at
unfolding place_at
Reads-place = record {
  takes = λ bytes n rest fits e. u32_takes bytes n rest fits (ok_some (u32_at bytes) (n, rest) e);
  again = λ n rest lt. ap result_ok (u32_again n rest lt);
}

pub Reads-long : Reads u64_bytes (λ v. v < 2 ^ 64) long_at
unfolding long_at
Reads-long = record {
  takes = λ bytes n rest fits e. u64_takes bytes n rest fits (ok_some (u64_at bytes) (n, rest) e);
  again = λ n rest lt. ap result_ok (u64_again n rest lt);
}

pub Reads-tx : Reads u32_bytes IsTxNumber tx_at
unfolding tx_at
Reads-tx =
    Reads-same u32_bytes (λ t. IsPlace t × (nat_le 1 t ≡ true)) _ u32_bytes IsTxNumber (Reads-tested u32_bytes IsPlace place_at (nat_le 1) Reads-place)
    (λ t h. ((leb-true 1 t h.1, h.0), refl)) (λ t h. (h.1, le-leb 1 t h.0))

pub Reads-ballot : Reads u32_bytes IsBallotNumber ballot_at
unfolding ballot_at
Reads-ballot =
    Reads-same u32_bytes (λ b. IsPlace b × (nat_le b (2 ^ 31) ≡ true)) _ u32_bytes IsBallotNumber
    (Reads-tested u32_bytes IsPlace place_at (λ b. nat_le b (2 ^ 31)) Reads-place)
    (λ b h. (leb-true b (2 ^ 31) h.1, refl)) (λ b h. (omega arith, le-leb b (2 ^ 31) h))

pub Reads-version : Reads u64_bytes IsVersionNumber version_at
unfolding version_at
Reads-version =
    Reads-same u64_bytes (λ v. (v < 2 ^ 64) × (nat_lt v (2 ^ 62) ≡ true)) _ u64_bytes IsVersionNumber
    (Reads-tested u64_bytes (λ v. v < 2 ^ 64) long_at (λ v. nat_lt v (2 ^ 62)) Reads-long)
    (λ v h. (leb-true (suc v) (2 ^ 62) h.1, refl)) (λ v h. (omega arith, le-leb (suc v) (2 ^ 62) h))

within : (low high n : ℕ) → (nat_le low n && nat_le n high) ≡ true → (low ≤ n) × (n ≤ high)
within low high n e = let h = and_parts (nat_le low n) (nat_le n high) e in (leb-true low n h.0, leb-true n high h.1)

pub Reads-dc : Reads u8_bytes IsDcNumber dc_at
unfolding dc_at
Reads-dc =
    Reads-same u8_bytes (λ d. (d < 2 ^ 8) × ((nat_le 1 d && nat_le d 7) ≡ true)) _ u8_bytes IsDcNumber
    (Reads-tested u8_bytes (λ d. d < 2 ^ 8) byte_at (λ d. nat_le 1 d && nat_le d 7) Reads-byte)
    (λ d h. (within 1 7 d h.1, refl)) (λ d h. (omega arith, and_from (nat_le 1 d) (nat_le d 7) (le-leb 1 d h.0) (le-leb d 7 h.1)))

pub Reads-shard : Reads u8_bytes IsShardNumber shard_at
unfolding shard_at
Reads-shard =
    Reads-same u8_bytes (λ d. (d < 2 ^ 8) × ((nat_le 1 d && nat_le d 8) ≡ true)) _ u8_bytes IsShardNumber
    (Reads-tested u8_bytes (λ d. d < 2 ^ 8) byte_at (λ d. nat_le 1 d && nat_le d 8) Reads-byte)
    (λ d h. (within 1 8 d h.1, refl)) (λ d h. (omega arith, and_from (nat_le 1 d) (nat_le d 8) (le-leb 1 d h.0) (le-leb d 8 h.1)))

-- TEXTS
-- a length of at most max, and so many bytes, where the length is spelled so
counted_takes : (max limit : ℕ) (spelled : ℕ → List ℕ) (at : List ℕ → Result (ℕ × List ℕ) FieldFault)
    → ((bytes : List ℕ) (n : ℕ) (rest : List ℕ) → IsBytes bytes → at bytes ≡ Ok (n, rest) → (n < limit) × (bytes ≡ spelled n ++ rest))
    → (bytes text rest : List ℕ) → IsBytes bytes
    → (at bytes >>= λ n. cond (ltb max n.0) (Err TooLong) (bytes_at n.0 n.1)) ≡ Ok (text, rest)
    → (length text ≤ max) × (bytes ≡ (spelled (length text) ++ text) ++ rest)
counted_takes max limit spelled at takes bytes text rest fits e =
    let s = bind_ok (at bytes) (λ n. cond (ltb max n.0) (Err TooLong) (bytes_at n.0 n.1)) (text, rest) e in
    let n = s.0 in
    let t = takes bytes n.0 n.1 fits s.1 in
    let g = chosen (ltb max n.0) TooLong (bytes_at n.0 n.1) (text, rest) s.2 in
    let few : n.0 ≤ max = ltb-false _ _ g.0 in
    let h = guard_ok (ltb (length n.1) n.0) Short (take n.0 n.1, drop n.0 n.1) (text, rest) g.1 in
    let long : n.0 ≤ length n.1 = ltb-false _ _ h.0 in
    let len : length (take n.0 n.1) ≡ n.0 = omega (arith, length-take n.0 n.1) in
    let parts : bytes ≡ (spelled (length (take n.0 n.1)) ++ take n.0 n.1) ++ drop n.0 n.1 =
    t.1 ∙ ap (λ w. spelled n.0 ++ w) (sym (take-append-drop n.0 n.1)) ∙ sym (append_assoc (spelled n.0) (take n.0 n.1) (drop n.0 n.1))
    ∙ ap (λ k. (spelled k ++ take n.0 n.1) ++ drop n.0 n.1) (sym len) in
    subst (λ (p : List ℕ × List ℕ). (length p.0 ≤ max) × (bytes ≡ (spelled (length p.0) ++ p.0) ++ p.1)) h.1 (omega (arith, len), parts)
  where
    chosen : {A : Type 0} (b : Bool) (d : FieldFault) (x : Result A FieldFault) (y : A) → cond b (Err d) x ≡ Ok y → (b ≡ false) × (x ≡ Ok y)
    chosen true d x y e = absurd cc
    chosen false d x y e = (refl, e)

pub Reads-short : Reads key_bytes (λ k. length k ≤ 64) short_at
unfolding short_at
Reads-short = record {
  takes = λ bytes k rest fits e. counted_takes 64 (2 ^ 8) u8_bytes u8_at u8_takes bytes k rest fits (ok_some (counted_at 64 bytes) (k, rest) e);
  again = λ k rest le. ap result_ok (key_again k rest le);
}

pub Reads-text : Reads val_bytes (λ v. length v ≤ 1024) text_at
unfolding text_at
Reads-text = record {
  takes = λ bytes v rest fits e. counted_takes 1024 (2 ^ 16) u16_bytes u16_at u16_takes bytes v rest fits (ok_some (counted_at 1024 bytes) (v, rest) e);
  again = λ v rest le. ap result_ok (val_again v rest le);
}

pub IsKey-from_test : (k : List ℕ) → is_key k ≡ true → IsKey k
IsKey-from_test k e =
    let a = and_parts (nat_le 1 (length k) && nat_le (length k) 64) (list_all is_key_byte k) e in
    let b = and_parts (nat_le 1 (length k)) (nat_le (length k) 64) a.0 in
    (leb-true 1 (length k) b.0, leb-true (length k) 64 b.1, a.1)

pub is_key-holds : (k : List ℕ) → IsKey k → is_key k ≡ true
is_key-holds k h =
    and_from (nat_le 1 (length k) && nat_le (length k) 64) (list_all is_key_byte k)
    (and_from (nat_le 1 (length k)) (nat_le (length k) 64) (le-leb 1 (length k) h.0) (le-leb (length k) 64 h.1)) h.2

-- what a key's fault tells
pub is_key-at_fault : (k : List ℕ) (fault : TextFault) → key_fault k ≡ Some fault → is_key k ≡ false
is_key-at_fault k fault e = chosen (is_key k) (λ h. no_key_fault k (IsKey-from_test k h))
  where
    chosen : (b : Bool) → (b ≡ true → key_fault k ≡ None) → b ≡ false
    chosen true none = absurd (cc (none refl, e))
    chosen false none = refl

pub Reads-key : Reads key_bytes IsKey key_at
unfolding key_at
Reads-key =
    Reads-same key_bytes (λ k. (length k ≤ 64) × (is_key k ≡ true)) _ key_bytes IsKey
    (Reads-tested key_bytes (λ k. length k ≤ 64) short_at is_key Reads-short)
    (λ k h. (IsKey-from_test k h.1, refl)) (λ k h. (h.1, is_key-holds k h))

pub IsText-from_test : (v : List ℕ) → is_text v ≡ true → IsText v
IsText-from_test v e =
    let a = and_parts (nat_le (length v) 1024) (list_all is_value_byte v) e in
    (leb-true (length v) 1024 a.0, a.1)

pub is_text-holds : (v : List ℕ) → IsText v → is_text v ≡ true
is_text-holds v h = and_from (nat_le (length v) 1024) (list_all is_value_byte v) (le-leb (length v) 1024 h.0) h.1

gone-from_test : (v : List ℕ) → is_gone v ≡ true → v ≡ gone
gone-from_test [] e = absurd cc
gone-from_test (zero ∷ []) e = refl
gone-from_test (zero ∷ b ∷ v) e = absurd cc
gone-from_test (suc a ∷ v) e = absurd cc

pub IsValue-from_test : (v : List ℕ) → is_value v ≡ true → IsValue v
IsValue-from_test v e = chosen (is_text v) (IsText-from_test v) e
  where
    chosen : (b : Bool) → (b ≡ true → IsText v) → (b || is_gone v) ≡ true → IsValue v
    chosen true text e = inl (text refl)
    chosen false text e = inr (gone-from_test v e)

or_left : (a b : Bool) → a ≡ true → (a || b) ≡ true
or_left true b e = refl
or_left false b e = absurd cc

-- what a value's fault tells of bytes that are not gone
pub is_value-at_fault : (v : List ℕ) (fault : TextFault) → is_gone v ≡ false → value_fault v ≡ Some fault → is_value v ≡ false
is_value-at_fault v fault there e = chosen (is_text v) (λ h. no_text_fault v (IsText-from_test v h))
  where
    chosen : (b : Bool) → (b ≡ true → value_fault v ≡ None) → (b || is_gone v) ≡ false
    chosen true none = absurd (cc (none refl, e))
    chosen false none = there

pub is_value-holds : (v : List ℕ) → IsValue v → is_value v ≡ true
is_value-holds v (inl text) = or_left (is_text v) (is_gone v) (is_text-holds v text)
is_value-holds v (inr is) = rw is refl

value_short : (v : List ℕ) → IsValue v → length v ≤ 1024
value_short v (inl text) = text.0
value_short v (inr is) = rw is (omega arith)

pub Reads-value : Reads val_bytes IsValue value_at
unfolding value_at
Reads-value =
    Reads-same val_bytes (λ v. (length v ≤ 1024) × (is_value v ≡ true)) _ val_bytes IsValue
    (Reads-tested val_bytes (λ v. length v ≤ 1024) text_at is_value Reads-text)
    (λ v h. (IsValue-from_test v h.1, refl)) (λ v h. (value_short v h, is_value-holds v h))

-- NAMES
abbrev node_tag : NodeId → ℕ
node_tag (Coord d) = 0
node_tag (Shard d s) = 1

abbrev node_body : NodeId → List ℕ
node_body (Coord d) = u8_bytes d
node_body (Shard d s) = u8_bytes d ++ u8_bytes s

abbrev server_bytes : ℕ × ℕ → List ℕ
server_bytes n = u8_bytes n.0 ++ u8_bytes n.1

abbrev IsServer : ℕ × ℕ → Type 0
IsServer n = IsDcNumber n.0 × IsShardNumber n.1

Reads-server : Reads server_bytes IsServer (both_at dc_at shard_at)
Reads-server = Reads-both u8_bytes IsDcNumber dc_at u8_bytes IsShardNumber shard_at Reads-dc Reads-shard

abbrev node_choices : List (Reader NodeId)
node_choices = mapped_at Coord dc_at ∷ mapped_at server (both_at dc_at shard_at) ∷ []

node_again : (n : NodeId) (rest : List ℕ) → IsNodeName n → pick node_choices (node_tag n) (node_body n ++ rest) ≡ Some (n, rest)
unfolding pick
node_again (Coord d) rest fits = mapped_again u8_bytes IsDcNumber dc_at Coord Reads-dc d rest fits
node_again (Shard d s) rest fits = mapped_again server_bytes IsServer (both_at dc_at shard_at) server Reads-server (d, s) rest fits

node_picks : Picks node_tag node_body IsNodeName 0 node_choices
node_picks =
    Picks-more node_tag node_body IsNodeName 0 _ _
    (Takes-mapped node_tag node_body IsNodeName 0 u8_bytes IsDcNumber dc_at Coord Reads-dc (λ d fits. (refl, fits, refl)))
    (Picks-more node_tag node_body IsNodeName 1 _ _
    (Takes-mapped node_tag node_body IsNodeName 1 server_bytes IsServer (both_at dc_at shard_at) server Reads-server (λ n fits. (refl, fits, refl)))
    (Picks-end node_tag node_body IsNodeName 2))

node_spelled : (n : NodeId) → node_bytes n ≡ u8_bytes (node_tag n) ++ node_body n
node_spelled (Coord d) = refl
node_spelled (Shard d s) = refl

pub Reads-node : Reads node_bytes IsNodeName node_at
unfolding node_at
Reads-node =
    Reads-same (λ n. u8_bytes (node_tag n) ++ node_body n) IsNodeName (tagged_at (pick node_choices)) node_bytes IsNodeName
    (Reads-tagged node_tag node_body IsNodeName (pick node_choices) (Chooses-pick node_tag node_body IsNodeName node_choices node_picks node_again))
    (λ n fits. (fits, node_spelled n)) (λ n fits. fits)

abbrev party_tag : Party → ℕ
party_tag (Node n) = node_tag n
party_tag (Client t) = 2

abbrev party_body : Party → List ℕ
party_body (Node n) = node_body n
party_body (Client t) = u32_bytes t

abbrev party_choices : List (Reader Party)
party_choices = mapped_at of_coord dc_at ∷ mapped_at of_server (both_at dc_at shard_at) ∷ mapped_at Client tx_at ∷ []

party_again : (p : Party) (rest : List ℕ) → IsPartyName p → pick party_choices (party_tag p) (party_body p ++ rest) ≡ Some (p, rest)
unfolding pick
party_again (Node (Coord d)) rest fits = mapped_again u8_bytes IsDcNumber dc_at of_coord Reads-dc d rest fits
party_again (Node (Shard d s)) rest fits = mapped_again server_bytes IsServer (both_at dc_at shard_at) of_server Reads-server (d, s) rest fits
party_again (Client t) rest fits = mapped_again u32_bytes IsTxNumber tx_at Client Reads-tx t rest fits

party_picks : Picks party_tag party_body IsPartyName 0 party_choices
party_picks =
    Picks-more party_tag party_body IsPartyName 0 _ _
    (Takes-mapped party_tag party_body IsPartyName 0 u8_bytes IsDcNumber dc_at of_coord Reads-dc (λ d fits. (refl, fits, refl)))
    (Picks-more party_tag party_body IsPartyName 1 _ _
    (Takes-mapped party_tag party_body IsPartyName 1 server_bytes IsServer (both_at dc_at shard_at) of_server Reads-server (λ n fits. (refl, fits, refl)))
    (Picks-more party_tag party_body IsPartyName 2 _ _
    (Takes-mapped party_tag party_body IsPartyName 2 u32_bytes IsTxNumber tx_at Client Reads-tx (λ t fits. (refl, fits, refl)))
    (Picks-end party_tag party_body IsPartyName 3)))

party_spelled : (p : Party) → party_bytes p ≡ u8_bytes (party_tag p) ++ party_body p
party_spelled (Node (Coord d)) = refl
party_spelled (Node (Shard d s)) = refl
party_spelled (Client t) = refl

pub Reads-party : Reads party_bytes IsPartyName party_at
unfolding party_at
Reads-party =
    Reads-same (λ p. u8_bytes (party_tag p) ++ party_body p) IsPartyName (tagged_at (pick party_choices)) party_bytes IsPartyName
    (Reads-tagged party_tag party_body IsPartyName (pick party_choices) (Chooses-pick party_tag party_body IsPartyName party_choices party_picks party_again))
    (λ p fits. (fits, party_spelled p)) (λ p fits. fits)

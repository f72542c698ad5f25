-- Reading the fields that name something.
use Rattle.std.specs.Prelude.{ℕ, zero, ◌^◌, Bool, true, false, ◌&&◌, ◌||◌, nat_le, nat_lt, List, [], ◌∷◌, length}
use Rattle.std.specs.Result.{result_ok}
use Rattle.std.specs.List.{list_all}
use Rattle.rc_ids.specs.Cluster.{is_key}
use Rattle.rc_ids.specs.Texts.{is_value_byte}
use Rattle.rc_ids.specs.declared.names.NodeId.{NodeId}
use Rattle.rc_ids.specs.declared.names.NodeId.TheVariants.{Coord, Shard}
use Rattle.rc_ids.specs.declared.names.Party.{Party}
use Rattle.rc_ids.specs.declared.names.Party.TheVariants.{Node, Client}
use Rattle.rc_fields.specs.Reading.{u8_at, u32_at, u64_at, counted_at}
use Rattle.rc_fields.specs.Formats.{Reader, both_at, mapped_at, tested_at, tagged_at, pick}

-- NUMBERS
unfoldable pub byte_at : Reader ℕ
byte_at bytes = result_ok (u8_at bytes)

unfoldable pub place_at : Reader ℕ
place_at bytes = result_ok (u32_at bytes)

unfoldable pub long_at : Reader ℕ
long_at bytes = result_ok (u64_at bytes)

unfoldable pub tx_at : Reader ℕ
tx_at = tested_at (nat_le 1) place_at

unfoldable pub ballot_at : Reader ℕ
ballot_at = tested_at (λ b. nat_le b (2 ^ 31)) place_at

unfoldable pub version_at : Reader ℕ
version_at = tested_at (λ v. nat_lt v (2 ^ 62)) long_at

unfoldable pub dc_at : Reader ℕ
dc_at = tested_at (λ d. nat_le 1 d && nat_le d 7) byte_at

unfoldable pub shard_at : Reader ℕ
shard_at = tested_at (λ s. nat_le 1 s && nat_le s 8) byte_at

-- TEXTS
abbrev pub is_text : List ℕ → Bool
is_text v = nat_le (length v) 1024 && list_all is_value_byte v

abbrev pub is_gone : List ℕ → Bool
is_gone (zero ∷ []) = true
is_gone v = false

-- a text or gone
abbrev pub is_value : List ℕ → Bool
is_value v = is_text v || is_gone v

unfoldable pub short_at : Reader (List ℕ)
short_at bytes = result_ok (counted_at 64 bytes)

unfoldable pub text_at : Reader (List ℕ)
text_at bytes = result_ok (counted_at 1024 bytes)

unfoldable pub key_at : Reader (List ℕ)
key_at = tested_at is_key short_at

unfoldable pub value_at : Reader (List ℕ)
value_at = tested_at is_value text_at

-- NAMES
abbrev pub server : ℕ × ℕ → NodeId
server n = Shard n.0 n.1

unfoldable pub node_at : Reader NodeId
node_at = tagged_at (pick (mapped_at Coord dc_at ∷ mapped_at server (both_at dc_at shard_at) ∷ []))

abbrev pub of_coord : ℕ → Party
of_coord d = Node (Coord d)

abbrev pub of_server : ℕ × ℕ → Party
of_server n = Node (server n)

unfoldable pub party_at : Reader Party
party_at = tagged_at (pick (mapped_at of_coord dc_at ∷ mapped_at of_server (both_at dc_at shard_at) ∷ mapped_at Client tx_at ∷ []))

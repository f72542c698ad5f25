-- The bytes of a field. Numbers are big-endian.
use Rattle.std.specs.Prelude.{ℕ, List, [], ◌∷◌, ◌++◌, length}
use Rattle.std.specs.Int.{w16, w32, w64, to_be_bytes}
use Rattle.rc_ids.specs.declared.names.NodeId.{NodeId}
use Rattle.rc_ids.specs.declared.names.NodeId.TheVariants.{Coord, Shard}
use Rattle.rc_ids.specs.declared.names.Party.{Party}
use Rattle.rc_ids.specs.declared.names.Party.TheVariants.{Node, Client}

abbrev pub u8_bytes : ℕ → List ℕ
u8_bytes v = v ∷ []

abbrev pub u16_bytes : ℕ → List ℕ
u16_bytes v = to_be_bytes w16 v

abbrev pub u32_bytes : ℕ → List ℕ
u32_bytes v = to_be_bytes w32 v

abbrev pub u64_bytes : ℕ → List ℕ
u64_bytes v = to_be_bytes w64 v

-- one byte of length, and the key's bytes
abbrev pub key_bytes : List ℕ → List ℕ
key_bytes k = u8_bytes (length k) ++ k

-- two bytes of length, and the value's bytes
abbrev pub val_bytes : List ℕ → List ℕ
val_bytes v = u16_bytes (length v) ++ v

-- NAMES: datacentres and shards are one byte, transactions, places and ballots four, versions eight
abbrev pub node_bytes : NodeId → List ℕ
node_bytes (Coord d) = u8_bytes 0 ++ u8_bytes d
node_bytes (Shard d s) = u8_bytes 1 ++ u8_bytes d ++ u8_bytes s

-- a node, or the client of a transaction
abbrev pub party_bytes : Party → List ℕ
party_bytes (Node n) = node_bytes n
party_bytes (Client t) = u8_bytes 2 ++ u32_bytes t

use Rattle.std.proofs.Common.{ℕ, ◌<◌, ◌≤◌, ◌^◌, List, length, refl}
use Rattle.rc_fields.specs.Spelling.{u8_bytes, u16_bytes, u32_bytes, u64_bytes, key_bytes, val_bytes, node_bytes, party_bytes}
use Rattle.rc_fields.specs.Ranges.{IsNodeName, IsPartyName}
use Rattle.rc_fields.specs.Names.{node_at, party_at}
use Rattle.rc_fields.proofs.FormatLaws.{Kind-from_reads}
use Rattle.rc_fields.proofs.NameLaws.{Reads-node, Reads-party}
use Rattle.rc_fields.specs.Reading.{u8_at, u16_at, u32_at, u64_at, counted_at}
use Rattle.rc_fields.proofs.Again.{told_by_reading, u16_again, u32_again, u64_again, key_again, val_again}
use Rattle.rc_fields.proofs.laws.field_laws.Goals as goal

pub returns : goal.returns
returns c = record {
  u8 = told_by_reading u8_bytes (λ (v : ℕ). v < 2 ^ 8) u8_at (λ v rest lt. refl);
  u16 = told_by_reading u16_bytes (λ (v : ℕ). v < 2 ^ 16) u16_at u16_again;
  u32 = told_by_reading u32_bytes (λ (v : ℕ). v < 2 ^ 32) u32_at u32_again;
  u64 = told_by_reading u64_bytes (λ (v : ℕ). v < 2 ^ 64) u64_at u64_again;
  key = told_by_reading key_bytes (λ (k : List ℕ). length k ≤ 64) (counted_at 64) key_again;
  val = told_by_reading val_bytes (λ (v : List ℕ). length v ≤ 1024) (counted_at 1024) val_again;
  node = Kind-from_reads node_bytes IsNodeName node_at Reads-node;
  party = Kind-from_reads party_bytes IsPartyName party_at Reads-party;
}

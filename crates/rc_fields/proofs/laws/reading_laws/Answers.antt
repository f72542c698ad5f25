use Rattle.rc_fields.proofs.NameLaws.{Reads-byte, Reads-place, Reads-tx, Reads-ballot, Reads-version, Reads-dc, Reads-shard, Reads-key, Reads-value, Reads-node, Reads-party}
use Rattle.rc_fields.proofs.laws.reading_laws.Goals as goal

pub returns : goal.returns
returns c = record {
  byte = Reads-byte;
  place = Reads-place;
  tx = Reads-tx;
  ballot = Reads-ballot;
  version = Reads-version;
  dc = Reads-dc;
  shard = Reads-shard;
  key = Reads-key;
  value = Reads-value;
  node = Reads-node;
  party = Reads-party;
}

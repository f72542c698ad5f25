use Rattle.std.proofs.Common.{◌≡◌, ◌+◌, length}
use Rattle.rc_log.specs.Records.{records, records_from, size_of}
use Rattle.rc_log.proofs.Frames.{ahead}
use Rattle.rc_log.proofs.reading.read_records.Given as goal

abbrev pub invariant-loop-gate : goal.invariant-loop-gate
invariant-loop-gate l = record {
  found : ahead l.all (records_from l.place 0 l.rest) ≡ records l.bytes;
  passed : l.place + length l.rest ≡ length l.bytes;
  end : l.place ≡ size_of l.all;
}

abbrev pub decreases-loop-gate : goal.decreases-loop-gate
decreases-loop-gate l = length l.rest

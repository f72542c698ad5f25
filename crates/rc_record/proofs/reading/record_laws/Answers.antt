use Rattle.std.proofs.Common.{ap, ◌++◌, []}
use Rattle.rc_fields.proofs.FormatLaws.{Kind-from_reads}
use Rattle.rc_record.specs.Spelling.{record_bytes, HasRecord}
use Rattle.rc_record.specs.Reading.{record_at}
use Rattle.rc_record.proofs.RecordLaws.{Reads-record, Reads-decoded}
use Rattle.rc_record.proofs.reading.record_laws.Goals as goal

pub returns : goal.returns
returns c =
    let apart = Kind-from_reads record_bytes HasRecord record_at Reads-record in
    record {
      one = λ q r hq hr same. (apart.told q r [] [] hq hr (ap (λ w. w ++ []) same)).0;
      apart = apart;
      again = λ r has. Reads-decoded.again r has;
    }

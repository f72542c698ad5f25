use Rattle.std.proofs.Common.{ap, ◌++◌, []}
use Rattle.rc_fields.proofs.FormatLaws.{Kind-from_reads}
use Rattle.rc_msg.specs.Spelling.{envelope_bytes, HasEnvelope}
use Rattle.rc_msg.specs.Reading.{envelope_at}
use Rattle.rc_msg.proofs.MsgLaws.{Reads-envelope}
use Rattle.rc_msg.proofs.reading.message_laws.Goals as goal

pub returns : goal.returns
returns c =
    let apart = Kind-from_reads envelope_bytes HasEnvelope envelope_at Reads-envelope in
    record { one = λ d e hd he same. (apart.told d e [] [] hd he (ap (λ w. w ++ []) same)).0; apart = apart }

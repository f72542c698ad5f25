use Rattle.std.proofs.Common.{◌≡◌, ◌-◌}
use Rattle.rc_fields.specs.Formats.{many_at}
use Rattle.rc_fields.specs.Names.{byte_at}
use Rattle.rc_fields.proofs.ManyLoop.{with_front}
use Rattle.rc_record.proofs.unread.read_bytes.Given as goal

abbrev pub invariant-loop : goal.invariant-loop
invariant-loop l = with_front l.read.items (many_at byte_at (l.count - l.counter) l.fields) ≡ many_at byte_at l.count l.fn.fields

use Rattle.std.proofs.Common.{◌≡◌, ◌-◌}
use Rattle.rc_fields.specs.Formats.{many_at}
use Rattle.rc_fields.specs.Names.{key_at}
use Rattle.rc_fields.proofs.ManyLoop.{with_front}
use Rattle.rc_record.proofs.unread.read_keys.Given as goal

abbrev pub invariant-loop : goal.invariant-loop
invariant-loop l = with_front l.read.items (many_at key_at (l.count - l.counter) l.fields) ≡ many_at key_at l.count l.fn.fields

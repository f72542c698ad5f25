use Rattle.std.proofs.Common.{◌≡◌, ◌-◌}
use Rattle.rc_fields.specs.Formats.{many_at}
use Rattle.rc_fields.proofs.ManyLoop.{with_front}
use Rattle.rc_body.specs.Reading.{entry_at}
use Rattle.rc_body.specs.Bodies.{IsBody}
use Rattle.rc_body.proofs.unread.read_entries.Given as goal

abbrev pub invariant-loop : goal.invariant-loop
invariant-loop l = record {
  read : with_front l.body (many_at entry_at (l.count - l.counter) l.fields) ≡ many_at entry_at l.count l.fn.fields;
  allowed : IsBody l.body;
}

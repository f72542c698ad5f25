use Rattle.std.proofs.Common.{◌≡◌, ◌-◌}
use Rattle.rc_fields.specs.Formats.{many_at, both_at}
use Rattle.rc_fields.specs.Names.{tx_at}
use Rattle.rc_fields.proofs.ManyLoop.{with_front}
use Rattle.rc_body.specs.Reading.{decision_at}
use Rattle.rc_body.specs.Pages.{IsPage}
use Rattle.rc_body.proofs.unread.read_outcomes.Given as goal

abbrev pub invariant-loop : goal.invariant-loop
invariant-loop l = record {
  read : with_front l.page (many_at (both_at tx_at decision_at) (l.count - l.counter) l.fields) ≡ many_at (both_at tx_at decision_at) l.count l.fn.fields;
  allowed : IsPage l.page;
}

use Rattle.std.proofs.Common.{is_some, ap, ◌∙◌, ℕ, List}
use Rattle.std.specs.Ordering.{nat_cmp}
use Rattle.rc_ids.specs.Tables.{found}
use Rattle.rc_ids.specs.declared.names.Outcome.{Outcome}
use Rattle.rc_record.proofs.ByNumber.{has_key}
use Rattle.rc_record.proofs.finished.FinishedTxs.has.Goals as goal

pub returns : goal.returns
returns c =
    c.contains_key.ensures ∙ has_key c.self.inside.list.entries c.args.tx
    ∙ ap (λ (es : List (ℕ × Outcome)). is_some (found nat_cmp es c.args.tx)) c.self.view_is

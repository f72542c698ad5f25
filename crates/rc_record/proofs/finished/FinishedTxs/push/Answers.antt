use Rattle.std.proofs.Common.{◌≡◌, None, ap, sym, subst, ◌∙◌, ◌++◌, ◌∷◌, [], ℕ, List}
use Rattle.std.specs.Ordering.{nat_cmp}
use Rattle.rc_ids.specs.Tables.{found}
use Rattle.rc_ids.specs.declared.names.Outcome.{Outcome}
use Rattle.rc_body.specs.Pages.{TxsDiffer}
use Rattle.rc_body.proofs.PageFacts.{TxsDiffer-push}
use Rattle.rc_body.proofs.PartFacts.{none-found}
use Rattle.rc_record.proofs.Rest.{new_last}
use Rattle.rc_record.proofs.finished.FinishedTxs.push.Goals as goal

pub returns-clause-ok : goal.returns-clause-ok
returns-clause-ok c =
    let none : found nat_cmp c.self.inside.list.entries c.args.tx ≡ None = ap (λ (es : List (ℕ × Outcome)). found nat_cmp es c.args.tx) c.self.view_is ∙ c.requires in
    c.in_ok-insert.ensures.entries
    ∙ new_last c.self.inside.list.entries c.args.tx c.args.outcome none
    ∙ ap (λ xs. xs ++ (c.args.tx, c.args.outcome) ∷ []) c.self.view_is

pub invariant_of-self-2 : goal.invariant_of-self-2
invariant_of-self-2 c =
    let none : found nat_cmp c.self.inside.list.entries c.args.tx ≡ None = ap (λ (es : List (ℕ × Outcome)). found nat_cmp es c.args.tx) c.self.view_is ∙ c.requires in
    subst TxsDiffer (sym (c.in_ok-insert.ensures.entries ∙ new_last c.self.inside.list.entries c.args.tx c.args.outcome none))
    (TxsDiffer-push c.self.inside.list.entries c.args.tx c.args.outcome c.self.invariant (none-found c.self.inside.list.entries c.args.tx none))

use Rattle.std.proofs.Common.{ℕ, not, ◌==◌, rules}
use Rattle.std.proofs.lemmas.Fn.{filter_same}
use Rattle.rc_locks.proofs.cells.leave.Goals as goal

pub returns-clause-writers : goal.returns-clause-writers
returns-clause-writers c = filter_same _ (λ (u : ℕ). not (u == c.args.tx)) _ (λ x b f k. search rules) _ _ c.retain.ensures.filtered

pub returns-clause-readers : goal.returns-clause-readers
returns-clause-readers c = filter_same _ (λ (u : ℕ). not (u == c.args.tx)) _ (λ x b f k. search rules) _ _ c.retain-2.ensures.filtered

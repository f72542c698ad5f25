use Rattle.std.proofs.Common.{◌≡◌, ℕ, ◌==◌, not, true, sym, ap, refl, ◌∙◌}
use Rattle.rc_coord_tables.specs.Takeovers.{heard_in}
use Rattle.rc_coord.specs.Sites.{durable_of, volatile_of}
use Rattle.rc_coord.proofs.RowFacts.{none_copied}
use Rattle.rc_coord.proofs.PromiseFacts.{promise-tells, not_false, same_number}
use Rattle.rc_coord.proofs.promising.promise.Goals as goal

pub returns-clause-ok : goal.returns-clause-ok
returns-clause-ok c =
    let tables = c.args.tables.now in
    let kept = c.in-Some.takeover.now in
    let equal : (kept.state.ballot == c.args.ballot) ≡ true =
    not_false (kept.state.ballot == c.args.ballot) (ap (λ (n : ℕ). not (n == c.args.ballot)) (sym c.ballot.ensures) ∙ sym c.ne.ensures ∙ c.if-ne.false) in
    promise-tells c.args.cluster.now (durable_of tables) (volatile_of tables) c.args.tx c.args.ballot c.args.from c.args.report.now c.args.out.now c.post_proposal.new.out
    tables.takeovers kept c.hear.new.self.table refl c.requires.fit.dcs c.requires.fit.weights c.in-Some.ensures.fit
    (none_copied c.get.result c.get.ensures (sym c.is_some.ensures ∙ c.if-is_some.false)) (sym c.in-Some.ensures.value)
    (same_number kept.state.ballot c.args.ballot equal) equal (c.takeover_laws.ensures.told kept c.args.from c.args.report.now)
    c.in_ok-post_proposal.ensures.ok (c.hear.ensures.table ∙ ap (heard_in tables.takeovers c.args.tx c.args.from) c.in_ok-heard.ensures)

use Rattle.std.proofs.Common.{ℕ, nat_eq, [], List, sym, ap, subst, ◌∙◌}
use Rattle.std.specs.Map.{set_value}
use Rattle.std.proofs.lemmas.Result.{on_ok_weaker, on_err_weaker}
use Rattle.rc_ids.specs.Tables.{Table}
use Rattle.rc_protocol.specs.Coordinator.{Standing}
use Rattle.indexmap.specs.IndexMap.{insert_entry as in_order}
use Rattle.rc_ballots.specs.Tallies.{Tally, counted_for}
use Rattle.rc_coord_tables.specs.Maps.{IsList, shown_by}
use Rattle.rc_coord_tables.specs.Votes.{VoteTable, vote_table, with_vote, votes_in, IsOf}
use Rattle.rc_coord_tables.proofs.MapFacts.{set_same, keeps-in_order, keeps-set, all-found}
use Rattle.rc_coord_tables.proofs.VoteFacts.{vote-there, vote-new}
use Rattle.rc_coord_tables.proofs.votes.Votes.count.Goals as goal

pub invariant_of-self : goal.invariant_of-self
invariant_of-self c =
    let weights : List ℕ = c.self.inside.quorum in
    subst (IsList (IsOf weights)) (sym (c.get_mut.follows.holds c.add.new.tally).0)
    (keeps-set (IsOf weights) c.self.inside.list.entries c.args.tx c.in-Some.tally.now c.add.new.tally c.self.invariant (sym c.in-Some.ensures.value)
    (c.add.ensures.quorum ∙ all-found (IsOf weights) c.self.inside.list.entries c.args.tx c.in-Some.tally.now c.self.invariant.fit (sym c.in-Some.ensures.value)))

pub invariant_of-self-in-None : goal.invariant_of-self-in-None
invariant_of-self-in-None c =
    let weights : List ℕ = c.self.inside.quorum in
    subst (IsList (IsOf weights)) (sym c.in_ok-insert-in-None.ensures.entries)
    (keeps-in_order (IsOf weights) c.get_mut.follows.lender-at-none.entries c.args.tx c.add-in-None.new.tally
    (subst (λ m. IsList (IsOf weights) m.entries) (sym c.get_mut.follows.holds-at-none) c.self.invariant)
    (c.add-in-None.ensures.quorum ∙ c.new-tally.ensures.quorum))

pub returns-in-Some-clause-ok : goal.returns-in-Some-clause-ok
returns-in-Some-clause-ok c =
    let weights : List ℕ = c.self.inside.quorum in
    on_ok_weaker c.add.result
    (λ vote.
    ap (λ (es : List (ℕ × Tally)). vote_table weights (shown_by votes_in es)) (c.get_mut.follows.holds c.add.new.tally).0
    ∙ ap (vote_table weights)
    (vote-there weights c.self.inside.list.entries c.args.tx c.self.invariant c.args.ballot c.args.dc c.args.decision.now c.in-Some.tally.now c.add.new.tally (sym c.in-Some.ensures.value)
    (vote ∙ ap (counted_for c.in-Some.tally.now.votes c.args.ballot c.args.dc) c.outcome-outcome.ensures))
    ∙ ap (λ (v : VoteTable). vote_table v.weights (with_vote v.table c.args.tx c.args.ballot c.args.dc c.args.decision.now)) c.self.view_is)
    c.add.ensures.ok

pub returns-in-Some-clause-err : goal.returns-in-Some-clause-err
returns-in-Some-clause-err c =
    let weights : List ℕ = c.self.inside.quorum in
    let es : List (ℕ × Tally) = c.self.inside.list.entries in
    on_err_weaker c.add.result
    (λ same.
    ap (λ (es : List (ℕ × Tally)). vote_table weights (shown_by votes_in es))
    ((c.get_mut.follows.holds c.add.new.tally).0 ∙ ap (λ (x : Tally). set_value (nat_eq c.args.tx) es x) same ∙ set_same es c.args.tx c.in-Some.tally.now (sym c.in-Some.ensures.value))
    ∙ c.self.view_is)
    c.add.ensures.err

pub returns-in_ok-insert-in-None-clause-ok : goal.returns-in_ok-insert-in-None-clause-ok
returns-in_ok-insert-in-None-clause-ok c =
    let weights : List ℕ = c.self.inside.quorum in
    let before = c.get_mut.follows.lender-at-none in
    ap (λ (es : List (ℕ × Tally)). vote_table weights (shown_by votes_in es)) c.in_ok-insert-in-None.ensures.entries
    ∙ ap (λ m. vote_table weights (shown_by votes_in (in_order nat_eq m.entries c.args.tx c.add-in-None.new.tally))) c.get_mut.follows.holds-at-none
    ∙ ap (vote_table weights)
    (vote-new weights c.self.inside.list.entries c.args.tx c.self.invariant c.args.ballot c.args.dc c.args.decision.now c.add-in-None.new.tally (sym c.in-None.ensures.value)
    (c.in_ok-add-in-None.ensures.ok ∙ ap (λ (v : Table ℕ Standing). counted_for v c.args.ballot c.args.dc c.outcome-outcome.result) c.new-tally.ensures.votes
    ∙ ap (counted_for [] c.args.ballot c.args.dc) c.outcome-outcome.ensures))
    ∙ ap (λ (v : VoteTable). vote_table v.weights (with_vote v.table c.args.tx c.args.ballot c.args.dc c.args.decision.now)) c.self.view_is

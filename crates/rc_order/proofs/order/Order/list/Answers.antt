use Rattle.std.proofs.Common.{ℕ, Bool, List, [], ◌∷◌, ◌++◌, take, drop, ap, ◌∙◌}
use Rattle.std.specs.Prelude.{◌||◌, if◌then◌else◌}
use Rattle.rc_ids.specs.Cluster.{holds}
use Rattle.rc_order.specs.Orders.{Order, has_listed, with_choice}
use Rattle.rc_order.proofs.ListFacts.{put_behind}
use Rattle.rc_order.proofs.order.Order.list.Goals as goal

pub returns-in_ok-insert-clause-ok : goal.returns-in_ok-insert-clause-ok
returns-in_ok-insert-clause-ok c =
    let o = c.self.inside in
    let old : Bool = has_listed (take o.before o.txs.keys) c.args.tx || has_listed (drop o.before o.txs.keys) c.args.tx in
    let listed : List ℕ = drop o.before o.txs.keys in
    ap (drop o.before) c.in_ok-insert.ensures.keys
    ∙ put_behind o.before o.txs.keys c.args.tx c.self.invariant
    ∙ ap (λ b. if old then listed else (if b then listed ++ c.args.tx ∷ [] else listed)) c.if-holds.ensures
    ∙ ap (λ (voters : List ℕ). if old then listed else (if holds o.quorum voters then listed ++ c.args.tx ∷ [] else listed)) c.voters.ensures
    ∙ ap (λ (v : Order). with_choice v.weights c.args.self.now.votes v.earlier v.listed c.args.tx c.args.ballot) c.self.view_is

use Rattle.std.proofs.Common.{◌≡◌, [], length, sym, ap, ◌∙◌}
use Rattle.rc_order.specs.Orders.{Votes}
use Rattle.rc_begin.specs.Logs.{with_blobs}
use Rattle.rc_begin.proofs.LogOrders.{order_is}
use Rattle.rc_begin.proofs.orders.order_of_logs.Goals as goal

pub returns : goal.returns
returns c =
    λ coords long are.
    c.begin.ensures.order c.args.cluster.now coords [] _
    (order_is c.args.cluster.now coords c.args.logs.now c.count_logs.new.order c.choose_logs.new.order
    (c.log_laws.ensures c.args.cluster.now coords c.count_logs.new.order)
    long are
    (sym (c.count_logs.ensures.weights ∙ c.new-order.ensures.weights ∙ c.quorum.ensures))
    (λ (many : length c.args.logs.now ≡ c.args.cluster.now.dcs). c.in_ok-count_logs.ensures.votes many ∙ ap (λ (v : Votes). with_blobs v 1 c.args.logs.now) c.new-order.ensures.votes)
    (c.count_logs.ensures.earlier ∙ c.new-order.ensures.earlier)
    (c.count_logs.ensures.listed ∙ c.new-order.ensures.listed)
    c.in_ok-choose_logs.ensures)

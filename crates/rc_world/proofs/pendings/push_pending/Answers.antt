use Rattle.std.proofs.Common.{◌<◌, ℕ, length, Option, Some, sym, subst}
use Rattle.rc_world.proofs.PendingFacts.{Shows, shows_none, shows_next, shows_all, next_within, fewer_left, left_at_most}
use Rattle.rc_world.proofs.pendings.push_pending.Goals as goal

pub loop-next-init : goal.loop-next-init
loop-next-init c = shows_none c.args.net.now c.args.lines.now _ c.oldest-next.ensures.oldest

pub loop-next-smaller : goal.loop-next-smaller
loop-next-smaller c =
    let shows : Shows c.args.net.now c.args.lines.now c.loop-next.lines (Some c.in-Some.number) = subst (Shows c.args.net.now c.args.lines.now c.loop-next.lines) c.in-Some.is c.loop-next.invariant in
    let within = next_within c.args.net.now c.args.lines.now c.loop-next.lines (length c.args.net.now.sent) c.oldest-next.ensures.rising c.in-Some.number shows in
    subst
    (λ (o : Option ℕ). left_at_most (length c.args.net.now.sent) c.pending_after-next.result < left_at_most (length c.args.net.now.sent) o)
    (sym c.in-Some.is)
    (fewer_left (length c.args.net.now.sent) c.in-Some.number c.args.net.now.pending c.pending_after-next.result within c.pending_after-next.ensures)

pub loop-next-preserved : goal.loop-next-preserved
loop-next-preserved c =
    let shows : Shows c.args.net.now c.args.lines.now c.loop-next.lines (Some c.in-Some.number) = subst (Shows c.args.net.now c.args.lines.now c.loop-next.lines) c.in-Some.is c.loop-next.invariant in
    shows_next c.args.net.now c.args.lines.now c.loop-next.lines (length c.args.net.now.sent) c.oldest-next.ensures.rising c.in-Some.number c.push_one.new.lines shows
    c.in_ok-push_one.ensures c.pending_after-next.result c.pending_after-next.ensures

pub returns : goal.returns
returns c =
    shows_all c.args.net.now c.args.lines.now c.loop-next.lines (length c.args.net.now.sent) c.oldest-next.ensures.rising
    (subst (Shows c.args.net.now c.args.lines.now c.loop-next.lines) c.in_default.is c.loop-next.invariant)

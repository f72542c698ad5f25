use Rattle.std.proofs.Common.{ℕ, Bool, ◌<◌, Some, length, subst, sym, ◌∙◌}
use Rattle.rc_net.specs.Network.{message}
use Rattle.rc_wire.specs.Wants.{is_for}
use Rattle.rc_wire.proofs.Walks.{Reached, far, goes_on, passes_here, ends, nearer}
use Rattle.rc_wire.proofs.mail.oldest_for.Goals as goal

pub returns-then-is_for : goal.returns-then-is_for
returns-then-is_for c =
    let net = c.args.net.now in
    let pass : ℕ → Bool = λ n. is_for c.args.party.now c.args.want (message net.sent n) in
    passes_here pass net.pending c.in-Some.number (subst (Reached pass net.pending) c.in-Some.is c.loop-next.invariant.reached) (sym c.is_for.ensures ∙ c.if-is_for.true)

pub loop-next-smaller : goal.loop-next-smaller
loop-next-smaller c =
    let net = c.args.net.now in
    let pass : ℕ → Bool = λ n. is_for c.args.party.now c.args.want (message net.sent n) in
    let r = subst (Reached pass net.pending) c.in-Some.is c.loop-next.invariant.reached in
    subst (λ o. far (length net.sent) c.pending_after-next.result < far (length net.sent) o) (sym c.in-Some.is)
    (subst (λ o. far (length net.sent) o < far (length net.sent) (Some c.in-Some.number)) (sym c.pending_after-next.ensures)
    (nearer pass net.pending (length net.sent) c.in-Some.number c.loop-next.invariant.rises r))

pub loop-next-preserved : goal.loop-next-preserved
loop-next-preserved c =
    let net = c.args.net.now in
    let pass : ℕ → Bool = λ n. is_for c.args.party.now c.args.want (message net.sent n) in
    let r = subst (Reached pass net.pending) c.in-Some.is c.loop-next.invariant.reached in
    record {
      rises = c.loop-next.invariant.rises;
      reached = subst (Reached pass net.pending) (sym c.pending_after-next.ensures) (goes_on pass net.pending (length net.sent) c.in-Some.number c.loop-next.invariant.rises r (sym c.is_for.ensures ∙ c.if-is_for.false));
    }

pub returns : goal.returns
returns c =
    let net = c.args.net.now in
    let pass : ℕ → Bool = λ n. is_for c.args.party.now c.args.want (message net.sent n) in
    ends pass net.pending (subst (Reached pass net.pending) c.in_default.is c.loop-next.invariant.reached)

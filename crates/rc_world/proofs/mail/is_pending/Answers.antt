-- The pending numbers rise.
use Rattle.std.proofs.Common.{◌≡◌, ◌≤◌, ◌-◌, ℕ, suc, Option, false, ap, ◌∙◌, arith}
use Rattle.std.specs.Prelude.{◌==◌, length}
use Rattle.rc_ids.specs.Tables.{maybe}
use Rattle.rc_world.proofs.MailFacts.{none_first, below_first, next_is}
use Rattle.rc_world.proofs.mail.is_pending.Goals as goal

back : (k : ℕ) → 1 ≤ k → suc (k - 1) ≡ k
back k le = omega arith

pub returns-in_default : goal.returns-in_default
returns-in_default c = none_first c.args.net.now.pending c.args.number c.in_default.ensures.oldest

pub returns-then-number-oldest : goal.returns-then-number-oldest
returns-then-number-oldest c = below_first c.args.net.now.pending 1 (length c.args.net.now.sent) c.args.number c.in-Some.oldest c.oldest.ensures.rising c.in-Some.ensures.oldest c.if-number-oldest.true

pub returns-in-Some-pending_after : goal.returns-in-Some-pending_after
returns-in-Some-pending_after c =
    ap (λ (o : Option ℕ). maybe o false (λ x. x == c.args.number)) c.in-Some-pending_after.ensures
    ∙ next_is c.args.net.now.pending 1 (length c.args.net.now.sent) (c.args.number - 1) c.args.number c.oldest.ensures.rising (back c.args.number c.requires)

pub returns-in-None : goal.returns-in-None
returns-in-None c =
    ap (λ (o : Option ℕ). maybe o false (λ x. x == c.args.number)) c.in-None.ensures
    ∙ next_is c.args.net.now.pending 1 (length c.args.net.now.sent) (c.args.number - 1) c.args.number c.oldest.ensures.rising (back c.args.number c.requires)

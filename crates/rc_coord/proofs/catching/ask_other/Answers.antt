use Rattle.std.proofs.Common.{ℕ, ◌==◌, Bool, [], if◌then◌else◌, sym, ap, ◌∙◌}
use Rattle.rc_msg.specs.declared.msg.Msg.TheVariants.{CatchAsk}
use Rattle.rc_msg.specs.Posts.{posted_all}
use Rattle.rc_protocol.specs.Messages.{one, coordinator}
use Rattle.rc_protocol.specs.Coordinator.{cursor_of}
use Rattle.rc_coord.specs.Rows.{only_placed}
use Rattle.rc_coord.proofs.PageRows.{not_true}
use Rattle.rc_coord.proofs.catching.ask_other.Goals as goal

pub returns-in_ok-push-clause-ok : goal.returns-in_ok-push-clause-ok
returns-in_ok-push-clause-ok c =
    let places = only_placed c.args.places.now.table in
    c.in_ok-push.ensures.ok
    ∙ ap (λ (n : ℕ). posted_all c.args.out.now (one (coordinator c.args.other) (CatchAsk n))) c.get.ensures
    ∙ sym (ap (λ (b : Bool). posted_all c.args.out.now (if b then [] else one (coordinator c.args.other) (CatchAsk (cursor_of places c.args.other)))) (not_true (c.args.other == c.args.home.now.dc) (sym c.ne.ensures ∙ c.if-ne.true)))

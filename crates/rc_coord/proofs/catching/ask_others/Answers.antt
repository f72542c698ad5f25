use Rattle.std.proofs.Common.{◌==◌, [], if◌then◌else◌}
use Rattle.rc_msg.specs.declared.msg.Msg.TheVariants.{CatchAsk}
use Rattle.rc_msg.proofs.PostFacts.{Grows-trans}
use Rattle.rc_protocol.specs.Messages.{one, coordinator}
use Rattle.rc_protocol.specs.Coordinator.{cursor_of}
use Rattle.rc_coord.specs.Rows.{only_placed}
use Rattle.rc_coord.proofs.PostFacts.{next}
use Rattle.rc_coord.proofs.catching.ask_others.Goals as goal

pub loop-number-preserved : goal.loop-number-preserved
loop-number-preserved c = record {
  sends =
      next (λ e. if e == c.args.home.now.dc then [] else one (coordinator e) (CatchAsk (cursor_of (only_placed c.args.places.now.table) e))) c.args.out.now c.loop-number.out
      c.ask_other.new.out c.loop-number.number c.loop-number.invariant.sends c.in_ok-ask_other.ensures.ok;
  grows = Grows-trans c.args.out.now c.loop-number.out c.ask_other.new.out c.loop-number.invariant.grows c.in_ok-ask_other.ensures.grows;
}

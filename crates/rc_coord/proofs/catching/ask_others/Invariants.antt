use Rattle.std.proofs.Common.{◌≡◌, ◌==◌, [], if◌then◌else◌}
use Rattle.rc_msg.specs.declared.msg.Msg.TheVariants.{CatchAsk}
use Rattle.rc_msg.specs.Posts.{posted_all, Grows}
use Rattle.rc_protocol.specs.Messages.{to_each, one, coordinator}
use Rattle.rc_protocol.specs.Coordinator.{cursor_of}
use Rattle.rc_coord.specs.Rows.{only_placed}
use Rattle.rc_coord.proofs.catching.ask_others.Given as goal

abbrev pub invariant-loop-number : goal.invariant-loop-number
invariant-loop-number l = record {
  sends : l.out ≡ posted_all l.fn.out (to_each l.number (λ e. if e == l.home.dc then [] else one (coordinator e) (CatchAsk (cursor_of (only_placed l.places.table) e))));
  grows : Grows l.fn.out l.out;
}

use Rattle.std.proofs.Common.{length}
use Rattle.rc_client.proofs.slot_list.+waiting_among.Given as goal

abbrev pub decreases-waiting_among : goal.decreases-waiting_among
decreases-waiting_among l = length l.slots.now

use Rattle.std.proofs.Common.{length}
use Rattle.rc_client.proofs.slot_list.+unread_among.Given as goal

abbrev pub decreases-unread_among : goal.decreases-unread_among
decreases-unread_among l = length l.slots.now

use Rattle.std.proofs.Common.{length}
use Rattle.rc_plain_client.proofs.slots.+unread_among.Given as goal

abbrev pub decreases-unread_among : goal.decreases-unread_among
decreases-unread_among l = length l.slots.now

use Rattle.std.proofs.Common.{length}
use Rattle.rc_plain_client.proofs.slots.+waiting_among.Given as goal

abbrev pub decreases-waiting_among : goal.decreases-waiting_among
decreases-waiting_among l = length l.slots.now

use Rattle.rc_client.proofs.SlotFacts.{waits-begun}
use Rattle.rc_client.proofs.slots.Slots.wait_once_begun.Goals as goal

pub returns : goal.returns
returns c = rw (← c.self.view_is, c.would_wait.ensures, c.as_slice.ensures.value) (waits-begun c.self.inside.items.items)

use Rattle.rc_serial_order.proofs.LifeOrders as laws
use Rattle.rc_serial_order.proofs.earlier_lives_stay.Goals as goal

pub returns-clause-chosen : goal.returns-clause-chosen
returns-clause-chosen c = laws.stays_chosen

pub returns-clause-written : goal.returns-clause-written
returns-clause-written c = laws.holds_writes

pub returns-clause-rows : goal.returns-clause-rows
returns-clause-rows c = laws.has_only_writes

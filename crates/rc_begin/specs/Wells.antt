-- Hosts between two events.
use Rattle.std.specs.Prelude.{Bool, true, false, not}
use Rattle.rc_host.specs.declared.host.Host.{Host}
use Rattle.rc_host.specs.declared.host.Host.TheVariants.{Up, Opened, Down, Lent}

-- the host is there, and a node that is up is not stopped
abbrev pub is_well : {N J D : Type 0} → (N → Bool) → Host N J D → Bool
is_well stopped (Up node) = not (stopped node)
is_well stopped (Opened journal blobs) = true
is_well stopped (Down disk) = true
is_well stopped Lent = false

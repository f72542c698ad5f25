-- A message as it is looked at.
use Rattle.rc_net.specs.declared.net.Sent.{Sent}
use Rattle.rc_net.specs.Network.{Message}

abbrev pub shown : Sent → Message
shown s = record { from = s.from; to = s.to; bytes = s.bytes.now }

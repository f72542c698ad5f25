-- The reads of the code as those of the protocol.
use Rattle.rc_protocol.specs.Client.{KeyRead as RowRead, NotRead as IsUnread, UnderWay as IsUnderWay, Complete as IsComplete}
use Rattle.rc_client.specs.declared.key_read.KeyRead.{KeyRead}
use Rattle.rc_client.specs.declared.key_read.KeyRead.TheVariants.{NotRead, UnderWay, Complete}

abbrev pub read_of : KeyRead → RowRead
read_of NotRead = IsUnread
read_of (UnderWay prints grants) = IsUnderWay prints grants
read_of (Complete version value) = IsComplete version value

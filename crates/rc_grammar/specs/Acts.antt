-- What makes a party act, and what it says: messages with a spelling, to and from parties with a name, and records with a spelling.
use Rattle.std.specs.Prelude.{List, Option, IfSome}
use Rattle.std.specs.List.{AllByRecursion}
use Rattle.rc_ids.specs.Texts.{IsKey, IsValue}
use Rattle.rc_ids.specs.declared.names.Party.{Party}
use Rattle.rc_fields.specs.Ranges.{IsTxNumber, IsPartyName}
use Rattle.rc_msg.specs.declared.msg.Msg.{Msg}
use Rattle.rc_msg.specs.Spelling.{HasMsg}
use Rattle.rc_record.specs.Spelling.{HasRecord}
use Rattle.rc_record.specs.declared.record.Record.{Record}
use Rattle.rc_protocol.specs.Messages.{Posts}
use Rattle.rc_protocol.specs.Acts.{NodeCause, Came, Catches, Takes, ClientCause, Hears, Reads, Writes, Cancels}

-- a message to a party with a name
abbrev pub HasPost : Party × Msg → Type 0
HasPost post = IsPartyName post.0 × HasMsg post.1

abbrev pub HasPosts : Posts → Type 0
HasPosts posts = AllByRecursion HasPost posts

-- the record that is logged, where one is
abbrev pub HasLogged : Option Record → Type 0
HasLogged logs = IfSome logs HasRecord

abbrev pub HasLog : List Record → Type 0
HasLog log = AllByRecursion HasRecord log

-- CAUSES
abbrev pub HasNodeCause : NodeCause → Type 0
HasNodeCause (Came from m) = IsPartyName from × HasMsg m
HasNodeCause Catches = Unit {0}
HasNodeCause (Takes t) = IsTxNumber t

abbrev pub HasClientCause : ClientCause → Type 0
HasClientCause (Hears m) = HasMsg m
HasClientCause (Reads k) = IsKey k
HasClientCause (Writes k value) = IsKey k × IsValue value
HasClientCause (Cancels k) = IsKey k
HasClientCause _ = Unit {0}

-- Clients whose states are in the grammar.
use Rattle.std.specs.Prelude.{◌≡◌, ◌≤◌, false, length, IsTrue}
use Rattle.std.specs.List.{AllByRecursion}
use Rattle.rc_ids.specs.Texts.{IsKey}
use Rattle.rc_fields.specs.Ranges.{IsVersionNumber}
use Rattle.rc_body.specs.Bodies.{KeysDiffer}
use Rattle.rc_body.specs.Spelling.{HasHeld}
use Rattle.rc_protocol.specs.Client.{Client, ClientAct, Grant, KeyRead, NotRead, UnderWay, Complete, Slot, is_proposed, is_worn, body_of, most_keys}
use Rattle.rc_grammar.specs.Acts.{HasPosts}

abbrev pub HasGrant : Grant → Type 0
HasGrant g = IsVersionNumber g.version

abbrev pub HasRead : KeyRead → Type 0
HasRead NotRead = Unit {0}
HasRead (UnderWay prints grants) = AllByRecursion HasGrant grants
HasRead (Complete version value) = IsVersionNumber version

pub record HasSlot (s : Slot) : Type 0 where
  pub key : IsKey s.key
  pub write : HasHeld s.write
  pub read : HasRead s.read

-- the slots make a body, and what was proposed has a next version for each key that it writes
pub record HasClient (x : Client) : Type 0 where
  pub few : length x.slots ≤ most_keys
  pub apart : KeysDiffer (body_of x.slots)
  pub slots : AllByRecursion HasSlot x.slots
  pub lasting : IsTrue (is_proposed x.phase) → is_worn x.slots ≡ false

-- all that the act says has a spelling, and the client after it is in the grammar
pub record ClientSpeaks (act : ClientAct) : Type 0 where
  pub sends : HasPosts act.sends
  pub after : HasClient act.after

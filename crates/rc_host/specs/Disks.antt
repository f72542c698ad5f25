-- The disk of a host.
use Rattle.std.specs.Prelude.{◌≡◌, ℕ, List, Option, None, Some, Ok}
use Rattle.rc_disk.specs.Calls.{Told}
use Rattle.rc_log.specs.Records.{records}
use Rattle.rc_host.specs.AnyNode.{AnyNode, NodeDurable}
use Rattle.rc_host.specs.Standing.{Standing}
use Rattle.rc_host.specs.declared.host.Host.{Host}
use Rattle.rc_host.specs.declared.host.Host.TheVariants.{Up, Opened, Down, Lent}
use Rattle.rc_host.specs.Hosts.{Sight, Holds}

-- what it tells
abbrev pub told_by : {N J D : Type 0} → Sight N J D → Host N J D → Option Told
told_by s (Up node) = (s.state (s.seen node).journal).told
told_by s (Opened journal blobs) = (s.state journal).told
told_by s (Down disk) = s.told disk
told_by s Lent = None

-- what a read gives
abbrev pub content_by : {N J D : Type 0} → Sight N J D → Host N J D → Option (List ℕ)
content_by s (Up node) = (s.state (s.seen node).journal).content
content_by s (Opened journal blobs) = (s.state journal).content
content_by s (Down disk) = s.content disk
content_by s Lent = None

-- what a crash may leave of it
abbrev pub can_leave : {N J D : Type 0} → (N → AnyNode J) → (J → List ℕ → Type 0) → (D → List ℕ → Type 0) → Host N J D → List ℕ → Type 0
can_leave seen of_journal of_disk (Up node) left = of_journal (seen node).journal left
can_leave seen of_journal of_disk (Opened journal blobs) left = of_journal journal left
can_leave seen of_journal of_disk (Down disk) left = of_disk disk left
can_leave seen of_journal of_disk Lent left = ⊥

-- it has a log that gives the node back
pub record LeavesLog (content : Option (List ℕ)) (gives : List (List ℕ) → NodeDurable → Type 0) (x : Standing) : Type 0 where
  pub bytes : List ℕ
  pub is : content ≡ Some bytes
  pub blobs : List (List ℕ)
  pub has : records bytes ≡ Ok blobs
  pub holds : Holds gives blobs x

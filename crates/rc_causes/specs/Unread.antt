-- Why a read printed nothing.
use Rattle.std.specs.Prelude.{◌≡◌, ℕ, false, List, ◌∷◌, ◌++◌, Option, Some, None, IsTrue}
use Rattle.std.specs.Ordering.{nat_cmp}
use Rattle.rc_ids.specs.Tables.{In, found}
use Rattle.rc_ids.specs.Cluster.{Layout, is_dc, is_quorum}
use Rattle.rc_msg.specs.declared.msg.Msg.TheVariants.{Granted}
use Rattle.rc_report.specs.declared.line.Line.TheVariants.{Read as ReadLine}
use Rattle.rc_runs.specs.declared.event.Event.TheVariants.{Read, Cancel}
use Rattle.rc_protocol.specs.Messages.{client_of}
use Rattle.rc_protocol.specs.Client.{Client, Slot, slot_of, is_under_way, reads_on}
use Rattle.rc_runs.specs.World.{World}
use Rattle.rc_runs.specs.Refusals.{Happening, is_event, after_event, run, lines}
use Rattle.rc_causes.specs.Moments.{Moment, world_at, DeliversNow}

-- the happening is the command to read k, which is not refused, at a client that has not written k
pub record ReadsNow (w : World) (h : Happening) (t : ℕ) (k : List ℕ) : Type 0 where
  pub is : h.0 ≡ Read t k
  pub event : IsTrue (is_event w h)
  pub unwritten : (x : Client) (s : Slot) → found nat_cmp w.parties.clients t ≡ Some x → slot_of x.slots k ≡ Some s → s.write ≡ None

-- one of the happenings cancels the read
pub record IsCancelled (w : World) (hs : List Happening) (t : ℕ) (k : List ℕ) : Type 0 where
  pub moment : Moment hs
  pub is : moment.now.0 ≡ Cancel t k
  pub event : IsTrue (is_event (world_at w hs moment) moment.now)

-- one of them prints what was read
pub record IsPrinted (w : World) (hs : List Happening) (t : ℕ) (k : List ℕ) : Type 0 where
  pub version : ℕ
  pub value : Option (List ℕ)
  pub line : In (ReadLine t k version value) (lines w hs)

-- the read of k is under way, and its client open or committing
pub record IsUnderWay (w : World) (t : ℕ) (k : List ℕ) : Type 0 where
  pub client : Client
  pub is : found nat_cmp w.parties.clients t ≡ Some client
  pub early : IsTrue (reads_on client.phase)
  pub slot : Slot
  pub at : slot_of client.slots k ≡ Some slot
  pub way : IsTrue (is_under_way slot.read)

-- d's grant of k was delivered to t's client meanwhile, and the read was not cancelled since
pub record IsGranted (c : Layout) (w : World) (hs : List Happening) (t : ℕ) (k : List ℕ) (d : ℕ) : Type 0 where
  pub dc : IsTrue (is_dc c d)
  pub moment : Moment hs
  pub version : ℕ
  pub value : Option (List ℕ)
  pub comes : DeliversNow (world_at w hs moment) moment.now (client_of t) (Granted t k d version value)
  pub event : IsTrue (is_event (world_at w hs moment) moment.now)
  pub meanwhile : IsUnderWay (world_at w hs moment) t k
  pub stays : IsCancelled (after_event (world_at w hs moment) moment.now) moment.after t k → ⊥

-- a read that printed nothing, and was not cancelled, had grants of no quorum while it was under way and its client open or committing.
-- That grants come, or that a quorum of them is sent, is not said
abbrev pub UnreadHaveCauses : Layout → World → List Happening → Happening → List Happening → Type 0
UnreadHaveCauses c w before now after = (t : ℕ) (k : List ℕ) → ReadsNow (run w before) now t k
    → (IsCancelled (run w before) (now ∷ after) t k → ⊥) → (IsPrinted (run w before) (now ∷ after) t k → ⊥)
    → (dcs : List ℕ) → ((d : ℕ) → In d dcs → IsGranted c w (before ++ now ∷ after) t k d) → is_quorum c dcs ≡ false

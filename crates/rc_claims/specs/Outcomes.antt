-- What is claimed of outcomes, reads and orders in every run.
use Rattle.std.specs.Prelude.{◌≡◌, ℕ, ◌≤◌, ◌+◌, Bool, false, List, [], ◌∷◌, ◌++◌, Option, Some, ◌⊎◌, IsTrue, is_some, ◌||◌}
use Rattle.std.specs.Ordering.{nat_cmp}
use Rattle.std.specs.List.{list_any}
use Rattle.rc_ids.specs.Tables.{In, found, member}
use Rattle.rc_ids.specs.declared.names.Outcome.{Outcome}
use Rattle.rc_ids.specs.declared.names.Outcome.TheVariants.{Commit as Committed, Abort as Aborted}
use Rattle.rc_body.specs.declared.entry.Entry.{Entry}
use Rattle.rc_body.specs.declared.decision.Decision.{Decision}
use Rattle.rc_body.specs.declared.decision.Decision.TheVariants.{Commit}
use Rattle.rc_body.specs.Decisions.{outcome_of}
use Rattle.rc_msg.specs.declared.msg.Envelope.{Envelope}
use Rattle.rc_msg.specs.declared.msg.Msg.{Msg}
use Rattle.rc_msg.specs.declared.msg.Msg.TheVariants.{ReadAsk, Finish, Decided, CatchPage}
use Rattle.rc_record.specs.declared.record.Record.TheVariants.{Accepted}
use Rattle.rc_report.specs.declared.line.Line.TheVariants.{Learned}
use Rattle.rc_protocol.specs.Client.{Client, Slot, Complete, is_done}
use Rattle.rc_protocol.specs.Nodes.{CoordNode, ShardNode, with_log}
use Rattle.rc_runs.specs.Votes.{IsChosen, is_chosen_at, is_listed}
use Rattle.rc_serial.specs.OneMap.{Map, Explains}
use Rattle.rc_runs.specs.World.{World, Parties, coord_at, shard_at}
use Rattle.rc_runs.specs.Refusals.{Happening, run, lines}

-- ys begins with xs
abbrev pub IsPrefix : {A : Type 0} → List A → List A → Type 0
IsPrefix {A} xs ys = (rest : List A) × (ys ≡ xs ++ rest)

abbrev pub Chosen : World → Outcome → ℕ → Type 0
Chosen w outcome t = IsChosen w.parties.layout w.parties.coords outcome t

-- AGREEMENT: commit and abort of a transaction are never both chosen
abbrev pub Agrees : World → Type 0
Agrees w = (t : ℕ) → Chosen w Committed t → Chosen w Aborted t → ⊥

-- all votes for commit carry one body
abbrev pub VotesOneBody : World → Type 0
VotesOneBody w = (d e t a b : ℕ) (x y : CoordNode) (p q : List Entry) → coord_at w.parties d ≡ Some x → coord_at w.parties e ≡ Some y
    → In (Accepted t a (Commit p)) x.log → In (Accepted t b (Commit q)) y.log → p ≡ q

-- WHAT IS LEARNED IS CHOSEN: what stands in a coordinator's list, what a shard finished, what a client holds that is done, and what
-- messages tell
abbrev pub ListedIsChosen : World → Type 0
ListedIsChosen w = (d t : ℕ) (x : CoordNode) (o : Decision) → coord_at w.parties d ≡ Some x → In (t, o) x.durable.outcomes → Chosen w (outcome_of o) t

abbrev pub FinishedIsChosen : World → Type 0
FinishedIsChosen w = (d sh t : ℕ) (x : ShardNode) (outcome : Outcome) → shard_at w.parties d sh ≡ Some x → found nat_cmp x.durable.finished t ≡ Some outcome → Chosen w outcome t

abbrev pub ClientsLearnChosen : World → Type 0
ClientsLearnChosen w = (t : ℕ) (x : Client) (o : Decision) → found nat_cmp w.parties.clients t ≡ Some x → IsTrue (is_done x.phase) → x.outcome ≡ Some o → Chosen w (outcome_of o) t

-- the message tells this outcome
abbrev pub Tells : Msg → ℕ → Decision → Type 0
Tells (Finish u o) t p = (u ≡ t) × (o ≡ p)
Tells (Decided u o) t p = (u ≡ t) × (o ≡ p)
Tells (CatchPage d place page) t p = In (t, p) page
Tells _ t p = ⊥

abbrev pub ToldIsChosen : World → Type 0
ToldIsChosen w = (e : Envelope) (t : ℕ) (o : Decision) → In e w.sent → Tells e.msg t o → Chosen w (outcome_of o) t

-- WHAT IS CHOSEN STAYS, through every later event
abbrev pub ChosenStays : World → List Happening → Type 0
ChosenStays w later = (outcome : Outcome) (t : ℕ) → Chosen w outcome t → Chosen (run w later) outcome t

-- THE ORDER has what this run chose and the logs had not, each once and with the body of its votes, and grows at its end alone; each
-- commit that a client prints stands in it, or in what the logs had
pub record IsCommitted (w : World) (t : ℕ) (body : List Entry) : Type 0 where
  pub ballot : ℕ
  pub chosen : IsTrue (is_chosen_at w.parties.layout w.parties.coords Committed t ballot)
  pub votes : (d : ℕ) (x : CoordNode) (voted : List Entry) → coord_at w.parties d ≡ Some x → In (Accepted t ballot (Commit voted)) x.log → voted ≡ body

-- none of these transactions stands in the list
abbrev pub AreNew : List (ℕ × List Entry) → List (ℕ × List Entry) → Type 0
AreNew listed [] = Unit {0}
AreNew listed (x ∷ xs) = (is_listed listed x.0 ≡ false) × AreNew listed xs

abbrev pub EachOnce : List (ℕ × List Entry) → Type 0
EachOnce [] = Unit {0}
EachOnce (x ∷ xs) = (is_listed xs x.0 ≡ false) × EachOnce xs

pub record OrderIsChosen (w : World) : Type 0 where
  pub chosen : (t : ℕ) (body : List Entry) → In (t, body) w.parties.committed → IsCommitted w t body
  pub once : EachOnce w.parties.committed
  pub new : AreNew w.parties.start.committed w.parties.committed

abbrev pub ChosenIsOrdered : World → Type 0
ChosenIsOrdered w = (t : ℕ) → Chosen w Committed t → IsTrue (is_listed w.parties.start.committed t || is_listed w.parties.committed t)

abbrev pub OrderGrows : World → List Happening → Type 0
OrderGrows w later = IsPrefix w.parties.committed (run w later).parties.committed

abbrev pub PrintedIsOrdered : World → List Happening → Type 0
PrintedIsOrdered w hs = (t : ℕ) → In (Learned t Committed) (lines w hs) →
    IsTrue (is_listed (run w hs).parties.start.committed t || is_listed (run w hs).parties.committed t)

-- what was committed in this run or before it
abbrev pub all_committed : World → List (ℕ × List Entry)
all_committed w = w.parties.start.committed ++ w.parties.committed

-- READS: a read of k was served to t where it is complete at t's client; no row drops a complete read
pub record Served (w : World) (t : ℕ) (k : List ℕ) (version : ℕ) (value : Option (List ℕ)) : Type 0 where
  pub client : Client
  pub is : found nat_cmp w.parties.clients t ≡ Some client
  pub slot : Slot
  pub among : In slot client.slots
  pub key : slot.key ≡ k
  pub read : slot.read ≡ Complete version value

-- a log names the transaction
abbrev pub is_named : Parties → ℕ → Bool
is_named w t =
    list_any (λ (x : CoordNode). member nat_cmp (with_log [] x.log) t) w.coords
    || list_any (λ (x : ShardNode). member nat_cmp (with_log [] x.log) t) w.shards

-- served in this run, or in one of those that left the logs to a transaction that the logs name; of any other nothing is left, and its name
-- may come again
abbrev pub ServedEver : List World → World → ℕ → List ℕ → ℕ → Option (List ℕ) → Type 0
ServedEver earlier w t k version value = Served w t k version value ⊎ ((v : World) × In v earlier × IsTrue (is_named v.parties t) × Served v t k version value)

-- one map answers every read served to the transactions of the order
abbrev pub IsSerial : Map → List World → World → Type 0
IsSerial base earlier w = Explains base w.parties.committed (ServedEver earlier w)

-- a read is not older than what was chosen before it was asked for
abbrev pub IsFresh : World → List Happening → Type 0
IsFresh w later = (t u : ℕ) (k : List ℕ) (body : List Entry) (f : Entry) (version : ℕ) (value : Option (List ℕ)) →
    In (u, body) (all_committed w) → In f body → f.key ≡ k → IsTrue (is_some f.write) →
    ((e : Envelope) → In e w.sent → e.msg ≡ ReadAsk t k → ⊥) →
    Served (run w later) t k version value → f.version + 1 ≤ version

-- LISTS of outcomes lose no entry
abbrev pub ListsGrow : World → List Happening → Type 0
ListsGrow w later = (d : ℕ) (x y : CoordNode) → coord_at w.parties d ≡ Some x → coord_at (run w later).parties d ≡ Some y → IsPrefix x.durable.outcomes y.durable.outcomes

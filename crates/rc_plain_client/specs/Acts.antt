-- What an act makes of a client, of what it sends and of the lines that it prints.
use Rattle.std.specs.Prelude.{◌≡◌, ℕ, Bool, List, [], ◌∷◌, ◌++◌, None, if◌then◌else◌}
use Rattle.rc_ids.specs.Cluster.{Layout}
use Rattle.rc_ids.specs.Tables.{maybe}
use Rattle.rc_report.specs.declared.line.Line.{Line}
use Rattle.rc_report.specs.declared.line.Line.TheVariants.{Read as ReadLine}
use Rattle.rc_protocol.specs.Messages.{Posts}
use Rattle.rc_protocol.specs.Client.{Client, ClientAct, Slot, Grant, slot_of, slot_set, with_slots, best_grant, cancels, completed, proposes_once_read, after_read, unless_refused}

-- the client becomes what the act makes of it, and the sends go behind what was to be sent; nothing is refused
pub record Says (act : ClientAct) (after : Client) (sent sending : Posts) : Type 0 where
  pub state : after ≡ act.after
  pub sends : sending ≡ sent ++ act.sends
  pub taken : act.refused ≡ None

-- the lines go behind those that were printed, too
pub record Does (act : ClientAct) (after : Client) (sent sending : Posts) (printed printing : List Line) : Type 0 where
  pub state : after ≡ act.after
  pub sends : sending ≡ sent ++ act.sends
  pub lines : printing ≡ printed ++ act.lines
  pub taken : act.refused ≡ None

-- the line at the end of a key's read
abbrev pub read_end : ℕ → List ℕ → Bool → List Grant → List Line
read_end t k prints grants = if prints then ReadLine t k (best_grant grants).0 (best_grant grants).1 ∷ [] else []

-- the slots where the key's read is complete
abbrev pub complete_at : List Slot → List ℕ → List Grant → List Slot
complete_at slots k grants = maybe (slot_of slots k) slots (λ s. slot_set slots (completed s grants))

-- the read of a key is complete
abbrev pub completes_at : Layout → ℕ → Client → List ℕ → Bool → List Grant → ClientAct
completes_at c t x k prints grants =
    unless_refused x (after_read (cancels c t k grants) (read_end t k prints grants) (proposes_once_read c t (with_slots x (complete_at x.slots k grants))))

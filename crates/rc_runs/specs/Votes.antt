-- Votes and what they choose: a vote is a record Accepted in a coordinator's log, and a quorum of votes for one outcome at one ballot
-- chooses it (Paxos, by weight).
use Rattle.std.specs.Prelude.{ℕ, zero, suc, Bool, false, cond, ◌||◌, List, [], ◌∷◌, ◌++◌, Option, None, Some, ◌==◌, if◌then◌else◌, slice_get, IsTrue}
use Rattle.std.specs.Ordering.{nat_cmp}
use Rattle.std.specs.List.{list_any}
use Rattle.rc_ids.specs.Tables.{added, maybe}
use Rattle.rc_ids.specs.Cluster.{Layout, is_quorum}
use Rattle.rc_ids.specs.declared.names.Outcome.{Outcome}
use Rattle.rc_ids.specs.declared.names.Outcome.TheVariants.{Commit as Committed}
use Rattle.rc_body.specs.declared.entry.Entry.{Entry}
use Rattle.rc_body.specs.declared.decision.Decision.TheVariants.{Commit}
use Rattle.rc_record.specs.declared.record.Record.{Record}
use Rattle.rc_record.specs.declared.record.Record.TheVariants.{Accepted}
use Rattle.rc_protocol.specs.Nodes.{CoordNode, coord_index, is_vote}

-- the log of d has the vote
abbrev pub has_voted : List CoordNode → Outcome → ℕ → ℕ → ℕ → Bool
has_voted coords outcome t b d = maybe (slice_get coords (coord_index d)) false (λ x. list_any (is_vote outcome t b) x.log)

-- the datacentres from 1 to n that voted
abbrev pub voters : List CoordNode → Outcome → ℕ → ℕ → ℕ → List ℕ
voters coords outcome t b zero = []
voters coords outcome t b (suc n) = cond (has_voted coords outcome t b (suc n)) (added nat_cmp (voters coords outcome t b n) (suc n)) (voters coords outcome t b n)

abbrev pub is_chosen_at : Layout → List CoordNode → Outcome → ℕ → ℕ → Bool
is_chosen_at c coords outcome t b = is_quorum c (voters coords outcome t b c.dcs)

-- at some ballot the votes for the outcome are a quorum
abbrev pub IsChosen : Layout → List CoordNode → Outcome → ℕ → Type 0
IsChosen c coords outcome t = (b : ℕ) × IsTrue (is_chosen_at c coords outcome t b)

-- THE ORDER of the committed transactions, each with its body: by the event that left the vote with which its commit first was chosen
abbrev pub is_listed : List (ℕ × List Entry) → ℕ → Bool
is_listed committed t = list_any (λ (x : ℕ × List Entry). x.0 == t) committed

-- what the logs chose with which the run began does not enter the order again
abbrev pub commits_after : Layout → List CoordNode → List (ℕ × List Entry) → List (ℕ × List Entry) → ℕ → ℕ → List Entry → List (ℕ × List Entry)
commits_after c coords earlier committed t b body =
    if is_listed earlier t || is_listed committed t then committed
    else (if is_chosen_at c coords Committed t b then committed ++ (t, body) ∷ [] else committed)

-- the list after the record was left in a log of these nodes
abbrev pub ordered : Layout → List CoordNode → List (ℕ × List Entry) → List (ℕ × List Entry) → Option Record → List (ℕ × List Entry)
ordered c coords earlier committed (Some (Accepted t b (Commit body))) = commits_after c coords earlier committed t b body
ordered c coords earlier committed _ = committed

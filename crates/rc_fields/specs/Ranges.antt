-- Which numbers name something.
use Rattle.std.specs.Prelude.{ℕ, ◌≤◌, ◌<◌, ◌^◌}
use Rattle.rc_ids.specs.declared.names.NodeId.{NodeId}
use Rattle.rc_ids.specs.declared.names.NodeId.TheVariants.{Coord, Shard}
use Rattle.rc_ids.specs.declared.names.Party.{Party}
use Rattle.rc_ids.specs.declared.names.Party.TheVariants.{Node, Client}

abbrev pub IsDcNumber : ℕ → Type 0
IsDcNumber d = (1 ≤ d) × (d ≤ 7)

abbrev pub IsShardNumber : ℕ → Type 0
IsShardNumber s = (1 ≤ s) × (s ≤ 8)

abbrev pub IsTxNumber : ℕ → Type 0
IsTxNumber t = (1 ≤ t) × (t < 2 ^ 32)

abbrev pub IsPlace : ℕ → Type 0
IsPlace place = place < 2 ^ 32

-- 0 is the ballot of a client
abbrev pub IsBallotNumber : ℕ → Type 0
IsBallotNumber b = b ≤ 2 ^ 31

abbrev pub IsVersionNumber : ℕ → Type 0
IsVersionNumber v = v < 2 ^ 62

abbrev pub IsNodeName : NodeId → Type 0
IsNodeName (Coord d) = IsDcNumber d
IsNodeName (Shard d s) = IsDcNumber d × IsShardNumber s

abbrev pub IsPartyName : Party → Type 0
IsPartyName (Node n) = IsNodeName n
IsPartyName (Client t) = IsTxNumber t

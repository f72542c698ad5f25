-- How names and reasons are written.
use Rattle.std.specs.Prelude.{ℕ, Bool, List, ◌++◌, codes}
use Rattle.std.specs.Fmt.{decimal}
use Rattle.rc_ids.specs.Texts.{gone, same_key}
use Rattle.rc_ids.specs.declared.names.NodeId.{NodeId}
use Rattle.rc_ids.specs.declared.names.NodeId.TheVariants.{Coord, Shard}
use Rattle.rc_ids.specs.declared.names.Party.{Party}
use Rattle.rc_ids.specs.declared.names.Party.TheVariants.{Node, Client}
use Rattle.rc_ids.specs.declared.names.Outcome.{Outcome}
use Rattle.rc_ids.specs.declared.names.Outcome.TheVariants.{Commit, Abort}

abbrev pub space : List ℕ
space = codes " "

abbrev pub tx_text : ℕ → List ℕ
tx_text t = codes "t" ++ decimal t

abbrev pub dc_text : ℕ → List ℕ
dc_text d = codes "d" ++ decimal d

abbrev pub node_text : NodeId → List ℕ
node_text (Coord d) = dc_text d
node_text (Shard d s) = dc_text d ++ (codes ".s" ++ decimal s)

abbrev pub party_text : Party → List ℕ
party_text (Node node) = node_text node
party_text (Client t) = tx_text t

-- how a transaction ended
abbrev pub ended_text : Outcome → List ℕ
ended_text Commit = codes "committed"
ended_text Abort = codes "aborted"

-- the value is the gone one
abbrev pub is_gone : List ℕ → Bool
is_gone value = same_key value gone

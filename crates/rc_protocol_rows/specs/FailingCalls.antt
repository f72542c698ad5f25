-- One device call of a node's disk fails: at the creation of its log, in an append, or at the opening after one.
use Rattle.std.specs.Prelude.{ℕ, List, [], ◌∷◌, ◌++◌, codes, if◌then◌else◌}
use Rattle.rc_ids.specs.declared.names.NodeId.{NodeId}
use Rattle.rc_ids.specs.Parties.{is_same_node}
use Rattle.rc_runs.specs.Stored.{Place, in_memory}
use Rattle.rc_runs.specs.Text.{Done, FarmFault}
use Rattle.rc_protocol_rows.specs.Cases.{Case, RunGivesAt, ended}

-- these calls of this node's disk fail
abbrev pub failing_at : NodeId → List ℕ → Place
failing_at node calls = record in_memory { failing = λ n. if is_same_node n node then calls else [] }

-- t1 commits while the node stops; then it starts again
abbrev pub script_for : List ℕ → List (List ℕ)
script_for name =
    codes "world 3 1" ∷ codes "begin t1" ∷ codes "write t1 x a" ∷ codes "commit t1" ∷ codes "settle" ∷ codes "show d1"
    ∷ (codes "restart " ++ name) ∷ codes "settle" ∷ codes "show d1" ∷ []

-- the log could not be made
abbrev pub not_made : List ℕ → Case
not_made name = record { script = ended (script_for name); text = []; ending = FarmFault }

-- the shard server stops as it prepares
abbrev pub shard_stops : Case
shard_stops = record {
  script = ended (script_for (codes "d1.s1"));
  text = ended (
      codes "d1.s1 stopped" ∷ codes "t1 committed" ∷ codes "settled 26" ∷ codes "d1.s1 down" ∷ codes "d1.s1 up" ∷ codes "settled 2"
      ∷ codes "d1.s1 x 1 free a" ∷ []);
  ending = Done;
}

-- the coordinator stops as it votes; its vote is kept or not, and the others commit
abbrev pub coord_stops_voting : Case
coord_stops_voting = record {
  script = ended (script_for (codes "d1"));
  text = ended (
      codes "d1 stopped" ∷ codes "t1 committed" ∷ codes "settled 26" ∷ codes "d1.s1 x 0 held -" ∷ codes "d1 up" ∷ codes "settled 5"
      ∷ codes "d1.s1 x 1 free a" ∷ []);
  ending = Done;
}

-- it stops as it learns the outcome, which is not kept: it learns it again
abbrev pub coord_stops_learning : Case
coord_stops_learning = record {
  script = ended (script_for (codes "d1"));
  text = ended (
      codes "d1 stopped" ∷ codes "t1 committed" ∷ codes "settled 30" ∷ codes "d1.s1 x 0 held -" ∷ codes "d1 up" ∷ codes "settled 5"
      ∷ codes "d1.s1 x 1 free a" ∷ []);
  ending = Done;
}

-- the outcome is kept and its finish was never sent: the shard server gets it by catching up
abbrev pub coord_stops_learned : Case
coord_stops_learned = record {
  script = ended (script_for (codes "d1") ++ (codes "catch d1.s1" ∷ codes "settle" ∷ codes "show d1" ∷ []));
  text = ended (
      codes "d1 stopped" ∷ codes "t1 committed" ∷ codes "settled 30" ∷ codes "d1.s1 x 0 held -" ∷ codes "d1 up" ∷ codes "settled 4"
      ∷ codes "d1.s1 x 0 held -" ∷ codes "settled 2" ∷ codes "d1.s1 x 1 free a" ∷ []);
  ending = Done;
}

-- the append fails at its last call, and then the opening of the log: nothing of that line is written
abbrev pub not_opened : Case
not_opened = record { script = ended (script_for (codes "d1")); text = []; ending = FarmFault }

pub record CreationGives (node : NodeId) (name : List ℕ) : Type 0 where
  pub first : RunGivesAt (failing_at node (1 ∷ [])) (not_made name)
  pub second : RunGivesAt (failing_at node (2 ∷ [])) (not_made name)
  pub third : RunGivesAt (failing_at node (3 ∷ [])) (not_made name)
  pub fourth : RunGivesAt (failing_at node (4 ∷ [])) (not_made name)
  pub fifth : RunGivesAt (failing_at node (5 ∷ [])) (not_made name)
  pub sixth : RunGivesAt (failing_at node (6 ∷ [])) (not_made name)

-- the four calls of an append, of which these are the numbers
pub record AppendGives (node : NodeId) (a b c d : ℕ) (case : Case) : Type 0 where
  pub first : RunGivesAt (failing_at node (a ∷ [])) case
  pub second : RunGivesAt (failing_at node (b ∷ [])) case
  pub third : RunGivesAt (failing_at node (c ∷ [])) case
  pub fourth : RunGivesAt (failing_at node (d ∷ [])) case

-- A shard server whose power is cut at each device call of its append, with each pick of what that leaves.
use Rattle.std.specs.Prelude.{ℕ, List, [], ◌∷◌, ◌++◌, codes, Bool, ◌&&◌, ◌||◌, nat_le, ◌==◌, if◌then◌else◌}
use Rattle.std.specs.Fmt.{decimal}
use Rattle.rc_runs.specs.Text.{Done}
use Rattle.rc_protocol_rows.specs.Cases.{Case, RunGives, ended}

-- the record of the append is kept
abbrev pub is_kept : ℕ → ℕ → Bool
is_kept call pick = nat_le 3 call && ((pick == 1) || (pick == 3))

-- what shows that the part is still prepared after the restart
abbrev pub held_line : Bool → List (List ℕ)
held_line kept = if kept then codes "d1.s1 x 0 held -" ∷ [] else []

abbrev pub cut_at : ℕ → ℕ → Case
cut_at call pick = record {
  script = ended (
      codes "world 3 1" ∷ codes "begin t1" ∷ codes "write t1 x a" ∷ codes "commit t1"
      ∷ (codes "crash d1.s1 at " ++ decimal call ++ codes " pick " ++ decimal pick) ∷ codes "settle" ∷ codes "restart d1.s1"
      ∷ codes "show d1" ∷ codes "settle" ∷ codes "show d1" ∷ []);
  text = ended (
      (codes "d1.s1 stopped" ∷ codes "t1 committed" ∷ codes "settled 26" ∷ codes "d1.s1 up" ∷ [])
      ++ held_line (is_kept call pick) ++ (codes "settled 2" ∷ codes "d1.s1 x 1 free a" ∷ []));
  ending = Done;
}

-- all four picks at a call
pub record CutGives (call : ℕ) : Type 0 where
  pub synced : RunGives (cut_at call 0)
  pub written : RunGives (cut_at call 1)
  pub full : RunGives (cut_at call 2)
  pub ones : RunGives (cut_at call 3)

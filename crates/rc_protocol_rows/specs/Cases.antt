-- Scripts, what they print and how they end.
use Rattle.std.specs.Prelude.{◌≡◌, ℕ, List, [], ◌∷◌, ◌++◌, Option, Some, None, Result, Ok, Err, if◌then◌else◌}
use Rattle.std.specs.List.{flat_map, concat}
use Rattle.rc_ids.specs.Cluster.{Layout, equal_weights}
use Rattle.rc_report.specs.Lines.{line_text}
use Rattle.rc_script.specs.Reading.{script_of}
use Rattle.rc_script.specs.declared.script.NumberedCommand.{NumberedCommand}
use Rattle.rc_script.specs.declared.fault.ScriptFault.{ScriptFault}
use Rattle.rc_runs.specs.Text.{Ending, Played, played}
use Rattle.rc_runs.specs.Stored.{Place, in_memory}
use Rattle.rc_claims.specs.Calm.{calm_lines, is_calm}

pub record Case : Type 0 where
  pub script : List ℕ
  pub text : List ℕ
  pub ending : Ending

-- lines as bytes, each with its line feed
abbrev pub ended : List (List ℕ) → List ℕ
ended lines = flat_map (λ (line : List ℕ). line ++ 10 ∷ []) lines

abbrev pub Gives : Played → List ℕ → Ending → Type 0
Gives played text ending = (concat played.texts ≡ text) × (played.ending ≡ ending)

-- the run of the protocol's table from this place gives this text, and ends so
abbrev pub RunGivesAt : Place → Case → Type 0
RunGivesAt place row = Gives (played place row.script) row.text row.ending

-- from empty disks on which no call fails
abbrev pub RunGives : Case → Type 0
RunGives row = RunGivesAt in_memory row

-- three datacentres of one shard each
abbrev pub three_dcs : Layout
three_dcs = record { dcs = 3; shards = 1; splits = []; weights = equal_weights 3 }

abbrev pub calm_text : Layout → Result (List NumberedCommand) ScriptFault → Option (List ℕ)
calm_text c (Ok cs) = if is_calm cs then Some (flat_map line_text (calm_lines c cs)) else None
calm_text c (Err fault) = None

-- the script is calm, and one map gives this text
abbrev pub OneMapGives : Layout → Case → Type 0
OneMapGives c row = calm_text c (script_of row.script) ≡ Some row.text

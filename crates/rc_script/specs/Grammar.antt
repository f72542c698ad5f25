-- Which bytes are a script, and of which commands: the grammar, apart from how it is read.
use Rattle.std.specs.Prelude.{◌≡◌, ℕ, ◌+◌, ◌≤◌, IsTrue, List, [], ◌∷◌, ◌++◌, length, map, ◌⊎◌}
use Rattle.std.specs.List.{list_all, AllByRecursion}
use Rattle.std.specs.Str.Lines.{lines}
use Rattle.rc_ids.specs.Cluster.{rise}
use Rattle.rc_ids.specs.Texts.{is_value_byte, IsKey}
use Rattle.rc_script.specs.declared.command.Command.{Command}
use Rattle.rc_script.specs.declared.command.Command.TheVariants as commands
use Rattle.rc_script.specs.declared.script.NumberedCommand.{NumberedCommand}
use Rattle.rc_script.specs.Reading.{is_skipped}
use Rattle.rc_script.specs.Spelling.{Spells, IsCommandOf}

-- ---- the order of the commands

-- neither `world` nor `split`
abbrev pub IsOther : Command → Type 0
IsOther (commands.World dcs shards weights) = ⊥
IsOther (commands.Split key) = ⊥
IsOther _ = Unit {0}

abbrev pub MayFollow : ℕ → ℕ → Command → Type 0
MayFollow dcs shards command = IsOther command × IsCommandOf dcs shards command

-- behind the world stand its splits, one fewer than shards and each above the one before, and then commands that are
-- neither `world` nor `split` and name nodes of that world alone
pub record FollowsWorld (dcs shards : ℕ) (later : List Command) : Type 0 where
  pub splits : List (List ℕ)
  pub others : List Command
  pub parts : later ≡ map commands.Split splits ++ others
  pub number : length splits + 1 ≡ shards
  pub rising : IsTrue (rise splits)
  pub keys : AllByRecursion IsKey splits
  pub rest : AllByRecursion (MayFollow dcs shards) others

-- no command at all, or a world first
abbrev pub IsScript : List Command → Type 0
IsScript [] = Unit {0}
IsScript (commands.World dcs shards weights ∷ later) = IsCommandOf 0 0 (commands.World dcs shards weights) × FollowsWorld dcs shards later
IsScript (_ ∷ later) = ⊥

-- ---- lines

-- empty, or a remark, of bytes from the space to `~`
abbrev pub IsSkipped : List ℕ → Type 0
IsSkipped line = IsTrue (is_skipped line) × IsTrue (list_all is_value_byte line)

abbrev pub SpellsFirst : ℕ → List ℕ → List NumberedCommand → (List NumberedCommand → Type 0) → Type 0
SpellsFirst number line [] rest = ⊥
SpellsFirst number line (first ∷ later) rest = (first.number ≡ number) × Spells line first.command × rest later

-- each line, counted from a number on, is skipped or spells the next command
abbrev pub SpellLines : ℕ → List (List ℕ) → List NumberedCommand → Type 0
SpellLines number [] found = found ≡ []
SpellLines number (line ∷ others) found = (IsSkipped line × SpellLines (number + 1) others found) ⊎ SpellsFirst number line found (λ later. SpellLines (number + 1) others later)

abbrev pub commands_of : List NumberedCommand → List Command
commands_of found = map (λ c. c.command) found

-- the bytes are a script of these commands
pub record IsScriptOf (bytes : List ℕ) (found : List NumberedCommand) : Type 0 where
  pub few : length (lines bytes) ≤ 65536
  pub spelled : SpellLines 1 (lines bytes) found
  pub ordered : IsScript (commands_of found)

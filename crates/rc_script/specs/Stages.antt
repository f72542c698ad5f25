-- Which commands may stand where.
use Rattle.std.specs.Prelude.{ℕ, ◌-◌, ◌==◌, ◌≤◌, nat_lt, Bool, true, ◌&&◌, List, Option, Some, None}
use Rattle.std.specs.Ordering.{is_lt}
use Rattle.rc_ids.specs.Texts.{key_cmp}
use Rattle.rc_script.specs.declared.command.Command.{Command}
use Rattle.rc_script.specs.declared.command.Command.TheVariants as commands
use Rattle.rc_script.specs.Words.{only_if}

-- the world that the first command made: its sizes, how many splits are missing, and the last split
pub record World : Type 0 where
  pub dcs : ℕ
  pub shards : ℕ
  pub missing : ℕ
  pub last : Option (List ℕ)

-- a split is above the one before
abbrev pub is_above : Option (List ℕ) → List ℕ → Bool
is_above None key = true
is_above (Some last) key = is_lt (key_cmp last key)

-- the world after a command, where the command may stand there
abbrev pub after_command : Option World → Command → Option World
after_command None (commands.World dcs shards weights) = Some (record { dcs = dcs; shards = shards; missing = shards - 1; last = None })
after_command None _ = None
after_command (Some world) (commands.World dcs shards weights) = None
after_command (Some world) (commands.Split key) = only_if (nat_lt 0 world.missing && is_above world.last key) (record { dcs = world.dcs; shards = world.shards; missing = world.missing - 1; last = Some key })
after_command (Some world) _ = only_if (world.missing == 0) world

-- a world has at most 7 datacentres, and 1 to 8 shards
abbrev pub FitsWorld : Command → Type 0
FitsWorld (commands.World dcs shards weights) = (dcs ≤ 7) × (1 ≤ shards) × (shards ≤ 8)
FitsWorld _ = Unit {0}

-- no split is missing at the end
abbrev pub is_whole : Option World → Bool
is_whole None = true
is_whole (Some world) = world.missing == 0

abbrev pub dcs_of : Option World → ℕ
dcs_of None = 0
dcs_of (Some world) = world.dcs

abbrev pub shards_of : Option World → ℕ
shards_of None = 0
shards_of (Some world) = world.shards

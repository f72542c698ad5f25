-- The bytes that spell a command, and the commands that a world takes.
use Rattle.std.specs.Prelude.{◌≡◌, ℕ, ◌%◌, ◌≤◌, List, [], ◌∷◌, ◌++◌, length, map, codes, Option, Some, None, ◌⊎◌, IfSome}
use Rattle.std.specs.List.{join_with_byte, AllByRecursion}
use Rattle.std.specs.Fmt.{decimal}
use Rattle.rc_ids.specs.Texts.{IsKey, IsText}
use Rattle.rc_ids.specs.declared.names.NodeId.{NodeId}
use Rattle.rc_ids.specs.declared.names.NodeId.TheVariants.{Coord, Shard}
use Rattle.rc_script.specs.declared.command.Command.{Command}
use Rattle.rc_script.specs.declared.command.Command.TheVariants as commands

-- ---- words

abbrev pub tx_name : ℕ → List ℕ
tx_name tx = codes "t" ++ decimal tx

abbrev pub dc_name : ℕ → List ℕ
dc_name dc = codes "d" ++ decimal dc

abbrev pub shard_name : ℕ → List ℕ
shard_name shard = codes "s" ++ decimal shard

abbrev pub node_name : NodeId → List ℕ
node_name (Coord dc) = dc_name dc
node_name (Shard dc shard) = join_with_byte 46 (dc_name dc ∷ shard_name shard ∷ [])

abbrev pub weight_words : Option (List ℕ) → List (List ℕ)
weight_words None = []
weight_words (Some weights) = map decimal weights

abbrev pub words_of : Command → List (List ℕ)
words_of (commands.World dcs shards weights) = codes "world" ∷ decimal dcs ∷ decimal shards ∷ weight_words weights
words_of (commands.Split key) = codes "split" ∷ key ∷ []
words_of (commands.Begin tx) = codes "begin" ∷ tx_name tx ∷ []
words_of (commands.Read tx key) = codes "read" ∷ tx_name tx ∷ key ∷ []
words_of (commands.Write tx key val) = codes "write" ∷ tx_name tx ∷ key ∷ val ∷ []
words_of (commands.Delete tx key) = codes "delete" ∷ tx_name tx ∷ key ∷ []
words_of (commands.Commit tx) = codes "commit" ∷ tx_name tx ∷ []
words_of (commands.Cancel tx key) = codes "cancel" ∷ tx_name tx ∷ key ∷ []
words_of (commands.Retry tx) = codes "retry" ∷ tx_name tx ∷ []
words_of (commands.Vanish tx) = codes "vanish" ∷ tx_name tx ∷ []
words_of (commands.Step count) = codes "step" ∷ decimal count ∷ []
words_of commands.Settle = codes "settle" ∷ []
words_of (commands.Deliver numbers) = codes "deliver" ∷ map decimal numbers
words_of (commands.Lose numbers) = codes "lose" ∷ map decimal numbers
words_of (commands.Crash node) = codes "crash" ∷ node_name node ∷ []
words_of (commands.CrashAt node call pick) = codes "crash" ∷ node_name node ∷ codes "at" ∷ decimal call ∷ codes "pick" ∷ decimal pick ∷ []
words_of (commands.Restart node) = codes "restart" ∷ node_name node ∷ []
words_of (commands.Take dc tx) = codes "take" ∷ dc_name dc ∷ tx_name tx ∷ []
words_of (commands.Catch node) = codes "catch" ∷ node_name node ∷ []
words_of commands.Pending = codes "pending" ∷ []
words_of (commands.Show dc) = codes "show" ∷ dc_name dc ∷ []
words_of commands.Order = codes "order" ∷ []

-- the words, one space between them; what follows the space behind the key of a write is its value
abbrev pub spelling : Command → List ℕ
spelling command = join_with_byte 32 (words_of command)

-- the other spelling of an empty value: the write without the space behind its key
abbrev pub IsShortWrite : List ℕ → Command → Type 0
IsShortWrite line (commands.Write tx key val) = (val ≡ []) × (line ≡ join_with_byte 32 (codes "write" ∷ tx_name tx ∷ key ∷ []))
IsShortWrite line _ = ⊥

abbrev pub Spells : List ℕ → Command → Type 0
Spells line command = (line ≡ spelling command) ⊎ IsShortWrite line command

-- ---- ranges

abbrev pub IsIn : ℕ → ℕ → ℕ → Type 0
IsIn low high n = (low ≤ n) × (n ≤ high)

abbrev pub IsTx : ℕ → Type 0
IsTx tx = IsIn 1 4294967295 tx

-- a node of a world of so many datacentres and shards
abbrev pub IsNodeOf : ℕ → ℕ → NodeId → Type 0
IsNodeOf dcs shards (Coord dc) = IsIn 1 dcs dc
IsNodeOf dcs shards (Shard dc shard) = IsIn 1 dcs dc × IsIn 1 shards shard

-- 1 to 64 numbers of messages
abbrev pub AreMessages : List ℕ → Type 0
AreMessages numbers = IsIn 1 64 (length numbers) × AllByRecursion (IsIn 0 4294967295) numbers

-- one weight from 1 to 9 for each datacentre
abbrev pub AreWeights : ℕ → List ℕ → Type 0
AreWeights dcs weights = (length weights ≡ dcs) × AllByRecursion (IsIn 1 9) weights

-- a command of the language that names nodes of a world of so many datacentres and shards
abbrev pub IsCommandOf : ℕ → ℕ → Command → Type 0
IsCommandOf dcs shards (commands.World n s weights) = (n % 2 ≡ 1) × IsIn 1 7 n × IsIn 1 8 s × IfSome weights (AreWeights n)
IsCommandOf dcs shards (commands.Split key) = IsKey key
IsCommandOf dcs shards (commands.Begin tx) = IsTx tx
IsCommandOf dcs shards (commands.Read tx key) = IsTx tx × IsKey key
IsCommandOf dcs shards (commands.Write tx key val) = IsTx tx × IsKey key × IsText val
IsCommandOf dcs shards (commands.Delete tx key) = IsTx tx × IsKey key
IsCommandOf dcs shards (commands.Commit tx) = IsTx tx
IsCommandOf dcs shards (commands.Cancel tx key) = IsTx tx × IsKey key
IsCommandOf dcs shards (commands.Retry tx) = IsTx tx
IsCommandOf dcs shards (commands.Vanish tx) = IsTx tx
IsCommandOf dcs shards (commands.Step count) = IsIn 1 2000000 count
IsCommandOf dcs shards commands.Settle = Unit {0}
IsCommandOf dcs shards (commands.Deliver numbers) = AreMessages numbers
IsCommandOf dcs shards (commands.Lose numbers) = AreMessages numbers
IsCommandOf dcs shards (commands.Crash node) = IsNodeOf dcs shards node
IsCommandOf dcs shards (commands.CrashAt node call pick) = IsNodeOf dcs shards node × IsIn 1 1000 call × IsIn 0 3 pick
IsCommandOf dcs shards (commands.Restart node) = IsNodeOf dcs shards node
IsCommandOf dcs shards (commands.Take dc tx) = IsIn 1 dcs dc × IsTx tx
IsCommandOf dcs shards (commands.Catch node) = IsNodeOf dcs shards node
IsCommandOf dcs shards commands.Pending = Unit {0}
IsCommandOf dcs shards (commands.Show dc) = IsIn 1 dcs dc
IsCommandOf dcs shards commands.Order = Unit {0}

-- The commands, as their lines spell them.
use Rattle.std.specs.Prelude.{ℕ, ◌%◌, ◌==◌, nat_le, if◌then◌else◌, List, [], ◌∷◌, length, codes, Option, Some, None, unwrap_or}
use Rattle.std.specs.Str.{bytes_eq}
use Rattle.std.specs.Option.{option_map}
use Rattle.rc_ids.specs.declared.names.NodeId.{NodeId}
use Rattle.rc_script.specs.declared.verb.Verb.{Verb}
use Rattle.rc_script.specs.declared.verb.Verb.TheVariants as verbs
use Rattle.rc_script.specs.declared.command.Command.{Command}
use Rattle.rc_script.specs.declared.command.Command.TheVariants as commands
use Rattle.rc_script.specs.Words.{◌>>=◌, only_if, first_word, later_words, text_after, number_in, numbers_of, tx_of, dc_of, node_of, key_of, val_of}

-- the first words of the lines
abbrev pub verb_name : Verb → List ℕ
verb_name verbs.World = codes "world"
verb_name verbs.Split = codes "split"
verb_name verbs.Begin = codes "begin"
verb_name verbs.Read = codes "read"
verb_name verbs.Write = codes "write"
verb_name verbs.Delete = codes "delete"
verb_name verbs.Commit = codes "commit"
verb_name verbs.Cancel = codes "cancel"
verb_name verbs.Retry = codes "retry"
verb_name verbs.Vanish = codes "vanish"
verb_name verbs.Step = codes "step"
verb_name verbs.Settle = codes "settle"
verb_name verbs.Deliver = codes "deliver"
verb_name verbs.Lose = codes "lose"
verb_name verbs.Crash = codes "crash"
verb_name verbs.Restart = codes "restart"
verb_name verbs.Take = codes "take"
verb_name verbs.Catch = codes "catch"
verb_name verbs.Pending = codes "pending"
verb_name verbs.Show = codes "show"
verb_name verbs.Order = codes "order"

abbrev pub all_verbs : List Verb
all_verbs = verbs.World
    ∷ verbs.Split
    ∷ verbs.Begin
    ∷ verbs.Read
    ∷ verbs.Write
    ∷ verbs.Delete
    ∷ verbs.Commit
    ∷ verbs.Cancel
    ∷ verbs.Retry
    ∷ verbs.Vanish
    ∷ verbs.Step
    ∷ verbs.Settle
    ∷ verbs.Deliver
    ∷ verbs.Lose
    ∷ verbs.Crash
    ∷ verbs.Restart
    ∷ verbs.Take
    ∷ verbs.Catch
    ∷ verbs.Pending
    ∷ verbs.Show
    ∷ verbs.Order ∷ []

abbrev pub verb_among : List Verb → List ℕ → Option Verb
verb_among [] word = None
verb_among (verb ∷ others) word = if bytes_eq word (verb_name verb) then Some verb else verb_among others word

abbrev pub verb_of : List ℕ → Option Verb
verb_of word = verb_among all_verbs word

-- T K
abbrev pub tx_and_key : List ℕ → Option (ℕ × List ℕ)
tx_and_key words = do
  key_word ← later_words words
  tx ← tx_of (first_word words)
  key ← key_of key_word
  Some (tx, key)

-- N numbers from 1 to 9, or nothing
abbrev pub weights_of : ℕ → Option (List ℕ) → Option (Option (List ℕ))
weights_of dcs None = Some None
weights_of dcs (Some words) = do
  weights ← numbers_of 1 9 words
  only_if (length weights == dcs) (Some weights)

-- N S, and weights
abbrev pub world_of : List ℕ → Option Command
world_of words = do
  others ← later_words words
  dcs ← number_in 1 7 (first_word words)
  shards ← number_in 1 8 (first_word others)
  weights ← weights_of dcs (later_words others)
  only_if (dcs % 2 == 1) (commands.World dcs shards weights)

-- T K V; what follows the space after the key is the value, and without that space it is empty
abbrev pub write_of : List ℕ → Option Command
write_of words = do
  others ← later_words words
  tx ← tx_of (first_word words)
  key ← key_of (first_word others)
  val ← val_of (unwrap_or (later_words others) [])
  Some (commands.Write tx key val)

-- 1 to 64 numbers
abbrev pub messages_of : List ℕ → Option (List ℕ)
messages_of words = do
  numbers ← numbers_of 0 4294967295 words
  only_if (nat_le (length numbers) 64) numbers

-- nothing, or `at k pick j`
abbrev pub crash_of : NodeId → Option (List ℕ) → Option Command
crash_of node None = Some (commands.Crash node)
crash_of node (Some words) = do
  from_call ← text_after (codes "at ") words
  from_pick ← later_words from_call
  pick_word ← text_after (codes "pick ") from_pick
  call ← number_in 1 1000 (first_word from_call)
  pick ← number_in 0 3 pick_word
  Some (commands.CrashAt node call pick)

-- dI T
abbrev pub take_of : ℕ → List ℕ → Option Command
take_of dcs words = do
  tx_word ← later_words words
  dc ← dc_of dcs (first_word words)
  tx ← tx_of tx_word
  Some (commands.Take dc tx)

-- a line of one word
abbrev pub bare_command : Verb → Option Command
bare_command verbs.Settle = Some commands.Settle
bare_command verbs.Pending = Some commands.Pending
bare_command verbs.Order = Some commands.Order
bare_command _ = None

-- a line with words behind the first that takes no memory, in a world of so many datacentres and shards
abbrev pub plain_command : ℕ → ℕ → Verb → List ℕ → Option Command
plain_command dcs shards verbs.Split words = option_map commands.Split (key_of words)
plain_command dcs shards verbs.Begin words = option_map commands.Begin (tx_of words)
plain_command dcs shards verbs.Read words = tx_and_key words >>= λ named. Some (commands.Read named.0 named.1)
plain_command dcs shards verbs.Delete words = tx_and_key words >>= λ named. Some (commands.Delete named.0 named.1)
plain_command dcs shards verbs.Commit words = option_map commands.Commit (tx_of words)
plain_command dcs shards verbs.Cancel words = tx_and_key words >>= λ named. Some (commands.Cancel named.0 named.1)
plain_command dcs shards verbs.Retry words = option_map commands.Retry (tx_of words)
plain_command dcs shards verbs.Vanish words = option_map commands.Vanish (tx_of words)
plain_command dcs shards verbs.Step words = option_map commands.Step (number_in 1 2000000 words)
plain_command dcs shards verbs.Crash words = node_of dcs shards (first_word words) >>= λ node. crash_of node (later_words words)
plain_command dcs shards verbs.Restart words = option_map commands.Restart (node_of dcs shards words)
plain_command dcs shards verbs.Take words = take_of dcs words
plain_command dcs shards verbs.Catch words = option_map commands.Catch (node_of dcs shards words)
plain_command dcs shards verbs.Show words = option_map commands.Show (dc_of dcs words)
plain_command dcs shards _ words = None

-- a line with words behind the first
abbrev pub command_with : ℕ → ℕ → Verb → List ℕ → Option Command
command_with dcs shards verbs.World words = world_of words
command_with dcs shards verbs.Write words = write_of words
command_with dcs shards verbs.Deliver words = option_map commands.Deliver (messages_of words)
command_with dcs shards verbs.Lose words = option_map commands.Lose (messages_of words)
command_with dcs shards verb words = plain_command dcs shards verb words

abbrev pub command_from : ℕ → ℕ → Verb → Option (List ℕ) → Option Command
command_from dcs shards verb None = bare_command verb
command_from dcs shards verb (Some words) = command_with dcs shards verb words

-- the command of a line, in a world of so many datacentres and shards
unfoldable pub command_of : ℕ → ℕ → List ℕ → Option Command
command_of dcs shards line = do
  verb ← verb_of (first_word line)
  command_from dcs shards verb (later_words line)

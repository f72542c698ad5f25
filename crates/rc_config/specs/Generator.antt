-- The script that a number and a size generate.
use Rattle.std.specs.Prelude.{ℕ, zero, suc, ◌+◌, ◌*◌, ◌/◌, ◌%◌, ◌^◌, ◌==◌, if◌then◌else◌, List, [], ◌∷◌, ◌++◌, codes, None}
use Rattle.std.specs.Fmt.{decimal}
use Rattle.rc_script.specs.declared.command.Command.{Command}
use Rattle.rc_script.specs.declared.command.Command.TheVariants as commands
use Rattle.rc_script.specs.declared.script.NumberedCommand.{NumberedCommand}

-- ---- draws

-- the state of the draws after one more draw
abbrev pub next_state : ℕ → ℕ
next_state x = (1103515245 * x + 12345) % 2 ^ 31

-- the draw below n that came with this state
abbrev pub drawn : ℕ → ℕ → ℕ
drawn n x = (x / 65536) % n

-- ---- lines

abbrev pub key_name : ℕ → List ℕ
key_name n = codes "k" ++ decimal n

abbrev pub value_name : ℕ → List ℕ
value_name n = codes "v" ++ decimal n

-- a settle, unless the draw is 0
abbrev pub maybe_settle : ℕ → List Command
maybe_settle draw = if draw == 0 then [] else (commands.Settle ∷ [])

-- the lines of a transaction that reads one key and writes another
abbrev pub transaction_lines : ℕ → ℕ → ℕ → ℕ → List Command
transaction_lines tx from to draw =
    commands.Begin tx
    ∷ commands.Read tx (key_name from)
    ∷ commands.Settle
    ∷ commands.Write tx (key_name to) (value_name tx)
    ∷ commands.Commit tx ∷ maybe_settle draw

-- the lines of a transaction, from the states that its three draws leave
abbrev pub lines_at : ℕ → ℕ → ℕ → ℕ → List Command
lines_at tx first second third = transaction_lines tx (drawn 10 first) (drawn 10 second) (drawn 4 third)

-- the state of the draws after a transaction
unfoldable pub state_after : ℕ → ℕ
state_after x = next_state (next_state (next_state x))

-- the lines of a transaction, from the state of the draws before it
unfoldable pub lines_of : ℕ → ℕ → List Command
lines_of tx x = lines_at tx (next_state x) (next_state (next_state x)) (next_state (next_state (next_state x)))

-- so many transactions, from a number on, and last a settle
unfoldable pub lines_from : ℕ → ℕ → ℕ → List Command
lines_from zero tx x = commands.Settle ∷ []
lines_from (suc count) tx x = lines_of tx x ++ lines_from count (tx + 1) (state_after x)

-- the lines that make the world
abbrev pub world_lines : List Command
world_lines = commands.World 3 2 None ∷ commands.Split (key_name 5) ∷ []

-- the commands of the script
abbrev pub generated_commands : ℕ → ℕ → List Command
generated_commands number size = world_lines ++ lines_from size 1 number

-- the commands with the numbers of their lines, counted from a number on
abbrev pub numbered_from : ℕ → List Command → List NumberedCommand
numbered_from number [] = []
numbered_from number (command ∷ others) = record { number = number; command = command } ∷ numbered_from (number + 1) others

-- the script, as its text is read
abbrev pub generated : ℕ → ℕ → List NumberedCommand
generated number size = numbered_from 1 (generated_commands number size)

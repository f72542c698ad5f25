-- The script that bytes are.
use Rattle.std.specs.Prelude.{◌≡◌, ℕ, ◌+◌, nat_lt, ◌==◌, Bool, true, if◌then◌else◌, List, [], ◌∷◌, ◌++◌, length, Option, Some, None, Result, Ok, Err}
use Rattle.std.specs.List.{list_all}
use Rattle.std.specs.Str.Lines.{lines}
use Rattle.rc_ids.specs.Texts.{is_value_byte}
use Rattle.rc_script.specs.declared.command.Command.{Command}
use Rattle.rc_script.specs.declared.script.NumberedCommand.{NumberedCommand}
use Rattle.rc_script.specs.declared.fault.ScriptFault.{ScriptFault}
use Rattle.rc_script.specs.declared.fault.ScriptFault.TheVariants as faults
use Rattle.rc_script.specs.Words.{◌>>=◌, only_if}
use Rattle.rc_script.specs.Commands.{command_of}
use Rattle.rc_script.specs.Stages.{World, after_command, is_whole, dcs_of, shards_of}

-- empty, or a remark
abbrev pub is_skipped : List ℕ → Bool
is_skipped [] = true
is_skipped (byte ∷ bytes) = byte == 35

abbrev pub command_line : Option World → List ℕ → Option (Option Command × Option World)
command_line before line = do
  command ← command_of (dcs_of before) (shards_of before) line
  after ← after_command before command
  Some (Some command, Some after)

-- the command of a line, if it is not skipped, and the world after it; None where it is outside the grammar
unfoldable pub line_of : Option World → List ℕ → Option (Option Command × Option World)
line_of before line = if is_skipped line then only_if (list_all is_value_byte line) (None, before) else command_line before line

abbrev pub numbered : ℕ → Option Command → List NumberedCommand
numbered number None = []
numbered number (Some command) = record { number = number; command = command } ∷ []

abbrev pub with_front : List NumberedCommand → Result (List NumberedCommand) ScriptFault → Result (List NumberedCommand) ScriptFault
with_front front (Ok commands) = Ok (front ++ commands)
with_front front (Err fault) = Err fault

abbrev pub and_then : ℕ → Option (Option Command × Option World) → (Option World → Result (List NumberedCommand) ScriptFault) → Result (List NumberedCommand) ScriptFault
and_then number None read = Err (faults.Line number)
and_then number (Some found) read = with_front (numbered number found.0) (read found.1)

-- the commands of the lines, counted from a number on, or the first line outside the grammar
unfoldable pub read_lines : Option World → ℕ → List (List ℕ) → Result (List NumberedCommand) ScriptFault
read_lines before number [] = if is_whole before then Ok [] else Err (faults.Line number)
read_lines before number (line ∷ others) = and_then number (line_of before line) (λ after. read_lines after (number + 1) others)

-- the commands of a script with the numbers of their lines, or why the bytes are no script
unfoldable pub script_of : List ℕ → Result (List NumberedCommand) ScriptFault
script_of bytes = if nat_lt 65536 (length (lines bytes)) then Err faults.TooManyLines else read_lines None 1 (lines bytes)

-- What a call returned, seen by view, is what reading gives, unless memory ran out.
abbrev pub Fails : {Y : Type 0} → ScriptFault → Result Y ScriptFault → Type 0
Fails faults.NoMemory read = Unit {0}
Fails (faults.Line number) read = read ≡ Err (faults.Line number)
Fails faults.TooManyLines read = read ≡ Err faults.TooManyLines

abbrev pub Gives : {X Y : Type 0} → (X → Y) → Result X ScriptFault → Result Y ScriptFault → Type 0
Gives view (Ok x) read = read ≡ Ok (view x)
Gives view (Err fault) read = Fails fault read

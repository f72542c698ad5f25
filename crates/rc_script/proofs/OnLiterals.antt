-- What computes a script on literals, and one script that is so computed.
use Rattle.std.proofs.Common.{◌≡◌, [], ◌∷◌, ◌++◌, None, Ok, refl}
use Rattle.std.specs.Prelude.{⊤, codes}
use Rattle.rc_script.specs.declared.command.Command.TheVariants as commands
use Rattle.rc_script.specs.Commands.{command_of}
use Rattle.rc_script.specs.Reading.{line_of, read_lines, script_of}

-- what an answer unfolds to compute the script of literal bytes
unfoldable pub script_on_literals : ⊤
unfolding script_of read_lines line_of command_of
script_on_literals = tt

some_lines : script_of (codes "world 3 2\n# hi\nsplit m\r\nbegin t12\nwrite t12 kk a b\n" ++ codes "settle") ≡ Ok (record { number = 1; command = commands.World 3 2 None } ∷ record { number = 3; command = commands.Split (109 ∷ []) } ∷ record { number = 4; command = commands.Begin 12 } ∷ record { number = 5; command = commands.Write 12 (107 ∷ 107 ∷ []) (97 ∷ 32 ∷ 98 ∷ []) } ∷ record { number = 6; command = commands.Settle } ∷ [])
unfolding script_on_literals
some_lines = refl

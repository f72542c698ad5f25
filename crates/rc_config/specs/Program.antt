-- The program as `clap` reads its words: an option `--logs`, and a subcommand `generate` with two words behind it.
use Rattle.std.specs.Prelude.{true, codes, List, ℕ, Option, Some}
use Rattle.std.specs.Option.{option_map}
use Rattle.rc_script.specs.Words.{◌>>=◌}
use Rattle.clap.specs.Words.{App, Row, Rule, Shape, first_of, new_app, new_rule, with_rule, with_subcommand}
use Rattle.clap.specs.Simple.{on_top}

-- no word is the program's name, and none asks for help
abbrev pub without_extras : Shape → Shape
without_extras s = record s { no_binary_name = true; disable_help_flag = true; disable_help_subcommand = true }

abbrev pub logs_rule : Rule
logs_rule = record (new_rule (codes "logs")) { long = Some (codes "logs") }

abbrev pub number_rule : Rule
number_rule = record (new_rule (codes "number")) { required = true }

abbrev pub size_rule : Rule
size_rule = record (new_rule (codes "size")) { required = true }

abbrev pub generate_app : App
generate_app = with_rule (with_rule (new_app (codes "generate")) number_rule) size_rule

abbrev pub program : App
program = with_subcommand (with_rule (on_top without_extras (new_app (codes "rc_play"))) logs_rule) generate_app.top

-- the words of the two arguments
abbrev pub pair_in : List Row → Option (List ℕ × List ℕ)
pair_in rows = do
  number ← first_of (codes "number") rows
  size ← first_of (codes "size") rows
  Some (number, size)

-- the two words behind the subcommand that was met
abbrev pub numbers_in : Option (List ℕ × List Row) → Option (List ℕ × List ℕ)
numbers_in met = option_map (λ found. found.1) met >>= pair_in

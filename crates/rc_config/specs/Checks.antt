-- What is read of what `clap` found: the mode, if the words are a form of it and nothing else.
use Rattle.std.specs.Prelude.{ℕ, ◌==◌, Bool, false, not, ◌&&◌, List, [], ◌∷◌, codes, Option, Some, None}
use Rattle.std.specs.Str.{bytes_eq}
use Rattle.std.specs.Option.{option_map_or}
use Rattle.rc_script.specs.Words.{◌>>=◌, only_if, text_after, number_in}
use Rattle.rc_config.specs.declared.mode.Mode.{Mode}
use Rattle.rc_config.specs.declared.mode.Mode.TheVariants as modes

abbrev pub is_no_option : List ℕ → Bool
is_no_option [] = false
is_no_option (byte ∷ bytes) = not (byte == 45)

-- `--logs=` and the directory, in one word
abbrev pub is_joined : List ℕ → List ℕ → Bool
is_joined word dir = option_map_or (λ rest. bytes_eq rest dir) (text_after (codes "--logs=") word) false

abbrev pub names_logs : List (List ℕ) → List ℕ → Bool
names_logs (word ∷ []) dir = is_joined word dir
names_logs (word ∷ next ∷ []) dir = bytes_eq word (codes "--logs") && bytes_eq next dir
names_logs _ dir = false

abbrev pub names_generate : List (List ℕ) → List ℕ → List ℕ → Bool
names_generate (word ∷ first ∷ second ∷ []) number size = bytes_eq word (codes "generate") && (bytes_eq first number && bytes_eq second size)
names_generate _ number size = false

abbrev pub plain_mode : List (List ℕ) → Option Mode
plain_mode [] = Some modes.Plain
plain_mode _ = None

abbrev pub logs_mode : List (List ℕ) → List ℕ → Option Mode
logs_mode words dir = only_if (is_no_option dir && names_logs words dir) (modes.Logs dir)

abbrev pub generate_mode : List (List ℕ) → List ℕ → List ℕ → Option Mode
generate_mode words number_word size_word = do
  number ← number_in 0 2147483647 number_word
  size ← number_in 1 1024 size_word
  only_if (names_generate words number_word size_word) (modes.Generate number size)

-- from the directory and the two words of `generate` that were found
unfoldable pub mode_found : List (List ℕ) → Option (List ℕ) → Option (List ℕ × List ℕ) → Option Mode
mode_found words None None = plain_mode words
mode_found words (Some dir) None = logs_mode words dir
mode_found words None (Some pair) = generate_mode words pair.0 pair.1
mode_found words (Some dir) (Some pair) = None

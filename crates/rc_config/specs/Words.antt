-- Which words are a form, and of which mode.
use Rattle.std.specs.Prelude.{◌≡◌, ◌≢◌, ℕ, List, [], ◌∷◌, ◌++◌, codes, Result, Ok, Err, ◌⊎◌}
use Rattle.std.specs.Fmt.{decimal}
use Rattle.std.specs.Str.{IsUtf8}
use Rattle.rc_script.specs.Spelling.{IsIn}
use Rattle.rc_config.specs.declared.mode.Mode.{Mode}
use Rattle.rc_config.specs.declared.mode.Mode.TheVariants as modes
use Rattle.rc_config.specs.declared.mode.WordsFault.{WordsFault}
use Rattle.rc_config.specs.declared.mode.WordsFault.TheVariants as faults

-- at least one byte, the first of which is no hyphen
abbrev pub IsNoOption : List ℕ → Type 0
IsNoOption [] = ⊥
IsNoOption (byte ∷ bytes) = byte ≢ 45

abbrev pub IsDir : List ℕ → Type 0
IsDir dir = IsUtf8 dir × IsNoOption dir

-- the words are a form of this mode
abbrev pub IsWordsOf : List (List ℕ) → Mode → Type 0
IsWordsOf words modes.Plain = words ≡ []
IsWordsOf words (modes.Logs dir) = IsDir dir × ((words ≡ codes "--logs" ∷ dir ∷ []) ⊎ (words ≡ (codes "--logs=" ++ dir) ∷ []))
IsWordsOf words (modes.Generate number size) = IsIn 0 2147483647 number × IsIn 1 1024 size × (words ≡ codes "generate" ∷ decimal number ∷ decimal size ∷ [])

-- the call gave this mode, unless memory ran out
abbrev pub GivesMode : Mode → Result Mode WordsFault → Type 0
GivesMode mode (Ok given) = given ≡ mode
GivesMode mode (Err faults.NoMemory) = Unit {0}
GivesMode mode (Err faults.BadWords) = ⊥

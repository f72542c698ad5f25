-- What is read is a script of the grammar, and a script of the grammar is read.
use Rattle.std.proofs.Common.{◌≡◌, ℕ, ◌+◌, ltb, Bool, true, false, cond, List, [], ◌∷◌, length, Option, Some, None, Result, Ok, Err, refl, sym, ap, ◌∙◌, subst, arith, inl, inr}
use Rattle.std.specs.Prelude.{IfOk}
use Rattle.std.specs.List.{list_all}
use Rattle.std.specs.Str.Lines.{lines}
use Rattle.std.proofs.lemmas.Bool.{ltb-false, le-ltb}
use Rattle.std.proofs.lemmas.Option.{same_Some}
use Rattle.rc_ids.specs.Texts.{is_value_byte}
use Rattle.rc_script.specs.declared.command.Command.{Command}
use Rattle.rc_script.specs.declared.command.Command.TheVariants as commands
use Rattle.rc_script.specs.declared.script.NumberedCommand.{NumberedCommand}
use Rattle.rc_script.specs.declared.fault.ScriptFault.{ScriptFault}
use Rattle.rc_script.specs.declared.fault.ScriptFault.TheVariants as faults
use Rattle.rc_script.specs.Words.{◌>>=◌, only_if}
use Rattle.rc_script.specs.Commands.{command_of}
use Rattle.rc_script.specs.Stages.{World, after_command, is_whole, dcs_of, shards_of}
use Rattle.rc_script.specs.Spelling.{spelling, IsShortWrite, Spells, IsCommandOf}
use Rattle.rc_script.specs.Reading.{is_skipped, command_line, line_of, numbered, with_front, and_then, read_lines, script_of, Gives}
use Rattle.rc_script.specs.Grammar.{IsSkipped, SpellLines, commands_of, IsScriptOf}
use Rattle.rc_script.proofs.Steps.{bind_some, only_if_some}
use Rattle.rc_script.proofs.Spelled.{command_taken}
use Rattle.rc_script.proofs.SpelledAgain.{command_again}
use Rattle.rc_script.proofs.Orders.{Follow, Bounded, follow_taken, script_follows, after_bounded}

abbrev Found : Type 0
Found = List NumberedCommand

abbrev done : Found → Result Found ScriptFault
done found = Ok found

failed : (fault : ScriptFault) (found : Found) → ◌≡◌ {A = Result Found ScriptFault} (Err fault) (Ok found) → ⊥
failed fault found e = cc

same_ok : (xs ys : Found) → done xs ≡ done ys → xs ≡ ys
same_ok xs ys e = cc

-- ---- one line

abbrev LineFact : Option World → List ℕ → Option Command → Option World → Type 0
LineFact before line None after = IsSkipped line × (after ≡ before)
LineFact before line (Some c) after = (w : World) × (after ≡ Some w) × (after_command before c ≡ Some w) × Spells line c × IsCommandOf (dcs_of before) (shards_of before) c

abbrev PairFact : Option World → List ℕ → Option Command × Option World → Type 0
PairFact before line p = LineFact before line p.0 p.1

command_line_taken : (before : Option World) (line : List ℕ) (p : Option Command × Option World) → Bounded before → command_line before line ≡ Some p → PairFact before line p
command_line_taken before line p small e =
    let a = bind_some (command_of (dcs_of before) (shards_of before) line) (λ c. after_command before c >>= λ after. Some (Some c, Some after)) p e in
    let b = bind_some (after_command before a.0) (λ after. Some (Some a.0, Some after)) p a.2 in
    let t = command_taken (dcs_of before) (shards_of before) line a.0 small.0 small.1 a.1 in
    subst (λ (q : Option Command × Option World). PairFact before line q) (same_Some _ _ b.2) (b.0, refl, b.1, t.0, t.1)

line_taken : (before : Option World) (line : List ℕ) (p : Option Command × Option World) → Bounded before → line_of before line ≡ Some p → PairFact before line p
unfolding line_of
line_taken before line p small e = go (is_skipped line) refl e
  where
    go : (t : Bool) → is_skipped line ≡ t → cond t (only_if (list_all is_value_byte line) (None, before)) (command_line before line) ≡ Some p → PairFact before line p
    go true skipped e = let b = only_if_some (list_all is_value_byte line) (None, before) p e in subst (λ (q : Option Command × Option World). PairFact before line q) b.1 ((skipped, b.0), refl)
    go false other e = command_line_taken before line p small e

-- a line that spells a command is not skipped
short_unskipped : (line : List ℕ) (c : Command) → IsShortWrite line c → is_skipped line ≡ false
short_unskipped line (commands.World n s weights) short = absurd short
short_unskipped line (commands.Split key) short = absurd short
short_unskipped line (commands.Begin tx) short = absurd short
short_unskipped line (commands.Read tx key) short = absurd short
short_unskipped line (commands.Write tx key val) short = ap is_skipped short.1
short_unskipped line (commands.Delete tx key) short = absurd short
short_unskipped line (commands.Commit tx) short = absurd short
short_unskipped line (commands.Cancel tx key) short = absurd short
short_unskipped line (commands.Retry tx) short = absurd short
short_unskipped line (commands.Vanish tx) short = absurd short
short_unskipped line (commands.Step count) short = absurd short
short_unskipped line commands.Settle short = absurd short
short_unskipped line (commands.Deliver numbers) short = absurd short
short_unskipped line (commands.Lose numbers) short = absurd short
short_unskipped line (commands.Crash node) short = absurd short
short_unskipped line (commands.CrashAt node call pick) short = absurd short
short_unskipped line (commands.Restart node) short = absurd short
short_unskipped line (commands.Take dc tx) short = absurd short
short_unskipped line (commands.Catch node) short = absurd short
short_unskipped line commands.Pending short = absurd short
short_unskipped line (commands.Show dc) short = absurd short
short_unskipped line commands.Order short = absurd short

spelling_unskipped : (c : Command) → is_skipped (spelling c) ≡ false
spelling_unskipped (commands.World n s weights) = refl
spelling_unskipped (commands.Split key) = refl
spelling_unskipped (commands.Begin tx) = refl
spelling_unskipped (commands.Read tx key) = refl
spelling_unskipped (commands.Write tx key val) = refl
spelling_unskipped (commands.Delete tx key) = refl
spelling_unskipped (commands.Commit tx) = refl
spelling_unskipped (commands.Cancel tx key) = refl
spelling_unskipped (commands.Retry tx) = refl
spelling_unskipped (commands.Vanish tx) = refl
spelling_unskipped (commands.Step count) = refl
spelling_unskipped commands.Settle = refl
spelling_unskipped (commands.Deliver []) = refl
spelling_unskipped (commands.Deliver (n ∷ ns)) = refl
spelling_unskipped (commands.Lose []) = refl
spelling_unskipped (commands.Lose (n ∷ ns)) = refl
spelling_unskipped (commands.Crash node) = refl
spelling_unskipped (commands.CrashAt node call pick) = refl
spelling_unskipped (commands.Restart node) = refl
spelling_unskipped (commands.Take dc tx) = refl
spelling_unskipped (commands.Catch node) = refl
spelling_unskipped commands.Pending = refl
spelling_unskipped (commands.Show dc) = refl
spelling_unskipped commands.Order = refl

unskipped : (line : List ℕ) (c : Command) → Spells line c → is_skipped line ≡ false
unskipped line c (inl e) = ap is_skipped e ∙ spelling_unskipped c
unskipped line c (inr short) = short_unskipped line c short

skipped_again : (before : Option World) (line : List ℕ) → IsSkipped line → line_of before line ≡ Some (None, before)
unfolding line_of
skipped_again before line skipped =
    ap (λ (t : Bool). cond t (only_if (list_all is_value_byte line) (None, before)) (command_line before line)) skipped.0
    ∙ ap (λ (t : Bool). only_if t (None, before)) skipped.1

spelled_again : (before : Option World) (line : List ℕ) (c : Command) (after : World) → Bounded before → Spells line c → IsCommandOf (dcs_of before) (shards_of before) c → after_command before c ≡ Some after → line_of before line ≡ Some (Some c, Some after)
unfolding line_of
spelled_again before line c after small spelled fits step =
    ap (λ (t : Bool). cond t (only_if (list_all is_value_byte line) (None, before)) (command_line before line)) (unskipped line c spelled)
    ∙ ap (λ (o : Option Command). o >>= λ command. after_command before command >>= λ after. Some (Some command, Some after)) (command_again (dcs_of before) (shards_of before) line c small.0 small.1 spelled fits)
    ∙ ap (λ (o : Option World). o >>= λ after. Some (Some c, Some after)) step

-- ---- the lines

abbrev LinesFact : Option World → ℕ → List (List ℕ) → Found → Type 0
LinesFact before number ls found = SpellLines number ls found × Follow before (commands_of found)

front_nothing : (read : Result Found ScriptFault) (found : Found) → with_front [] read ≡ Ok found → read ≡ Ok found
front_nothing (Ok cs) found e = e
front_nothing (Err fault) found e = absurd (failed fault found e)

front_one : (first : NumberedCommand) (read : Result Found ScriptFault) (found : Found) → with_front (first ∷ []) read ≡ Ok found → (later : Found) × (read ≡ Ok later) × (first ∷ later ≡ found)
front_one first (Ok cs) found e = (cs, refl, same_ok _ _ e)
front_one first (Err fault) found e = absurd (failed fault found e)

end_taken : (before : Option World) (number : ℕ) (found : Found) (t : Bool) → is_whole before ≡ t → cond t (Ok []) (Err (faults.Line number)) ≡ Ok found → LinesFact before number [] found
end_taken before number found true whole e = subst (λ (cs : Found). LinesFact before number [] cs) (same_ok [] found e) (refl, whole)
end_taken before number found false missing e = absurd (failed (faults.Line number) found e)

-- the step of one line, where what is read of the others is known
line_step : (before : Option World) (number : ℕ) (line : List ℕ) (others : List (List ℕ)) (found : Found) (o : Option (Option Command × Option World)) → Bounded before → line_of before line ≡ o
    → ((after : Option World) (later : Found) → Bounded after → read_lines after (number + 1) others ≡ Ok later → LinesFact after (number + 1) others later)
    → and_then number o (λ after. read_lines after (number + 1) others) ≡ Ok found → LinesFact before number (line ∷ others) found
line_step before number line others found None small is more e = absurd (failed (faults.Line number) found e)
line_step before number line others found (Some p) small is more e = by_command p.0 p.1 (line_taken before line p small is) e
  where
    by_command : (c : Option Command) (after : Option World) → LineFact before line c after → with_front (numbered number c) (read_lines after (number + 1) others) ≡ Ok found → LinesFact before number (line ∷ others) found
    by_command None after fact e =
        let same : read_lines before (number + 1) others ≡ Ok found = subst (λ (b : Option World). read_lines b (number + 1) others ≡ Ok found) fact.1 (front_nothing (read_lines after (number + 1) others) found e) in
        let rest = more before found small same in
        (inl (fact.0, rest.0), rest.1)
    by_command (Some c) after fact e =
        let a = front_one (record { number = number; command = c }) (read_lines after (number + 1) others) found e in
        let read : read_lines (Some fact.0) (number + 1) others ≡ Ok a.0 = subst (λ (b : Option World). read_lines b (number + 1) others ≡ Ok a.0) fact.1 a.1 in
        let rest = more (Some fact.0) a.0 (after_bounded before c fact.0 small fact.4 fact.2) read in
        subst (λ (cs : Found). LinesFact before number (line ∷ others) cs) a.2 (inr (refl, fact.3, rest.0), (fact.0, fact.2, fact.4, rest.1))

lines_taken : (ls : List (List ℕ)) (before : Option World) (number : ℕ) (found : Found) → Bounded before → read_lines before number ls ≡ Ok found → LinesFact before number ls found
unfolding read_lines
lines_taken [] before number found small e = end_taken before number found (is_whole before) refl e
lines_taken (line ∷ others) before number found small e = line_step before number line others found (line_of before line) small refl (λ after later fits read. lines_taken others after (number + 1) later fits read) e

not_empty : (first : NumberedCommand) (later : Found) → first ∷ later ≡ [] → ⊥
not_empty first later e = cc

lines_again : (ls : List (List ℕ)) (before : Option World) (number : ℕ) (found : Found) → Bounded before → SpellLines number ls found → Follow before (commands_of found) → read_lines before number ls ≡ Ok found
unfolding read_lines
lines_again [] before number [] small spelled follows = ap (λ (t : Bool). cond t (done []) (Err (faults.Line number))) follows
lines_again [] before number (first ∷ later) small spelled follows = absurd (not_empty first later spelled)
lines_again (line ∷ others) before number found small (inl skipped) follows =
    ap (λ (o : Option (Option Command × Option World)). and_then number o (λ after. read_lines after (number + 1) others)) (skipped_again before line skipped.0)
    ∙ ap (with_front []) (lines_again others before (number + 1) found small skipped.1 follows)
lines_again (line ∷ others) before number [] small (inr spelled) follows = absurd spelled
lines_again (line ∷ others) before number (first ∷ later) small (inr spelled) follows =
    let after = follows.0 in
    let step = spelled_again before line first.command after small spelled.1 follows.2 follows.1 in
    let rest = lines_again others (Some after) (number + 1) later (after_bounded before first.command after small follows.2 follows.1) spelled.2 follows.3 in
    ap (λ (o : Option (Option Command × Option World)). and_then number o (λ after. read_lines after (number + 1) others)) step
    ∙ ap (with_front (record { number = number; command = first.command } ∷ [])) rest
    ∙ ap (λ (k : ℕ). done (record { number = k; command = first.command } ∷ later)) (sym spelled.0)

-- ---- the bytes

script_taken : (bytes : List ℕ) (found : Found) → script_of bytes ≡ Ok found → IsScriptOf bytes found
unfolding script_of
script_taken bytes found e = go (ltb 65536 (length (lines bytes))) refl e
  where
    go : (t : Bool) → ltb 65536 (length (lines bytes)) ≡ t → cond t (Err faults.TooManyLines) (read_lines None 1 (lines bytes)) ≡ Ok found → IsScriptOf bytes found
    go true many e = absurd (failed faults.TooManyLines found e)
    go false few e = let fact = lines_taken (lines bytes) None 1 found (omega arith, omega arith) e in record { few = ltb-false _ _ few; spelled = fact.0; ordered = follow_taken (commands_of found) fact.1 }

pub script_again : (bytes : List ℕ) (found : Found) → IsScriptOf bytes found → script_of bytes ≡ Ok found
unfolding script_of
script_again bytes found is =
    let few : ltb 65536 (length (lines bytes)) ≡ false = le-ltb _ _ is.few in
    ap (λ (t : Bool). cond t (Err faults.TooManyLines) (read_lines None 1 (lines bytes))) few
    ∙ lines_again (lines bytes) None 1 found (omega arith, omega arith) is.spelled (script_follows (commands_of found) is.ordered)

pub is_found : (bytes : List ℕ) (r : Result Found ScriptFault) → Gives (λ script. script) r (script_of bytes) → IfOk r (λ found. IsScriptOf bytes found)
is_found bytes (Ok found) given = script_taken bytes found given
is_found bytes (Err fault) given = tt

-- Reading lines one after the other, as a loop does.
use Rattle.std.proofs.Common.{◌≡◌, ℕ, ◌+◌, true, false, List, [], ◌∷◌, ◌++◌, Option, Some, None, Result, Ok, Err, refl, sym, ap, ◌∙◌, append_assoc, append-nil}
use Rattle.rc_script.specs.declared.command.Command.{Command}
use Rattle.rc_script.specs.declared.script.NumberedCommand.{NumberedCommand}
use Rattle.rc_script.specs.declared.fault.ScriptFault.{ScriptFault}
use Rattle.rc_script.specs.declared.fault.ScriptFault.TheVariants as faults
use Rattle.rc_script.specs.Stages.{World, is_whole}
use Rattle.rc_script.specs.Reading.{line_of, numbered, with_front, read_lines}

regroup : (front more : List NumberedCommand) (read : Result (List NumberedCommand) ScriptFault) → with_front front (with_front more read) ≡ with_front (front ++ more) read
regroup front more (Ok commands) = ap (λ (cs : List NumberedCommand). Ok cs) (simp append_assoc)
regroup front more (Err fault) = refl

pub goes_on : (front : List NumberedCommand) (before : Option World) (number : ℕ) (line : List ℕ) (others : List (List ℕ)) (command : Option Command) (after : Option World) (total : Result (List NumberedCommand) ScriptFault)
    → line_of before line ≡ Some (command, after)
    → with_front front (read_lines before number (line ∷ others)) ≡ total → with_front (front ++ numbered number command) (read_lines after (number + 1) others) ≡ total
unfolding read_lines
goes_on front before number line others command after total read so_far =
    let one : with_front front (read_lines before number (line ∷ others)) ≡ with_front (front ++ numbered number command) (read_lines after (number + 1) others) = rw read (regroup front (numbered number command) (read_lines after (number + 1) others)) in
    sym one ∙ so_far

pub ends : (front : List NumberedCommand) (before : Option World) (number : ℕ) (line : List ℕ) (others : List (List ℕ)) (total : Result (List NumberedCommand) ScriptFault)
    → line_of before line ≡ None
    → with_front front (read_lines before number (line ∷ others)) ≡ total → total ≡ Err (faults.Line number)
unfolding read_lines
ends front before number line others total read so_far =
    let one : with_front front (read_lines before number (line ∷ others)) ≡ Err (faults.Line number) = rw read refl in
    sym so_far ∙ one

pub is_done : (front : List NumberedCommand) (before : Option World) (number : ℕ) (total : Result (List NumberedCommand) ScriptFault)
    → is_whole before ≡ true
    → with_front front (read_lines before number []) ≡ total → total ≡ Ok front
unfolding read_lines
is_done front before number total whole so_far =
    let one : with_front front (read_lines before number []) ≡ Ok front = rw whole (ap (λ (cs : List NumberedCommand). Ok cs) (append-nil front)) in
    sym so_far ∙ one

pub is_cut : (front : List NumberedCommand) (before : Option World) (number : ℕ) (total : Result (List NumberedCommand) ScriptFault)
    → is_whole before ≡ false
    → with_front front (read_lines before number []) ≡ total → total ≡ Err (faults.Line number)
unfolding read_lines
is_cut front before number total missing so_far =
    let one : with_front front (read_lines before number []) ≡ Err (faults.Line number) = rw missing refl in
    sym so_far ∙ one

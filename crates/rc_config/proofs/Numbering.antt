-- Commands with the numbers of their lines.
use Rattle.std.proofs.Common.{◌≡◌, ℕ, ◌+◌, List, [], ◌∷◌, ◌++◌, length, refl, ap, ◌∙◌, sym, arith}
use Rattle.rc_script.specs.declared.command.Command.{Command}
use Rattle.rc_script.specs.declared.script.NumberedCommand.{NumberedCommand}
use Rattle.rc_script.specs.Grammar.{commands_of}
use Rattle.rc_config.specs.Generator.{numbered_from}

-- numbered lines have the commands that were numbered
pub commands_numbered : (n : ℕ) (cs : List Command) → commands_of (numbered_from n cs) ≡ cs
commands_numbered n [] = refl
commands_numbered n (c ∷ cs) = ap (λ (xs : List Command). c ∷ xs) (commands_numbered (n + 1) cs)

-- one more command has the next number
numbered_last : (n m : ℕ) (cs : List Command) (last : Command) → m ≡ n + length cs → numbered_from n (cs ++ last ∷ []) ≡ numbered_from n cs ++ record { number = m; command = last } ∷ []
numbered_last n m [] last e =
    let same : n ≡ m = omega arith in
    ap (λ (k : ℕ). let x : NumberedCommand = record { number = k; command = last } in x ∷ []) same
numbered_last n m (c ∷ cs) last e = ap (λ (xs : List NumberedCommand). record { number = n; command = c } ∷ xs) (numbered_last (n + 1) m cs last (omega arith))

commands_last : (xs : List NumberedCommand) (last : NumberedCommand) → commands_of (xs ++ last ∷ []) ≡ commands_of xs ++ last.command ∷ []
commands_last [] last = refl
commands_last (x ∷ xs) last = ap (λ (cs : List Command). x.command ∷ cs) (commands_last xs last)

length_commands : (xs : List NumberedCommand) → length (commands_of xs) ≡ length xs
length_commands [] = refl
length_commands (x ∷ xs) = grind (arith, length_commands xs)

-- numbered lines stay numbered where one more is added
pub numbered_more : (xs : List NumberedCommand) (m : ℕ) (last : Command) → xs ≡ numbered_from 1 (commands_of xs) → m ≡ length xs + 1
    → (let one : NumberedCommand = record { number = m; command = last } in xs ++ one ∷ [] ≡ numbered_from 1 (commands_of (xs ++ one ∷ [])))
numbered_more xs m last whole e =
    let one : NumberedCommand = record { number = m; command = last } in
    ap (λ (ys : List NumberedCommand). ys ++ one ∷ []) whole
    ∙ sym (numbered_last 1 m (commands_of xs) last (omega (arith, length_commands xs)))
    ∙ ap (numbered_from 1) (sym (commands_last xs one))

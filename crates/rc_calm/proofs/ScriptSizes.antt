-- What a script of at most so many bytes has: its lines, and what its commands may add to bodies.
use Rattle.std.proofs.Common.{◌≡◌, ℕ, zero, suc, ◌+◌, ◌-◌, ◌*◌, ◌≤◌, List, [], ◌∷◌, ◌++◌, sym, ap, subst, arith, Bool, true, false, cond, inl, inr}
use Rattle.std.specs.Prelude.{length, take, ◌==◌, if◌then◌else◌, codes, Ok, slice_index}
use Rattle.std.specs.List.{join_with_byte, slice_split, onto_first}
use Rattle.std.specs.Str.Lines.{lines, lines_of_parts, strip_carriage_return}
use Rattle.rc_script.specs.declared.command.Command.{Command}
use Rattle.rc_script.specs.declared.command.Command.TheVariants as commands
use Rattle.rc_script.specs.declared.script.NumberedCommand.{NumberedCommand}
use Rattle.rc_script.specs.Spelling.{tx_name, spelling, IsShortWrite, Spells}
use Rattle.rc_script.specs.Grammar.{SpellLines}
use Rattle.rc_script.specs.Reading.{script_of}
use Rattle.rc_script.proofs.Scripts.{is_found}
use Rattle.rc_calm_batches.proofs.ReadDrains.{length_both}
use Rattle.rc_calm.proofs.Needs.{weight_in, weights}

-- BYTES OF LISTS OF LISTS
abbrev total : List (List ℕ) → ℕ
total [] = 0
total (x ∷ xs) = length x + total xs

onto_total : (x : ℕ) (ps : List (List ℕ)) → total (onto_first x ps) ≤ suc (total ps)
onto_total x [] = omega arith
onto_total x (p ∷ ps) = omega arith

split_total : (p : ℕ → Bool) (xs : List ℕ) → total (slice_split p xs) ≤ length xs
split_total p [] = omega arith
split_total p (x ∷ xs) = go (p x) (split_total p xs)
  where
    go : (v : Bool) → total (slice_split p xs) ≤ length xs → total (cond v ([] ∷ slice_split p xs) (onto_first x (slice_split p xs))) ≤ suc (length xs)
    go true h = omega (arith, h)
    go false h = let o = onto_total x (slice_split p xs) in omega (arith, h, o)

take_low : (n : ℕ) (xs : List ℕ) → length (take n xs) ≤ length xs
take_low zero xs = omega arith
take_low (suc n) [] = omega arith
take_low (suc n) (x ∷ xs) = let h = take_low n xs in omega (arith, h)

strip_low : (l : List ℕ) → length (strip_carriage_return l) ≤ length l
strip_low l = go (slice_index l (length l - 1) == 13)
  where
    go : (v : Bool) → length (if v then take (length l - 1) l else l) ≤ length l
    go true = take_low (length l - 1) l
    go false = omega arith

parts_total : (ps : List (List ℕ)) → total (lines_of_parts ps) ≤ total ps
parts_total [] = omega arith
parts_total (x ∷ []) = go (length x == 0)
  where
    go : (v : Bool) → total (if v then [] else x ∷ []) ≤ length x + 0
    go true = omega arith
    go false = omega arith
parts_total (x ∷ y ∷ more) = let h = parts_total (y ∷ more) in let s = strip_low x in omega (arith, h, s)

lines_total : (bytes : List ℕ) → total (lines bytes) ≤ length bytes
lines_total bytes = let a = parts_total (slice_split (λ b. b == 10) bytes) in let b = split_total (λ b. b == 10) bytes in omega (arith, a, b)

-- THE COMMAND OF A LINE
last_of_three : (a b c : List ℕ) → length c ≤ length (join_with_byte 32 (a ∷ b ∷ c ∷ []))
last_of_three a b c = let l = length_both a (32 ∷ (b ++ (32 ∷ c))) in let k = length_both b (32 ∷ c) in omega (arith, l, k)

last_of_four : (a b c d : List ℕ) → length c + length d ≤ length (join_with_byte 32 (a ∷ b ∷ c ∷ d ∷ []))
last_of_four a b c d = let l = length_both a (32 ∷ (b ++ (32 ∷ (c ++ (32 ∷ d))))) in let k = length_both b (32 ∷ (c ++ (32 ∷ d))) in let m = length_both c (32 ∷ d) in omega (arith, l, k, m)

spelled_weight : (cmd : Command) → weight_in cmd ≤ 13 + length (spelling cmd)
spelled_weight (commands.Read t k) = let l = last_of_three (codes "read") (tx_name t) k in omega (arith, l)
spelled_weight (commands.Write t k value) = let l = last_of_four (codes "write") (tx_name t) k value in omega (arith, l)
spelled_weight (commands.Delete t k) = let l = last_of_three (codes "delete") (tx_name t) k in omega (arith, l)
spelled_weight _ = omega arith

short_weight : (line : List ℕ) (cmd : Command) → IsShortWrite line cmd → weight_in cmd ≤ 13 + length line
short_weight line (commands.Write t k value) h =
    let l = last_of_three (codes "write") (tx_name t) k in
    let e : length line ≡ length (join_with_byte 32 (codes "write" ∷ tx_name t ∷ k ∷ [])) = ap length h.1 in
    let v : length value ≡ 0 = ap length h.0 in
    omega (arith, l, e, v)
short_weight line _ h = absurd h

line_weight : (line : List ℕ) (cmd : Command) → Spells line cmd → weight_in cmd ≤ 13 + length line
line_weight line cmd (inl e) = let w = spelled_weight cmd in let k : length line ≡ length (spelling cmd) = ap length e in omega (arith, w, k)
line_weight line cmd (inr h) = short_weight line cmd h

-- ALL LINES
pub record Fewer (ls : List (List ℕ)) (found : List NumberedCommand) : Type 0 where
  pub number : length found ≤ length ls
  pub weight : weights found ≤ 13 * length ls + total ls

lines_hold : (number : ℕ) (ls : List (List ℕ)) (found : List NumberedCommand) → SpellLines number ls found → Fewer ls found
lines_hold number [] found h = subst (Fewer []) (sym h) (record { number = omega arith; weight = omega arith })
lines_hold number (line ∷ ls) found (inl h) = let more = lines_hold (number + 1) ls found h.1 in let a = more.number in let b = more.weight in record { number = omega (arith, a); weight = omega (arith, b) }
lines_hold number (line ∷ ls) [] (inr h) = absurd h
lines_hold number (line ∷ ls) (first ∷ later) (inr h) =
    let more = lines_hold (number + 1) ls later h.2 in
    let a = more.number in
    let b = more.weight in
    let w = line_weight line first.command h.1 in
    record { number = omega (arith, a); weight = omega (arith, b, w) }

-- A SCRIPT
pub record ScriptSize (bytes : List ℕ) (found : List NumberedCommand) : Type 0 where
  pub number : length found ≤ 65536
  pub weight : weights found ≤ 851968 + length bytes

pub script_size : (bytes : List ℕ) (found : List NumberedCommand) → script_of bytes ≡ Ok found → ScriptSize bytes found
script_size bytes found script =
    let is = is_found bytes (Ok found) script in
    let h = lines_hold 1 (lines bytes) found is.spelled in
    let a = h.number in
    let b = h.weight in
    let few = is.few in
    let t = lines_total bytes in
    record { number = omega (arith, a, few); weight = omega (arith, b, few, t) }

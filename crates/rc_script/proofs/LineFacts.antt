-- The lines of bytes, one after the other.
use Rattle.std.proofs.Common.{◌≡◌, ℕ, suc, ◌+◌, ◌<◌, ◌==◌, eqb, false, List, [], ◌∷◌, length, drop, Option, Some, None, refl, sym, ap, ◌∙◌, arith}
use Rattle.std.specs.Str.Lines.{lines, lines_of_parts, strip_carriage_return}
use Rattle.std.specs.List.{slice_split}
use Rattle.std.specs.Prelude.{position}
use Rattle.std.proofs.lemmas.Option.{none-some}
use Rattle.rc_script.specs.Words.{cut, cut_at}
use Rattle.rc_script.proofs.Cuts.{parts, slice_split-cut}

cut_at_none : (text line : List ℕ) (at : Option ℕ) → (line, None) ≡ cut_at text at → line ≡ text
cut_at_none text line None e = ap (λ (p : List ℕ × Option (List ℕ)). p.0) e
cut_at_none text line (Some i) e = absurd (none-some (drop (i + 1) text) (ap (λ (p : List ℕ × Option (List ℕ)). p.1) e))

pub cut_none : (byte : ℕ) (text line : List ℕ) → (line, None) ≡ cut byte text → line ≡ text
cut_none byte text line e = cut_at_none text line (position (λ b. b == byte) text) e

whole_line : (line : List ℕ) → 0 < length line → lines_of_parts (line ∷ []) ≡ line ∷ []
whole_line [] some = absurd (omega arith)
whole_line (b ∷ bs) some = let full : eqb (suc (length bs)) 0 ≡ false = grind arith in rw full refl

pub line_last : (bytes line : List ℕ) → 0 < length bytes → (line, None) ≡ cut 10 bytes → lines bytes ≡ line ∷ []
line_last bytes line some e =
    let same = cut_none 10 bytes line e in
    let split : slice_split (λ b. b == 10) bytes ≡ line ∷ [] = slice_split-cut 10 bytes ∙ ap (λ (p : List ℕ × Option (List ℕ)). p.0 ∷ parts 10 p.1) (sym e) in
    rw split (whole_line line (rw same some))

pub line_more : (bytes line rest : List ℕ) → (line, Some rest) ≡ cut 10 bytes → lines bytes ≡ strip_carriage_return line ∷ lines rest
line_more bytes line rest e =
    let split : slice_split (λ b. b == 10) bytes ≡ line ∷ slice_split (λ b. b == 10) rest = slice_split-cut 10 bytes ∙ ap (λ (p : List ℕ × Option (List ℕ)). p.0 ∷ parts 10 p.1) (sym e) in
    rw (split, slice_split-cut 10 rest) refl

-- Marks of messages.
use Rattle.std.proofs.Common.{◌≡◌, ℕ, zero, suc, ◌<◌, Bool, List, [], ◌∷◌, length, get_or, slice_set, ap, arith}
use Rattle.rc_ids.specs.declared.sends.Letter.{Letter}
use Rattle.rc_ids.specs.Letters.{with_mark, marked_at}

pub set-marked : (ls : List Letter) (i : ℕ) (x : Letter) (mark : Bool) → x ≡ get_or ls i x → i < length ls → slice_set ls i (with_mark x mark) ≡ marked_at ls i mark
set-marked [] i x mark is h = absurd (omega arith)
set-marked (l ∷ ls) zero x mark is h = ap (λ (y : Letter). with_mark y mark ∷ ls) is
set-marked (l ∷ ls) (suc i) x mark is h = let h' : i < length ls = omega arith in ap (λ (ys : List Letter). l ∷ ys) (set-marked ls i x mark is h')

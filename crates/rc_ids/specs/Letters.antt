-- Messages to be sent.
use Rattle.std.specs.Prelude.{ℕ, zero, suc, Bool, List, [], ◌∷◌}
use Rattle.rc_ids.specs.declared.sends.Letter.{Letter}

abbrev pub with_mark : Letter → Bool → Letter
with_mark l mark = record { to = l.to; bytes = l.bytes; mark = mark }

-- the messages, with this mark at the message in a place, counted from 0
abbrev pub marked_at : List Letter → ℕ → Bool → List Letter
marked_at [] place mark = []
marked_at (l ∷ ls) zero mark = with_mark l mark ∷ ls
marked_at (l ∷ ls) (suc place) mark = l ∷ marked_at ls place mark

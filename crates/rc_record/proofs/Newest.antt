-- The last head of a log.
use Rattle.std.proofs.Common.{◌≡◌, ℕ, zero, suc, ◌+◌, ◌<◌, Bool, true, false, is_some, List, [], ◌∷◌, length, get_or, drop, drop-cons, Option, None, Some, refl, sym, ap, ◌∙◌, add-one, arith}
use Rattle.rc_ids.specs.Tables.{maybe}
use Rattle.rc_record.specs.Heads.{LogHead}
use Rattle.rc_record.specs.Replay.{head_in, newest_head}

-- a head of the end of a log is the last of the log
newest-drop : (log : List (List ℕ)) (k : ℕ) (h : LogHead) → newest_head (drop k log) ≡ Some h → newest_head log ≡ Some h
newest-drop [] zero h e = e
newest-drop [] (suc k) h e = e
newest-drop (x ∷ log) zero h e = e
newest-drop (x ∷ log) (suc k) h e = ap (λ (o : Option LogHead). maybe o (head_in x) Some) (newest-drop log k h e)

found_here : (log : List (List ℕ)) (k : ℕ) (found : Option LogHead) → is_some found ≡ true → newest_head (drop k log) ≡ found → found ≡ newest_head log
found_here log k (Some h) there e = sym (newest-drop log k h e)
found_here log k None there e = absurd cc

-- where no head stands behind it, a head is the last
pub newest_here : (log : List (List ℕ)) (k n : ℕ) (x : List ℕ) (found : Option LogHead) → k < length log → n ≡ k + 1 → x ≡ get_or log k x
    → newest_head (drop n log) ≡ None → found ≡ head_in x → is_some found ≡ true → found ≡ newest_head log
newest_here log k n x found lt next at none is there =
    let rest : newest_head (drop (suc k) log) ≡ None = rw (← add-one k, ← next) none in
    found_here log k found there
    (ap newest_head (drop-cons log k x lt) ∙ ap (λ (y : List ℕ). newest_head (y ∷ drop (suc k) log)) (sym at)
    ∙ ap (λ (o : Option LogHead). maybe o (head_in x) Some) rest ∙ sym is)

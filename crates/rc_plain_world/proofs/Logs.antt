-- Records that logs keep.
use Rattle.std.proofs.Common.{◌≡◌, ℕ, ◌<◌, ◌≤◌, List, [], ◌∷◌, ◌++◌, length, Option, None, Some, refl, sym, ap, arith, length-append, subst}
use Rattle.std.specs.Prelude.{slice_get}
use Rattle.rc_record.specs.declared.record.Record.{Record}
use Rattle.rc_protocol.specs.Nodes.{logged}

slice_get-end : (log : List Record) (r : Record) → slice_get (log ++ r ∷ []) (length log) ≡ Some r
slice_get-end [] r = refl
slice_get-end (x ∷ log) r = slice_get-end log r

pub log_grew : (old new : List Record) (left : Option Record) (r : Record) (before : ℕ) → new ≡ logged old left → length old ≡ before → before < length new → slice_get new before ≡ Some r → left ≡ Some r
log_grew old new None r before is len longer at = absurd (omega (arith, ap length is))
log_grew old new (Some q) r before is len longer at =
    let end : slice_get new before ≡ Some q = subst (λ (n : ℕ). slice_get new n ≡ Some q) len (subst (λ (log : List Record). slice_get log (length old) ≡ Some q) (sym is) (slice_get-end old q)) in
    cc

pub log_stayed : (old new : List Record) (left : Option Record) (before : ℕ) → new ≡ logged old left → length old ≡ before → length new ≤ before → left ≡ None
log_stayed old new None before is len shorter = refl
log_stayed old new (Some r) before is len shorter = absurd (omega (arith, ap length is, length-append old (r ∷ [])))

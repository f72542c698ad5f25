use Rattle.std.proofs.Common.{◌≡◌, ℕ, List, is_some, sym, ap, ◌∙◌}
use Rattle.std.specs.List.{slice_get}
use Rattle.rc_body.specs.Bodies.{has_key, writes}
use Rattle.rc_protocol.specs.Shard.{holder, reader}
use Rattle.rc_locks.specs.Cells.{locked_by}
use Rattle.rc_locks.proofs.PartFacts.{first_kept}
use Rattle.rc_locks.proofs.checks.locked_key.Goals as goal

pub returns : goal.returns
returns c parts e indexed same written =
    let k : List ℕ = c.args.key.now in
    let first : c.holder.result ≡ holder parts k = c.holder.ensures ∙ ap (λ (xs : List ℕ). slice_get xs 0) (indexed k).0 ∙ sym (first_kept (writes k) parts) in
    let second : c.reader.result ≡ reader parts k = c.reader.ensures ∙ ap (λ (xs : List ℕ). slice_get xs 0) (indexed k).1 ∙ sym (first_kept (has_key k) parts) in
    c.reason_of.ensures
    ∙ (λ i. locked_by (first i) (second i) k (sym written i))
    ∙ (λ i. locked_by (holder parts (sym same i)) (reader parts (sym same i)) (sym same i) (is_some e.write))

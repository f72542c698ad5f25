use Rattle.std.proofs.Common.{◌≡◌, nat_lt, length, false, sym, ap, ◌∙◌, arith}
use Rattle.rc_ids.specs.Texts.{same_key}
use Rattle.rc_body.specs.Rows.{Row}
use Rattle.rc_versions.proofs.RowFacts.{held_in, held_past}
use Rattle.rc_versions.proofs.places.has_at.Goals as goal

pub returns-then-place-rows : goal.returns-then-place-rows
returns-then-place-rows c =
    c.eq.ensures ∙ ap (λ (r : Row). same_key r.0 c.args.key.now) (sym c.index-rows-place.is)
    ∙ sym (held_in c.args.key.now c.args.rows.now c.args.place c.index-rows-place.result c.if-place-rows.true c.index-rows-place.is)

pub returns-else-place-rows : goal.returns-else-place-rows
returns-else-place-rows c =
    let past : nat_lt c.args.place (length c.args.rows.now) ≡ false = let le = c.if-place-rows.false in grind arith in
    past ∙ sym (held_past c.args.key.now c.args.rows.now c.args.place c.if-place-rows.false)

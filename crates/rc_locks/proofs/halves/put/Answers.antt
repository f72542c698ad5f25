use Rattle.std.proofs.Common.{ℕ, Bool, List, insert, ap, ◌∙◌, if◌then◌else◌}
use Rattle.std.specs.Ordering.{nat_cmp, is_le}
use Rattle.rc_body.specs.declared.entry.Entry.{Entry}
use Rattle.rc_locks.specs.Places.{place_where}
use Rattle.rc_locks.proofs.PlaceFacts.{put_insert}
use Rattle.rc_locks.proofs.halves.put.Goals as goal

pub returns : goal.returns
returns c =
    let parts : List (ℕ × List Entry) = c.args.parts.now.items in
    let given : ℕ × List Entry = (c.args.tx, c.args.part) in
    c.insert-placed.ensures.items
    ∙ ap (λ (b : Bool). if b then insert parts c.place_of-place.result given else parts) (c.insert-placed.ensures.succeeds c.requires.room)
    ∙ ap (λ (i : ℕ). insert parts i given)
    (c.place_of-place.ensures.place ∙ ap (place_where (λ (p : ℕ × List Entry). is_le (nat_cmp c.args.tx p.0))) c.deref.ensures.value)
    ∙ put_insert c.args.tx c.args.part parts c.requires.absent

use Rattle.std.proofs.Common.{Bool, List, insert, ap, ◌∙◌, if◌then◌else◌}
use Rattle.rc_protocol.specs.Shard.{Mark}
use Rattle.rc_locks.proofs.PlaceFacts.{add_there, add_insert}
use Rattle.rc_locks.proofs.marks.add.Goals as goal

pub returns-then-is_at-clause-items : goal.returns-then-is_at-clause-items
returns-then-is_at-clause-items c =
    add_there c.args.marks.now.items c.deref.result.now c.deref-2.result.now c.args.mark c.place_of-place.result c.is_at.result
    c.deref.ensures.value c.deref-2.ensures.value c.place_of-place.ensures.place c.is_at.ensures c.if-is_at.true

pub returns-clause-items : goal.returns-clause-items
returns-clause-items c =
    let marks : List Mark = c.args.marks.now.items in
    c.insert-placed.ensures.items
    ∙ ap (λ (b : Bool). if b then insert marks c.place_of-place.result c.args.mark else marks) (c.insert-placed.ensures.succeeds c.requires)
    ∙ add_insert marks c.deref.result.now c.deref-2.result.now c.args.mark c.place_of-place.result c.is_at.result
    c.deref.ensures.value c.deref-2.ensures.value c.place_of-place.ensures.place c.is_at.ensures c.if-is_at.false

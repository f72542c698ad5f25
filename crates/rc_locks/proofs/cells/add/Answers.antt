use Rattle.std.proofs.Common.{◌≤◌, ℕ, Bool, List, insert, length, ap, ◌∙◌, if◌then◌else◌, arith}
use Rattle.rc_locks.proofs.CellFacts.{add_there, add_insert, room_is, room_after}
use Rattle.rc_locks.proofs.cells.add.Goals as goal

pub returns-then-is_at-clause-items : goal.returns-then-is_at-clause-items
returns-then-is_at-clause-items c =
    add_there c.args.list.now.items c.deref.result.now c.deref-2.result.now c.args.tx c.place_of-place.result c.is_at.result
    c.deref.ensures.value c.deref-2.ensures.value c.place_of-place.ensures.place c.is_at.ensures c.if-is_at.true

pub returns-clause-items : goal.returns-clause-items
returns-clause-items c =
    let list : List ℕ = c.args.list.now.items in
    let placed =
    add_insert list c.deref.result.now c.deref-2.result.now c.args.tx c.place_of-place.result c.is_at.result
    c.deref.ensures.value c.deref-2.ensures.value c.place_of-place.ensures.place c.is_at.ensures c.if-is_at.false in
    let few : c.place_of-place.result ≤ length list = let within = c.place_of-place.ensures.few in let long = ap length c.deref.ensures.value in omega (arith, within, long) in
    c.insert-placed.ensures.items
    ∙ ap (λ (b : Bool). if b then insert list c.place_of-place.result c.args.tx else list)
    (c.insert-placed.ensures.succeeds (room_is c.args.tx c.place_of-place.result c.args.list.now c.requires placed few))
    ∙ placed

pub returns-clause-room : goal.returns-clause-room
returns-clause-room c = room_after c.args.tx c.insert-placed.new.self c.args.list.now.items (returns-clause-items c)

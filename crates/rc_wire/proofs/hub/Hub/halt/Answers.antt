use Rattle.std.proofs.Common.{◌≡◌, false, get_or, ◌++◌, length, sym, ap, ◌∙◌, subst, arith, refl, List}
use Rattle.std.proofs.lemmas.List.{with_items_is}
use Rattle.std.specs.Prelude.{vec_len, vec_capacity}
use Rattle.rc_wire.specs.declared.standing.Desk.{Desk}
use Rattle.rc_wire.specs.declared.standing.Standing.{Standing}
use Rattle.rc_wire.specs.declared.turn.Act.TheVariants.{Halted}
use Rattle.rc_wire.specs.Standings.{stood, noted}
use Rattle.rc_wire.specs.Chronicle.{IsHub}
use Rattle.rc_wire.proofs.Hubs.{place_in, hub_after, view_after, of_desk, halt_uses, some_room, room_used, no_desk, stood_length}
use Rattle.rc_wire.proofs.hub.Hub.halt.Goals as goal

pub note-requires-clause-room : goal.note-requires-clause-room
note-requires-clause-room c =
    let f = c.self.inside in
    let halted = of_desk (λ (s : Standing). s.halted ≡ false) f.rules f.desks.items f.turns.items c.args.self.now c.args.place c.self.view_is c.self.invariant.desks_are c.requires.place c.requires.first in
    some_room f.desks.items c.args.place (vec_len f.turns) (vec_capacity f.turns) (Halted c.args.cause) (place_in f.rules f.desks.items f.turns.items c.args.self.now c.args.place c.self.view_is c.requires.place)
    (halt_uses (get_or f.desks.items c.args.place no_desk).standing c.args.cause halted) c.self.invariant.room

pub invariant_of-self : goal.invariant_of-self
invariant_of-self c =
    let f = c.self.inside in
    let k = c.args.place in
    let act = Halted c.args.cause in
    let here = place_in f.rules f.desks.items f.turns.items c.args.self.now k c.self.view_is c.requires.place in
    let halted = of_desk (λ (s : Standing). s.halted ≡ false) f.rules f.desks.items f.turns.items c.args.self.now k c.self.view_is c.self.invariant.desks_are c.requires.place c.requires.first in
    let e = c.note.ensures.desks ∙ ap (λ (ds : List Desk). stood ds k act) c.deref_mut.ensures.value in
    let t = c.note.ensures.turns ∙ ap (λ (ds : List Desk). f.turns.items ++ noted ds k act) c.deref_mut.ensures.value in
    let same = with_items_is f.desks c.note.new.desks (let a = ap length e in let b = stood_length f.desks.items k act in omega arith) in
    subst (λ (ds : List Desk). IsHub f.rules f.net f.again.items ds c.note.new.turns.items (vec_len c.note.new.turns) (vec_capacity c.note.new.turns)) (sym same)
    (hub_after f.rules f.net f.net f.again.items f.again.items f.desks.items c.note.new.desks f.turns.items c.note.new.turns.items (vec_len f.turns) (vec_len c.note.new.turns) (vec_capacity f.turns) (vec_capacity c.note.new.turns) k act
    c.self.invariant here e t c.note.ensures.len refl
    (let r = room_used f.desks.items k (vec_len f.turns) (vec_capacity f.turns) act no_desk here (halt_uses (get_or f.desks.items c.args.place no_desk).standing c.args.cause halted) c.self.invariant.room in let q = c.note.ensures.capacity in omega arith))

pub returns : goal.returns
returns c p at =
    let f = c.self.inside in
    let k = c.args.place in
    let act = Halted c.args.cause in
    let e = c.note.ensures.desks ∙ ap (λ (ds : List Desk). stood ds k act) c.deref_mut.ensures.value in
    let t = c.note.ensures.turns ∙ ap (λ (ds : List Desk). f.turns.items ++ noted ds k act) c.deref_mut.ensures.value in
    let same = with_items_is f.desks c.note.new.desks (let a = ap length e in let b = stood_length f.desks.items k act in omega arith) in
    view_after f.rules f.desks.items _ f.turns.items c.note.new.turns.items c.args.self.now k act p c.self.view_is c.requires.place (same ∙ e) t at

use Rattle.std.proofs.Common.{◌≡◌, true, false, not, ◌&&◌, get_or, cond, ◌++◌, length, sym, ap, ◌∙◌, subst, arith, refl, List}
use Rattle.std.proofs.lemmas.List.{with_items_is}
use Rattle.std.specs.Prelude.{vec_len, vec_capacity}
use Rattle.rc_wire.specs.declared.standing.Desk.{Desk}
use Rattle.rc_wire.specs.declared.standing.Standing.{Standing}
use Rattle.rc_wire.specs.declared.turn.Act.TheVariants.{Rested}
use Rattle.rc_wire.specs.Standings.{by, standing, stood, noted}
use Rattle.rc_wire.specs.Chronicle.{IsHub, more}
use Rattle.rc_wire.proofs.Hubs.{place_in, hub_after, view_after, of_desk, rest_uses, some_room, room_used, no_desk, stood_length, any_default, standing_at}
use Rattle.rc_wire.proofs.hub.Hub.rest.Goals as goal

pub note-requires-clause-room : goal.note-requires-clause-room
note-requires-clause-room c =
    let f = c.self.inside in
    let changes : not c.args.ended && (get_or f.desks.items c.args.place no_desk).standing.waiting ≡ false
    = ap (λ (d : Desk). not c.args.ended && d.standing.waiting) (any_default f.desks.items c.args.place no_desk c.index.result.now (place_in f.rules f.desks.items f.turns.items c.args.self.now c.args.place c.self.view_is c.requires.place) ∙ sym c.index.ensures) ∙ sym c.is_at_rest.ensures ∙ c.if-is_at_rest.false in
    let open_still = of_desk (λ (s : Standing). s.ended ≡ false) f.rules f.desks.items f.turns.items c.args.self.now c.args.place c.self.view_is c.self.invariant.desks_are c.requires.place c.requires.not_ended in
    some_room f.desks.items c.args.place (vec_len f.turns) (vec_capacity f.turns) (Rested c.args.ended) (place_in f.rules f.desks.items f.turns.items c.args.self.now c.args.place c.self.view_is c.requires.place)
    (rest_uses (get_or f.desks.items c.args.place no_desk).standing c.args.ended open_still changes) c.self.invariant.room

pub invariant_of-self : goal.invariant_of-self
invariant_of-self c =
    let f = c.self.inside in
    let k = c.args.place in
    let act = Rested c.args.ended in
    let here = place_in f.rules f.desks.items f.turns.items c.args.self.now k c.self.view_is c.requires.place in
    let changes : not c.args.ended && (get_or f.desks.items c.args.place no_desk).standing.waiting ≡ false
    = ap (λ (d : Desk). not c.args.ended && d.standing.waiting) (any_default f.desks.items c.args.place no_desk c.index.result.now (place_in f.rules f.desks.items f.turns.items c.args.self.now c.args.place c.self.view_is c.requires.place) ∙ sym c.index.ensures) ∙ sym c.is_at_rest.ensures ∙ c.if-is_at_rest.false in
    let open_still = of_desk (λ (s : Standing). s.ended ≡ false) f.rules f.desks.items f.turns.items c.args.self.now k c.self.view_is c.self.invariant.desks_are c.requires.place c.requires.not_ended in
    let e = c.note.ensures.desks ∙ ap (λ (ds : List Desk). stood ds k act) c.deref_mut.ensures.value in
    let t = c.note.ensures.turns ∙ ap (λ (ds : List Desk). f.turns.items ++ noted ds k act) c.deref_mut.ensures.value in
    let same = with_items_is f.desks c.note.new.desks (let a = ap length e in let b = stood_length f.desks.items k act in omega arith) in
    subst (λ (ds : List Desk). IsHub f.rules f.net f.again.items ds c.note.new.turns.items (vec_len c.note.new.turns) (vec_capacity c.note.new.turns)) (sym same)
    (hub_after f.rules f.net f.net f.again.items f.again.items f.desks.items c.note.new.desks f.turns.items c.note.new.turns.items (vec_len f.turns) (vec_len c.note.new.turns) (vec_capacity f.turns) (vec_capacity c.note.new.turns) k act
    c.self.invariant here e t c.note.ensures.len refl
    (let r = room_used f.desks.items k (vec_len f.turns) (vec_capacity f.turns) act no_desk here (rest_uses (get_or f.desks.items c.args.place no_desk).standing c.args.ended open_still changes) c.self.invariant.room in let q = c.note.ensures.capacity in omega arith))

pub returns : goal.returns
returns c p at =
    let f = c.self.inside in
    let k = c.args.place in
    let act = Rested c.args.ended in
    let e = c.note.ensures.desks ∙ ap (λ (ds : List Desk). stood ds k act) c.deref_mut.ensures.value in
    let t = c.note.ensures.turns ∙ ap (λ (ds : List Desk). f.turns.items ++ noted ds k act) c.deref_mut.ensures.value in
    let same = with_items_is f.desks c.note.new.desks (let a = ap length e in let b = stood_length f.desks.items k act in omega arith) in
    let changes : not c.args.ended && (standing (by p c.args.self.now.turns)).waiting ≡ false
    = ap (λ (s : Standing). not c.args.ended && s.waiting) (sym (standing_at f.rules f.desks.items f.turns.items c.args.self.now k p c.self.view_is c.self.invariant.desks_are at)
    ∙ ap (λ (d : Desk). d.standing) (any_default f.desks.items k no_desk c.index.result.now (place_in f.rules f.desks.items f.turns.items c.args.self.now k c.self.view_is c.requires.place) ∙ sym c.index.ensures)) ∙ sym c.is_at_rest.ensures ∙ c.if-is_at_rest.false in
    (view_after f.rules f.desks.items _ f.turns.items c.note.new.turns.items c.args.self.now k act p c.self.view_is c.requires.place (same ∙ e) t at)
    ∙ sym (ap (λ b. cond b c.args.self.now (more c.args.self.now p act)) changes)

pub returns-then-is_at_rest : goal.returns-then-is_at_rest
returns-then-is_at_rest c p at =
    let f = c.self.inside in
    let k = c.args.place in
    let waits : not c.args.ended && (standing (by p c.args.self.now.turns)).waiting ≡ true
    = ap (λ (s : Standing). not c.args.ended && s.waiting) (sym (standing_at f.rules f.desks.items f.turns.items c.args.self.now k p c.self.view_is c.self.invariant.desks_are at)
    ∙ ap (λ (d : Desk). d.standing) (any_default f.desks.items k no_desk c.index.result.now (place_in f.rules f.desks.items f.turns.items c.args.self.now k c.self.view_is c.requires.place) ∙ sym c.index.ensures)) ∙ sym c.is_at_rest.ensures ∙ c.if-is_at_rest.true in
    sym (ap (λ b. cond b c.args.self.now (more c.args.self.now p (Rested c.args.ended))) waits)

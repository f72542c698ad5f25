use Rattle.std.proofs.Common.{◌++◌, length, sym, ap, ◌∙◌, subst, arith, List}
use Rattle.std.proofs.lemmas.List.{with_items_is}
use Rattle.std.specs.Prelude.{vec_len, vec_capacity}
use Rattle.rc_wire.specs.declared.standing.Desk.{Desk}
use Rattle.rc_wire.specs.declared.turn.Act.TheVariants.{Posted}
use Rattle.rc_wire.specs.Standings.{stood, noted}
use Rattle.rc_wire.specs.Traffic.{posted}
use Rattle.rc_wire.specs.Chronicle.{IsHub}
use Rattle.rc_wire.proofs.Hubs.{place_in, hub_after, view_after, room_anew, no_desk, stood_length, any_default}
use Rattle.rc_wire.proofs.hub.Hub.post.Goals as goal

pub invariant_of-self-2 : goal.invariant_of-self-2
invariant_of-self-2 c =
    let f = c.self.inside in
    let k = c.args.place in
    let act = Posted c.args.end c.args.out.now in
    let e = c.note.ensures.desks ∙ (λ j. stood (c.deref_mut.ensures.value j) k (Posted c.args.end (c.in_ok-sends.ensures j))) in
    let t = c.note.ensures.turns ∙ (λ j. c.reserve-2.ensures.items j ++ noted (c.deref_mut.ensures.value j) k (Posted c.args.end (c.in_ok-sends.ensures j))) in
    let same = with_items_is f.desks c.note.new.desks (let a = ap length e in let b = stood_length f.desks.items k act in omega arith) in
    let here = place_in f.rules f.desks.items f.turns.items c.args.self.now k c.self.view_is c.requires in
    let here_party = ap (λ (d : Desk). d.party) (c.index.ensures ∙ any_default f.desks.items k c.index.result.now no_desk here) in
    let sends = c.in_ok-sent.ensures in
    let room = c.in_ok-reserve-2.ensures.ok in
    subst (λ (ds : List Desk). IsHub f.rules c.post.new.net c.post.new.again.items ds c.note.new.turns.items (vec_len c.note.new.turns) (vec_capacity c.note.new.turns)) (sym same)
    (hub_after f.rules f.net c.post.new.net f.again.items c.post.new.again.items f.desks.items c.note.new.desks f.turns.items c.note.new.turns.items (vec_len f.turns) (vec_len c.note.new.turns) (vec_capacity f.turns) (vec_capacity c.note.new.turns) k act
    c.self.invariant here e t (let l = c.reserve-2.ensures.len in let n = c.note.ensures.len in omega arith)
    (c.post.ensures ∙ (λ j. posted f.rules (record { sent = c.room.ensures.sent j; pending = c.room.ensures.pending j; again = c.reserve.ensures.items j }) (here_party j) (sends j)))
    (let r = room_anew f.desks.items k (vec_len f.turns) (vec_capacity c.note.new.turns) act (let q = c.note.ensures.capacity in let l = c.reserve-2.ensures.len in let d = c.len-2.ensures in omega (arith, room)) in r))

pub returns-clause-ok : goal.returns-clause-ok
returns-clause-ok c p at =
    let f = c.self.inside in
    let k = c.args.place in
    let act = Posted c.args.end c.args.out.now in
    let e = c.note.ensures.desks ∙ (λ j. stood (c.deref_mut.ensures.value j) k (Posted c.args.end (c.in_ok-sends.ensures j))) in
    let t = c.note.ensures.turns ∙ (λ j. c.reserve-2.ensures.items j ++ noted (c.deref_mut.ensures.value j) k (Posted c.args.end (c.in_ok-sends.ensures j))) in
    let same = with_items_is f.desks c.note.new.desks (let a = ap length e in let b = stood_length f.desks.items k act in omega arith) in
    view_after f.rules f.desks.items _ f.turns.items c.note.new.turns.items c.args.self.now k act p c.self.view_is c.requires (same ∙ e) t at

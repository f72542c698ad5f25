use Rattle.std.proofs.Common.{◌++◌, length, sym, ap, ◌∙◌, subst, arith, List}
use Rattle.std.proofs.lemmas.List.{with_items_is}
use Rattle.std.specs.Prelude.{vec_len, vec_capacity}
use Rattle.rc_net.specs.Network.{message}
use Rattle.rc_wire.specs.declared.standing.Desk.{Desk}
use Rattle.rc_wire.specs.declared.turn.Act.TheVariants.{Took}
use Rattle.rc_wire.specs.Standings.{stood, noted}
use Rattle.rc_wire.specs.Traffic.{Traffic, traffic}
use Rattle.rc_wire.specs.Wants.{is_for, oldest_for}
use Rattle.rc_wire.specs.Chronicle.{Chronicle, IsHub}
use Rattle.rc_wire.proofs.Hubs.{place_in, hub_after, view_after, room_anew, stood_length, found_passes, is_there, party_here}
use Rattle.rc_wire.proofs.hub.Hub.take.Goals as goal

pub take-requires : goal.take-requires
take-requires c =
    let f = c.self.inside in
    let p = c.index.result.now.party in
    is_there p c.args.want (message f.net.sent c.in-Some.number) (found_passes (λ n. is_for p c.args.want (message f.net.sent n)) f.net.pending c.in-Some.number (sym c.oldest_for.ensures ∙ c.in-Some.is))

pub invariant_of-self-2 : goal.invariant_of-self-2
invariant_of-self-2 c =
    let f = c.self.inside in
    let k = c.args.place in
    let act = Took c.in-Some.number in
    let e = c.note.ensures.desks ∙ ap (λ (ds : List Desk). stood ds k act) c.deref_mut.ensures.value in
    let t = c.note.ensures.turns ∙ (λ j. c.reserve.ensures.items j ++ noted (c.deref_mut.ensures.value j) k act) in
    let same = with_items_is f.desks c.note.new.desks (let a = ap length e in let b = stood_length f.desks.items k act in omega arith) in
    let here = place_in f.rules f.desks.items f.turns.items c.args.self.now k c.self.view_is c.requires in
    let room = c.in-Ok-reserve.ensures.ok in
    subst (λ (ds : List Desk). IsHub f.rules c.take.new.net c.take.new.again.items ds c.note.new.turns.items (vec_len c.note.new.turns) (vec_capacity c.note.new.turns)) (sym same)
    (hub_after f.rules f.net c.take.new.net f.again.items c.take.new.again.items f.desks.items c.note.new.desks f.turns.items c.note.new.turns.items (vec_len f.turns) (vec_len c.note.new.turns) (vec_capacity f.turns) (vec_capacity c.note.new.turns) k act
    c.self.invariant here e t (let l = c.reserve.ensures.len in let n = c.note.ensures.len in omega arith)
    (c.take.ensures.taken)
    (let r = room_anew f.desks.items k (vec_len f.turns) (vec_capacity c.note.new.turns) act (let q = c.note.ensures.capacity in let l = c.reserve.ensures.len in let d = c.len.ensures in omega (arith, room)) in r))

pub returns : goal.returns
returns c p at =
    let f = c.self.inside in
    let k = c.args.place in
    let act = Took c.in-Some.number in
    let e = c.note.ensures.desks ∙ ap (λ (ds : List Desk). stood ds k act) c.deref_mut.ensures.value in
    let t = c.note.ensures.turns ∙ (λ j. c.reserve.ensures.items j ++ noted (c.deref_mut.ensures.value j) k act) in
    let same = with_items_is f.desks c.note.new.desks (let a = ap length e in let b = stood_length f.desks.items k act in omega arith) in
    let whose = party_here f.rules f.desks.items f.turns.items c.args.self.now k c.index.result.now p c.self.view_is c.requires c.index.ensures at in
    let now = c.self.invariant.net_is ∙ ap (λ (w : Chronicle). traffic w.rules w.turns) c.self.view_is in (
      view_after f.rules f.desks.items _ f.turns.items c.note.new.turns.items c.args.self.now k act p c.self.view_is c.requires (same ∙ e) t at,
      sym c.is_closed.ensures ∙ c.if-is_closed.false,
      (λ j. oldest_for (sym whose j) c.args.want (sym now j)) ∙ sym c.oldest_for.ensures ∙ c.in-Some.is,
      λ m is. let g = c.in-Ok.ensures m (ap (λ (x : Traffic). message x.sent c.in-Some.number) now ∙ is) in (c.in-Ok.from-is ∙ g.0, c.in-Ok.bytes-is ∙ g.1),
    )

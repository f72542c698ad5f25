use Rattle.std.proofs.Common.{◌++◌, ap, ◌∙◌}
use Rattle.rc_wire.proofs.Desks.{stood_set, noted_at}
use Rattle.rc_wire.proofs.standing.note.Goals as goal

pub returns-clause-desks : goal.returns-clause-desks
returns-clause-desks c = stood_set c.args.desks.now c.args.place c.index-desks-place.result c.args.act c.after-desk.result c.requires.there c.after-desk.ensures

pub returns-clause-turns : goal.returns-clause-turns
returns-clause-turns c =
    c.push_reserved.ensures.items ∙ ap (λ ts. c.args.turns.now.items ++ ts) (noted_at c.args.desks.now c.args.place c.index-desks-place.result c.args.act c.same_party-party.result c.requires.there c.same_party-party.ensures)

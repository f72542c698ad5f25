use Rattle.std.proofs.Common.{◌+◌, ap, subst, sym, ◌∙◌, arith}
use Rattle.rc_net.specs.declared.parcel.Parcel.{Parcel}
use Rattle.rc_net.specs.Parcels.{Numbered, count_in}
use Rattle.rc_net.proofs.KeptFacts.{count-post, numbered-post}
use Rattle.rc_net.proofs.parcel.post.Goals as goal

pub returns-clause-count : goal.returns-clause-count
returns-clause-count c =
    let p : Parcel = record { from = c.args.from; first = c.args.sent + 1; letters = c.mark_all.new.letters } in
    let total = ap count_in c.push_reserved.ensures.items ∙ count-post c.args.parcels.now.items p in
    let size = c.mark_all.ensures.len in
    let asked = c.len-count.ensures in
    let before = c.requires.count in
    omega (arith, total, size, asked, before)

pub returns-clause-numbered : goal.returns-clause-numbered
returns-clause-numbered c =
    let p : Parcel = record { from = c.args.from; first = c.args.sent + 1; letters = c.mark_all.new.letters } in
    let before = c.requires.count in
    subst (Numbered 1) (sym c.push_reserved.ensures.items) (numbered-post 1 c.args.parcels.now.items p c.requires.numbered (omega (arith, before)))

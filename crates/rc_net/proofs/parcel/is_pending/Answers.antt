use Rattle.std.proofs.Common.{◌≡◌, ◌-◌, List, Some, get_or, ap, ◌∙◌}
use Rattle.rc_ids.specs.declared.sends.Letter.{Letter}
use Rattle.rc_net.proofs.ParcelFacts.{mark_read}
use Rattle.rc_net.proofs.parcel.is_pending.Goals as goal

pub returns : goal.returns
returns c =
    let ps = c.args.parcels.now in
    let l : Letter = c.index-letters-place.result in
    let at : l ≡ get_or (get_or ps c.seat-list.result.0 c.index-parcels-list.result).letters c.seat-list.result.1 l =
    c.index-letters-place.is ∙ ap (λ (ls : List Letter). get_or ls c.seat-list.result.1 l) c.as_slice-letters.ensures in
    mark_read ps (c.args.n - 1) c.seat-list.result.0 c.seat-list.result.1 c.index-parcels-list.result c.seat-list.ensures c.index-parcels-list.is l at
    ∙ ap (λ (x : Letter). Some x.mark) c.index-letters-place.is

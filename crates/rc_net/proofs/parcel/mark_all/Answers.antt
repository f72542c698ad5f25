use Rattle.std.proofs.Common.{◌+◌, ◌<◌, List, length, take, true, refl, ap, ◌∙◌, arith}
use Rattle.rc_ids.specs.declared.sends.Letter.{Letter}
use Rattle.rc_net.specs.Network.{messages}
use Rattle.rc_net.specs.Parcels.{marks_of}
use Rattle.rc_net.proofs.ParcelFacts.{take-marked_at, length-marked_at, messages-marked_at}
use Rattle.rc_net.proofs.parcel.mark_all.Goals as goal

pub loop-place-preserved : goal.loop-place-preserved
loop-place-preserved c =
    let ls : List Letter = c.loop-place.letters in
    let i = c.loop-place.place in
    let is = c.set_mark.ensures in
    let before = c.loop-place.invariant in
    let size = before.0 in
    let end = c.len-place-end.ensures in
    let lt : i < length ls = omega (arith, size, end) in (
      ap length is ∙ length-marked_at ls i true ∙ before.0,
      ap (λ (xs : List Letter). take (i + 1) (marks_of xs)) is ∙ take-marked_at ls i (i + 1) refl lt before.1,
      λ from. ap (messages from) is ∙ messages-marked_at from ls i true ∙ before.2 from,
    )

use Rattle.std.proofs.Common.{◌≡◌, ◌-◌, ℕ, suc, subst, arith}
use Rattle.rc_net.specs.declared.parcel.Parcel.{Parcel}
use Rattle.rc_net.specs.Parcels.{IsCount, IsSeat}
use Rattle.rc_net.proofs.ParcelFacts.{some_count, Found, found, found_seat}
use Rattle.rc_net.proofs.parcel.seat.Goals as goal

pub overflow_sub-list : goal.overflow_sub-list
overflow_sub-list c =
    let high = c.requires.high in
    some_count 1 c.args.n c.count_near-list.result c.args.parcels.now c.requires.numbered c.requires.low (omega (arith, high)) c.count_near-list.ensures

pub returns : goal.returns
returns c =
    let ps = c.args.parcels.now in
    let n = c.args.n in
    let r = c.count_near-list.result - 1 in
    let p : Parcel = c.index-parcels-list.result in
    let high = c.requires.high in
    let some = some_count 1 n c.count_near-list.result ps c.requires.numbered c.requires.low (omega (arith, high)) c.count_near-list.ensures in
    let is : c.count_near-list.result ≡ suc r = omega (arith, some) in
    let count : IsCount ps n (suc r) = subst (λ (k : ℕ). IsCount ps n k) is c.count_near-list.ensures in
    let f : Found ps 1 n r p = found ps 1 n r p c.requires.numbered c.requires.low (omega (arith, high)) count c.index-parcels-list.is in
    subst (λ (x : Parcel). IsSeat ps (n - 1) r (n - x.first)) c.index-parcels-list.is (found_seat ps 1 n r p count f c.index-parcels-list.is)

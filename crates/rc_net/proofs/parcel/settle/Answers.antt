use Rattle.std.proofs.Common.{◌-◌}
use Rattle.rc_net.proofs.ParcelFacts.{marks_settled, sent_settled, numbered_settled}
use Rattle.rc_net.proofs.parcel.settle.Goals as goal

pub returns-clause-marks : goal.returns-clause-marks
returns-clause-marks c =
    marks_settled c.args.parcels.now (c.args.n - 1) c.seat-list.result.0 c.seat-list.result.1 c.index-parcels-list.result c.seat-list.ensures
    c.index-parcels-list.is c.set_mark.new.self c.set_mark.ensures

pub returns-clause-sent : goal.returns-clause-sent
returns-clause-sent c =
    sent_settled c.args.parcels.now (c.args.n - 1) c.seat-list.result.0 c.seat-list.result.1 c.index-parcels-list.result c.seat-list.ensures
    c.index-parcels-list.is c.set_mark.new.self c.set_mark.ensures

pub returns-clause-numbered : goal.returns-clause-numbered
returns-clause-numbered c =
    (numbered_settled c.args.parcels.now (c.args.n - 1) c.seat-list.result.0 c.seat-list.result.1 c.index-parcels-list.result c.seat-list.ensures
    c.index-parcels-list.is c.set_mark.new.self c.set_mark.ensures c.requires.numbered).0

pub returns-clause-count : goal.returns-clause-count
returns-clause-count c =
    (numbered_settled c.args.parcels.now (c.args.n - 1) c.seat-list.result.0 c.seat-list.result.1 c.index-parcels-list.result c.seat-list.ensures
    c.index-parcels-list.is c.set_mark.new.self c.set_mark.ensures c.requires.numbered).1

-- How far an opening went whose bytes were not read, or stand for no records.
use Rattle.std.proofs.Common.{◌≡◌, ℕ, true, option_map, ◌∙◌, ap}
use Rattle.std.proofs.lemmas.Result.{err_from_is_err_and}
use Rattle.rc_disk.specs.Calls.{Syncs, after, power_after}
use Rattle.rc_log.proofs.Opened.{unread, unrecorded, all_stops}
use Rattle.rc_log.proofs.opening.open_records.Goals as goal

pub returns-in_err-bytes-clause-refused : goal.returns-in_err-bytes-clause-refused
returns-in_err-bytes-clause-refused g c =
    let p = err_from_is_err_and c.from_residual-in_err-bytes.result c.from_residual-in_err-bytes.ensures.1 in rw (p.1, p.2)
    (unread c.in_err-bytes.field-0.0 (g.D.Disk.length_of c.args.disk.now) (g.D.Disk.length_of c.sync.new.self) (g.D.Disk.told c.args.disk.now) (g.D.Disk.told c.sync.new.self) (g.D.Disk.told c.read_whole.new.disk) (g.D.Disk.power c.args.disk.now) (g.D.Disk.power c.sync.new.self) (g.D.Disk.power c.read_whole.new.disk) (g.D.Disk.faults c.args.disk.now) (g.D.Disk.faults c.sync.new.self) (g.D.Disk.faults c.read_whole.new.disk) (g.D.Disk.cuts c.args.disk.now) (g.D.Disk.cuts c.sync.new.self) (g.D.Disk.cuts c.read_whole.new.disk)
    (c.in_ok-sync.ensures.length ∙ c.room.ensures.length) (g.met.D.Disk.told_power c.args.disk.now) (c.in_ok-sync.ensures.told ∙ ap (option_map (after Syncs true)) c.room.ensures.told) (c.sync.ensures.power ∙ ap power_after c.room.ensures.power) c.read_whole.ensures.power
    (record { same_faults = c.in_ok-sync.ensures.counts.all_faults ∙ c.room.ensures.faults; same_cuts = c.in_ok-sync.ensures.counts.of_cuts ∙ c.room.ensures.cuts }) c.in_err-bytes.ensures.err)

pub returns-in_err-found-clause-refused : goal.returns-in_err-found-clause-refused
returns-in_err-found-clause-refused g c =
    let p = err_from_is_err_and c.from_residual-in_err-found.result c.from_residual-in_err-found.ensures.1 in rw (p.1, p.2)
    (unrecorded c.in_err-found.field-0.0 c.as_slice.result.now _ _ _ _ _ _ _ _ _ c.in_err-found.ensures.err
    (all_stops (g.D.Disk.length_of c.args.disk.now) (g.D.Disk.length_of c.sync.new.self) (g.D.Disk.told c.args.disk.now) (g.D.Disk.told c.sync.new.self) (g.D.Disk.told c.read_whole.new.disk) (g.D.Disk.power c.args.disk.now) (g.D.Disk.power c.sync.new.self) (g.D.Disk.power c.read_whole.new.disk) (g.D.Disk.faults c.args.disk.now) (g.D.Disk.faults c.sync.new.self) (g.D.Disk.faults c.read_whole.new.disk) (g.D.Disk.cuts c.args.disk.now) (g.D.Disk.cuts c.sync.new.self) (g.D.Disk.cuts c.read_whole.new.disk)
    (c.in_ok-sync.ensures.length ∙ c.room.ensures.length) (c.in_ok-sync.ensures.told ∙ ap (option_map (after Syncs true)) c.room.ensures.told) (c.sync.ensures.power ∙ ap power_after c.room.ensures.power) c.read_whole.ensures.power
    (record { same_faults = c.in_ok-sync.ensures.counts.all_faults ∙ c.room.ensures.faults; same_cuts = c.in_ok-sync.ensures.counts.of_cuts ∙ c.room.ensures.cuts }) c.in_ok-bytes.ensures.told c.in_ok-bytes.ensures.counts))

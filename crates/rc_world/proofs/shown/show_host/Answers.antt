use Rattle.std.proofs.lemmas.Result.{on_ok_weaker}
use Rattle.rc_log.specs.contracts.log.LogJournal.TheImpl.{ghosts}
use Rattle.rc_world.proofs.ShownFacts.{up_rises, up_shows}
use Rattle.rc_world.proofs.shown.show_host.Goals as goal

pub returns-in-Up : goal.returns-in-Up
returns-in-Up g c = λ r place x d is.
    let state = (ghosts g.row.D g.D.Disk g.D.Disk-dict g.D.Destruct-dict).state in
    on_ok_weaker c.show_rows.result
    (up_shows state g.D.Disk.told g.D.Disk.content g.D.Disk.power r place x d c.args.host.now c.in-Up.shard c.in-Up.is c.args.node c.args.lines.now c.show_rows.new.lines is)
    (c.show_rows.ensures (up_rises state g.D.Disk.told g.D.Disk.content g.D.Disk.power r place x d c.args.host.now c.in-Up.shard c.in-Up.is is))

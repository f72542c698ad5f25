use Rattle.std.proofs.Common.{◌∙◌, ap}
use Rattle.rc_ids.specs.declared.names.Party.TheVariants.{Node}
use Rattle.rc_msg.specs.Outboxes.{new_outbox}
use Rattle.rc_log.specs.contracts.log.LogJournal.TheImpl.{ghosts}
use Rattle.rc_host.specs.AnyNode.{coord_back}
use Rattle.rc_host.specs.Causes.{cause_of}
use Rattle.rc_host.specs.Standing.{coord_standing}
use Rattle.rc_host.specs.Hosts.{course_in}
use Rattle.rc_world.specs.Turns.{Lost}
use Rattle.rc_world.proofs.CoordVotes.{vote_is}
use Rattle.rc_world.proofs.coords.host_acts.Goals as goal

pub returns-in-Ok-vote_left-clause-ok : goal.returns-in-Ok-vote_left-clause-ok
returns-in-Ok-vote_left-clause-ok g c = λ run dc x d named coordinator up up_host host logged told.
    let turned = c.in-Ok.ensures.ok run (coord_standing x) d named up_host host logged told in
    record {
      course = c.in-Ok.course;
      turned = turned;
      votes = vote_is (ghosts g.row.D g.D.Disk g.D.Disk-dict g.D.Destruct-dict).state g.D.Disk.told g.D.Disk.content g.D.Disk.power run.cluster dc x (cause_of c.args.cause.now) (coord_back run.node run.cluster) run d c.count_of-before.result
          c.args.host.now (new_outbox (Node run.node)) c.in-Ok.out c.in-Ok-vote_left.vote run.node coordinator c.turn.new.host c.in-Ok.course c.in-Ok-vote_left.ensures.value up c.count_of-before.ensures c.record_laws.ensures.again logged
          (c.in-Ok.ensures.counts run (coord_standing x) d up_host host) turned.went;
    }

pub returns-in-Err-vote_left-clause-err : goal.returns-in-Err-vote_left-clause-err
returns-in-Err-vote_left-clause-err g c = λ run x d named up host logged told.
    let turned = c.in-Ok.ensures.ok run (coord_standing x) d named up host logged told in
    let stops = c.in-Err-vote_left.ensures.err in
    Lost (record { kept = stops.0; comes = turned.went.course_is ∙ ap course_in stops.1 })

pub returns-in-Err-clause-err : goal.returns-in-Err-clause-err
returns-in-Err-clause-err g c = λ run x d named up host logged told. c.in-Err.ensures.err run (coord_standing x) d named up host logged told

use Rattle.rc_locks.proofs.halves.insert_new.Goals as goal

pub insert-requires-clause-rooms : goal.insert-requires-clause-rooms
insert-requires-clause-rooms c = c.in_ok-make_room.ensures.room c.args.tx

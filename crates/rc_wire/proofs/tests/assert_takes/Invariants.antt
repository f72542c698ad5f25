use Rattle.rc_wire.proofs.tests.assert_takes.Given as goal

abbrev pub ghosts-one_message : goal.ghosts-one_message
ghosts-one_message g a = record { table = a.blank.lock.board.shared.table_id; names = a.blank.lock.board.shared.key }

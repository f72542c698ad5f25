use Rattle.rc_wire.proofs.tests.still.Given as goal

abbrev pub ghosts-without_mail : goal.ghosts-without_mail
ghosts-without_mail g a = record { table = a.blank.lock.board.shared.table_id; names = a.blank.lock.board.shared.key }

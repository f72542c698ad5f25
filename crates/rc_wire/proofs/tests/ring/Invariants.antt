use Rattle.rc_wire.proofs.tests.ring.Given as goal

abbrev pub ghosts-beside : goal.ghosts-beside
ghosts-beside g a = record { table = a.blank.lock.board.shared.table_id; names = a.blank.lock.board.shared.key }

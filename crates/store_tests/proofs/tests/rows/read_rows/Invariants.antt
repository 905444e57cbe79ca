use Rattle.store_tests.proofs.tests.rows.read_rows.Given as goal

abbrev pub ghosts-read_in : goal.ghosts-read_in
ghosts-read_in g a = record { table = a.blank.table }

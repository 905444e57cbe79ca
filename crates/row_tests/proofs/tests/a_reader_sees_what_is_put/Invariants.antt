use Rattle.row_tests.proofs.tests.a_reader_sees_what_is_put.Given as goal

abbrev pub ghosts-run : goal.ghosts-run
ghosts-run g a = record { table = a.blank.table }

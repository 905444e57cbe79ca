use Rattle.row_tests.proofs.tests.a_reader_sees_what_is_put_in_a_second_class.Given as goal

abbrev pub ghosts-run_second : goal.ghosts-run_second
ghosts-run_second g a = record { table = a.blank.table }

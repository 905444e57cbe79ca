use Rattle.store_tests.proofs.tests.whole.tell_of.Given as goal

abbrev pub ghosts-tell_in : goal.ghosts-tell_in
ghosts-tell_in g a = record { table = a.blank.table }

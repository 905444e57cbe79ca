use Rattle.head_tests.proofs.tests.refused_memory.open_store.Given as goal

abbrev pub ghosts-open_in : goal.ghosts-open_in
ghosts-open_in a b = record { table = b.blank.table }

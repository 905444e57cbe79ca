use Rattle.head_tests.proofs.tests.fresh.a_fresh_store_has_no_life.Given as goal

abbrev pub ghosts-run_in : goal.ghosts-run_in
ghosts-run_in a b = record { table = b.blank.table }

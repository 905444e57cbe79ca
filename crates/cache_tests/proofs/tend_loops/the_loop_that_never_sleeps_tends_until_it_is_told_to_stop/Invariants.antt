use Rattle.cache_tests.proofs.tend_loops.the_loop_that_never_sleeps_tends_until_it_is_told_to_stop.Given as goal

-- the names say what the blank has
abbrev pub ghosts-run_until-N-Name : goal.ghosts-run_until-N-Name
ghosts-run_until-N-Name g a = record { table = a.blank.table }

abbrev pub ghosts-run_until-N-LogName : goal.ghosts-run_until-N-LogName
ghosts-run_until-N-LogName g a = record { book = a.blank.log.book }

abbrev pub ghosts-run_until-N-Ledger : goal.ghosts-run_until-N-Ledger
ghosts-run_until-N-Ledger g a = record { name = a.blank.log.name; parts = a.blank.log.parts }

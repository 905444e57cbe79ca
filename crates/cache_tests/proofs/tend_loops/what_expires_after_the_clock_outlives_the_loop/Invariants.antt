use Rattle.cache_tests.proofs.tend_loops.what_expires_after_the_clock_outlives_the_loop.Given as goal

-- the names say what the blank has
abbrev pub ghosts-run_each-N-Name : goal.ghosts-run_each-N-Name
ghosts-run_each-N-Name g a = record { table = a.blank.table }

abbrev pub ghosts-run_each-N-LogName : goal.ghosts-run_each-N-LogName
ghosts-run_each-N-LogName g a = record { book = a.blank.log.book }

abbrev pub ghosts-run_each-N-Ledger : goal.ghosts-run_each-N-Ledger
ghosts-run_each-N-Ledger g a = record { name = a.blank.log.name; parts = a.blank.log.parts }

use Rattle.cache_tests.proofs.refused_memory.run.Given as goal

-- the names say what the blank has
abbrev pub ghosts-run_in-N-Name : goal.ghosts-run_in-N-Name
ghosts-run_in-N-Name g a = record { table = a.blank.table }

abbrev pub ghosts-run_in-N-LogName : goal.ghosts-run_in-N-LogName
ghosts-run_in-N-LogName g a = record { book = a.blank.log.book }

abbrev pub ghosts-run_in-N-Ledger : goal.ghosts-run_in-N-Ledger
ghosts-run_in-N-Ledger g a = record { name = a.blank.log.name; parts = a.blank.log.parts }

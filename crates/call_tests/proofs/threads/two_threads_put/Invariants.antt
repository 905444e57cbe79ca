use Rattle.call_tests.proofs.threads.two_threads_put.Given as goal

-- the name says what the blank has
abbrev pub ghosts-run-N-LogName : goal.ghosts-run-N-LogName
ghosts-run-N-LogName g a = record { book = a.blank.book }

-- the name says what the blank has
abbrev pub ghosts-run-N-Ledger : goal.ghosts-run-N-Ledger
ghosts-run-N-Ledger g a = record { name = a.blank.name; parts = a.blank.parts }

use Rattle.call_tests.proofs.threads.two_threads_put_into_two_shelves.Given as goal

-- the name says what the blank has
abbrev pub ghosts-run_pair-N-LogName : goal.ghosts-run_pair-N-LogName
ghosts-run_pair-N-LogName g a = record { book = a.blank.book }

-- the name says what the blank has
abbrev pub ghosts-run_pair-N-Ledger : goal.ghosts-run_pair-N-Ledger
ghosts-run_pair-N-Ledger g a = record { name = a.blank.name; parts = a.blank.parts }

use Rattle.entry_tests.proofs.weights.what_readers_have_weighs_until_they_let_go.Given as goal

-- the names say what the blank has
abbrev pub ghosts-run_held-N-Name : goal.ghosts-run_held-N-Name
ghosts-run_held-N-Name g a = record { table = a.blank.table }

abbrev pub ghosts-run_held-N-LogName : goal.ghosts-run_held-N-LogName
ghosts-run_held-N-LogName g a = record { book = a.blank.log.book }

abbrev pub ghosts-run_held-N-Ledger : goal.ghosts-run_held-N-Ledger
ghosts-run_held-N-Ledger g a = record { name = a.blank.log.name; parts = a.blank.log.parts }

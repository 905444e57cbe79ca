use Rattle.cache_tests.proofs.retained.each_item_is_asked_of_once_and_stays_or_ends.Given as goal

-- the names say what the blank has
abbrev pub ghosts-run-N-Name : goal.ghosts-run-N-Name
ghosts-run-N-Name g a = record { table = a.blank.table }

abbrev pub ghosts-run-N-LogName : goal.ghosts-run-N-LogName
ghosts-run-N-LogName g a = record { book = a.blank.log.book }

abbrev pub ghosts-run-N-Ledger : goal.ghosts-run-N-Ledger
ghosts-run-N-Ledger g a = record { name = a.blank.log.name; parts = a.blank.log.parts }

use Rattle.cache_tests.proofs.evictions.room_made.Given as goal

-- the names say what the blank has
abbrev pub ghosts-made_in-N-Name : goal.ghosts-made_in-N-Name
ghosts-made_in-N-Name g a = record { table = a.blank.table }

abbrev pub ghosts-made_in-N-LogName : goal.ghosts-made_in-N-LogName
ghosts-made_in-N-LogName g a = record { book = a.blank.log.book }

abbrev pub ghosts-made_in-N-Ledger : goal.ghosts-made_in-N-Ledger
ghosts-made_in-N-Ledger g a = record { name = a.blank.log.name; parts = a.blank.log.parts }

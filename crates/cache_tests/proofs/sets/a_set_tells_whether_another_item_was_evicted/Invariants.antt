use Rattle.cache_tests.proofs.sets.a_set_tells_whether_another_item_was_evicted.Given as goal

-- the names say what the blank has
abbrev pub ghosts-set_all-N-Name : goal.ghosts-set_all-N-Name
ghosts-set_all-N-Name g a = record { table = a.blank.table }

abbrev pub ghosts-set_all-N-LogName : goal.ghosts-set_all-N-LogName
ghosts-set_all-N-LogName g a = record { book = a.blank.log.book }

abbrev pub ghosts-set_all-N-Ledger : goal.ghosts-set_all-N-Ledger
ghosts-set_all-N-Ledger g a = record { name = a.blank.log.name; parts = a.blank.log.parts }

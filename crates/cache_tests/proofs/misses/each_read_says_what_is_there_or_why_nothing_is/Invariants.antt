use Rattle.cache_tests.proofs.misses.each_read_says_what_is_there_or_why_nothing_is.Given as goal

-- the names say what the blank has
abbrev pub ghosts-follow-N-Name : goal.ghosts-follow-N-Name
ghosts-follow-N-Name g a = record { table = a.blank.table }

abbrev pub ghosts-follow-N-LogName : goal.ghosts-follow-N-LogName
ghosts-follow-N-LogName g a = record { book = a.blank.log.book }

abbrev pub ghosts-follow-N-Ledger : goal.ghosts-follow-N-Ledger
ghosts-follow-N-Ledger g a = record { name = a.blank.log.name; parts = a.blank.log.parts }

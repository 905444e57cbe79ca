use Rattle.cache_bench.proofs.caches.grown_by_cache.Given as goal

-- the store's name has the number of the blank's table
abbrev pub ghosts-grown-N-Name : goal.ghosts-grown-N-Name
ghosts-grown-N-Name g a = record { table = a.blank.table }

-- the log's name says what the blank's log has
abbrev pub ghosts-grown-N-LogName : goal.ghosts-grown-N-LogName
ghosts-grown-N-LogName g a = record { book = a.blank.log.book }

-- and so does the name of its shares
abbrev pub ghosts-grown-N-Ledger : goal.ghosts-grown-N-Ledger
ghosts-grown-N-Ledger g a = record { name = a.blank.log.name; parts = a.blank.log.parts }

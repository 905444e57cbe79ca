use Rattle.cache_bench.proofs.passes.Passes.cache_times.Given as goal

-- the store's name has the number of the blank's table
abbrev pub ghosts-run-N-Name : goal.ghosts-run-N-Name
ghosts-run-N-Name g a = record { table = a.blank.table }

-- the log's name says what the blank's log has
abbrev pub ghosts-run-N-LogName : goal.ghosts-run-N-LogName
ghosts-run-N-LogName g a = record { book = a.blank.log.book }

-- and so does the name of its shares
abbrev pub ghosts-run-N-Ledger : goal.ghosts-run-N-Ledger
ghosts-run-N-Ledger g a = record { name = a.blank.log.name; parts = a.blank.log.parts }

use Rattle.replay_runs.proofs.replays.replay.Given as goal

-- the store's name has the number of the blank's table
abbrev pub ghosts-run-N-Name : goal.ghosts-run-N-Name
ghosts-run-N-Name a b = record { table = b.blank.table }

-- the log's name has the book of the blank's log
abbrev pub ghosts-run-N-LogName : goal.ghosts-run-N-LogName
ghosts-run-N-LogName a b = record { book = b.blank.log.book }

-- and its name and parts
abbrev pub ghosts-run-N-Ledger : goal.ghosts-run-N-Ledger
ghosts-run-N-Ledger a b = record { name = b.blank.log.name; parts = b.blank.log.parts }

use Rattle.entry_tests.proofs.lengths.rows_and_texts_of_all_lengths_are_found_whole.Given as goal

-- the names say what the blank has
abbrev pub ghosts-run_rows-N-Name : goal.ghosts-run_rows-N-Name
ghosts-run_rows-N-Name g a = record { table = a.blank.table }

abbrev pub ghosts-run_rows-N-LogName : goal.ghosts-run_rows-N-LogName
ghosts-run_rows-N-LogName g a = record { book = a.blank.log.book }

abbrev pub ghosts-run_rows-N-Ledger : goal.ghosts-run_rows-N-Ledger
ghosts-run_rows-N-Ledger g a = record { name = a.blank.log.name; parts = a.blank.log.parts }

abbrev pub ghosts-run_texts-N-Name : goal.ghosts-run_texts-N-Name
ghosts-run_texts-N-Name g a = record { table = a.blank.table }

abbrev pub ghosts-run_texts-N-LogName : goal.ghosts-run_texts-N-LogName
ghosts-run_texts-N-LogName g a = record { book = a.blank.log.book }

abbrev pub ghosts-run_texts-N-Ledger : goal.ghosts-run_texts-N-Ledger
ghosts-run_texts-N-Ledger g a = record { name = a.blank.log.name; parts = a.blank.log.parts }

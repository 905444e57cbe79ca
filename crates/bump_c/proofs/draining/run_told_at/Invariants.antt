use Rattle.bump_c.proofs.draining.run_told_at.Given as goal

abbrev pub ghosts-run_told_named : goal.ghosts-run_told_named
ghosts-run_told_named a = record { table = a.book.table }

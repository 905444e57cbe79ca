use Rattle.bump_c.proofs.draining.run_at.Given as goal

abbrev pub ghosts-run_named : goal.ghosts-run_named
ghosts-run_named a = record { table = a.book.table }

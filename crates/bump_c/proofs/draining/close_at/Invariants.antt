use Rattle.bump_c.proofs.draining.close_at.Given as goal

abbrev pub ghosts-close_named : goal.ghosts-close_named
ghosts-close_named a = record { table = a.lane.table }

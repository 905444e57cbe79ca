use Rattle.bump_c.proofs.cache_opening.open_at.Given as goal

abbrev pub ghosts-open_named : goal.ghosts-open_named
ghosts-open_named a = record { table = a.blank.table }

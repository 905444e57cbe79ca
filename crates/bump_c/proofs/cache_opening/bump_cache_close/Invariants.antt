use Rattle.bump_c.proofs.cache_opening.bump_cache_close.Given as goal

abbrev pub ghosts-close_named : goal.ghosts-close_named
ghosts-close_named a = record { table = a.h.table }

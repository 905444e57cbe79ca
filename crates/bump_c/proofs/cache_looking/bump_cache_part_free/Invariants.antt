use Rattle.bump_c.proofs.cache_looking.bump_cache_part_free.Given as goal

abbrev pub ghosts-part_free_named : goal.ghosts-part_free_named
ghosts-part_free_named a = record { table = a.h.table }

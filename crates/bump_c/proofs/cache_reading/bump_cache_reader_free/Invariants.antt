use Rattle.bump_c.proofs.cache_reading.bump_cache_reader_free.Given as goal

abbrev pub ghosts-reader_free_named : goal.ghosts-reader_free_named
ghosts-reader_free_named a = record { table = a.h.table }

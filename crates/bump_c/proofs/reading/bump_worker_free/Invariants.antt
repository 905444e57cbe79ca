use Rattle.bump_c.proofs.reading.bump_worker_free.Given as goal

abbrev pub ghosts-worker_free_named : goal.ghosts-worker_free_named
ghosts-worker_free_named a = record { table = a.h.table }

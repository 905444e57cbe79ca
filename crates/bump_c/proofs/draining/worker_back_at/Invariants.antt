use Rattle.bump_c.proofs.draining.worker_back_at.Given as goal

abbrev pub ghosts-worker_back_named : goal.ghosts-worker_back_named
ghosts-worker_back_named a = record { table = a.h.table }

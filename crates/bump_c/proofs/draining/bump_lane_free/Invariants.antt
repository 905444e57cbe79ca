use Rattle.bump_c.proofs.draining.bump_lane_free.Given as goal

abbrev pub ghosts-lane_free_named : goal.ghosts-lane_free_named
ghosts-lane_free_named a = record { table = a.h.table }

use Rattle.bump_c.proofs.cache_part_handle.CachePartHandle.call_at.Given as goal

abbrev pub ghosts-call_named : goal.ghosts-call_named
ghosts-call_named g a = record { table = a.self.table }

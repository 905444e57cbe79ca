use Rattle.bump_c.proofs.booking.bump_book_free.Given as goal

abbrev pub ghosts-book_free_named : goal.ghosts-book_free_named
ghosts-book_free_named a = record { table = a.h.table }

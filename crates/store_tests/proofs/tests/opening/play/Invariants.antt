use Rattle.store_tests.proofs.tests.opening.play.Given as goal

abbrev pub ghosts-play_in : goal.ghosts-play_in
ghosts-play_in g a = record { table = a.blank.table }

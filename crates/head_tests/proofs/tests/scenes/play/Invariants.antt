use Rattle.head_tests.proofs.tests.scenes.play.Given as goal

abbrev pub ghosts-play_in : goal.ghosts-play_in
ghosts-play_in a b = record { table = b.blank.table }

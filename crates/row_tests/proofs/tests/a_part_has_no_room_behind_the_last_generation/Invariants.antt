use Rattle.row_tests.proofs.tests.a_part_has_no_room_behind_the_last_generation.Given as goal

abbrev pub ghosts-use_up : goal.ghosts-use_up
ghosts-use_up g a = record { table = a.blank.table }

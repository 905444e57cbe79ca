use Rattle.head_tests.proofs.tests.words.further_words_are_those_that_were_stored.Given as goal

abbrev pub ghosts-wide_in : goal.ghosts-wide_in
ghosts-wide_in a b = record { table = b.blank.table }

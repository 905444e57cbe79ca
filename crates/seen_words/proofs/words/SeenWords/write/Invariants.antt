use Rattle.seen_words.proofs.words.SeenWords.write.Given as goal

abbrev pub ghosts-write_by : goal.ghosts-write_by
ghosts-write_by g a = record { note = g.V.Shows.shown a.value.now }

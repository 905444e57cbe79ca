use Rattle.bump_steps.proofs.words.Words.change_segment.Given as goal

abbrev pub ghosts-change_segment_by : goal.ghosts-change_segment_by
ghosts-change_segment_by g a = record { from = a.from; to = a.to }

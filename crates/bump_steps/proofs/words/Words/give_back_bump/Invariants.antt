use Rattle.bump_steps.proofs.words.Words.give_back_bump.Given as goal

abbrev pub ghosts-give_back_bump_by : goal.ghosts-give_back_bump_by
ghosts-give_back_bump_by g a = record { limit = 0; failed = 0; life = a.life }

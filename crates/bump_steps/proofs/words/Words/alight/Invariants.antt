use Rattle.bump_steps.proofs.words.Words.alight.Given as goal

abbrev pub ghosts-alight_by : goal.ghosts-alight_by
ghosts-alight_by g a = record { outcome = a.outcome }

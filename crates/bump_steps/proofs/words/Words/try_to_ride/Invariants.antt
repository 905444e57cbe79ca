use Rattle.bump_steps.proofs.words.Words.try_to_ride.Given as goal

abbrev pub ghosts-try_to_ride_by : goal.ghosts-try_to_ride_by
ghosts-try_to_ride_by g a = record { limit = a.limit; failed = a.failed; life = a.life }

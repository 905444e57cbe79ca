use Rattle.bump_steps.proofs.words.Words.load_to_ride.Given as goal

abbrev pub ghosts-load_to_ride_by : goal.ghosts-load_to_ride_by
ghosts-load_to_ride_by g a = record { limit = a.limit; failed = 0; life = a.life }

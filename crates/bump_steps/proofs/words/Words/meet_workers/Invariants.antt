use Rattle.bump_steps.proofs.words.Words.meet_workers.Given as goal

abbrev pub ghosts-meet_workers_by : goal.ghosts-meet_workers_by
ghosts-meet_workers_by g a = record { workers = a.self.now.table.shared.key.workers }

use Rattle.bump_steps.proofs.words.Words.see.Given as goal

abbrev pub ghosts-see_by : goal.ghosts-see_by
ghosts-see_by g a = record { limit = a.self.now.table.shared.key.refs_limit }

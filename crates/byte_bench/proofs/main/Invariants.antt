use Rattle.byte_bench.proofs.main.Given as goal

-- the name says what the words have
abbrev pub ghosts-run : goal.ghosts-run
ghosts-run a = record { table = a.words.table }

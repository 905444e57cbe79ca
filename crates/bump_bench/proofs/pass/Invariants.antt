-- The store's name is that of its table.
use Rattle.bump_bench.proofs.pass.Given as goal

abbrev pub ghosts-pass_in : goal.ghosts-pass_in
ghosts-pass_in a b = record { table = b.blank.table }

use Rattle.bumpsim.proofs.run_file.Goals as goal

pub returns : goal.returns
returns g c = (c.run_as.result, c.run_as.ensures, c.ended.ensures)

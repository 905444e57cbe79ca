use Rattle.store_trace.proofs.crossing.start_drainer.Goals as goal

pub returns-clause-err : goal.returns-clause-err
returns-clause-err g c = tt

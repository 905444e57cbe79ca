use Rattle.store_trace.proofs.running.write_last.Goals as goal

pub returns-in_ok-flush-in-Ok-clause-text : goal.returns-in_ok-flush-in-Ok-clause-text
returns-in_ok-flush-in-Ok-clause-text g c = c.in_ok-flush-in-Ok.ensures.ok

use Rattle.bump_rules.specs.declared.places.Tail.TheVariants.{Cold}
use Rattle.replay_runs.specs.Writing.{IsPull, Adds}
use Rattle.replay_runs.proofs.accesses.rescue.Given as goal

-- each rescue so far wrote a line
abbrev pub invariant-loop : goal.invariant-loop
invariant-loop l = Adds (IsPull Cold) l.counter l.fn.scribe.text.items l.scribe.text.items

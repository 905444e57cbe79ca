use Rattle.std.proofs.Common.{◌*◌}
use Rattle.replay_runs.specs.Writing.{IsBalance, Adds}
use Rattle.replay_runs.proofs.accesses.balance.Given as goal

-- each look so far wrote at most 2 lines
abbrev pub invariant-loop : goal.invariant-loop
invariant-loop l = Adds IsBalance (2 * l.counter) l.fn.scribe.text.items l.scribe.text.items

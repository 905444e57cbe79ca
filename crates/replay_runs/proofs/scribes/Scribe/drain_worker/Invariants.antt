use Rattle.std.proofs.Common.{◌≡◌}
use Rattle.replay_runs.proofs.scribes.Scribe.drain_worker.Given as goal

-- nothing was written
abbrev pub invariant-loop : goal.invariant-loop
invariant-loop l = l.self.text ≡ l.fn.self.text

use Rattle.std.proofs.Common.{◌≡◌, ◌++◌}
use Rattle.replay_runs.specs.Writing.{with_end, drain_instruction}
use Rattle.replay_runs.proofs.scribes.Scribe.drain.Given as goal

-- its line is written
abbrev pub invariant-loop-worker : goal.invariant-loop-worker
invariant-loop-worker l = l.self.text.items ≡ l.fn.self.text.items ++ with_end drain_instruction

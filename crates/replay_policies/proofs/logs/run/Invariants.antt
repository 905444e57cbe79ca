use Rattle.std.proofs.Common.{◌≡◌}
use Rattle.replay_policies.proofs.logs.run.Given as goal

abbrev pub invariant-loop-key : goal.invariant-loop-key
invariant-loop-key l = record { items : l.replay.items ≡ l.fn.replay.items; accesses : l.replay.tally.accesses ≡ l.key-index }

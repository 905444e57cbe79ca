use Rattle.std.proofs.Common.{◌≡◌, take}
use Rattle.replay_runs.specs.Tends.{last_tend}
use Rattle.replay_runs.specs.Writing.{header, AddsRun}
use Rattle.replay_runs.proofs.accesses.write_trace.Given as goal

-- the accesses so far are told, and when the cache was tended last is known
abbrev pub invariant-loop-place : goal.invariant-loop-place
invariant-loop-place l = AddsRun l.plan l.times 0 (take l.place l.accesses) (header l.plan) l.scribe.text.items
    × (l.tended ≡ last_tend l.plan.tending l.times l.place)

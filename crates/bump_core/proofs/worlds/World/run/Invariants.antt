use Rattle.std.proofs.Common.{◌≡◌, take, Some}
use Rattle.bump_core.specs.Runs.{run_of}
use Rattle.bump_core.proofs.worlds.World.run.Given as goal

-- the events so far were made
abbrev pub invariant-loop-place : goal.invariant-loop-place
invariant-loop-place l = run_of l.fn.self (take l.place l.events) ≡ Some l.self

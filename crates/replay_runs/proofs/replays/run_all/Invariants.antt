use Rattle.std.proofs.Common.{◌≡◌, ◌≤◌}
use Rattle.replay_runs.specs.Asked.{gets_among}
use Rattle.replay_runs.proofs.replays.run_all.Given as goal

-- as many gets as the places so far ask for, no more of them than places, no more hits, and the caller has its parts
abbrev pub invariant-loop-place : goal.invariant-loop-place
invariant-loop-place g l = (l.count.gets ≡ gets_among l.fn.asked.operations.now l.place) × (l.count.gets ≤ l.place)
    × (l.count.hits ≤ l.count.gets) × (l.opened.caller.parts ≡ l.fn.opened.caller.parts)

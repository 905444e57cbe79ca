use Rattle.std.proofs.Common.{◌≡◌, length}
use Rattle.bump_trace.specs.Meaning.{parts_of}
use Rattle.replay_runs.specs.Counting.{hits_of_lines, hits_told}
use Rattle.replay_runs.proofs.counting.count_hits.Given as goal

-- the hits so far, and those of the lines that are left, are all
abbrev pub invariant-loop-line : goal.invariant-loop-line
invariant-loop-line l = hits_of_lines l.hits (parts_of l.rest) ≡ hits_told l.text

abbrev pub decreases-loop-line : goal.decreases-loop-line
decreases-loop-line l = length l.rest

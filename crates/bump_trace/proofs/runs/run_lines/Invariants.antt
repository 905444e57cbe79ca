use Rattle.std.proofs.Common.{◌≡◌, ℕ, ◌+◌, ◌≤◌, ◌++◌, List, [], length}
use Rattle.std.specs.Io.KnownBytes.{Appends}
use Rattle.bump_trace.specs.Meaning.{prepend, run, parts_of, verdict_of}
use Rattle.bump_trace.specs.Ready.{IsSteadyStage}
use Rattle.bump_trace.specs.Views.{seen_stage}
use Rattle.bump_trace.proofs.runs.run_lines.Given as goal

-- what was written and gathered, and then the text of the lines that are left, is the whole text
abbrev pub invariant-loop-line : goal.invariant-loop-line
invariant-loop-line g l =
    (sent : List ℕ) × Appends (g.W.Sink.contents l.initial.writer.inner) (g.W.Sink.contents l.writer.inner) sent
    × (prepend (sent ++ l.gathered.items) (run l.number (parts_of l.rest) (seen_stage l.session.stage)) ≡ verdict_of l.input)
    × (l.number + length l.rest ≤ 16777217) × IsSteadyStage l.session.stage × (l.text.items ≡ [])

abbrev pub decreases-loop-line : goal.decreases-loop-line
decreases-loop-line g l = length l.rest

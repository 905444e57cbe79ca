-- `read_line` has read no line feed so far, and keeps the front of what it read.
use Rattle.std.proofs.Common.{◌≡◌, ◌≢◌, ℕ, List, All, take, vec_items}
use Rattle.std.specs.Io.KnownBytes.{Consumes}
use Rattle.access_logs.proofs.lines.read_line.Given as goal

abbrev pub invariant-loop : goal.invariant-loop
invariant-loop g l = (read : List ℕ) × (vec_items l.line ≡ take 65539 read) × All (λ x. x ≢ 10) read
    × Consumes (g.B.Read.remaining l.initial.source) (g.B.Read.remaining l.source) read

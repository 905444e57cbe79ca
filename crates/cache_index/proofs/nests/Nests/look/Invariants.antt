use Rattle.std.proofs.Common.{◌≡◌, ◌≢◌, ℕ, ◌*◌, ◌<◌, ◌≤◌}
use Rattle.cache_index.specs.Tags.{lanes, tag_of}
use Rattle.cache_index.specs.Places.{home_of, tag_behind}
use Rattle.cache_index.proofs.nests.Nests.look.Given as goal

abbrev pub invariant-loop-steps : goal.invariant-loop-steps
invariant-loop-steps l =
    (l.pen ≡ l.fn.pen)
    × ((number : ℕ) → l.from ≤ number → number < lanes * l.steps →
    tag_behind l.fn.pen.words l.self.nests (home_of l.self.nests l.hash) number ≢ tag_of l.hash)

use Rattle.std.proofs.Common.{◌≡◌, ℕ, ◌<◌, ◌*◌, length, slice_index}
use Rattle.cache_index.specs.Tags.{lanes, tag_in}
use Rattle.cache_index.specs.Places.{home_of, nest_behind}
use Rattle.cache_index.specs.Changes.{OneMorePassed}
use Rattle.cache_index.specs.History.{AreNoted}
use Rattle.seen_words.specs.Past.{note_of}
use Rattle.cache_index.proofs.nests.Nests.take_place.Given as goal

abbrev pub invariant-loop-steps : goal.invariant-loop-steps
invariant-loop-steps l =
    (l.pen.table ≡ l.self.table) × (length l.pen.words ≡ 8 * l.self.nests)
    × OneMorePassed l.self.nests (home_of l.self.nests l.hash) l.steps l.fn.pen.words l.pen.words
    × ((steps lane : ℕ) → steps < l.steps → lane < lanes →
    0 < tag_in (slice_index l.fn.pen.words (8 * nest_behind l.self.nests (home_of l.self.nests l.hash) steps)) lane)
    × AreNoted (note_of l.pen.past) l.fn.ways.items

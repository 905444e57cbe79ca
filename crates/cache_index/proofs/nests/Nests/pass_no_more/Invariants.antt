use Rattle.std.proofs.Common.{◌≡◌, ◌*◌, length}
use Rattle.seen_words.specs.Past.{note_of}
use Rattle.cache_index.specs.History.{AreNoted}
use Rattle.cache_index.specs.Places.{home_of}
use Rattle.cache_index.specs.Changes.{OneMorePassed}
use Rattle.cache_index.proofs.nests.Nests.pass_no_more.Given as goal

abbrev pub invariant-loop-steps : goal.invariant-loop-steps
invariant-loop-steps l =
    (l.pen.table ≡ l.self.table) × (length l.pen.words ≡ 8 * l.self.nests)
    × OneMorePassed l.self.nests (home_of l.self.nests l.hash) l.steps l.pen.words l.fn.pen.words
    × AreNoted (note_of l.pen.past) l.fn.ways.items

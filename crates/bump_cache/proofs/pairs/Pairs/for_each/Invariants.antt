use Rattle.std.proofs.Common.{◌+◌, ◌-◌, ◌≤◌}
use Rattle.std.specs.List.{FoldsTo}
use Rattle.cache_shelf.specs.Entries.{ReadsShelf}
use Rattle.cache_shelf.specs.Visiting.{first_unexpired}
use Rattle.bump_cache.specs.Visiting.{CallsWith}
use Rattle.bump_cache.proofs.pairs.Pairs.for_each.Given as goal

-- the closure was called at each entry of the chunks so far
abbrev pub invariant-loop-chunk : goal.invariant-loop-chunk
invariant-loop-chunk g l = record {
  callable : goal.F-IsAlwaysCallable g l.visit;
  from : l.fn.self.part.book.sheet.first ≤ l.chunk;
  within : l.chunk ≤ l.fn.self.part.book.sheet.first + l.fn.self.part.book.sheet.count;
  reads : ReadsShelf l.fn.self l.self;
  calls : FoldsTo (CallsWith g.K.Packed.fits g.K.Packed.as_words g.V.Packed.fits g.V.Packed.as_words
      (λ from key value expires to. goal.F-step g from key value expires tt to)) l.fn.visit
      (first_unexpired l.now l.fn.self.part (l.chunk - l.fn.self.part.book.sheet.first)) l.visit;
}

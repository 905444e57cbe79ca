use Rattle.std.proofs.Common.{ap, subst, length}
use Rattle.cache_lists.specs.Counts.{SegmentsAddUp}
use Rattle.cache_lists.proofs.Counting.{segments_add_up}
use Rattle.cache_lists.proofs.Flowing.{adds_up}
use Rattle.cache_lists.proofs.counted.CountedBook.promise.Goals as goal

pub returns-clause-sums : goal.returns-clause-sums
returns-clause-sums g c = subst
    (λ b. SegmentsAddUp (length b.lists.hot) (length b.lists.warm) (length b.lists.cold) (length b.lists.temp) b.sheet)
    (ap (λ v. v.book) c.self.view_is)
    (segments_add_up c.self.inside.book c.self.inside.flow (adds_up c.self.inside.book c.promise.ensures.book) c.self.invariant)

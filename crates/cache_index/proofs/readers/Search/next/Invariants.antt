use Rattle.std.proofs.Common.{◌≡◌, ◌<◌, ◌≤◌}
use Rattle.cache_index.specs.Views.{ahead}
use Rattle.cache_index.specs.History.{ComesPast, Looks}
use Rattle.cache_index.proofs.WalkLemmas.{Walked}
use Rattle.cache_index.proofs.readers.Search.next.Given as goal

abbrev pub invariant-loop-self : goal.invariant-loop-self
invariant-loop-self l =
    (l.self.nests ≡ l.fn.self.nests) × (l.self.tag ≡ l.fn.self.tag) × Walked l.fn.self l.self
    × (l.self.later ≡ l.fn.self.later → l.self.lanes ≡ l.fn.self.lanes)
    × (0 < l.fn.self.lanes → l.self.later ≡ l.fn.self.later) × (ahead l.self ≤ ahead l.fn.self)
    × (l.self.table ≡ l.fn.self.table) × (l.self.hash ≡ l.fn.self.hash) × Looks l.fn.eye l.eye
    × ComesPast l.fn.self.nests l.fn.self.hash l.fn.self l.self l.fn.eye l.eye × (l.self.first ≡ l.fn.self.first)

abbrev pub decreases-loop-self : goal.decreases-loop-self
decreases-loop-self l = l.self.later

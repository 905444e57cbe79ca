use Rattle.std.proofs.Common.{subst}
use Rattle.cache_shelf.specs.Entries.{AllKept, key_of_evicted}
use Rattle.cache_shelf.specs.Shelves.{ShelfView}
use Rattle.cache_shelf.proofs.shelves.Shelf.evict.Goals as goal

pub returns-clause-kept : goal.returns-clause-kept
returns-clause-kept g c =
    subst (λ (from : ShelfView). AllKept (key_of_evicted c.evict_entry.result from.part) from.part c.evict_entry.new.part)
    c.self.view_is c.evict_entry.ensures.kept

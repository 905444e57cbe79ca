-- What contracts see of a shelf, and what every shelf keeps.
use Rattle.std.specs.Prelude.{ℕ, List, IsSome}
use Rattle.bump_class.specs.Lanes.{LaneView}
use Rattle.bump_steps.specs.Rule.{RowPredicate}
use Rattle.bump_steps.specs.Views.{last_words}
use Rattle.cache_lists.specs.Linked.{linked_at}
use Rattle.cache_part.specs.Parts.{PartView}
use Rattle.cache_shelf.specs.declared.limits.Limits.{Limits}

-- the part, the lanes of its readers' rings, the limits, and how many puts there were since its lists were balanced
pub record ShelfView : Type 0 where
  pub part : PartView
  pub lanes : List LaneView
  pub limits : Limits
  pub puts : ℕ

-- the part may have looked for expired items: its cursor, and the counts of what was evicted, may be others, the lanes,
-- and what may where items ended; all else stays
abbrev pub with_tended : ShelfView → ShelfView → ShelfView
with_tended after before = record before {
  part = record before.part {
    book = after.part.book;
    flow = after.part.flow;
    evictions = after.part.evictions;
    index = after.part.index;
    cursor = after.part.cursor;
  };
  lanes = after.lanes;
}

-- items may have ended: the Book, the index, and the counts of how items went may be others; all else stays
abbrev pub with_ended : ShelfView → ShelfView → ShelfView
with_ended after before = record before {
  part = record before.part { book = after.part.book; flow = after.part.flow; index = after.part.index };
}

-- an item may have been put: these may be others, and the counts of what was evicted, the lanes, and the count of puts
abbrev pub with_put : ShelfView → ShelfView → ShelfView
with_put after before = record before {
  part = record before.part {
    book = after.part.book;
    flow = after.part.flow;
    evictions = after.part.evictions;
    index = after.part.index;
  };
  lanes = after.lanes;
  puts = after.puts;
}

-- the law holds of the words that were stored last for this chunk
abbrev pub Obeys : RowPredicate → PartView → ℕ → Type 0
Obeys law part chunk = law (last_words part.book.sheet chunk)

-- the law holds of each item that is linked
abbrev pub IsLawful : RowPredicate → PartView → Type 0
IsLawful law part = (chunk : ℕ) → IsSome (linked_at part.book.sheet chunk) → Obeys law part chunk

-- the part may have looked until an item had expired, which ended then: its cursor, and the counts of what was evicted,
-- may be others, and what may where items ended; all else stays, also the lanes
abbrev pub with_taken : ShelfView → ShelfView → ShelfView
with_taken after before = record before {
  part = record before.part {
    book = after.part.book;
    flow = after.part.flow;
    evictions = after.part.evictions;
    index = after.part.index;
    cursor = after.part.cursor;
  };
}

-- an item may have been evicted, for which bumps may have been applied: what may be others where items ended, the counts
-- of what was evicted, and the lanes; all else stays, also the count of puts
abbrev pub with_evicted : ShelfView → ShelfView → ShelfView
with_evicted after before = record before {
  part = record before.part {
    book = after.part.book;
    flow = after.part.flow;
    evictions = after.part.evictions;
    index = after.part.index;
  };
  lanes = after.lanes;
}

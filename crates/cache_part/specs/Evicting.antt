-- What an evict comes to for which no put asks.
use Rattle.std.specs.Prelude.{◌≡◌, ℕ, List, Option, None, Some}
use Rattle.bump_class.specs.Books.{BookView}
use Rattle.bump_class.specs.Lanes.{LaneView}
use Rattle.cache_lists.specs.Linked.{linked_at}
use Rattle.cache_part.specs.Parts.{PartView, counted}
use Rattle.cache_part.specs.Putting.{EvictsAndReads}

-- no item is linked
abbrev pub HasNoItem : BookView → Type 0
HasNoItem book = (chunk : ℕ) → linked_at book.sheet chunk ≡ None

-- The item of this chunk was evicted, whose turn it was, as for a put of a new key into a part that is full; or none was
-- linked, and nothing changed.
abbrev pub EvictsNext : ℕ → ℕ → Option ℕ → PartView → List LaneView → PartView → List LaneView → Type 0
EvictsNext most now None before from after to = HasNoItem before.book × (after ≡ before) × (to ≡ from)
EvictsNext most now (Some chunk) before from after to =
    EvictsAndReads most now chunk (counted before) from (counted after) to

use Rattle.std.proofs.Common.{◌≡◌, ℕ, true}
use Rattle.cache_index.specs.Views.{IsWithin, has_answered, lanes_ahead}
use Rattle.cache_part.specs.Keys.{key_at}
use Rattle.cache_part.specs.Looks.{LooksOnly}
use Rattle.cache_part.proofs.finding.find.Given as goal

-- no chunk that was answered has the key
abbrev pub invariant-lanes : goal.invariant-lanes
invariant-lanes g l = record {
  index : l.index ≡ l.fn.index;
  hash : l.search.hash ≡ l.hash;
  within : IsWithin l.index l.search;
  looks : LooksOnly l.fn.lists.book l.lists.book;
  rest : l.lists ≡ record l.fn.lists { book = l.lists.book };
  none : (chunk : ℕ) → has_answered l.index l.search chunk ≡ true
      → key_at l.key_words l.fn.lists.book.sheet chunk ≡ l.key → ⊥;
}

abbrev pub decreases-lanes : goal.decreases-lanes
decreases-lanes g l = lanes_ahead l.index l.search

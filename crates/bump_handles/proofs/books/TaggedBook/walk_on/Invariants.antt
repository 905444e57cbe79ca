use Rattle.std.proofs.Common.{◌≡◌, ◌≤◌, ℕ, List, ◌++◌, length, drop}
use Rattle.std.specs.Prelude.{IfSome, true}
use Rattle.bump_links.specs.Lists.{first_of}
use Rattle.bump_rules.specs.Lists.{list_at}
use Rattle.bump_steps.specs.Views.{owns}
use Rattle.bump_heads.specs.Linking.{place_of_chunk}
use Rattle.bump_handles.proofs.books.TaggedBook.walk_on.Given as goal

-- the chunks that are told so far, and the rest of the list, of which the chunk at hand is the first
abbrev pub invariant-loop-count : goal.invariant-loop-count
invariant-loop-count g l = record {
  stands : IfSome l.next (λ c. (owns c l.self.book.sheet ≡ true) × (place_of_chunk l.self.book.sheet c ≡ l.place));
  room : l.count ≤ length l.chunks;
  told : (before row : List ℕ) → list_at l.self.book.lists l.place ≡ before ++ row → l.fn.first ≡ first_of row
      → (ahead : List ℕ) × (told : List ℕ) × (row ≡ told ++ ahead) × (length told ≡ l.count)
      × (l.next ≡ first_of ahead) × (l.chunks ≡ told ++ drop l.count l.fn.chunks);
}

use Rattle.std.proofs.Common.{◌≡◌, ◌++◌, map, option_map}
use Rattle.std.specs.Vec.Iter.{into_iter_items}
use Rattle.bump_handles.specs.Opening.{all_there, tagged}
use Rattle.bump_handles.proofs.opening.tag_books.Given as goal

-- those that were made, and those that are still to come
abbrev pub invariant-loop-book : goal.invariant-loop-book
invariant-loop-book g l = map (option_map (λ b. b.value)) l.all.items ++ all_there (tagged l.fn.store (into_iter_items l.book-iterator))
    ≡ all_there (tagged l.fn.store l.fn.books.items)

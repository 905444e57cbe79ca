-- The items of a part are visited that haven't expired.
use Rattle.std.specs.Prelude.{ℕ, Bool, ◌&&◌, not, List, filter, is_some}
use Rattle.std.specs.List.{range_with_len}
use Rattle.bump_steps.specs.declared.views.ClassSheet.{ClassSheet}
use Rattle.cache_lists.specs.Expiring.{expired_at}
use Rattle.cache_lists.specs.Linked.{linked_at}

-- whether an item is linked at this chunk that hasn't expired at this time
abbrev pub has_unexpired : ℕ → ClassSheet → ℕ → Bool
has_unexpired now class chunk = is_some (linked_at class chunk) && not (expired_at now class chunk)

-- the chunks from this one on, so many, at which such an item is linked, in the order of their numbers
abbrev pub unexpired_among : ℕ → ClassSheet → ℕ → ℕ → List ℕ
unexpired_among now class first count = filter (has_unexpired now class) (range_with_len first count)

-- all chunks of the class at which one is
abbrev pub unexpired_chunks : ℕ → ClassSheet → List ℕ
unexpired_chunks now class = unexpired_among now class class.first class.count

-- The sizes of a class's lists.
use Rattle.std.specs.Prelude.{ℕ, length}
use Rattle.bump_rules.specs.Lists.{Lists, list_at}
use Rattle.bump_rules.specs.Places.{all_places}
use Rattle.bump_rules.specs.Totals.{total}

-- how many chunks stand in the lists together
abbrev pub all_sizes : Lists → ℕ
all_sizes lists = total (λ place. length (list_at lists place)) all_places

-- Lives, and lists of them.
use Rattle.std.specs.Prelude.{ℕ, Bool, cond, ◌==◌, ◌&&◌, List}
use Rattle.bump_rules.specs.declared.items.ItemId.{ItemId}
use Rattle.bump_rules.specs.Totals.{total}

-- the life of a chunk with a generation
abbrev pub life : ℕ → ℕ → ItemId
life chunk generation = record { chunk = chunk; generation = generation }

-- whether two lives are one
abbrev pub is_same : ItemId → ItemId → Bool
is_same one other = (one.chunk == other.chunk) && (one.generation == other.generation)

-- 1 for this life, 0 for another
abbrev pub one_if : ItemId → ItemId → ℕ
one_if one other = cond (is_same one other) 1 0

-- how often a list names a life
abbrev pub count_of : ItemId → List ItemId → ℕ
count_of item lives = total (one_if item) lives

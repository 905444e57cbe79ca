-- What freeing some chunks comes to.
use Rattle.std.specs.Prelude.{ℕ}
use Rattle.bump_rules.specs.declared.items.Head.{Head}
use Rattle.bump_class.specs.Books.{BookView}
use Rattle.bump_class.specs.Sweeps.{SweepsThese, up_to}

-- one call frees at most so many
abbrev pub most_freed : ℕ
most_freed = 64

-- At most so many chunks of ended items came free, by the heads that the looks at them found: DYING was looked at front to
-- back, each chunk once, up to the last one that came free, or to its end.
abbrev pub FreesUpTo : ℕ → BookView → ℕ → BookView → (ℕ → Head) → Type 0
FreesUpTo most before freed after heads = SweepsThese (up_to most heads before.lists.dying) before freed after heads

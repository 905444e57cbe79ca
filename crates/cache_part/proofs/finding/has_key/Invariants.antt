use Rattle.std.proofs.Common.{◌≡◌, ℕ, suc, ◌<◌, get_or}
use Rattle.bump_steps.specs.Views.{last_word}
use Rattle.cache_part.specs.Looks.{LooksOnly}
use Rattle.cache_part.proofs.finding.has_key.Given as goal

-- the words so far are the key's
abbrev pub invariant-loop-index : goal.invariant-loop-index
invariant-loop-index g l = record {
  looks : LooksOnly l.fn.lists.book l.lists.book;
  rest : l.lists ≡ record l.fn.lists { book = l.lists.book };
  same : (j : ℕ) → j < l.index → last_word (suc j) l.fn.lists.book.sheet l.chunk ≡ get_or l.key j 0;
}

-- What the look of a pull at its item leaves.
use Rattle.std.proofs.Common.{◌≡◌, ℕ, sym, ap, ◌∙◌, subst, refl, inl, inr}
use Rattle.bump_rules.specs.declared.commands.Pulled.{Pulled}
use Rattle.bump_rules.specs.declared.items.Head.{Head}
use Rattle.bump_rules.specs.declared.places.Limits.{Limits}
use Rattle.bump_rules.specs.declared.places.Tail.{Tail}
use Rattle.bump_rules.specs.Tables.{pulled_to}
use Rattle.bump_class.specs.Books.{BookView}
use Rattle.bump_class.specs.Pulls.{ClearsWhereActive, MovesItemBy, book_after_pull_to}
use Rattle.cache_lists.specs.Looks.{LooksOnly, with_steps}

-- behind it nothing is another but the steps that the class's seat notes
clears_looks : (chunk : ℕ) (last : Head) (book looked : BookView) → ClearsWhereActive chunk last book looked
    → LooksOnly book looked
clears_looks chunk last book looked (inl load) = subst (LooksOnly book) (sym load.1) refl
clears_looks chunk last book looked (inr clear) = subst (LooksOnly book) (sym clear.3) refl

-- so a pull leaves what its move leaves, if there is one
pub pulled_after : (limits : Limits) (book left : BookView) (from : Tail) (chunk : ℕ) (answer : Pulled)
    (cleared moved : Head) → (moves : MovesItemBy limits book from chunk answer left cleared moved)
    → left ≡ book_after_pull_to from chunk (pulled_to answer) moved (with_steps moves.looked.sheet.steps book)
pulled_after limits book left from chunk answer cleared moved moves = moves.after
    ∙ ap (book_after_pull_to from chunk (pulled_to answer) moved)
    (clears_looks chunk cleared book moves.looked moves.clears)

use Rattle.std.proofs.Common.{◌∙◌, ◌≡◌, ℕ, subst}
use Rattle.bump_steps.specs.Views.{last_word}
use Rattle.cache_lists.specs.Items.{IsSameClass}
use Rattle.cache_part.proofs.PartLemmas.{cursor_kept, first_kept}
use Rattle.cache_part.proofs.ViewLemmas.{evictions_stay}
use Rattle.cache_part.proofs.parts.Part.clear.Goals as goal

pub clear-requires : goal.clear-requires
clear-requires g c = record { part = c.self.invariant.0; first = c.self.invariant.3 }

pub invariant_of-self : goal.invariant_of-self
invariant_of-self g c = (
  c.clear.ensures.part,
  c.self.invariant.1,
  cursor_kept c.self.inside.cursor c.self.inside.lists.book c.clear.new.lists.book c.clear.ensures.class
      c.self.invariant.2,
  c.clear.ensures.first ∙ first_kept c.self.inside.index.first c.self.inside.lists.book c.clear.new.lists.book
      c.clear.ensures.class c.self.invariant.3,
)

pub returns : goal.returns
returns g c =
    let is = c.self.view_is in let left = c.clear.new.lists in record {
      empty = c.clear.ensures.empty;
      words = subst (λ v. (i c : ℕ) → last_word i left.book.sheet c ≡ last_word i v.book.sheet c) is c.clear.ensures.words;
      class = subst (λ v. IsSameClass v.book left.book) is c.clear.ensures.class;
      rest = evictions_stay _ _ left c.clear.new.index.table is c.clear.ensures.evictions;
    }

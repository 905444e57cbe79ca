use Rattle.std.proofs.Common.{◌+◌, ◌-◌, ◌≤◌, length, subst}
use Rattle.bump_class.specs.Books.{IsBook}
use Rattle.cache_lists.specs.Counts.{IsFlow, SegmentsAddUp}
use Rattle.cache_part.specs.Parts.{IsPart}
use Rattle.cache_part.proofs.parts.Part.promise.Goals as goal

pub returns : goal.returns
returns g c =
    let is = c.self.view_is in record {
      part = subst (λ v. IsPart v.seed v.key_words v.book.sheet v.index) is c.self.invariant.0;
      words = subst (λ v. v.key_words + v.value_words ≤ g.N.Name.table.slots) is c.self.invariant.1;
      book = subst (λ v. IsBook v.book) is c.promise.ensures.book;
      flow = subst (λ v. IsFlow v.flow v.book.sheet) is c.promise.ensures.flow;
      sums = subst (λ v. SegmentsAddUp (length v.book.lists.hot) (length v.book.lists.warm)
          (length v.book.lists.cold) (length v.book.lists.temp) v.book.sheet) is c.promise.ensures.sums;
      cursor = subst (λ v. v.cursor ≤ v.book.sheet.count - 1) is c.self.invariant.2;
    }

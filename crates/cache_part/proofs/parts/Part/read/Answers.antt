use Rattle.std.proofs.Common.{◌≡◌, length, refl, subst}
use Rattle.cache_part.specs.Keys.{words_from}
use Rattle.cache_part.specs.Looks.{LooksOnly}
use Rattle.cache_part.proofs.LookLemmas.{looks_keep}
use Rattle.cache_part.proofs.PartLemmas.{cursor_kept, first_kept, part_kept}
use Rattle.cache_part.proofs.ViewLemmas.{book_alone}
use Rattle.cache_part.proofs.parts.Part.read.Goals as goal

pub invariant_of-self : goal.invariant_of-self
invariant_of-self g c =
    let from = c.self.inside.lists in let left = c.read.new.lists in
    let keeps = looks_keep from.book left.book c.read.ensures.looks in (
      part_kept c.self.inside.settings.seed c.self.inside.settings.key_words from.book left.book c.self.inside.index.table
          c.self.invariant.0 keeps,
      c.self.invariant.1,
      cursor_kept c.self.inside.cursor from.book left.book keeps.class c.self.invariant.2,
      first_kept c.self.inside.index.first from.book left.book keeps.class c.self.invariant.3,
    )

pub returns : goal.returns
returns g c =
    let is = c.self.view_is in let left = c.read.new.lists in record {
      read = subst (λ v. c.read.new.words ≡ words_from c.args.from (length c.args.words.now) v.book.sheet c.args.chunk) is
          c.read.ensures.read;
      looks = subst (λ v. LooksOnly v.book left.book) is c.read.ensures.looks;
      rest = book_alone _ _ left c.self.inside.index.table is c.read.ensures.rest refl;
    }

use Rattle.std.proofs.Common.{refl, subst}
use Rattle.cache_part.specs.Looks.{LooksOnly}
use Rattle.cache_part.proofs.LookLemmas.{looks_keep, word_looks, seen_rest}
use Rattle.cache_part.proofs.PartLemmas.{cursor_kept, first_kept, part_kept}
use Rattle.cache_part.proofs.ViewLemmas.{book_alone}
use Rattle.cache_part.proofs.parts.Part.word.Goals as goal

pub invariant_of-self : goal.invariant_of-self
invariant_of-self g c =
    let from = c.self.inside.lists in let left = c.word.new.self in
    let keeps = looks_keep from.book left.book (word_looks from left c.args.chunk c.word.result c.word.ensures.seen) in (
      part_kept c.self.inside.settings.seed c.self.inside.settings.key_words from.book left.book c.self.inside.index.table
          c.self.invariant.0 keeps,
      c.self.invariant.1,
      cursor_kept c.self.inside.cursor from.book left.book keeps.class c.self.invariant.2,
      first_kept c.self.inside.index.first from.book left.book keeps.class c.self.invariant.3,
    )

pub returns-clause-looks : goal.returns-clause-looks
returns-clause-looks g c = subst (λ v. LooksOnly v.book c.word.new.self.book) c.self.view_is
    (word_looks c.self.inside.lists c.word.new.self c.args.chunk c.word.result c.word.ensures.seen)

pub returns-clause-rest : goal.returns-clause-rest
returns-clause-rest g c = book_alone _ _ c.word.new.self c.self.inside.index.table c.self.view_is
    (seen_rest c.self.inside.lists c.word.new.self _ c.word.ensures.seen) refl

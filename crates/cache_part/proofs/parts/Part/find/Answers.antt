use Rattle.std.proofs.Common.{IfSome, IfNone, sym, ap, ◌∙◌, subst, arith}
use Rattle.cache_part.specs.Looks.{LooksOnly}
use Rattle.cache_part.specs.Parts.{IsUnder, IsUnknown}
use Rattle.cache_part.proofs.LookLemmas.{looks_keep}
use Rattle.cache_part.proofs.PartLemmas.{cursor_kept, first_kept, part_looked, item_some, item_none}
use Rattle.cache_part.proofs.ViewLemmas.{book_alone}
use Rattle.cache_part.proofs.parts.Part.find.Goals as goal

pub find-requires : goal.find-requires
find-requires g c = record {
  part = c.self.invariant.0;
  words = c.requires ∙ sym (ap (λ v. v.key_words) c.self.view_is);
  few = omega (arith, c.self.invariant.1);
}

pub invariant_of-self : goal.invariant_of-self
invariant_of-self g c = (
  part_looked c.self.inside.settings.seed c.self.inside.settings.key_words
      c.self.inside.lists.book c.find.new.lists.book c.self.inside.index c.find.new.index c.self.invariant.0
      c.find.ensures.looks c.find.ensures.index,
  c.self.invariant.1,
  cursor_kept c.self.inside.cursor c.self.inside.lists.book c.find.new.lists.book
      (looks_keep c.self.inside.lists.book c.find.new.lists.book c.find.ensures.looks).class c.self.invariant.2,
  ap (λ i. i.first) c.find.ensures.index
      ∙ first_kept c.self.inside.index.first c.self.inside.lists.book c.find.new.lists.book
      (looks_keep c.self.inside.lists.book c.find.new.lists.book c.find.ensures.looks).class c.self.invariant.3,
)

pub returns-clause-found : goal.returns-clause-found
returns-clause-found g c =
    subst (λ v. IfSome c.find.result.chunk (λ chunk. IsUnder c.args.key.now chunk v)) c.self.view_is
    (item_some c.self.inside.settings.key_words c.args.key.now c.find.result.chunk c.self.inside.lists.book.sheet
    c.find.ensures.item)

pub returns-clause-none : goal.returns-clause-none
returns-clause-none g c = subst (λ v. IfNone c.find.result.chunk (IsUnknown c.args.key.now v)) c.self.view_is
    (item_none c.self.inside.settings.key_words c.args.key.now c.find.result.chunk c.self.inside.lists.book.sheet
    c.find.ensures.item)

pub returns-clause-looks : goal.returns-clause-looks
returns-clause-looks g c = subst (λ v. LooksOnly v.book c.find.new.lists.book) c.self.view_is c.find.ensures.looks

pub returns-clause-rest : goal.returns-clause-rest
returns-clause-rest g c = book_alone _ _ c.find.new.lists c.find.new.index.table c.self.view_is c.find.ensures.rest
    (ap (λ i. i.table) c.find.ensures.index)

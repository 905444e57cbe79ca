use Rattle.std.proofs.Common.{sym, ap, ◌∙◌, subst, arith}
use Rattle.cache_part.specs.Parts.{IsPart}
use Rattle.cache_part.proofs.PartLemmas.{part_new}
use Rattle.cache_part.proofs.parts.Part.new.Goals as goal

pub invariant_of-result : goal.invariant_of-result
invariant_of-result g c = (
  subst (λ v. IsPart c.args.seed c.args.key_words v.book.sheet c.args.index.table) (sym c.new.ensures)
      (part_new c.args.seed c.args.key_words c.args.book c.args.index.table c.requires.history c.requires.index),
  c.requires.words,
  omega arith,
  c.requires.first ∙ sym (ap (λ v. v.book.sheet.first) c.new.ensures),
)

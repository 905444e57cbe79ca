use Rattle.std.proofs.Common.{◌∷◌, ap, ap₂, ◌∙◌}
use Rattle.cache_part.specs.Keys.{words_from}
use Rattle.cache_part.proofs.KeyLemmas.{words_same, row_put, rest_length}
use Rattle.cache_part.proofs.LookLemmas.{looks_keep, label_looks}
use Rattle.cache_part.proofs.reading.read_from.Goals as goal

pub returns-clause-read : goal.returns-clause-read
returns-clause-read g c =
    let before = c.args.lists.now in let seen = c.label.new.self in
    let keeps = looks_keep before.book seen.book (label_looks before seen c.args.chunk c.label.result c.label.ensures.seen) in
    row_put c.label.result c.args.told.now c.read.new.words c.requires.some
    ∙ ap₂ (λ label words. label ∷ words) c.label.ensures.stored
    (c.read.ensures.read ∙ (ap (λ n. words_from c.args.from n seen.book.sheet c.args.chunk)
    (rest_length c.label.result c.args.told.now c.requires.some)
    ∙ words_same before.book.sheet seen.book.sheet c.args.chunk c.args.from _ (λ i. keeps.words i c.args.chunk)))

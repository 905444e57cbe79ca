use Rattle.std.proofs.Common.{sym, ◌∙◌}
use Rattle.cache_part.proofs.VisitLemmas.{linked_where}
use Rattle.bump_cache.proofs.VisitLemmas.{entry_told, row_told}
use Rattle.bump_cache.proofs.pairs.unexpired_in.Goals as goal

pub told_row-requires-clause-pair : goal.told_row-requires-clause-pair
told_row-requires-clause-pair g c =
    let part = c.args.shelf.now.part in let e = c.read_unexpired.ensures in
    let told = c.if-not-read_unexpired.false in
    row_told g.K.Packed.fits g.K.Packed.as_words g.V.Packed.fits g.V.Packed.as_words g.K.Packed.width g.V.Packed.width
    g.met.K.Packed.length_is g.met.V.Packed.length_is part c.requires.key c.requires.value c.args.chunk _
    (c.promise.ensures.lawful c.args.chunk (linked_where c.args.now part.book.sheet c.args.chunk (sym e.told ∙ told)))
    (e.read told)

pub returns-clause-some : goal.returns-clause-some
returns-clause-some g c = sym c.read_unexpired.ensures.told ∙ c.if-not-read_unexpired.false

pub returns-clause-tells : goal.returns-clause-tells
returns-clause-tells g c =
    let part = c.args.shelf.now.part in let e = c.read_unexpired.ensures in
    let told = c.if-not-read_unexpired.false in let row = c.told_row.ensures in
    entry_told g.K.Packed.fits g.K.Packed.as_words g.V.Packed.fits g.V.Packed.as_words g.K.Packed.width g.V.Packed.width
    g.met.K.Packed.length_is g.met.V.Packed.length_is part c.requires.key c.requires.value c.args.chunk _
    (c.promise.ensures.lawful c.args.chunk (linked_where c.args.now part.book.sheet c.args.chunk (sym e.told ∙ told)))
    (e.read told) _ _ _ row.fits.0 row.fits.1 row.row

use Rattle.std.proofs.Common.{ap, ◌∙◌, subst}
use Rattle.cache_readers.specs.Readers.{CountsNothing, ReadsMissed, ReadsNothing}
use Rattle.bump_cache.specs.Pairs.{IsPair}
use Rattle.bump_cache.specs.Readers.{MissesKey, SeesItem}
use Rattle.bump_cache.proofs.Choices.{chosen_in, in_part, is_hash, keeps_rings}
use Rattle.bump_cache.proofs.looking.see_in.Goals as goal

pub returns-clause-found : goal.returns-clause-found
returns-clause-found g c =
    λ seen. in_part c.args.seed (g.K.Packed.as_words c.args.key.now) c.args.parts.now _ _ _
    (chosen_in c.args.seed (g.K.Packed.as_words c.args.key.now) c.pack.new.to c.args.parts.now _ c.see_by.new.reader
    c.full_hash-full.result c.pack.ensures.packed c.full_hash-full.ensures c.part_in.ensures.part)
    (SeesItem (IsPair g.K.Packed.fits g.K.Packed.as_words g.V.Packed.fits g.V.Packed.as_words)
    (g.K.Packed.as_words c.args.key.now) c.args.now) (c.see_by.ensures.found seen)

pub returns-clause-nothing : goal.returns-clause-nothing
returns-clause-nothing g c =
    λ unseen. in_part c.args.seed (g.K.Packed.as_words c.args.key.now) c.args.parts.now _ _ _
    (chosen_in c.args.seed (g.K.Packed.as_words c.args.key.now) c.pack.new.to c.args.parts.now _ c.see_by.new.reader
    c.full_hash-full.result c.pack.ensures.packed c.full_hash-full.ensures c.part_in.ensures.part)
    (ReadsNothing (g.K.Packed.as_words c.args.key.now) c.args.now) (c.see_by.ensures.nothing unseen)

pub returns-clause-uncounted : goal.returns-clause-uncounted
returns-clause-uncounted g c =
    in_part c.args.seed (g.K.Packed.as_words c.args.key.now) c.args.parts.now _ _ _
    (chosen_in c.args.seed (g.K.Packed.as_words c.args.key.now) c.pack.new.to c.args.parts.now _ c.see_by.new.reader
    c.full_hash-full.result c.pack.ensures.packed c.full_hash-full.ensures c.part_in.ensures.part)
    (CountsNothing c.see_by.result) c.see_by.ensures.uncounted

pub returns-clause-ring : goal.returns-clause-ring
returns-clause-ring g c =
    keeps_rings c.args.seed (g.K.Packed.as_words c.args.key.now) c.args.parts.now _ _ _
    (chosen_in c.args.seed (g.K.Packed.as_words c.args.key.now) c.pack.new.to c.args.parts.now _ c.see_by.new.reader
    c.full_hash-full.result c.pack.ensures.packed c.full_hash-full.ensures c.part_in.ensures.part)
    c.see_by.ensures.ring

pub returns-clause-absent : goal.returns-clause-absent
returns-clause-absent g c =
    λ unseen. in_part c.args.seed (g.K.Packed.as_words c.args.key.now) c.args.parts.now _ _ _
    (chosen_in c.args.seed (g.K.Packed.as_words c.args.key.now) c.pack.new.to c.args.parts.now _ c.see_by.new.reader
    c.full_hash-full.result c.pack.ensures.packed c.full_hash-full.ensures c.part_in.ensures.part)
    (MissesKey c.args.seed (g.K.Packed.as_words c.args.key.now) c.args.now)
    (subst (λ hash. ReadsMissed hash (g.K.Packed.as_words c.args.key.now) c.args.now c.part_in.result.now
    c.see_by.new.reader) (is_hash c.args.seed (g.K.Packed.as_words c.args.key.now) c.pack.new.to c.full_hash-full.result c.upper_half.result
    c.pack.ensures.packed c.full_hash-full.ensures c.upper_half.ensures)
    (c.see_by.ensures.absent unseen))

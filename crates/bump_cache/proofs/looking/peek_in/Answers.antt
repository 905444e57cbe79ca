use Rattle.std.proofs.Common.{IfNone, is_some, ap, ◌∙◌, subst}
use Rattle.cache_readers.specs.Readers.{CountsNothing, ReadsMissed, ReadsNothing}
use Rattle.bump_cache.specs.Pairs.{IsPair}
use Rattle.bump_cache.specs.Readers.{MissesKey, PeeksValue}
use Rattle.bump_cache.proofs.Choices.{chosen_in, in_part, in_part_none, in_part_some, is_hash, keeps_rings}
use Rattle.bump_cache.proofs.looking.peek_in.Goals as goal

pub returns-clause-found : goal.returns-clause-found
returns-clause-found g c =
    in_part_some c.args.seed (g.K.Packed.as_words c.args.key.now) c.args.parts.now _ _ _
    (chosen_in c.args.seed (g.K.Packed.as_words c.args.key.now) c.pack.new.to c.args.parts.now _ c.peek_by.new.reader
    c.full_hash-full.result c.pack.ensures.packed c.full_hash-full.ensures c.part_in.ensures.part)
    c.peek_by.result (λ it. PeeksValue (IsPair g.K.Packed.fits g.K.Packed.as_words g.V.Packed.fits g.V.Packed.as_words)
    (g.K.Packed.as_words c.args.key.now) (g.V.Packed.as_words it) c.args.now) c.peek_by.ensures.found

pub returns-clause-nothing : goal.returns-clause-nothing
returns-clause-nothing g c =
    in_part_none c.args.seed (g.K.Packed.as_words c.args.key.now) c.args.parts.now _ _ _
    (chosen_in c.args.seed (g.K.Packed.as_words c.args.key.now) c.pack.new.to c.args.parts.now _ c.peek_by.new.reader
    c.full_hash-full.result c.pack.ensures.packed c.full_hash-full.ensures c.part_in.ensures.part)
    c.peek_by.result (ReadsNothing (g.K.Packed.as_words c.args.key.now) c.args.now) c.peek_by.ensures.nothing

pub returns-clause-uncounted : goal.returns-clause-uncounted
returns-clause-uncounted g c =
    in_part c.args.seed (g.K.Packed.as_words c.args.key.now) c.args.parts.now _ _ _
    (chosen_in c.args.seed (g.K.Packed.as_words c.args.key.now) c.pack.new.to c.args.parts.now _ c.peek_by.new.reader
    c.full_hash-full.result c.pack.ensures.packed c.full_hash-full.ensures c.part_in.ensures.part)
    (CountsNothing (is_some c.peek_by.result)) c.peek_by.ensures.uncounted

pub returns-clause-ring : goal.returns-clause-ring
returns-clause-ring g c =
    keeps_rings c.args.seed (g.K.Packed.as_words c.args.key.now) c.args.parts.now _ _ _
    (chosen_in c.args.seed (g.K.Packed.as_words c.args.key.now) c.pack.new.to c.args.parts.now _ c.peek_by.new.reader
    c.full_hash-full.result c.pack.ensures.packed c.full_hash-full.ensures c.part_in.ensures.part)
    c.peek_by.ensures.ring

pub returns-clause-absent : goal.returns-clause-absent
returns-clause-absent g c =
    in_part_none c.args.seed (g.K.Packed.as_words c.args.key.now) c.args.parts.now _ _ _
    (chosen_in c.args.seed (g.K.Packed.as_words c.args.key.now) c.pack.new.to c.args.parts.now _ c.peek_by.new.reader
    c.full_hash-full.result c.pack.ensures.packed c.full_hash-full.ensures c.part_in.ensures.part)
    c.peek_by.result (MissesKey c.args.seed (g.K.Packed.as_words c.args.key.now) c.args.now)
    (subst (λ hash. IfNone c.peek_by.result (ReadsMissed hash (g.K.Packed.as_words c.args.key.now) c.args.now
    c.part_in.result.now c.peek_by.new.reader)) (is_hash c.args.seed (g.K.Packed.as_words c.args.key.now) c.pack.new.to c.full_hash-full.result c.upper_half.result
    c.pack.ensures.packed c.full_hash-full.ensures c.upper_half.ensures)
    c.peek_by.ensures.absent)

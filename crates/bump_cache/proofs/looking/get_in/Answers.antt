use Rattle.std.proofs.Common.{IfNone, ap, ◌∙◌, subst}
use Rattle.cache_readers.specs.Readers.{CountsHit, Misses, ReadsMissed}
use Rattle.bump_cache.specs.Pairs.{IsPair}
use Rattle.bump_cache.specs.Readers.{FindsValue, MissesKey}
use Rattle.bump_cache.proofs.Choices.{chosen_in, in_part_none, in_part_some, is_hash, keeps_rings}
use Rattle.bump_cache.proofs.looking.get_in.Goals as goal

pub returns-clause-found : goal.returns-clause-found
returns-clause-found g c =
    in_part_some c.args.seed (g.K.Packed.as_words c.args.key.now) c.args.parts.now _ _ _
    (chosen_in c.args.seed (g.K.Packed.as_words c.args.key.now) c.pack.new.to c.args.parts.now _ c.get_by.new.reader
    c.full_hash-full.result c.pack.ensures.packed c.full_hash-full.ensures c.part_in.ensures.part)
    c.get_by.result (λ it. FindsValue (IsPair g.K.Packed.fits g.K.Packed.as_words g.V.Packed.fits g.V.Packed.as_words)
    (g.K.Packed.as_words c.args.key.now) (g.V.Packed.as_words it) c.args.now) c.get_by.ensures.found

pub returns-clause-counted : goal.returns-clause-counted
returns-clause-counted g c =
    in_part_some c.args.seed (g.K.Packed.as_words c.args.key.now) c.args.parts.now _ _ _
    (chosen_in c.args.seed (g.K.Packed.as_words c.args.key.now) c.pack.new.to c.args.parts.now _ c.get_by.new.reader
    c.full_hash-full.result c.pack.ensures.packed c.full_hash-full.ensures c.part_in.ensures.part)
    c.get_by.result (λ it. CountsHit) c.get_by.ensures.counted

pub returns-clause-missed : goal.returns-clause-missed
returns-clause-missed g c =
    in_part_none c.args.seed (g.K.Packed.as_words c.args.key.now) c.args.parts.now _ _ _
    (chosen_in c.args.seed (g.K.Packed.as_words c.args.key.now) c.pack.new.to c.args.parts.now _ c.get_by.new.reader
    c.full_hash-full.result c.pack.ensures.packed c.full_hash-full.ensures c.part_in.ensures.part)
    c.get_by.result (Misses (g.K.Packed.as_words c.args.key.now) c.args.now) c.get_by.ensures.missed

pub returns-clause-ring : goal.returns-clause-ring
returns-clause-ring g c =
    keeps_rings c.args.seed (g.K.Packed.as_words c.args.key.now) c.args.parts.now _ _ _
    (chosen_in c.args.seed (g.K.Packed.as_words c.args.key.now) c.pack.new.to c.args.parts.now _ c.get_by.new.reader
    c.full_hash-full.result c.pack.ensures.packed c.full_hash-full.ensures c.part_in.ensures.part)
    c.get_by.ensures.ring

pub returns-clause-absent : goal.returns-clause-absent
returns-clause-absent g c =
    in_part_none c.args.seed (g.K.Packed.as_words c.args.key.now) c.args.parts.now _ _ _
    (chosen_in c.args.seed (g.K.Packed.as_words c.args.key.now) c.pack.new.to c.args.parts.now _ c.get_by.new.reader
    c.full_hash-full.result c.pack.ensures.packed c.full_hash-full.ensures c.part_in.ensures.part)
    c.get_by.result (MissesKey c.args.seed (g.K.Packed.as_words c.args.key.now) c.args.now)
    (subst (λ hash. IfNone c.get_by.result (ReadsMissed hash (g.K.Packed.as_words c.args.key.now) c.args.now
    c.part_in.result.now c.get_by.new.reader)) (is_hash c.args.seed (g.K.Packed.as_words c.args.key.now) c.pack.new.to c.full_hash-full.result c.upper_half.result
    c.pack.ensures.packed c.full_hash-full.ensures c.upper_half.ensures)
    c.get_by.ensures.absent)

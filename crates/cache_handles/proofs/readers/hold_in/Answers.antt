use Rattle.std.proofs.Common.{List, ℕ, IfNone, IfSome, length, refl, subst}
use Rattle.packed_words.specs.Spelling.{long_string}
use Rattle.bump_cache.proofs.Choices.{chosen_in, in_part_none, in_part_some, is_hash}
use Rattle.cache_handles.specs.Reading.{HitsHeld, MissesBy, MissesItem}
use Rattle.cache_handles.proofs.readers.hold_in.Goals as goal

pub returns-clause-found : goal.returns-clause-found
returns-clause-found g c =
    let row = long_string (length c.args.words.now) c.args.key.now in
    in_part_some c.args.seed row c.args.parts.now _ _ _
    (chosen_in c.args.seed row c.spell.new.to c.args.parts.now _ c.hold_by.new.reader c.full_hash-full.result c.spell.ensures
    c.full_hash-full.ensures c.part_in.ensures.part)
    c.hold_by.result (λ hold. HitsHeld row c.args.now hold)
    (subst (λ (words : List ℕ). IfSome c.hold_by.result (λ hold. HitsHeld words c.args.now hold c.part_in.result.now
    c.hold_by.new.reader)) c.spell.ensures c.hold_by.ensures.found)

pub returns-clause-missed : goal.returns-clause-missed
returns-clause-missed g c =
    let row = long_string (length c.args.words.now) c.args.key.now in
    in_part_none c.args.seed row c.args.parts.now _ _ _
    (chosen_in c.args.seed row c.spell.new.to c.args.parts.now _ c.hold_by.new.reader c.full_hash-full.result c.spell.ensures
    c.full_hash-full.ensures c.part_in.ensures.part)
    c.hold_by.result (MissesItem c.args.seed row c.args.now)
    (subst (λ (words : List ℕ). IfNone c.hold_by.result (MissesItem c.args.seed words c.args.now c.part_in.result.now
    c.hold_by.new.reader)) c.spell.ensures
    (subst (λ (hash : ℕ). IfNone c.hold_by.result (MissesBy hash c.spell.new.to c.args.now c.part_in.result.now
    c.hold_by.new.reader)) (is_hash c.args.seed c.spell.new.to c.spell.new.to c.full_hash-full.result c.upper_half.result refl
    c.full_hash-full.ensures c.upper_half.ensures) c.hold_by.ensures.missed))

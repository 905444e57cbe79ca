use Rattle.std.proofs.Common.{List, ℕ, length, refl, subst}
use Rattle.packed_words.specs.Spelling.{long_string}
use Rattle.bump_cache.proofs.Choices.{chosen_in, in_part, is_hash}
use Rattle.cache_handles.specs.Reading.{Gets, GetsBy}
use Rattle.cache_handles.proofs.readers.get_in.Goals as goal

pub returns : goal.returns
returns g c =
    let count = length c.args.words.now in
    let row = long_string count c.args.key.now in
    in_part c.args.seed row c.args.parts.now _ _ _
    (chosen_in c.args.seed row c.spell.new.to c.args.parts.now _ c.get_by.new.reader c.full_hash-full.result c.spell.ensures
    c.full_hash-full.ensures c.part_in.ensures.part)
    (Gets c.args.seed row c.args.value_words c.args.now c.get_by.result)
    (subst (λ (words : List ℕ). Gets c.args.seed words c.args.value_words c.args.now c.get_by.result c.part_in.result.now
    c.get_by.new.reader) c.spell.ensures
    (subst (λ (hash : ℕ). GetsBy hash c.spell.new.to c.args.value_words c.args.now c.get_by.result c.part_in.result.now
    c.get_by.new.reader) (is_hash c.args.seed c.spell.new.to c.spell.new.to c.full_hash-full.result c.upper_half.result refl
    c.full_hash-full.ensures c.upper_half.ensures) c.get_by.ensures))

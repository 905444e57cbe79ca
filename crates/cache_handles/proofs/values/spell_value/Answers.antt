use Rattle.std.proofs.Common.{◌<◌, ◌∷◌, length, ap, ap₂, ◌∙◌, arith}
use Rattle.packed_words.specs.Spelling.{long_string}
use Rattle.cache_part.proofs.KeyLemmas.{rest_length, row_put}
use Rattle.cache_handles.proofs.values.spell_value.Goals as goal

pub returns-clause-words : goal.returns-clause-words
returns-clause-words c =
    let some : 0 < length c.args.words.now = omega (arith, c.requires.room) in
    row_put c.from.result c.args.words.now c.spell.new.to some
    ∙ ap₂ (λ x xs. x ∷ xs) c.from.ensures
    (c.spell.ensures ∙ ap (λ n. long_string n c.args.value.now) (rest_length c.from.result c.args.words.now some))

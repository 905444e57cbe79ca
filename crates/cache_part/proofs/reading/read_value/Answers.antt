use Rattle.std.proofs.Common.{◌≡◌, ◌-◌, ◌∷◌, sym, ap, ◌∙◌, arith, length, subst, true}
use Rattle.bump_steps.specs.Views.{last_label}
use Rattle.cache_part.specs.Keys.{words_from}
use Rattle.cache_part.specs.Putting.{TellsOldWords}
use Rattle.cache_part.proofs.reading.read_value.Goals as goal

pub returns-in-Some-clause-told : goal.returns-in-Some-clause-told
returns-in-Some-clause-told g c =
    let class = c.args.lists.now.book.sheet in let chunk = c.in-Some.chunk in
    let long : length c.args.told.now - 1 ≡ c.args._value_words = omega (arith, c.requires.told) in
    subst (λ o. TellsOldWords true c.args.key_words c.args._value_words o c.args.told.now c.read_from.new.told class)
    (sym c.in-Some.is)
    (c.read_from.ensures.read ∙ ap (λ n. last_label class chunk ∷ words_from c.args.key_words n class chunk) long)

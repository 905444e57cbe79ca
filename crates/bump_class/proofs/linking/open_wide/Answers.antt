use Rattle.std.proofs.Common.{ℕ, suc, Some, ap, ◌++◌, ◌∙◌, arith}
use Rattle.bump_rules.specs.Labels.{label_word}
use Rattle.bump_steps.specs.Views.{last_word, of_word}
use Rattle.bump_heads.specs.declared.views.ClassView.{ClassView}
use Rattle.bump_class.specs.Changes.{puts}
use Rattle.bump_class.proofs.Widening.{last_put}
use Rattle.bump_class.proofs.linking.open_wide.Goals as goal

pub open_item-requires-clause-law : goal.open_item-requires-clause-law
open_item-requires-clause-law g c row first rest =
    let k = c.args.seat.now.sheet in let xs = c.args.words.now in let at = c.args.chunk in
    c.requires.law row (
      first,
      λ j low. rest j ∙ ap (λ (v : ClassView). last_word (suc j) v.sheet at) c.put_words.ensures.stored
          ∙ ap (λ (n : ℕ). label_word at 0 (of_word n (k.words ++ puts at 0 xs))) (omega arith)
          ∙ last_put at 0 j xs k.words low,
    )

pub returns-clause-words : goal.returns-clause-words
returns-clause-words g c j low =
    let k = c.args.seat.now.sheet in let xs = c.args.words.now in let at = c.args.chunk in
    c.open_item.ensures.words j ∙ ap (λ (v : ClassView). Some (last_word (suc j) v.sheet at)) c.put_words.ensures.stored
    ∙ ap (λ (n : ℕ). Some (label_word at 0 (of_word n (k.words ++ puts at 0 xs)))) (omega arith)
    ∙ ap (λ (x : ℕ). Some x) (last_put at 0 j xs k.words low)

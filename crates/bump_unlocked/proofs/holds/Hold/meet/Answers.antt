use Rattle.std.proofs.Common.{◌≡◌, ℕ, Some, ap, ◌∙◌, subst}
use Rattle.bump_rules.specs.Labels.{label_of_life}
use Rattle.bump_steps.specs.declared.views.HoldSheet.{HoldSheet}
use Rattle.bump_steps.specs.References.{label_of_row, word_of_row}
use Rattle.bump_steps.specs.Views.{of_word}
use Rattle.bump_unlocked.proofs.holds.Hold.meet.Goals as goal

pub returns-clause-label : goal.returns-clause-label
returns-clause-label g c = subst
    (λ (p : HoldSheet). label_of_life p.life 0 c.args.book.now.sheet.labels ≡ Some (label_of_row p.row)) c.self.view_is
    (c.meet.ensures.stored ∙ ap (λ (x : ℕ). Some x) c.meet.ensures.read)

pub returns-clause-words : goal.returns-clause-words
returns-clause-words g c j = subst
    (λ (p : HoldSheet). label_of_life p.life 0 (of_word j c.args.book.now.sheet.words) ≡ Some (word_of_row p.row j))
    c.self.view_is (c.meet.ensures.words j)

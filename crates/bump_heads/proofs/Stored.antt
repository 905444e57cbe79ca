-- What a class's seat finds as a chunk's label or further word is what it stored last, and that of the chunk's life.
use Rattle.std.proofs.Common.{◌≡◌, ℕ, true, Some, sym, ap, ◌∙◌, subst}
use Rattle.bump_rules.specs.Labels.{label_of_life}
use Rattle.bump_rules.specs.Lawful.{IsUsed}
use Rattle.bump_rules.specs.Lives.{life}
use Rattle.bump_steps.specs.Plays.{Sat}
use Rattle.bump_steps.specs.Sights.{IsStoredLast}
use Rattle.bump_steps.specs.Views.{owns, standing, labels_of, last_word}
use Rattle.bump_heads.specs.declared.views.ClassView.{ClassView}
use Rattle.bump_heads.specs.Seats.{class_in, class_me, IsClassSheet}

module _ (i c word n : ℕ) (m : Sat) (now : ClassView) (view_is : class_in m.0 ≡ now) (is : m ≡ class_me (class_in m.0))
    (own : owns c now.sheet ≡ true) (found : IsStoredLast i c m.0 word) where
  pub found_last : word ≡ last_word i now.sheet c
  found_last = sym (found now.sheet (ap (λ (y : Sat). y.0.classes) (is ∙ ap class_me view_is)) own)

  pub found_of_life : IsClassSheet n (class_in m.0).sheet → IsUsed (standing now.sheet c).0
      → label_of_life (life c (standing now.sheet c).1) 0 (labels_of i now.sheet.labels now.sheet.words) ≡ Some word
  found_of_life sheet used =
      (subst (λ (v : ClassView). IsClassSheet n v.sheet) view_is sheet).labelled i c own used
      ∙ ap (λ (y : ℕ). Some y) (sym found_last)

-- The looks of a class's seat at a chunk's label and further words: what is found is what the class stored last.
use Rattle.std.specs.Prelude.{◌≡◌, ℕ, suc, true, [], ◌∷◌, ◌++◌, None}
use Rattle.bump_steps.specs.declared.views.Kind.TheVariants as kind
use Rattle.bump_steps.specs.declared.views.ClassSheet.{ClassSheet}
use Rattle.bump_steps.specs.declared.views.View.{View}
use Rattle.bump_steps.specs.Views.{owns, last_word}
use Rattle.bump_steps.specs.Lives.{on_class}
use Rattle.bump_steps.specs.Plays.{Tells, step_of}

-- the sheet after a load of a chunk's label, and of one of its further words
abbrev pub class_after_see_label : ℕ → ℕ → ClassSheet → ClassSheet
class_after_see_label chunk label class =
    record class { steps = class.steps ++ step_of kind.SeeLabel chunk label None ∷ [] }

abbrev pub class_after_see_word : ℕ → ℕ → ClassSheet → ClassSheet
class_after_see_word chunk word class =
    record class { steps = class.steps ++ step_of kind.SeeWord chunk word None ∷ [] }

-- the seat's class, where it has the chunk, stored this one last as its word i
abbrev pub IsStoredLast : ℕ → ℕ → View → ℕ → Type 0
IsStoredLast i chunk view word = (k : ClassSheet) → view.classes ≡ k ∷ [] → owns chunk k ≡ true
    → last_word i k chunk ≡ word

-- What the steps tell.
abbrev pub label_sight_tells : Tells
label_sight_tells chunk operand before word after =
    (after ≡ (on_class (class_after_see_label chunk word) before.0, before.1)) × IsStoredLast 0 chunk before.0 word

abbrev pub word_sight_tells : ℕ → Tells
word_sight_tells index chunk operand before word after =
    (after ≡ (on_class (class_after_see_word chunk word) before.0, before.1))
    × IsStoredLast (suc index) chunk before.0 word

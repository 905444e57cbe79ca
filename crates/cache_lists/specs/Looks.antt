-- What loads leave of a Book.
use Rattle.std.specs.Prelude.{◌≡◌, List}
use Rattle.bump_steps.specs.declared.views.OwnStep.{OwnStep}
use Rattle.bump_class.specs.Books.{BookView}

-- its class's seat has noted these steps
abbrev pub with_steps : List OwnStep → BookView → BookView
with_steps steps book = record book { sheet = record book.sheet { steps = steps } }

-- nothing changed but the steps that the class's seat notes
abbrev pub LooksOnly : BookView → BookView → Type 0
LooksOnly before after = after ≡ with_steps after.sheet.steps before

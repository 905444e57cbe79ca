-- The label of a life: the last one that was stored for its chunk before the life began.
use Rattle.std.specs.Prelude.{ℕ, ◌==◌, List, [], ◌∷◌, Option, None, Some, if◌then◌else◌}
use Rattle.bump_rules.specs.declared.items.ItemId.{ItemId}
use Rattle.bump_rules.specs.declared.labels.LabelStep.{LabelStep}
use Rattle.bump_rules.specs.declared.labels.LabelStep.TheVariants.{Stored, Linked}
use Rattle.bump_rules.specs.Lives.{is_same}

-- the life's label, if it began with these steps; before them its chunk's label word was this label
abbrev pub label_of_life : ItemId → ℕ → List LabelStep → Option ℕ
label_of_life item label [] = None
label_of_life item label (Stored chunk stored ∷ steps) =
    label_of_life item (if chunk == item.chunk then stored else label) steps
label_of_life item label (Linked life ∷ steps) =
    if is_same item life then Some label else label_of_life item label steps

-- the label word of a chunk after these steps; before them it was this label
abbrev pub label_word : ℕ → ℕ → List LabelStep → ℕ
label_word chunk label [] = label
label_word chunk label (Stored other stored ∷ steps) = label_word chunk (if other == chunk then stored else label) steps
label_word chunk label (Linked life ∷ steps) = label_word chunk label steps

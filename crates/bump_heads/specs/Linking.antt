-- Where a class has a chunk, and what the beginning of a life leaves of its sheet.
use Rattle.std.specs.Prelude.{ℕ}
use Rattle.bump_rules.specs.declared.items.ItemId.{ItemId}
use Rattle.bump_rules.specs.declared.places.Place.{Place}
use Rattle.bump_rules.specs.declared.places.Start.{Start}
use Rattle.bump_rules.specs.Heads.{linked_head}
use Rattle.bump_word.specs.Words.{word_of}
use Rattle.bump_steps.specs.declared.views.ClassSheet.{ClassSheet}
use Rattle.bump_steps.specs.Views.{standing}
use Rattle.bump_steps.specs.Lives.{class_after_see_generation, class_after_link}

-- the place at which the class's history leaves the chunk, and its generation there
abbrev pub place_of_chunk : ClassSheet → ℕ → Place
place_of_chunk class chunk = (standing class chunk).0

abbrev pub generation_of_chunk : ClassSheet → ℕ → ℕ
generation_of_chunk class chunk = (standing class chunk).1

-- after this life began: the generation of its chunk was looked up, and its head was stored as that of a new life
abbrev pub class_after_open_life : Start → ItemId → ClassSheet → ClassSheet
class_after_open_life start item class =
    class_after_link start item.chunk item.generation (word_of (linked_head start item.generation))
    (class_after_see_generation item.chunk (generation_of_chunk class item.chunk) class)

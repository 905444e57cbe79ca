-- Which life of a chunk is linked.
use Rattle.std.specs.Prelude.{ℕ, Option, Some, None, if◌then◌else◌}
use Rattle.bump_rules.specs.History.{Standing}
use Rattle.bump_rules.specs.Places.{is_segment_place}
use Rattle.bump_steps.specs.declared.views.ClassSheet.{ClassSheet}
use Rattle.bump_steps.specs.Views.{standing}

-- the generation of a life that stands so, if it is linked
abbrev pub linked_standing : Standing → Option ℕ
linked_standing at = if is_segment_place at.0 then Some at.1 else None

-- the generation of the item that is linked at the chunk, if there is one
abbrev pub linked_at : ClassSheet → ℕ → Option ℕ
linked_at class chunk = linked_standing (standing class chunk)

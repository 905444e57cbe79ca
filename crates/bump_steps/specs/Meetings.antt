-- A hold meets its class, and a lane meets a class.
use Rattle.std.specs.Prelude.{◌≡◌, ℕ, true, [], ◌∷◌, slice_index, ◌≤◌, ◌++◌, None}
use Rattle.bump_rules.specs.Lawful.{IsUsed}
use Rattle.bump_steps.specs.declared.views.ClassSheet.{ClassSheet}
use Rattle.bump_steps.specs.declared.views.HoldSheet.{HoldSheet}
use Rattle.bump_steps.specs.declared.views.Kind.TheVariants as kind
use Rattle.bump_steps.specs.declared.views.View.{View}
use Rattle.bump_steps.specs.Views.{owns, standing, last_label, last_word, Query, moves}
use Rattle.bump_steps.specs.Lives.{on_class}
use Rattle.atomic_table.specs.Table.{Step}
use Rattle.bump_steps.specs.declared.views.Empty.{Empty}
use Rattle.bump_steps.specs.Plays.{Sat, Tells, TellsOfMoves, step_of}

-- what a class and a hold of one of its chunks know, where x is the label word of the chunk
pub record Met (class : ClassSheet) (hold : HoldSheet) (word : ℕ) : Type 0 where
  -- it is what the class stored last for the chunk
  pub label : last_label class hold.life.chunk ≡ word
  -- and so is each word of the hold's row, of which it is the first
  pub row : (i : ℕ) → last_word i class hold.life.chunk ≡ slice_index hold.row i
  -- the chunk is not free, and in the hold's life
  pub used : IsUsed (standing class hold.life.chunk).0
  pub generation : (standing class hold.life.chunk).1 ≡ hold.life.generation

-- a class's seat to which a hold is joined finds this label word of chunk c
abbrev pub Meets : ℕ → View → ℕ → Type 0
Meets chunk view label = (k : ClassSheet) (h : HoldSheet) → view.classes ≡ k ∷ [] → view.holds ≡ h ∷ []
    → owns chunk k ≡ true → h.life.chunk ≡ chunk → Met k h label

abbrev pub load_to_meet_tells : Tells
load_to_meet_tells chunk operand before word after = (after ≡ before) × Meets chunk before.0 word

-- the class loaded a spare word, and nothing else
abbrev pub class_after_meet : ClassSheet → ClassSheet
class_after_meet class = record class { steps = class.steps ++ step_of kind.Meet 0 0 None ∷ [] }

-- such a load of a class's seat to which a lane is joined: what both have of moves for bumps agrees
abbrev pub load_to_meet_lane_tells : Step Empty → Sat → ℕ → Sat → Type 0
load_to_meet_lane_tells st before word after = (after ≡ (on_class class_after_meet before.0, before.1))
    × TellsOfMoves before.0

-- each move for a bump in the histories of the view is of a worker below this number
abbrev pub AreOfWorkers : ℕ → View → Type 0
AreOfWorkers workers view = (q : Query) → workers ≤ q.worker → moves q view ≡ 0

-- such a load, by which a class meets the workers of a store that has so many
abbrev pub load_to_meet_workers_tells : ℕ → Step Empty → Sat → ℕ → Sat → Type 0
load_to_meet_workers_tells workers st before word after = (after ≡ (on_class class_after_meet before.0, before.1))
    × AreOfWorkers workers before.0 × TellsOfMoves before.0

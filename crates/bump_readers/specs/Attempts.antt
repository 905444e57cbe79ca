-- Which of a worker's own steps attempt a bump.
use Rattle.std.specs.Prelude.{ℕ, Bool, true, false, ◌&&◌, ◌==◌, List}
use Rattle.bump_rules.specs.Totals.{how_many}
use Rattle.bump_rules.specs.declared.places.Segment.TheVariants.{Cold}
use Rattle.bump_word.specs.Words.{segment_number, segment_bits}
use Rattle.bump_steps.specs.declared.views.Kind.{Kind}
use Rattle.bump_steps.specs.declared.views.Kind.TheVariants as kind
use Rattle.bump_steps.specs.declared.views.OwnStep.{OwnStep}
use Rattle.bump_steps.specs.Views.{active_clear}

-- the step set ACTIVE
abbrev pub is_mark : Kind → Bool
is_mark kind.Mark = true
is_mark _ = false

-- the step set ACTIVE, and the word that it found has ACTIVE clear, and the segment bits of COLD: a bump is attempted,
-- as the head that the word spells has it
abbrev pub is_attempt : OwnStep → Bool
is_attempt step = is_mark step.kind && (active_clear step.word && (segment_bits step.word == segment_number Cold))

-- how many of these steps attempted a bump
abbrev pub attempts_in : List OwnStep → ℕ
attempts_in steps = how_many is_attempt steps

-- The steps of a class's seat that begin and end lives, and its looks at a chunk: what each leaves of the class's sheet.
use Rattle.std.specs.Prelude.{◌≡◌, ℕ, ◌+◌, ◌/◌, ◌%◌, ◌^◌, ◌≤◌, ◌==◌, [], ◌∷◌, ◌++◌, None, true, if◌then◌else◌}
use Rattle.bump_rules.specs.declared.places.Place.{Place}
use Rattle.bump_rules.specs.declared.places.Place.TheVariants.{Dying, Unused}
use Rattle.bump_rules.specs.declared.places.Segment.TheVariants as segment
use Rattle.bump_rules.specs.declared.places.Start.{Start}
use Rattle.bump_rules.specs.declared.places.Start.TheVariants as start
use Rattle.bump_rules.specs.declared.history.Change.TheVariants as change
use Rattle.bump_rules.specs.declared.labels.LabelStep.TheVariants.{Stored, Linked}
use Rattle.bump_rules.specs.History.{freed_change}
use Rattle.bump_rules.specs.Starts.{begun_change}
use Rattle.bump_rules.specs.Lawful.{bit}
use Rattle.bump_rules.specs.Lives.{life}
use Rattle.bump_rules.specs.Places.{is_segment_place}
use Rattle.bump_word.specs.Layout.{refs_width, generation_first}
use Rattle.bump_word.specs.Words.{segment_number, segment_bits}
use Rattle.bump_steps.specs.declared.views.WordStep.TheVariants.{Put, Begun}
use Rattle.bump_steps.specs.declared.views.Kind.TheVariants as kind
use Rattle.bump_steps.specs.declared.views.ClassSheet.{ClassSheet}
use Rattle.bump_steps.specs.declared.views.View.{View}
use Rattle.bump_steps.specs.Views.{owns, standing, last_words}
use Rattle.bump_steps.specs.Rule.{RowPredicate, blank}
use Rattle.bump_steps.specs.Plays.{Tells, Found, Told, on_first, step_of}

-- the view of a class's seat to which nothing is joined
abbrev pub alone : ClassSheet → View
alone class = record blank { classes = class ∷ [] }

-- the sheet after a look at a chunk
abbrev pub class_after_load : ℕ → ℕ → ClassSheet → ClassSheet
class_after_load chunk word class = record class { steps = class.steps ++ step_of kind.Load chunk word None ∷ [] }

-- after a load of its time
abbrev pub class_after_see_time : ℕ → ℕ → ClassSheet → ClassSheet
class_after_see_time chunk time class =
    record class { steps = class.steps ++ step_of kind.SeeTime chunk time None ∷ [] }

-- after a load of its head for the generation in it
abbrev pub class_after_see_generation : ℕ → ℕ → ClassSheet → ClassSheet
class_after_see_generation chunk generation class = record class {
  steps = class.steps ++ step_of kind.SeeGeneration chunk generation None ∷ [];
}

-- after the store of a label
abbrev pub class_after_put_label : ℕ → ℕ → ClassSheet → ClassSheet
class_after_put_label chunk label class = record class {
  labels = class.labels ++ Stored chunk label ∷ [];
  steps =
      class.steps ++ step_of kind.PutLabel chunk label None ∷ [];
}

-- after the store of further word j
abbrev pub class_after_put_word : ℕ → ℕ → ℕ → ClassSheet → ClassSheet
class_after_put_word chunk index word class = record class {
  words = class.words ++ Put chunk index word ∷ [];
  steps =
      class.steps ++ step_of kind.PutWord chunk word None ∷ [];
}

-- after the store of the head of a new life, which is this number
abbrev pub class_after_link : Start → ℕ → ℕ → ℕ → ClassSheet → ClassSheet
class_after_link start chunk generation word class =
    record class {
      history = class.history ++ begun_change start (life chunk generation) ∷ [];
      labels =
          class.labels ++ Linked (life chunk generation) ∷ [];
      words =
          class.words ++ Begun (life chunk generation) ∷ [];
      steps = class.steps ++ step_of kind.Link chunk word None
          ∷ [];
    }

-- after the life of the chunk was unlinked
abbrev pub class_after_unlink : ℕ → ℕ → ClassSheet → ClassSheet
class_after_unlink chunk word class =
    record class {
      history = class.history ++ change.Unlinked (life chunk (standing class chunk).1) ∷ [];
      steps =
          class.steps ++ step_of kind.Unlink chunk word None ∷ [];
    }

-- after the chunk was found without references: it is UNUSED, or RETIRED after its last generation
abbrev pub class_after_sweep : ℕ → ℕ → ClassSheet → ClassSheet
class_after_sweep chunk word class =
    record class {
      history = class.history ++ freed_change (life chunk (standing class chunk).1) ∷ [];
      steps =
          class.steps ++ step_of kind.Sweep chunk word None ∷ [];
    }

-- after a look at a DYING chunk, by the number of references found
abbrev pub class_after_sweep_or_load : ℕ → ℕ → ℕ → ClassSheet → ClassSheet
class_after_sweep_or_load chunk refs word class = if refs == 0 then class_after_sweep chunk word class else
    class_after_load chunk word class

-- the place is that of a segment
abbrev pub IsInSegment : Place → Type 0
IsInSegment place = is_segment_place place ≡ true

-- the view is that of a class's seat alone, which has the chunk at such a place
pub record StandsAt (places : Place → Type 0) (chunk : ℕ) (seat : View) (class : ClassSheet) : Type 0 where
  pub view : seat ≡ alone class
  pub own : owns chunk class ≡ true
  pub at : places (standing class chunk).0

-- where it is UNUSED, DYING, or linked
abbrev pub IsUnused : ℕ → View → Type 0
IsUnused chunk view = (k : ClassSheet) × StandsAt (λ p. p ≡ Unused) chunk view k

abbrev pub IsDying : ℕ → View → Type 0
IsDying chunk view = (k : ClassSheet) × StandsAt (λ p. p ≡ Dying) chunk view k

abbrev pub IsLinked : ℕ → View → Type 0
IsLinked chunk view = (k : ClassSheet) × StandsAt IsInSegment chunk view k

-- and this is the next generation of the chunk, for which the class stored words last of which the law holds
abbrev pub MayLink : RowPredicate → ℕ → ℕ → View → Type 0
MayLink law chunk generation view = (k : ClassSheet) × StandsAt (λ p. p ≡ Unused) chunk view k
    × (generation ≡ (standing k chunk).1 + 1) × law (last_words k chunk)

-- a step on the class's sheet
abbrev pub on_class : (ClassSheet → ClassSheet) → View → View
on_class step view = record view { classes = on_first step view.classes }

-- What the steps tell.

-- a load of a head for its generation
abbrev pub generation_load_tells : Tells
generation_load_tells chunk operand before word after =
    (after ≡ (on_class (class_after_see_generation chunk (word / 2 ^ generation_first)) before.0, before.1))
    × Found word (Told chunk before.0)

-- a load of a time
abbrev pub time_load_tells : Tells
time_load_tells chunk operand before word after = after ≡ (on_class (class_after_see_time chunk word) before.0, before.1)

-- a load of a head
abbrev pub load_tells : Tells
load_tells chunk operand before word after = (after ≡ (on_class (class_after_load chunk word) before.0, before.1))
    × Found word (Told chunk before.0)

-- the store of a label, and of a further word
abbrev pub put_label_tells : Tells
put_label_tells chunk operand before word after = after ≡ (
  on_class (class_after_put_label chunk word) before.0,
  before.1,
)

abbrev pub put_word_tells : ℕ → Tells
put_word_tells index chunk operand before word after = after ≡ (
  on_class (class_after_put_word chunk index word) before.0,
  before.1,
)

-- where a life begins, by the segment in its head word
abbrev pub start_in : ℕ → Start
start_in word = if segment_bits word == segment_number segment.Temp then start.Temp else start.Hot

-- the store of a new life's head: the life begins in the segment that is in it, and its generation is the one in it
abbrev pub link_tells : Tells
link_tells chunk operand before word after =
    after ≡ (
      on_class (class_after_link (start_in word) chunk (word / 2 ^ generation_first) word) before.0,
      before.1,
    )

-- an unlinking: a linked chunk has at least the reference of its link
abbrev pub unlink_tells : Tells
unlink_tells chunk operand before word after = (after ≡ (on_class (class_after_unlink chunk word) before.0, before.1))
    × Found word (λ h. Told chunk before.0 h × (bit h.linked ≤ h.refs))

-- a look at a DYING chunk
abbrev pub sweep_or_load_tells : Tells
sweep_or_load_tells chunk operand before word after =
    (after ≡ (on_class (class_after_sweep_or_load chunk (word % 2 ^ refs_width) word) before.0, before.1))
    × Found word (Told chunk before.0)

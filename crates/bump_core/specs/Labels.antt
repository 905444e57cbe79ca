-- That each chunk in use has its life's label, by what the events of a run do about labels.
use Rattle.std.specs.Prelude.{◌≡◌, ℕ, List, [], ◌∷◌, ◌++◌, Option, None, Some}
use Rattle.std.specs.Option.{option_map_or}
use Rattle.bump_rules.specs.declared.events.Event.{Event}
use Rattle.bump_rules.specs.declared.events.Event.TheVariants as event
use Rattle.model_state.specs.Events.{after, next_chunk, next_life}
use Rattle.bump_rules.specs.Lawful.{IsUsed}
use Rattle.bump_rules.specs.Lives.{life}
use Rattle.model_state.specs.State.{State, chunk_at, head_at}
use Rattle.model_state.specs.Worlds.{place}
use Rattle.bump_rules.specs.declared.labels.LabelStep.{LabelStep}
use Rattle.bump_rules.specs.declared.labels.LabelStep.TheVariants.{Stored, Linked}
use Rattle.bump_rules.specs.Labels.{label_of_life}

-- a link begins a life
abbrev pub begins_life : State → ℕ → List LabelStep
begins_life state class = option_map_or (λ chunk. Linked (next_life state chunk) ∷ []) (next_chunk state class) []

-- what an event does about labels
abbrev pub label_steps_of : State → Event → List LabelStep
label_steps_of state (event.PutLabel class label) =
    option_map_or (λ chunk. Stored chunk label ∷ []) (next_chunk state class) []
label_steps_of state (event.Link class) = begins_life state class
label_steps_of state (event.LinkTemp class) = begins_life state class
label_steps_of state _ = []

-- what the events of a run do about labels, in order
abbrev pub label_steps : State → List Event → List LabelStep
label_steps state [] = []
label_steps state (next ∷ rest) = label_steps_of state next ++ label_steps (after state next) rest

-- the chunk was in use in its life of this generation, with this label
pub record WasLabelled (state : State) (chunk lived labelled : ℕ) : Type 0 where
  pub generation : (head_at state chunk).generation ≡ lived
  pub used : IsUsed (place state chunk)
  pub label : (chunk_at state chunk).label ≡ labelled

-- the life that now stands at a chunk began with these steps, with this label; or it had it before
abbrev pub IsLabel : State → ℕ → ℕ → ℕ → Option ℕ → Type 0
IsLabel state chunk generation label (Some began_with) = label ≡ began_with
IsLabel state chunk generation label None = WasLabelled state chunk generation label

-- Each chunk in use has its life's label in its label word.
abbrev pub KeepsLabels : State → List Event → State → Type 0
KeepsLabels old events new =
    (chunk : ℕ) → IsUsed (place new chunk)
    → IsLabel old chunk (head_at new chunk).generation (chunk_at new chunk).label
    (label_of_life (life chunk (head_at new chunk).generation) (chunk_at old chunk).label (label_steps old events))

-- Runs of many steps.
use Rattle.std.specs.Prelude.{◌≡◌, ℕ, Bool, true, false, ◌||◌, List, [], ◌∷◌, take, slice_get, Option, None, Some}
use Rattle.std.specs.Prelude.{Result, Ok, Err, if◌then◌else◌}
use Rattle.bump_rules.specs.declared.events.Event.{Event}
use Rattle.bump_rules.specs.declared.events.Refused.{Refused}
use Rattle.bump_rules.specs.declared.events.Refused.TheVariants.{NotEnabled, OutOfMemory}
use Rattle.model_state.specs.State.{State}
use Rattle.model_state.specs.Events.{is_enabled, asks_for_memory, after}

-- the state after all events in order, where each is enabled in its turn
abbrev pub run_of : State → List Event → Option State
run_of state [] = Some state
run_of state (next ∷ rest) = if is_enabled state next then run_of (after state next) rest else None

-- one of the events asks for memory, each in the state that those before it left
abbrev pub one_asks : State → List Event → Bool
one_asks state [] = false
one_asks state (next ∷ rest) = asks_for_memory state next || one_asks (after state next) rest

-- the events that a run made: all, or those before the refused one
abbrev pub made : List Event → Result Unit (ℕ × Refused) → List Event
made events (Ok unit) = events
made events (Err (place, refused)) = take place events

-- the events that a step or a command made: all of its own, or none where it was refused
abbrev pub made_by : {A : Type 0} → List Event → Result A Refused → List Event
made_by events (Ok answer) = events
made_by events (Err refused) = []

-- What a run does: it makes the events in order up to the first that is refused, and tells its place. That event was
-- not enabled in the state that the events before it left; or it was and asks for memory, which was wanting.
abbrev pub Runs : State → List Event → State → Result Unit (ℕ × Refused) → Type 0
Runs old events new (Ok unit) = run_of old events ≡ Some new
Runs old events new (Err (place, NotEnabled)) =
    (run_of old (take place events) ≡ Some new) × (event : Event) × (slice_get events place ≡ Some event)
    × (is_enabled new event ≡ false)
Runs old events new (Err (place, OutOfMemory)) =
    (run_of old (take place events) ≡ Some new) × (event : Event) × (slice_get events place ≡ Some event)
    × (is_enabled new event ≡ true) × (asks_for_memory new event ≡ true)

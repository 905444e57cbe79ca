-- Where a trace ends that is run on a store: at the first line with a fault, or at its own end. Nothing is taken from
-- what the store answers but which names are bound: all else of it is as of a store in which nothing was done.
use Rattle.std.specs.Prelude.{◌≡◌, ◌⊎◌, ℕ, ◌+◌, Bool, true, false, List, [], ◌∷◌, Option, Some, None, Ok}
use Rattle.bump_rules.specs.declared.items.ItemId.{ItemId}
use Rattle.bump_trace.specs.Meaning.{fault_in, fault_at_end, parts_of, step}
use Rattle.bump_trace.specs.Names.{bind, unbind}
use Rattle.bump_trace.specs.Stages.{Stage, Before, Open, StoreState, declared, opened, say}
use Rattle.trace_lines.specs.Lines.{Line, Declares, Makes, line_said, Instruction}
use Rattle.trace_lines.specs.Lines.{Set, Get, Hold, Hit, Read, Drop, Del, Pull, Sweep, Drain, Close, Show, Moves, Par}
use Rattle.trace_lines.specs.declared.faults.Fault.{Fault}
use Rattle.trace_lines.specs.declared.faults.LineError.{LineError}
use Rattle.trace_lines.specs.declared.faults.LineError.TheVariants as errors

-- What a line leaves of names. Whether an item was linked, and whether a hold was taken, is the store's answer.
abbrev pub Leaves : Instruction → StoreState → StoreState → Type 0
Leaves (Set start name class label) old new =
    (new ≡ old) ⊎ ((id : ItemId) × (new ≡ record old { names = bind name id old.names }))
Leaves (Get worker name) old new = new ≡ old
Leaves (Hold worker name hold) old new =
    (new ≡ old) ⊎ ((id : ItemId) × (new ≡ record old { holds = bind hold id old.holds }))
Leaves (Hit worker hold) old new = new ≡ old
Leaves (Read hold) old new = new ≡ old
Leaves (Drop hold) old new = new ≡ record old { holds = unbind hold old.holds }
Leaves (Del name) old new = new ≡ old
Leaves (Pull class tail) old new = new ≡ old
Leaves (Sweep class) old new = new ≡ old
Leaves Drain old new = new ≡ old
Leaves (Close worker) old new = new ≡ old
Leaves Show old new = new ≡ old
Leaves Moves old new = new ≡ old
Leaves Par old new = new ≡ record old { is_past_par = true }

-- The stage behind a line that says this. A skipped line changes nothing.
abbrev pub Follows : Stage → Option Line → Stage → Type 0
Follows stage None next = next ≡ stage
Follows stage (Some (Declares declaration)) next = declared stage declaration ≡ Ok (say next [])
Follows stage (Some (Makes instruction)) next =
    (old : StoreState) × (new : StoreState) × (opened stage ≡ Ok old) × Leaves instruction old new × (next ≡ Open new)

-- A line without a fault, and the stage behind it.
pub record Passes (stage : Stage) (number : ℕ) (line : List ℕ) (next : Stage) : Type 0 where
  pub fault : fault_in (step stage number line) ≡ None
  pub said : Option Line
  pub reads : line_said line ≡ Ok said
  pub follows : Follows stage said next

-- how a trace ends: whole, with an open store, or at a line that has a fault
pub data Ending : Type 0 where
  Whole : StoreState → Ending
  Stopped : ℕ → Fault → Ending

-- It ends at this line, by its fault.
abbrev pub StopsHere : ℕ → List ℕ → Stage → Ending → Type 0
StopsHere number line stage (Whole store) = ⊥
StopsHere number line stage (Stopped at what) = (at ≡ number) × (fault_in (step stage number line) ≡ Some what)

-- It ends at the end of its input, by what is wrong there, if anything is.
abbrev pub EndsHere : ℕ → List ℕ → Stage → Ending → Type 0
EndsHere number rest stage (Whole store) = (fault_at_end stage rest ≡ None) × (opened stage ≡ Ok store)
EndsHere number rest stage (Stopped at what) = (at ≡ number) × (fault_at_end stage rest ≡ Some what)

-- Where lines end, from number n on, of which the last one has no line feed behind it.
abbrev pub EndsAt : ℕ → List (List ℕ) → Stage → Ending → Type 0
EndsAt number [] stage end = EndsHere number [] stage end
EndsAt number (rest ∷ []) stage end = EndsHere number rest stage end
EndsAt number (line ∷ next ∷ others) stage end =
    StopsHere number line stage end
    ⊎ ((after : Stage) × Passes stage number line after × EndsAt (number + 1) (next ∷ others) after end)

-- where an input ends, whose lines are numbered from 1 on
abbrev pub TraceEnds : List ℕ → Ending → Type 0
TraceEnds input end = EndsAt 1 (parts_of input) Before end

-- Whatever lines come to from a later line on, they come to from the first one on.
abbrev pub Goes : ℕ → List (List ℕ) → Stage → ℕ → List (List ℕ) → Stage → Type 0
Goes number lines stage later rest reached =
    (end : Ending) → EndsAt later rest reached end → EndsAt number lines stage end

-- Lines end at one of them, as it was told that it wasn't run. For want of memory nothing is known.
abbrev pub StopsAs : ℕ → List (List ℕ) → Stage → ℕ → LineError → Type 0
StopsAs number lines stage at errors.Memory = Unit {0}
StopsAs number lines stage at (errors.Fault what) = EndsAt number lines stage (Stopped at what)

-- A line has the fault that was told. For want of memory nothing is known.
abbrev pub HasFault : Stage → ℕ → List ℕ → LineError → Type 0
HasFault stage number line errors.Memory = Unit {0}
HasFault stage number line (errors.Fault what) = fault_in (step stage number line) ≡ Some what

-- A line before the first command: it is that command, or it says something else, or nothing.
abbrev pub DeclaresLine : Bool → Stage → List ℕ → Stage → Type 0
DeclaresLine true old line new =
    (new ≡ old) × (instruction : Instruction) × (line_said line ≡ Ok (Some (Makes instruction)))
DeclaresLine false old line new = (number : ℕ) → Passes old number line new

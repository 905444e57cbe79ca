-- What the trace of a log's run has in its text: the lines of each access, in turn, and those of each tend.
use Rattle.std.specs.Prelude.{ℕ, ◌+◌, ◌%◌, ◌≡◌, ◌≤◌, ◌<◌, ◌⊎◌, max, ⊤, Bool, true, false, List, [], ◌∷◌, ◌++◌, All}
use Rattle.std.specs.Prelude.{length, take, codes, decimal}
use Rattle.std.specs.List.{flat_map}
use Rattle.bump_rules.specs.declared.places.Tail.{Tail}
use Rattle.bump_rules.specs.declared.places.Tail.TheVariants.{Hot, Warm, Cold, Evict}
use Rattle.bump_rules.specs.Caches.{cache_refs}
use Rattle.bump_trace.specs.Runs.{most_bytes}
use Rattle.cache_lists.specs.Rescues.{most_rescues}
use Rattle.cache_shelf.specs.Limits.{put_bumps}
use Rattle.replay_runs.specs.declared.faults.ReplayFault.{ReplayFault}
use Rattle.replay_runs.specs.declared.faults.ReplayFault.TheVariants as fault
use Rattle.replay_runs.specs.declared.plans.Plan.{Plan}
use Rattle.replay_runs.specs.Tends.{is_tended}

-- a line with its end
abbrev pub with_end : List ℕ → List ℕ
with_end line = line ++ 10 ∷ []

-- lines, each with its end
abbrev pub text_of : List (List ℕ) → List ℕ
text_of lines = flat_map with_end lines

-- the line of a get by a worker: a key's item has the name k and the key's number
abbrev pub get_instruction : ℕ → ℕ → List ℕ
get_instruction worker key = codes "get " ++ decimal worker ++ codes " k" ++ decimal key

-- the line that puts an item for a key, whose label is 0
abbrev pub set_instruction : ℕ → List ℕ
set_instruction key = codes "set k" ++ decimal key ++ codes " 0 0"

-- the line that pulls the last item of a list
abbrev pub pull_instruction : Tail → List ℕ
pull_instruction Hot = codes "pull 0 hot"
pull_instruction Warm = codes "pull 0 warm"
pull_instruction Cold = codes "pull 0 cold"
pull_instruction Evict = codes "pull 0 evict"

-- the line that ends a key's item
abbrev pub del_instruction : ℕ → List ℕ
del_instruction key = codes "del k" ++ decimal key

-- the line by which the bumps that wait are applied
abbrev pub drain_instruction : List ℕ
drain_instruction = codes "drain"

-- the line by which the chunks of ended items come free
abbrev pub sweep_instruction : List ℕ
sweep_instruction = codes "sweep 0"

-- a line that pulls the last item of this list
abbrev pub IsPull : Tail → List ℕ → Type 0
IsPull tail line = line ≡ pull_instruction tail

-- a line that balances the lists: it pulls the last item of HOT or that of WARM
abbrev pub IsBalance : List ℕ → Type 0
IsBalance line = IsPull Hot line ⊎ IsPull Warm line

-- Behind a text some lines of a kind were written, at most so many.
pub record Adds (Kind : List ℕ → Type 0) (most : ℕ) (old new : List ℕ) : Type 0 where
  pub lines : List (List ℕ)
  pub text : new ≡ old ++ text_of lines
  pub kind : All Kind lines
  pub few : length lines ≤ most

-- behind a text a line may have been written
abbrev pub AddsOrNot : List ℕ → List ℕ → List ℕ → Type 0
AddsOrNot line old new = (new ≡ old) ⊎ (new ≡ old ++ with_end line)

-- behind a text the last item of a list was pulled, and a key's item ended
abbrev pub AddsEnd : Tail → List ℕ → List ℕ → Type 0
AddsEnd tail old new = (key : ℕ) × (new ≡ (old ++ with_end (pull_instruction tail)) ++ with_end (del_instruction key))

-- behind a text HOT's last item is pulled, and perhaps an item ends then: whichever it is, and whether there was one, isn't said
abbrev pub EndsInHot : List ℕ → List ℕ → Type 0
EndsInHot old new = (new ≡ old ++ with_end (pull_instruction Hot)) ⊎ AddsEnd Hot old new

-- behind a text WARM's last item is pulled and an item ends, or the same of HOT follows that pull: on what it depends isn't said
abbrev pub EndsInWarm : List ℕ → List ℕ → Type 0
EndsInWarm old new = AddsEnd Warm old new ⊎ EndsInHot (old ++ with_end (pull_instruction Warm)) new

-- behind a text COLD's last item is evicted, and that is all, or WARM and HOT follow so: on what it depends isn't said
abbrev pub EndsInCold : List ℕ → List ℕ → Type 0
EndsInCold old new = let between = old ++ with_end (pull_instruction Evict) in (new ≡ between) ⊎ EndsInWarm between new

-- Behind a text the lines of an evict were written: at most so many pulls of COLD, which rescue, and then those of its end.
abbrev pub AddsEvict : List ℕ → List ℕ → Type 0
AddsEvict old new = (between : List ℕ) × Adds (IsPull Cold) most_rescues old between × EndsInCold between new

-- behind a text those of an evict were written, or none
abbrev pub AddsEvictOrNot : List ℕ → List ℕ → Type 0
AddsEvictOrNot old new = (new ≡ old) ⊎ AddsEvict old new

-- behind a text bumps were applied, and then chunks came free; or neither
abbrev pub AddsFreeOrNot : List ℕ → List ℕ → Type 0
AddsFreeOrNot old new = (new ≡ old) ⊎ (new ≡ (old ++ with_end drain_instruction) ++ with_end sweep_instruction)

-- Behind a text the lines that make room for an item were written: bumps may be applied, then an item may be evicted, and
-- then chunks may come free, behind bumps.
abbrev pub AddsRoom : List ℕ → List ℕ → Type 0
AddsRoom old new = (drained evicted : List ℕ) × AddsOrNot drain_instruction old drained × AddsEvictOrNot drained evicted
    × AddsFreeOrNot evicted new

-- at most so many lines balance the lists behind a put
abbrev pub most_behind : ℕ
most_behind = 16

-- behind a text room was made and an item put for the key, and then the lists may be balanced
abbrev pub AddsPut : ℕ → List ℕ → List ℕ → Type 0
AddsPut key old new = (before : List ℕ) × AddsRoom old before
    × Adds IsBalance most_behind (before ++ with_end (set_instruction key)) new

-- Behind a text the lines of an access were written: a get of its key by this worker, or one put of an item for the key.
abbrev pub AddsAccess : ℕ → ℕ → List ℕ → List ℕ → Type 0
AddsAccess worker key old new = (new ≡ old ++ with_end (get_instruction worker key)) ⊎ AddsPut key old new

-- the first lines of a tend: the bumps that wait are applied, and the chunks of ended items come free
abbrev pub tend_instructions : List ℕ
tend_instructions = with_end drain_instruction ++ with_end sweep_instruction

-- at most so many lines balance the lists in a tend
abbrev pub most_tending : ℕ
most_tending = 200

-- behind a text the lines of a tend were written, if the cache is tended, and else none
abbrev pub AddsTend : Bool → List ℕ → List ℕ → Type 0
AddsTend true old new = Adds IsBalance most_tending (old ++ tend_instructions) new
AddsTend false old new = new ≡ old

-- behind a text the lines of an access were written, and then those of a tend, if the cache is tended
abbrev pub AddsAccessAndTend : ℕ → ℕ → Bool → List ℕ → List ℕ → Type 0
AddsAccessAndTend worker key is_tended old new = (between : List ℕ) × AddsAccess worker key old between
    × AddsTend is_tended between new

-- Behind a text the lines of these accesses were written, in order, the first of which has this place in the plan's run.
-- The workers take turns, and the cache is tended behind those at whose times it is due.
abbrev pub AddsRun : Plan → List ℕ → ℕ → List ℕ → List ℕ → List ℕ → Type 0
AddsRun plan times place [] old new = new ≡ old
AddsRun plan times place (key ∷ keys) old new = (between : List ℕ)
    × AddsAccessAndTend (place % max plan.config.readers 1) key (is_tended plan.tending times place) old between
    × AddsRun plan times (place + 1) keys between new

-- the first lines of a plan's trace: what the store is
abbrev pub header : Plan → List ℕ
header plan =
    codes "store " ++ decimal plan.config.readers ++ codes " " ++ decimal plan.config.ring ++ codes " " ++ decimal cache_refs
    ++ codes " 1\nclass " ++ decimal (plan.config.items + plan.config.spare) ++ codes " 0 0\n"

-- a text that tells what the store of a plan is, and then the first so many accesses, which have these times
abbrev pub TellsFirst : Plan → ℕ → List ℕ → List ℕ → List ℕ → Type 0
TellsFirst plan count accesses times text = AddsRun plan times 0 (take count accesses) (header plan) text

-- the text of a whole run: what the store is, all accesses, and at last all that the store has
abbrev pub IsTraceOf : Plan → List ℕ → List ℕ → List ℕ → Type 0
IsTraceOf plan accesses times text = (run : List ℕ) × TellsFirst plan (length accesses) accesses times run
    × (text ≡ run ++ with_end (codes "show"))

-- some of the first accesses have more lines than a trace may have, with what stands around them
abbrev pub HasTooLong : Plan → List ℕ → List ℕ → Type 0
HasTooLong plan accesses times = (count : ℕ) × (run : List ℕ) × TellsFirst plan count accesses times run
    × (most_bytes < length (run ++ with_end (codes "show")))

-- a fault of the calls that are made: memory was refused, or the World refused a call
abbrev pub IsOfCalls : ReplayFault → Type 0
IsOfCalls (fault.Config own) = ⊥
IsOfCalls fault.Parts = ⊥
IsOfCalls fault.Long = ⊥
IsOfCalls fault.Bumps = ⊥
IsOfCalls fault.Memory = ⊤
IsOfCalls fault.Refused = ⊤
IsOfCalls (fault.Run own) = ⊥

-- A fault of a put: one of its calls, or a reader's ring had more bumps than a put applies.
abbrev pub IsOfPut : Plan → ReplayFault → Type 0
IsOfPut plan (fault.Config own) = ⊥
IsOfPut plan fault.Parts = ⊥
IsOfPut plan fault.Long = ⊥
IsOfPut plan fault.Bumps = put_bumps < plan.config.ring
IsOfPut plan fault.Memory = ⊤
IsOfPut plan fault.Refused = ⊤
IsOfPut plan (fault.Run own) = ⊥
